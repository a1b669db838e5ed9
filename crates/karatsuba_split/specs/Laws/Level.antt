-- One level of the product by halves: what the sums, the three half products and the join leave.
use Rattle.std.specs.Prelude.{◌≡◌, ℕ, zero, suc, ◌+◌, ◌-◌, ◌*◌, ◌%◌, ◌^◌, ◌<◌, ◌≤◌, List, ℤ, ◌+ℤ◌, ◌-ℤ◌, slice_index, refl}
use Rattle.std.proofs.Common.{inl, inr, sym, ◌∙◌, ap, ap₂, arith}
use Rattle.std.proofs.Math.Decide.{dec_lt}
use Rattle.std.proofs.Math.Nat.{two-pow-succ}
use Rattle.algebra.specs.Integers.{Same}
use Rattle.algebra.specs.Halves.{plus, low, high, joined, split, Degree}
use Rattle.algebra.proofs.Laws.Residues.{same_eq, same_trans, same_add, same_neg, same_plus}
use Rattle.algebra.proofs.Laws.Halves.{low_past, split_more, split_past, split_same, quarter0, quarter1, quarter2, quarter3}
use Rattle.karatsuba_base.specs.Layout.{reads, offset, operand, Blank, Apart}
use Rattle.karatsuba_base.specs.Ensures.{Put}
use Rattle.karatsuba_split.specs.Ensures.{Joined, Halved}
use Rattle.karatsuba_base.specs.Laws.Places.{operand_at, operand_past, operand_in, operand_same, operand_low, operand_high, product_at, product_in}

-- the law of the halves, with c chunks for 2^j
split_level :
    (c j : ℕ) → c ≡ 2 ^ j → (f g : ℕ → ℤ) (k : ℕ) →
    split 16 (suc j) f g k
    ≡ joined (16 * c) (split 16 j (low (16 * c) f) (low (16 * c) g))
    (split 16 j (plus (low (16 * c) f) (high (16 * c) f)) (plus (low (16 * c) g) (high (16 * c) g))) (split 16 j (high (16 * c) f) (high (16 * c) g)) k
split_level c j e f g k = rw e (ap (λ (u : ℕ → ℤ). u k) (split_more 16 j f g))

half_past :
    (c j : ℕ) → c ≡ 2 ^ j → (f g : ℕ → ℤ) → Degree (16 * c) f → Degree (16 * c) g → Degree (16 * c + 16 * c) (split 16 j f g)
half_past c j e f g zf zg k h = split_past 16 j f g (λ i l. zf i (omega arith)) (λ i l. zg i (omega arith)) k (omega arith)

-- the operands of a half take m places, a half of its product q; from `rest` on all is free
pub record Fields (m q a out free rest : ℕ) : Type 0 where
  pub apart : Apart a (m + m) out (q + q + q + q)
  pub operands : a + m + m ≤ free
  pub product : out + q + q + q + q ≤ free
  pub sums : free + m ≤ rest
  pub lower : free + q + q ≤ rest

module _ (rows c q m a out free rest : ℕ) (eq : q ≡ 16 * (rows * c)) (em : m ≡ 24 * (rows * c + c)) (r : Fields m q a out free rest)
    {w0 w1 : List ℕ} (z : Blank (m + m) w0 a) (s1 : Put free m (λ (k : ℕ). (slice_index w0 (a + k) + slice_index w0 (a + m + k)) % 65536) w0 w1) where
  pub blank_high : Blank m w1 (a + m)
  blank_high p hp hz =
      let e : a + m + p ≡ a + (m + p) = omega arith in
      s1.below (a + m + p) (omega (arith, r.operands)) ∙ rw e (z (m + p) (omega arith) (omega arith))

  -- the sums of the halves, as operands
  sums_at :
      (i : ℕ) → i ≤ rows → (k : ℕ) → Dec (k < 16 * c) →
      Same 65536 (operand rows c w1 free i k) (operand rows c w0 a i k +ℤ operand rows c w0 (a + m) i k)
  sums_at i hi k (yes h) =
      rw (operand_at rows c w1 free i k h, operand_at rows c w0 a i k h, operand_at rows c w0 (a + m) i k h, to free, to a, to (a + m))
      (same_plus _ _ (s1.value (24 * i + 8 + offset (24 * (rows + 1)) k) (omega (arith, operand_in rows c i k hi h))))
    where
      to : (b : ℕ) → b + 24 * i + 8 + offset (24 * (rows + 1)) k ≡ b + (24 * i + 8 + offset (24 * (rows + 1)) k)
      to b = omega arith
  sums_at i hi k (no h) =
      let l : 16 * c ≤ k = omega arith in
      rw (operand_past rows c w1 free i k l, operand_past rows c w0 a i k l, operand_past rows c w0 (a + m) i k l) (same_eq refl)

  module _ {w2 : List ℕ} (s2 : Halved rows c (a + m) (out + q + q) rest w1 w2) where
    sums_kept : (p : ℕ) → p < m → slice_index w2 (free + p) ≡ slice_index w1 (free + p)
    sums_kept p hp = s2.above (free + p) (omega (arith, r)) (omega (arith, r))

    pub blank_mid : Blank m w2 free
    blank_mid p hp hz =
        let e : a + m + p ≡ a + (m + p) = omega arith in
        sums_kept p hp ∙ s1.value p hp ∙ rw (z p (omega arith) hz, e, z (m + p) (omega arith) (omega arith)) refl

    module _ {w3 : List ℕ} (s3 : Halved rows c free out rest w2 w3) where
      low_kept : Apart a (m + m) out (q + q + q + q) → (p : ℕ) → p < m → slice_index w3 (a + p) ≡ slice_index w0 (a + p)
      low_kept (inl l) p hp =
          s3.below (a + p) (omega arith) ∙ s2.below (a + p) (omega arith) ∙ s1.below (a + p) (omega (arith, r.operands))
      low_kept (inr l) p hp =
          s3.above (a + p) (omega arith) (omega (arith, r)) ∙ s2.above (a + p) (omega arith) (omega (arith, r))
          ∙ s1.below (a + p) (omega (arith, r.operands))

      pub blank_low : Blank m w3 a
      blank_low p hp hz = low_kept r.apart p hp ∙ z p (omega arith) hz

      module _ {w4 w5 : List ℕ} (s4 : Halved rows c a free rest w3 w4) (s5 : Joined out free q q w4 w5) where
        module _ (j : ℕ) (ec : c ≡ 2 ^ j) (i : ℕ) (hi : i < rows) where
          f : ℕ → ℤ
          f = operand rows (c + c) w0 a rows

          g : ℕ → ℤ
          g = operand rows (c + c) w0 a i

          L : ℕ → ℤ
          L = split 16 j (low (16 * c) f) (low (16 * c) g)

          M : ℕ → ℤ
          M = split 16 j (plus (low (16 * c) f) (high (16 * c) f)) (plus (low (16 * c) g) (high (16 * c) g))

          H : ℕ → ℤ
          H = split 16 j (high (16 * c) f) (high (16 * c) g)

          -- the operands of the three half products
          low_is : (n : ℕ) → n ≤ rows → (k : ℕ) → operand rows c w3 a n k ≡ low (16 * c) (operand rows (c + c) w0 a n) k
          low_is n hn k =
              operand_same rows c w0 w3 a a n hn (λ p hp. low_kept r.apart p (omega arith)) k ∙ sym (operand_low rows c w0 a n k)

          high_is : (n : ℕ) → n ≤ rows → (k : ℕ) → operand rows c w0 (a + m) n k ≡ high (16 * c) (operand rows (c + c) w0 a n) k
          high_is n hn k = rw em (sym (operand_high rows c w0 a n k))

          high_kept : (n : ℕ) → n ≤ rows → (k : ℕ) → operand rows c w1 (a + m) n k ≡ operand rows c w0 (a + m) n k
          high_kept n hn k = operand_same rows c w0 w1 (a + m) (a + m) n hn (λ p hp. s1.below (a + m + p) (omega (arith, r.operands))) k

          mid_is :
              (n : ℕ) → n ≤ rows → (k : ℕ) →
              Same 65536 (operand rows c w2 free n k) (plus (low (16 * c) (operand rows (c + c) w0 a n)) (high (16 * c) (operand rows (c + c) w0 a n)) k)
          mid_is n hn k =
              same_trans (same_eq (operand_same rows c w1 w2 free free n hn (λ p hp. sums_kept p (omega arith)) k))
              (same_trans (sums_at n hn k (dec_lt k (16 * c))) (same_eq (ap₂ ◌+ℤ◌ (sym (operand_low rows c w0 a n k)) (high_is n hn k))))

          -- the half products as the join finds them
          low_at : (k : ℕ) → k < 16 * (2 * c) → Same 65536 (reads w4 (free + 16 * i + offset (16 * rows) k)) (L k)
          unfolding L f g
          low_at k hk =
              same_trans (s4.value j ec i k hi hk)
              (split_same 16 j _ _ _ _ (λ n. same_eq (low_is rows (omega arith) n)) (λ n. same_eq (low_is i (omega arith) n)) k)

          within : (k : ℕ) → k < 16 * (2 * c) → 16 * i + offset (16 * rows) k < q + q
          within k hk = omega (arith, product_in rows (2 * c) i k hi hk)

          mid_at : (k : ℕ) → k < 16 * (2 * c) → Same 65536 (reads w4 (out + 16 * i + offset (16 * rows) k)) (M k)
          unfolding M f g
          mid_at k hk =
              rw (s4.below (out + 16 * i + offset (16 * rows) k) (omega (arith, r.product, within k hk)))
              (same_trans (s3.value j ec i k hi hk) (split_same 16 j _ _ _ _ (mid_is rows (omega arith)) (mid_is i (omega arith)) k))

          high_at : (k : ℕ) → k < 16 * (2 * c) → Same 65536 (reads w4 (out + q + q + 16 * i + offset (16 * rows) k)) (H k)
          unfolding H f g
          high_at k hk =
              let p = out + q + q + 16 * i + offset (16 * rows) k in
              rw (
                s4.below (out + q + q + 16 * i + offset (16 * rows) k) (omega (arith, r.product, within k hk)),
                s3.above (out + q + q + 16 * i + offset (16 * rows) k) (omega arith) (omega (arith, r, within k hk)),
              )
              (same_trans (s2.value j ec i k hi hk)
              (split_same 16 j _ _ _ _ (λ n. same_eq (high_kept rows (omega arith) n ∙ high_is rows (omega arith) n))
              (λ n. same_eq (high_kept i (omega arith) n ∙ high_is i (omega arith) n)) k))

          -- the same by halves: coefficient k below 16 c, and 16 c on
          first : (b : ℕ) (k : ℕ) → b + 16 * i + offset (16 * rows) k ≡ b + (16 * i + offset (16 * rows) k)
          first b k = omega arith

          next : (b : ℕ) (k : ℕ) → b + 16 * i + offset (16 * rows) (16 * c + k) ≡ b + q + (16 * i + offset (16 * rows) k)
          next b k = product_at rows c b i k ∙ omega arith

          -- and nothing stands above their degrees
          top : (n : ℕ) → Degree (16 * c) (high (16 * c) (operand rows (c + c) w0 a n))
          top n k l = operand_past rows (c + c) w0 a n (16 * c + k) (omega arith)

          both : (n : ℕ) → Degree (16 * c) (plus (low (16 * c) (operand rows (c + c) w0 a n)) (high (16 * c) (operand rows (c + c) w0 a n)))
          both n k l = ap₂ ◌+ℤ◌ (low_past (16 * c) (operand rows (c + c) w0 a n) k l) (top n k l)

          L_past : Degree (16 * c + 16 * c) L
          unfolding L f g
          L_past = half_past c j ec _ _ (low_past (16 * c) f) (low_past (16 * c) g)

          M_past : Degree (16 * c + 16 * c) M
          unfolding M f g
          M_past = half_past c j ec _ _ (both rows) (both i)

          H_past : Degree (16 * c + 16 * c) H
          unfolding H f g
          H_past = half_past c j ec _ _ (top rows) (top i)

          module _ (k : ℕ) (hk : k < 16 * c) where
            low0 : Same 65536 (reads w4 (free + (16 * i + offset (16 * rows) k))) (L k)
            low0 = rw (first free k) at (low_at k (omega arith))

            low1 : Same 65536 (reads w4 (free + q + (16 * i + offset (16 * rows) k))) (L (16 * c + k))
            low1 = rw (next free k) at (low_at (16 * c + k) (omega arith))

            mid0 : Same 65536 (reads w4 (out + (16 * i + offset (16 * rows) k))) (M k)
            mid0 = rw (first out k) at (mid_at k (omega arith))

            mid1 : Same 65536 (reads w4 (out + q + (16 * i + offset (16 * rows) k))) (M (16 * c + k))
            mid1 = rw (next out k) at (mid_at (16 * c + k) (omega arith))

            high0 : Same 65536 (reads w4 (out + q + q + (16 * i + offset (16 * rows) k))) (H k)
            high0 = rw (first (out + q + q) k) at (high_at k (omega arith))

            high1 : Same 65536 (reads w4 (out + q + q + q + (16 * i + offset (16 * rows) k))) (H (16 * c + k))
            high1 = rw (next (out + q + q) k) at (high_at (16 * c + k) (omega arith))

            inside : 16 * i + offset (16 * rows) k < q
            inside = omega (arith, product_in rows c i k hi hk)

            less : {u v x u' v' x' : ℤ} → Same 65536 u u' → Same 65536 v v' → Same 65536 x x' → Same 65536 (u -ℤ v -ℤ x) (u' -ℤ v' -ℤ x')
            less p n o = same_add (same_add p (same_neg n)) (same_neg o)

            -- the four quarters
            quarter_first : Same 65536 (reads w5 (out + (16 * i + offset (16 * rows) k))) (joined (16 * c) L M H k)
            quarter_first = rw (s5.one (16 * i + offset (16 * rows) k) inside, quarter0 (16 * c) L M H k hk) low0

            quarter_second : Same 65536 (reads w5 (out + q + (16 * i + offset (16 * rows) k))) (joined (16 * c) L M H (16 * c + k))
            quarter_second =
                rw (quarter1 (16 * c) L M H k hk)
                (same_trans (s5.two (16 * i + offset (16 * rows) k) inside) (same_add low1 (less mid0 low0 high0)))

            quarter_third : Same 65536 (reads w5 (out + q + q + (16 * i + offset (16 * rows) k))) (joined (16 * c) L M H (16 * c + 16 * c + k))
            quarter_third =
                rw (quarter2 (16 * c) L M H L_past k)
                (same_trans (s5.three (16 * i + offset (16 * rows) k) inside) (same_add high0 (less mid1 low1 high1)))

            quarter_last :
                Same 65536 (reads w5 (out + q + q + q + (16 * i + offset (16 * rows) k))) (joined (16 * c) L M H (16 * c + 16 * c + 16 * c + k))
            quarter_last =
                rw (s5.above (out + q + q + q + (16 * i + offset (16 * rows) k)) (omega arith), quarter3 (16 * c) L M H L_past M_past H_past k) high1

          joined_at :
              (k : ℕ) → k < 16 * (2 * (c + c)) → Dec (k < 16 * c) → Dec (k < 16 * c + 16 * c) → Dec (k < 16 * c + 16 * c + 16 * c) →
              Same 65536 (reads w5 (out + 16 * i + offset (16 * rows) k)) (joined (16 * c) L M H k)
          joined_at k hk (yes l) d e = rw (first out k) (quarter_first k l)
          joined_at k hk (no l) (yes d) e =
              let n = k - 16 * c in
              let b : k ≡ 16 * c + n = omega arith in
              rw (b, next out n) (quarter_second n (omega arith))
          joined_at k hk (no l) (no d) (yes e) =
              let n = k - (16 * c + 16 * c) in
              let b : k ≡ 16 * c + 16 * c + n = omega arith in
              let x : out + 16 * i + offset (16 * rows) (16 * c + 16 * c + n) ≡ out + q + q + (16 * i + offset (16 * rows) n) =
              (let y : 16 * (c + c) + n ≡ 16 * c + 16 * c + n = omega arith in omega (arith, product_at rows (c + c) out i n, ap (offset (16 * rows)) y)) in
              rw (b, x) (quarter_third n (omega arith))
          joined_at k hk (no l) (no d) (no e) =
              let n = k - (16 * c + 16 * c + 16 * c) in
              let b : k ≡ 16 * c + 16 * c + 16 * c + n = omega arith in
              let x : out + 16 * i + offset (16 * rows) (16 * c + 16 * c + 16 * c + n) ≡ out + q + q + q + (16 * i + offset (16 * rows) n) =
              (let y : 16 * (c + c + c) + n ≡ 16 * c + 16 * c + 16 * c + n = omega arith in omega (arith, product_at rows (c + c + c) out i n, ap (offset (16 * rows)) y)) in
              rw (b, x) (quarter_last n (omega arith))

          level_value :
              (k : ℕ) → k < 16 * (2 * (c + c)) →
              Same 65536 (reads w5 (out + 16 * i + offset (16 * rows) k))
              (split 16 (suc j) (operand rows (c + c) w0 a rows) (operand rows (c + c) w0 a i) k)
          unfolding L M H f g
          level_value k hk =
              rw (split_level c j ec (operand rows (c + c) w0 a rows) (operand rows (c + c) w0 a i) k)
              (joined_at k hk (dec_lt k (16 * c)) (dec_lt k (16 * c + 16 * c)) (dec_lt k (16 * c + 16 * c + 16 * c)))

        value_of :
            (j : ℕ) → c + c ≡ 2 ^ j → (i k : ℕ) → i < rows → k < 16 * (2 * (c + c)) →
            Same 65536 (reads w5 (out + 16 * i + offset (16 * rows) k)) (split 16 j (operand rows (c + c) w0 a rows) (operand rows (c + c) w0 a i) k)
        value_of zero e i k hi hk = absurd (omega arith)
        value_of (suc j) e i k hi hk = level_value j (omega (arith, two-pow-succ j)) i hi k hk

        pub level : Halved rows (c + c) a out free w0 w5
        level = record {
          size = s5.size ∙ s4.size ∙ s3.size ∙ s2.size ∙ s1.size;
          value = value_of;
          below = λ p h.
              let l : p < free = omega (arith, r.product) in
              s5.below p h ∙ s4.below p l ∙ s3.below p h ∙ s2.below p (omega arith) ∙ s1.below p l;
          above = λ p h l.
              let e : p < rest = omega (arith, r.sums) in
              s5.above p (omega arith) ∙ s4.below p l ∙ s3.above p (omega arith) e ∙ s2.above p (omega arith) e ∙ s1.below p l;
        }
