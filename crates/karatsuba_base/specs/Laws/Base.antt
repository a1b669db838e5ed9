-- Laws of the plain product of 16 coefficients: eight of b at a time, each place a sum over a window of the padded chunk of a row.
use Rattle.std.specs.Prelude.{◌≡◌, ℕ, ◌+◌, ◌-◌, ◌*◌, ◌%◌, ◌<◌, ◌≤◌, List, length, ℤ, pos, ◌+ℤ◌, ◌*ℤ◌, slice_index, slice_range, slice_set, refl}
use Rattle.std.proofs.Common.{inl, inr, sym, ◌∙◌, arith, length-set}
use Rattle.std.proofs.Math.Path.{ap}
use Rattle.std.proofs.Math.Decide.{dec_lt}
use Rattle.std.proofs.Math.ListN.{get_or-eq_default}
use Rattle.std.proofs.Math.IntN.{+ℤ_idl}
use Rattle.algebra.specs.Integers.{sum, Same}
use Rattle.algebra.specs.Halves.{conv, high, window, Degree}
use Rattle.algebra.proofs.Laws.Sums.{sum_next, sum_cong}
use Rattle.algebra.proofs.Laws.Residues.{same_eq, same_refl, same_trans, same_add, same_plus, same_times}
use Rattle.algebra.proofs.Laws.Convolution.{window_first, window_both, window_past}
use Rattle.karatsuba_base.specs.Layout.{reads, offset, operand, Blank, Apart}
use Rattle.karatsuba_base.specs.Ensures.{Put, Added, Both, Plain}
use Rattle.karatsuba_base.specs.Laws.Put.{here, else, zeros, zeros_at, part_at}
use Rattle.karatsuba_base.specs.Laws.Places.{offset_add, offset_first, operand_at, operand_past}

-- one term more
pub terms_more :
    (f : ℕ → ℤ) (i x y : ℕ) {s u r : ℕ} → Same 65536 (pos s) (sum i f) → f i ≡ pos x *ℤ pos y → u ≡ x * y % 65536 → r ≡ (s + u) % 65536 →
    Same 65536 (pos r) (sum (i + 1) f)
terms_more f i x y {s} {u} h e p q =
    rw (sum_next i f, e) (same_trans (same_plus s u q) (same_add h (same_times x y p)))

module _ {p padded sums : List ℕ} {at : ℕ} where
  pub added_none : length sums ≡ 32 → Added p padded at sums 0 sums
  added_none l = record { size = l; value = λ t h. absurd (omega arith); before = λ t h. refl; behind = λ t h. refl }

  pub added_more :
      {n x v : ℕ} {r : List ℕ} → at ≤ 8 → n < 24 → Added p padded at sums n r → Same 65536 (pos x) (window (reads p) (reads padded) n) →
      v ≡ (slice_index sums (at + n) + x) % 65536 → Added p padded at sums (n + 1) (slice_set r (at + n) v)
  added_more {n} {x} {v} {r} ha hn h e q = record {
    size = length-set r (at + n) v ∙ h.size;
    value = λ t ht. go t (dec_lt t n) ht;
    before = λ t ht. else r (at + n) t v (inl (omega arith)) ∙ h.before t ht;
    behind = λ t ht. else r (at + n) t v (inr (omega arith)) ∙ h.behind t (omega arith);
  }
    where
      go :
          (t : ℕ) → Dec (t < n) → t < n + 1 →
          Same 65536 (reads (slice_set r (at + n) v) (at + t)) (reads sums (at + t) +ℤ window (reads p) (reads padded) t)
      go t (yes l) ht = rw (else r (at + n) (at + t) v (inl (omega arith))) (h.value t l)
      go t (no s) ht =
          let d : t ≡ n = omega arith in
          rw (d, here r (at + n) (at + n) v (omega (arith, h.size)) refl)
          (same_trans (same_plus (slice_index sums (at + n)) x q) (same_add (same_refl (reads sums (at + n))) e))

-- the two together: f in p and q, g between zeros
module _ {p q padded low r : List ℕ} (f g : ℕ → ℤ) (hf : (i : ℕ) → i < 8 → reads p i ≡ f i) (hh : (i : ℕ) → i < 8 → reads q i ≡ high 8 f i)
    (front : (i : ℕ) → i < 8 → reads padded i ≡ pos 0) (back : (j : ℕ) → reads padded (8 + j) ≡ g j) (zf : Degree 16 f) (zg : Degree 16 g)
    (l : Added p padded 0 (zeros 32) 24 low) (u : Added q padded 8 low 24 r) where
  in_window : (a : List ℕ) (e : ℕ → ℤ) → ((i : ℕ) → i < 8 → reads a i ≡ e i) → (t : ℕ) → window (reads a) (reads padded) t ≡ window e (reads padded) t
  unfolding window
  in_window a e h t = sum_cong 8 _ _ (λ i hi. ap (λ z. z *ℤ reads padded (t + 8 - i)) (h i hi))

  all_low : (t : ℕ) → Dec (t < 24) → Same 65536 (reads low t) (window f (reads padded) t)
  all_low t (yes h) =
      let e : 0 + t ≡ t = omega arith in
      rw (← in_window p f hf t) (rw (e, zeros_at 32 t, +ℤ_idl (window (reads p) (reads padded) t)) at (l.value t h))
  all_low t (no h) =
      let e : 24 + (t - 24) ≡ t = omega arith in
      same_eq (ap pos (l.behind t (omega arith) ∙ zeros_at 32 t) ∙ sym (rw e at (window_past g (reads padded) back zg f (t - 24))))

  pub base_value : (t : ℕ) → t < 32 → Dec (t < 8) → Same 65536 (reads r t) (conv f g t)
  base_value t h (yes s) = rw (u.before t s, window_first g (reads padded) back front f t s) (all_low t (dec_lt t 24))
  base_value t h (no s) =
      let e : t ≡ 8 + (t - 8) = omega arith in
      same_trans (rw (← e) at (u.value (t - 8) (omega arith)))
      (rw (in_window q (high 8 f) hh (t - 8)) (same_trans (same_add (all_low t (dec_lt t 24)) (same_refl _))
      (same_eq (rw (← e) at (sym (window_both g (reads padded) back front f zf (t - 8)))))))

-- the chunks of row i and of b as they stand, cut out of the slice
module _ (rows a i : ℕ) (w : List ℕ) (z : Blank (24 * (rows + 1)) w a) (hi : i < rows) (padded : List ℕ) (l : length padded ≡ 32)
    (e : (t : ℕ) → t < 32 → slice_index padded t ≡ slice_index w (a + 24 * i + t)) where
  zero_at : (t : ℕ) → t < 32 → (24 * i + t) % 24 < 8 → 24 * i + t < 24 * (rows + 1) → slice_index padded t ≡ 0
  zero_at t h r b = let d : a + 24 * i + t ≡ a + (24 * i + t) = omega arith in e t h ∙ rw d (z (24 * i + t) b r)

  padded_front : (t : ℕ) → t < 8 → reads padded t ≡ pos 0
  padded_front t h = ap pos (zero_at t (omega arith) (omega arith) (omega arith))

  padded_back : (j : ℕ) → reads padded (8 + j) ≡ operand rows 1 w a i j
  padded_back j = go (dec_lt j 16) (dec_lt j 24)
    where
      go : Dec (j < 16) → Dec (j < 24) → reads padded (8 + j) ≡ operand rows 1 w a i j
      go (yes h) y =
          let d : a + 24 * i + (8 + j) ≡ a + 24 * i + 8 + j = omega arith in
          ap pos (e (8 + j) (omega arith)) ∙ rw d (sym (operand_at rows 1 w a i j (omega arith) ∙ rw (offset_first (24 * (rows + 1)) j h) refl))
      go (no h) (yes y) = ap pos (zero_at (8 + j) (omega arith) (omega arith) (omega arith)) ∙ sym (operand_past rows 1 w a i j (omega arith))
      go (no h) (no y) = ap pos (get_or-eq_default padded 0 (omega arith)) ∙ sym (operand_past rows 1 w a i j (omega arith))

factor_at :
    (rows a : ℕ) (w p : List ℕ) (o : ℕ) → o + 8 ≤ 16 → ((t : ℕ) → t < 8 → slice_index p t ≡ slice_index w (a + 24 * rows + 8 + (o + t))) →
    (t : ℕ) → t < 8 → reads p t ≡ operand rows 1 w a rows (o + t)
factor_at rows a w p o ho e t h =
    ap pos (e t h) ∙ sym (operand_at rows 1 w a rows (o + t) (omega arith) ∙ rw (offset_first (24 * (rows + 1)) (o + t) (omega arith)) refl)

-- the product of row i and b, from their parts
pub row_value :
    (rows a i : ℕ) (w b padded : List ℕ) {r : List ℕ} → Blank (24 * (rows + 1)) w a → i < rows → length padded ≡ 32 →
    ((t : ℕ) → t < 32 → slice_index padded t ≡ slice_index w (a + 24 * i + t)) →
    ((t : ℕ) → t < 16 → slice_index b t ≡ slice_index w (a + 24 * rows + 8 + t)) → Both b padded r →
    (t : ℕ) → t < 32 → Same 65536 (reads r t) (conv (operand rows 1 w a rows) (operand rows 1 w a i) t)
row_value rows a i w b padded z hi lr er eb x t h =
    base_value (operand rows 1 w a rows) (operand rows 1 w a i)
    (λ k hk. let e : 0 + k ≡ k = omega arith in rw e at (factor 0 8 (omega arith) refl k hk)) (factor 8 16 (omega arith) refl)
    (padded_front rows a i w z hi padded lr er) (padded_back rows a i w z hi padded lr er) (operand_past rows 1 w a rows) (operand_past rows 1 w a i)
    x.first x.next t h (dec_lt t 8)
  where
    factor : (s e : ℕ) → e ≤ 16 → e ≡ s + 8 → (k : ℕ) → k < 8 → reads (slice_range b s e) k ≡ operand rows 1 w a rows (s + k)
    factor s e l d =
        factor_at rows a w (slice_range b s e) s (omega arith) (λ j hj. part_at s e b (omega arith) refl ∙ eb (s + j) (omega arith))

-- the rows, one after another
module _ {rows a out : ℕ} {w : List ℕ} where
  pub plain_none : Plain rows 0 a out w w
  plain_none = record { size = refl; value = λ i k h. absurd (omega arith); below = λ p h. refl; above = λ p h. refl }

  -- row i stays as it is
  pub plain_row :
      {n i t : ℕ} {w' : List ℕ} → Apart a (24 * (rows + 1)) out (32 * rows) → Plain rows n a out w w' → i < rows → t < 32 →
      slice_index w' (a + 24 * i + t) ≡ slice_index w (a + 24 * i + t)
  plain_row {n} {i} {t} (inl l) h hi ht = h.below (a + 24 * i + t) (omega arith)
  plain_row {n} {i} {t} (inr l) h hi ht = h.above (a + 24 * i + t) (omega arith)

  pub plain_turn :
      (r : List ℕ) {i x y : ℕ} {w' w1 w2 : List ℕ} → i < rows → Plain rows i a out w w' →
      ((t : ℕ) → t < 32 → Same 65536 (reads r t) (conv (operand rows 1 w a rows) (operand rows 1 w a i) t)) →
      x ≡ out + 16 * i → y ≡ out + 16 * i + 16 * rows → Put x 16 (λ (k : ℕ). slice_index r (0 + k)) w' w1 →
      Put y 16 (λ (k : ℕ). slice_index r (16 + k)) w1 w2 → Plain rows (i + 1) a out w w2
  plain_turn r {i} {x} {y} {w'} {w1} {w2} hi h v ex ey s u = record {
    size = u.size ∙ s.size ∙ h.size;
    value = λ j k hj hk. value_of j k hk (dec_lt k 16) hj (dec_lt j i);
    below = λ p hp. u.below p (omega arith) ∙ s.below p (omega arith) ∙ h.below p hp;
    above = λ p hp. u.above p (omega arith) ∙ s.above p (omega arith) ∙ h.above p hp;
  }
    where
      far : (k : ℕ) → 16 ≤ k → k < 32 → offset (16 * rows) k ≡ 16 * rows + (k - 16)
      far k l m =
          let e : 16 * 1 + (k - 16) ≡ k = omega arith in
          (rw e at (offset_add (16 * rows) 1 (k - 16))) ∙ omega (arith, offset_first (16 * rows) (k - 16) (omega arith))

      value_of :
          (j k : ℕ) → k < 32 → Dec (k < 16) → j < i + 1 → Dec (j < i) →
          Same 65536 (reads w2 (out + 16 * j + offset (16 * rows) k)) (conv (operand rows 1 w a rows) (operand rows 1 w a j) k)
      value_of j k hk (yes l) hj (yes m) =
          let p = out + 16 * j + offset (16 * rows) k in
          let d : p < x = omega (arith, offset_first (16 * rows) k l) in
          rw (u.below p (omega arith), s.below p d) (h.value j k m hk)
      value_of j k hk (no l) hj (yes m) =
          let p = out + 16 * j + offset (16 * rows) k in
          let d = far k (omega arith) hk in
          rw (u.below p (omega arith), s.above p (omega arith)) (h.value j k m hk)
      value_of j k hk (yes l) hj (no m) =
          let d : j ≡ i = omega arith in
          let e : out + 16 * i + offset (16 * rows) k ≡ x + k = omega (arith, offset_first (16 * rows) k l) in
          let c : 0 + k ≡ k = omega arith in
          rw (d, e, u.below (x + k) (omega arith), s.value k l, c) (v k hk)
      value_of j k hk (no l) hj (no m) =
          let d : j ≡ i = omega arith in
          let e : out + 16 * i + offset (16 * rows) k ≡ y + (k - 16) = omega (arith, far k (omega arith) hk) in
          let c : 16 + (k - 16) ≡ k = omega arith in
          rw (d, e, u.value (k - 16) (omega arith), c) (v k hk)
