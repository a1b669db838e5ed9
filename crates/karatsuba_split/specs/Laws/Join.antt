-- Laws of the join of three products.
use Rattle.std.specs.Prelude.{◌≡◌, ℕ, ◌+◌, ◌-◌, ◌%◌, ◌<◌, ◌≤◌, ◌⊎◌, List, length, ℤ, pos, ◌+ℤ◌, ◌-ℤ◌, neg_ℤ, slice_index, slice_set, refl}
use Rattle.std.proofs.Common.{inl, inr, ◌∙◌, ap, arith, length-set}
use Rattle.std.proofs.Math.Decide.{dec_lt}
use Rattle.algebra.specs.Integers.{Same}
use Rattle.algebra.proofs.Laws.Whole.{eqℤ, add_split, up_neg, dn_neg}
use Rattle.algebra.proofs.Laws.Residues.{same_eq, same_trans, same_add, same_neg, same_plus, same_minus}
use Rattle.karatsuba_base.specs.Layout.{reads}
use Rattle.karatsuba_base.specs.Ensures.{Put}
use Rattle.karatsuba_split.specs.Layout.{second, third}
use Rattle.karatsuba_split.specs.Ensures.{Quarters, Joined}
use Rattle.karatsuba_base.specs.Laws.Put.{here, else}

-- (l - h) + (m - l') and (m - h') - (l - h), in the order of the quarters
sum_order : (l h m l' : ℤ) → (l -ℤ h) +ℤ (m -ℤ l') ≡ l +ℤ (m -ℤ l' -ℤ h)
sum_order l h m l' =
    let s = add_split in
    eqℤ _ _ (omega (
      arith,
      s (l -ℤ h) (m -ℤ l'),
      s l (neg_ℤ h),
      s m (neg_ℤ l'),
      s l (m -ℤ l' -ℤ h),
      s (m -ℤ l') (neg_ℤ h),
      up_neg h,
      dn_neg h,
      up_neg l',
      dn_neg l',
    ))

less_order : (l h m h' : ℤ) → (m -ℤ h') -ℤ (l -ℤ h) ≡ h +ℤ (m -ℤ l -ℤ h')
less_order l h m h' =
    let s = add_split in
    eqℤ _ _ (omega (
      arith,
      s (m -ℤ h') (neg_ℤ (l -ℤ h)),
      s m (neg_ℤ h'),
      s l (neg_ℤ h),
      s h (m -ℤ l -ℤ h'),
      s (m -ℤ l) (neg_ℤ h'),
      s m (neg_ℤ l),
      up_neg (l -ℤ h),
      dn_neg (l -ℤ h),
      up_neg h,
      dn_neg h,
      up_neg h',
      dn_neg h',
      up_neg l,
      dn_neg l,
    ))

-- what the wrapping differences and sums give
module _ (l h m l' x y : ℕ) {r : ℕ} (ex : (x + h) % 65536 ≡ l) (ey : (y + l') % 65536 ≡ m) where
  pub second_one : r ≡ (x + y) % 65536 → Same 65536 (pos r) (pos l +ℤ (pos m -ℤ pos l' -ℤ pos h))
  second_one e =
      same_trans (same_plus x y e)
      (same_trans (same_add (same_minus l h ex) (same_minus m l' ey)) (same_eq (sum_order (pos l) (pos h) (pos m) (pos l'))))

  pub third_one : (r + x) % 65536 ≡ y → Same 65536 (pos r) (pos h +ℤ (pos m -ℤ pos l -ℤ pos l'))
  third_one e =
      same_trans (same_minus y x e)
      (same_trans (same_add (same_minus m l' ey) (same_neg (same_minus l h ex))) (same_eq (less_order (pos l) (pos h) (pos m) (pos l'))))

module _ {out low q : ℕ} {w : List ℕ} where
  pub quarters_none : {r : List ℕ} → length r ≡ 48 → Quarters out low q w 0 r
  quarters_none l = record { size = l; one = λ t h. absurd (omega arith); two = λ t h. absurd (omega arith); three = λ t h. absurd (omega arith) }

  pub quarters_more :
      {n x y z : ℕ} {r : List ℕ} → n < 16 → Quarters out low q w n r → x ≡ slice_index w (low + n) →
      Same 65536 (pos y) (second out low q w n) → Same 65536 (pos z) (third out low q w n) →
      Quarters out low q w (n + 1) (slice_set (slice_set (slice_set r n x) (n + 16) y) (n + 32) z)
  quarters_more {n} {x} {y} {z} {r} hn h ex ey ez = record {
    size = length-set s (n + 32) z ∙ ls ∙ lr;
    one = λ t ht. else s (n + 32) t z (inl (omega arith)) ∙ else (slice_set r n x) (n + 16) t y (inl (omega arith)) ∙ first t (dec_lt t n) ht;
    two = λ t ht. rw (else s (n + 32) (t + 16) z (inl (omega arith))) (next t (dec_lt t n) ht);
    three = λ t ht. last t (dec_lt t n) ht;
  }
    where
      s : List ℕ
      s = slice_set (slice_set r n x) (n + 16) y

      lr : length (slice_set r n x) ≡ 48
      lr = length-set r n x ∙ h.size

      ls : length s ≡ length (slice_set r n x)
      ls = length-set (slice_set r n x) (n + 16) y

      first : (t : ℕ) → Dec (t < n) → t < n + 1 → slice_index (slice_set r n x) t ≡ slice_index w (low + t)
      first t (yes p) ht = else r n t x (inl p) ∙ h.one t p
      first t (no p) ht = let d : t ≡ n = omega arith in here r n t x (omega (arith, h.size)) d ∙ rw d ex

      next : (t : ℕ) → Dec (t < n) → t < n + 1 → Same 65536 (reads s (t + 16)) (second out low q w t)
      next t (yes p) ht = rw (else (slice_set r n x) (n + 16) (t + 16) y (inl (omega arith)), else r n (t + 16) x (inr (omega arith))) (h.two t p)
      next t (no p) ht = let d : t ≡ n = omega arith in rw (d, here (slice_set r n x) (n + 16) (n + 16) y (omega (arith, lr)) refl) ey

      last : (t : ℕ) → Dec (t < n) → t < n + 1 → Same 65536 (reads (slice_set s (n + 32) z) (t + 32)) (third out low q w t)
      last t (yes p) ht =
          rw (
            else s (n + 32) (t + 32) z (inl (omega arith)),
            else (slice_set r n x) (n + 16) (t + 32) y (inr (omega arith)),
            else r n (t + 32) x (inr (omega arith)),
          )
          (h.three t p)
      last t (no p) ht = let d : t ≡ n = omega arith in rw (d, here s (n + 32) (n + 32) z (omega (arith, ls, lr)) refl) ez

-- ---- the join, sixteen places of each quarter a turn
pub joined_none : {out low q : ℕ} {w : List ℕ} → Joined out low q 0 w w
joined_none = record {
  size = refl;
  one = λ t h. absurd (omega arith);
  two = λ t h. absurd (omega arith);
  three = λ t h. absurd (omega arith);
  left = λ c t h l d. refl;
  below = λ p h. refl;
  above = λ p h. refl;
}

module _ {out low q n : ℕ} {w w' w1 w2 w3 : List ℕ} (r : List ℕ) (hn : n + 16 ≤ q) (apart : out + q + q + q + q ≤ low)
    (h : Joined out low q n w w') (x : Quarters (out + n) (low + n) q w' 16 r) (s1 : Put (out + n) 16 (λ (k : ℕ). slice_index r (0 + k)) w' w1)
    (s2 : Put (out + n + q) 16 (λ (k : ℕ). slice_index r (16 + k)) w1 w2) (s3 : Put (out + n + q + q) 16 (λ (k : ℕ). slice_index r (32 + k)) w2 w3) where
  -- what is still as it was when the turn began, and before all turns
  old_at : (i j c t : ℕ) → i ≡ out + c + t → j ≡ out + c + t → n ≤ t → t < q → (c ≡ 0) ⊎ ((c ≡ q) ⊎ (c ≡ q + q)) → reads w' i ≡ reads w j
  old_at i j c t ei ej l m d = rw (ei, ej) (ap pos (h.left c t l m d))

  far_at : (i j : ℕ) → i ≡ j → out + q + q + q ≤ j → reads w' i ≡ reads w j
  far_at i j e l = rw e (ap pos (h.above j l))

  second_at : (t : ℕ) → t < 16 → second (out + n) (low + n) q w' t ≡ second out low q w (n + t)
  second_at t l =
      rw (
        far_at (low + n + q + t) (low + q + (n + t)) (omega arith) (omega arith),
        old_at (out + n + t) (out + (n + t)) 0 (n + t) (omega arith) (omega arith) (omega arith) (omega arith) (inl refl),
        far_at (low + n + t) (low + (n + t)) (omega arith) (omega arith),
        old_at (out + n + q + q + t) (out + q + q + (n + t)) (q + q) (n + t) (omega arith) (omega arith) (omega arith) (omega arith) (inr (inr refl)),
      )
      refl

  third_at : (t : ℕ) → t < 16 → third (out + n) (low + n) q w' t ≡ third out low q w (n + t)
  third_at t l =
      rw (
        old_at (out + n + q + q + t) (out + q + q + (n + t)) (q + q) (n + t) (omega arith) (omega arith) (omega arith) (omega arith) (inr (inr refl)),
        old_at (out + n + q + t) (out + q + (n + t)) q (n + t) (omega arith) (omega arith) (omega arith) (omega arith) (inr (inl refl)),
        far_at (low + n + q + t) (low + q + (n + t)) (omega arith) (omega arith),
        far_at (out + n + q + q + q + t) (out + q + q + q + (n + t)) (omega arith) (omega arith),
      )
      refl

  one_at : (t : ℕ) → Dec (t < n) → t < n + 16 → slice_index w3 (out + t) ≡ slice_index w (low + t)
  one_at t (yes l) m = s3.below (out + t) (omega arith) ∙ s2.below (out + t) (omega arith) ∙ s1.below (out + t) (omega arith) ∙ h.one t l
  one_at t (no l) m =
      let i = t - n in
      let d : out + t ≡ out + n + i = omega arith in
      let e : low + n + i ≡ low + t = omega arith in
      let c : 0 + i ≡ i = omega arith in
      rw (d, s3.below (out + n + i) (omega arith), s2.below (out + n + i) (omega arith), s1.value i (omega arith), c, x.one i (omega arith), e)
      (h.above (low + t) (omega arith))

  two_at : (t : ℕ) → Dec (t < n) → t < n + 16 → Same 65536 (reads w3 (out + q + t)) (second out low q w t)
  two_at t (yes l) m =
      let p = out + q + t in
      rw (s3.below p (omega arith), s2.below p (omega arith), s1.above p (omega arith)) (h.two t l)
  two_at t (no l) m =
      let i = t - n in
      let d : out + q + t ≡ out + n + q + i = omega arith in
      let e : n + i ≡ t = omega arith in
      let c : 16 + i ≡ i + 16 = omega arith in
      rw (ap (λ (j : ℕ). slice_index w3 j) d ∙ s3.below (out + n + q + i) (omega arith) ∙ s2.value i (omega arith), c)
      (rw (second_at i (omega arith), e) at (x.two i (omega arith)))

  three_at : (t : ℕ) → Dec (t < n) → t < n + 16 → Same 65536 (reads w3 (out + q + q + t)) (third out low q w t)
  three_at t (yes l) m =
      let p = out + q + q + t in
      rw (s3.below p (omega arith), s2.above p (omega arith), s1.above p (omega arith)) (h.three t l)
  three_at t (no l) m =
      let i = t - n in
      let d : out + q + q + t ≡ out + n + q + q + i = omega arith in
      let e : n + i ≡ t = omega arith in
      let c : 32 + i ≡ i + 32 = omega arith in
      rw (ap (λ (j : ℕ). slice_index w3 j) d ∙ s3.value i (omega arith), c) (rw (third_at i (omega arith), e) at (x.three i (omega arith)))

  left_at : (c t : ℕ) → n + 16 ≤ t → t < q → (c ≡ 0) ⊎ ((c ≡ q) ⊎ (c ≡ q + q)) → slice_index w3 (out + c + t) ≡ slice_index w' (out + c + t)
  left_at c t l m (inl d) = let p = out + c + t in s3.below p (omega arith) ∙ s2.below p (omega arith) ∙ s1.above p (omega arith)
  left_at c t l m (inr (inl d)) = let p = out + c + t in s3.below p (omega arith) ∙ s2.above p (omega arith) ∙ s1.above p (omega arith)
  left_at c t l m (inr (inr d)) = let p = out + c + t in s3.above p (omega arith) ∙ s2.above p (omega arith) ∙ s1.above p (omega arith)

  pub joined_turn : Joined out low q (n + 16) w w3
  joined_turn = record {
    size = s3.size ∙ s2.size ∙ s1.size ∙ h.size;
    one = λ t l. one_at t (dec_lt t n) l;
    two = λ t l. two_at t (dec_lt t n) l;
    three = λ t l. three_at t (dec_lt t n) l;
    left = λ c t l m d. left_at c t l m d ∙ h.left c t (omega arith) m d;
    below = λ p l. s3.below p (omega arith) ∙ s2.below p (omega arith) ∙ s1.below p (omega arith) ∙ h.below p l;
    above = λ p l. s3.above p (omega arith) ∙ s2.above p (omega arith) ∙ s1.above p (omega arith) ∙ h.above p l;
  }
