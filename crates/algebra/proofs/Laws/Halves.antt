-- Laws of the product by halves.
use Prim.Native.Nat.{ℕ, zero, suc, ◌+◌, ◌*◌, ◌-◌, ◌^◌, ◌<◌, ◌≤◌}
use Rattle.std.specs.Prelude.{◌≡◌, refl, ℤ, pos, neg_ℤ, ◌+ℤ◌, ◌-ℤ◌}
use Rattle.std.proofs.Common.{sym, ◌∙◌, ap₂, lt-ltb, le-ltb}
use Rattle.std.proofs.Math.Path.{ap, fun_ext}
use Rattle.std.proofs.Math.Decide.{dec_lt}
use Rattle.std.proofs.Math.Nat.{add_assoc}
use native.Mathlib.Omega.{arith}
use Rattle.std.proofs.Math.IntN.{+ℤ_assoc, +ℤ_comm, +ℤ_idl, +ℤ_idr}
use Rattle.algebra.specs.Integers.{Same}
use Rattle.algebra.specs.Halves.{plus, slides, conv, low, high, joined, split, Degree}
use Rattle.algebra.proofs.Laws.Whole.{eqℤ, add_split, up_neg, dn_neg}
use Rattle.algebra.proofs.Laws.Convolution.{slides_low, slides_high, slides_plus, conv_plus, conv_plus_left, conv_slides}
use Rattle.algebra.proofs.Laws.Convolution.{conv_slides_right, conv_past, conv_same}

pub low_below : (h : ℕ) (f : ℕ → ℤ) (k : ℕ) → k < h → low h f k ≡ f k
unfolding low
low_below h f k l = rw (lt-ltb k h l)

pub low_past : (h : ℕ) (f : ℕ → ℤ) → Degree h (low h f)
unfolding low
low_past h f k l = rw (le-ltb k h l)

-- f by its halves
low_high : (h : ℕ) (f : ℕ → ℤ) → f ≡ plus (low h f) (slides h (high h f))
low_high h f = fun_ext (λ k. go k (dec_lt k h))
  where
    go : (k : ℕ) → Dec (k < h) → f k ≡ plus (low h f) (slides h (high h f)) k
    go k (yes p) = rw (low_below h f k p, slides_low h (high h f) k p) (sym (+ℤ_idr (f k)))
    go k (no q) =
        let e : h + (k - h) ≡ k = omega arith in
        rw (low_past h f k (omega arith)) (sym (+ℤ_idl _ ∙ ap (slides h (high h f)) (sym e) ∙ slides_high h (high h f) (k - h) ∙ ap f e))

-- the product of f0 + X^h f1 and g0 + X^h g1 from three products
module _ (h : ℕ) (f0 f1 g0 g1 : ℕ → ℤ) where
  middle : (k : ℕ) → conv (plus f0 f1) (plus g0 g1) k -ℤ conv f0 g0 k -ℤ conv f1 g1 k ≡ plus (conv f0 g1) (conv f1 g0) k
  middle k =
      rw (conv_plus_left f0 f1 (plus g0 g1), conv_plus f0 g0 g1, conv_plus f1 g0 g1)
      (less (conv f0 g0 k) (conv f0 g1 k) (conv f1 g0 k) (conv f1 g1 k))
    where
      less : (a c d b : ℤ) → ((a +ℤ c) +ℤ (d +ℤ b)) -ℤ a -ℤ b ≡ c +ℤ d
      less a c d b =
          let s = add_split in
          let t = (a +ℤ c) +ℤ (d +ℤ b) in
          eqℤ _ _ (omega (arith, s (t -ℤ a) (neg_ℤ b), s t (neg_ℤ a), s (a +ℤ c) (d +ℤ b), s a c, s d b, s c d, up_neg a, dn_neg a, up_neg b, dn_neg b))

  joined_conv :
      (k : ℕ) →
      joined h (conv f0 g0) (conv (plus f0 f1) (plus g0 g1)) (conv f1 g1) k ≡ conv (plus f0 (slides h f1)) (plus g0 (slides h g1)) k
  unfolding joined
  joined_conv k =
      ap (λ (u : ℕ → ℤ). conv f0 g0 k +ℤ (slides h u k +ℤ slides h (slides h (conv f1 g1)) k)) (fun_ext middle)
      ∙ rw (
        slides_plus h (conv f0 g1) (conv f1 g0),
        conv_plus_left f0 (slides h f1) (plus g0 (slides h g1)),
        conv_plus f0 g0 (slides h g1),
        conv_slides_right h f0 g1,
        conv_slides h f1 (plus g0 (slides h g1)),
        conv_plus f1 g0 (slides h g1),
        conv_slides_right h f1 g1,
        slides_plus h (conv f1 g0) (slides h (conv f1 g1)),
      )
      (simp +ℤ_assoc)

pub split_more :
    (m j : ℕ) (f g : ℕ → ℤ) → let h = m * 2 ^ j in
    split m (suc j) f g
    ≡ joined h (split m j (low h f) (low h g)) (split m j (plus (low h f) (high h f)) (plus (low h g) (high h g)))
    (split m j (high h f) (high h g))
unfolding split
split_more m j f g = refl

-- the product by halves is the product, at every length
pub split_conv : (m j : ℕ) (f g : ℕ → ℤ) (k : ℕ) → split m j f g k ≡ conv f g k
unfolding split
split_conv m zero f g k = refl
split_conv m (suc j) f g k =
    let h = m * 2 ^ j in
    let half : (u v : ℕ → ℤ) → split m j u v ≡ conv u v = λ u v. fun_ext (split_conv m j u v) in
    rw (half (low h f) (low h g), half (plus (low h f) (high h f)) (plus (low h g) (high h g)), half (high h f) (high h g))
    (joined_conv h (low h f) (high h f) (low h g) (high h g) k ∙ sym (ap₂ (λ (u v : ℕ → ℤ). conv u v k) (low_high h f) (low_high h g)))

pub split_past :
    (m j : ℕ) (f g : ℕ → ℤ) → Degree (m * 2 ^ j) f → Degree (m * 2 ^ j) g →
    (k : ℕ) → m * 2 ^ j + m * 2 ^ j ≤ k → split m j f g k ≡ pos 0
split_past m j f g zf zg k h = split_conv m j f g k ∙ conv_past (m * 2 ^ j) f g zf zg k (omega arith)

pub split_same :
    {n : ℕ} (m j : ℕ) (f f' g g' : ℕ → ℤ) → ((i : ℕ) → Same n (f i) (f' i)) → ((i : ℕ) → Same n (g i) (g' i)) →
    (k : ℕ) → Same n (split m j f g k) (split m j f' g' k)
split_same m j f f' g g' p q k = rw (split_conv m j f g k, split_conv m j f' g' k) (conv_same f f' g g' p q k)

-- the quarters of the three products joined
module _ (h : ℕ) (L M H : ℕ → ℤ) where
  abbrev mid : ℕ → ℤ
  mid j = M j -ℤ L j -ℤ H j

  pub quarter0 : (j : ℕ) → j < h → joined h L M H j ≡ L j
  unfolding joined
  quarter0 j l = rw (slides_low h mid j l, slides_low h (slides h H) j l) (+ℤ_idr (L j))

  pub quarter1 : (j : ℕ) → j < h → joined h L M H (h + j) ≡ L (h + j) +ℤ (M j -ℤ L j -ℤ H j)
  unfolding joined
  quarter1 j l = rw (slides_high h mid j, slides_high h (slides h H) j, slides_low h H j l, +ℤ_idr (mid j))

  pub quarter2 : Degree (h + h) L → (j : ℕ) → joined h L M H (h + h + j) ≡ H j +ℤ (M (h + j) -ℤ L (h + j) -ℤ H (h + j))
  unfolding joined
  quarter2 z_l j =
      rw (z_l (h + h + j) (omega arith), add_assoc h h j, slides_high h mid (h + j), slides_high h (slides h H) (h + j), slides_high h H j)
      (+ℤ_idl _ ∙ +ℤ_comm (mid (h + j)) (H j))

  pub quarter3 :
      Degree (h + h) L → Degree (h + h) M → Degree (h + h) H → (j : ℕ) → joined h L M H (h + h + h + j) ≡ H (h + j)
  unfolding joined
  quarter3 z_l z_m z_h j =
      let e : h + h + h + j ≡ h + (h + (h + j)) = omega arith in
      let i = h + (h + j) in
      rw (
        z_l (h + h + h + j) (omega arith),
        e,
        slides_high h mid i,
        z_l i (omega arith),
        z_m i (omega arith),
        z_h i (omega arith),
        slides_high h (slides h H) i,
        slides_high h H (h + j),
      )
      (+ℤ_idl _ ∙ +ℤ_idl (H (h + j)))
