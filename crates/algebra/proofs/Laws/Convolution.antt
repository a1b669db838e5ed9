-- Laws of the product of polynomials with no X^n = -1.
use Prim.Native.Nat.{ℕ, zero, suc, ◌+◌, ◌-◌, ◌<◌, ◌≤◌}
use Rattle.std.specs.Prelude.{List, ◌≡◌, refl, ℤ, pos, ◌+ℤ◌, ◌*ℤ◌, ◌-ℤ◌, length}
use Rattle.std.proofs.Math.Path.{sym, ap, fun_ext}
use Rattle.std.proofs.Common.{◌∙◌, ap₂, suc-add}
use Rattle.std.proofs.Math.Decide.{dec_lt}
use Rattle.std.proofs.Math.Nat.{suc-sub-suc}
use native.Mathlib.Omega.{arith}
use Rattle.std.proofs.Math.IntN.{+ℤ_idl, *ℤ_comm, *ℤ-zero, zero-*ℤ}
use Rattle.std.proofs.Math.ListN.{get_or-eq_default}
use Rattle.algebra.specs.Integers.{sum, Same}
use Rattle.algebra.specs.Ring.{at, coef}
use Rattle.algebra.specs.Halves.{plus, slide, slides, conv, high, Degree, window}
use Rattle.algebra.proofs.Laws.Whole.{mul_addℤ}
use Rattle.algebra.proofs.Laws.Residues.{same_mul, same_sum}
use Rattle.algebra.proofs.Laws.Sums.{sum_cong, sum_none, sum_add, sum_front, sum_split, sum_past, sum_reverse}

-- ---- X^h f
pub slides_low : (h : ℕ) (f : ℕ → ℤ) (k : ℕ) → k < h → slides h f k ≡ pos 0
unfolding slides
slides_low zero f k l = absurd (omega arith)
slides_low (suc h) f zero l = refl
slides_low (suc h) f (suc k) l = slides_low h f k (omega arith)

pub slides_high : (h : ℕ) (f : ℕ → ℤ) (k : ℕ) → slides h f (h + k) ≡ f k
unfolding slides
slides_high zero f k = ap f (omega arith)
slides_high (suc h) f k = rw (suc-add h k) (slides_high h f k)

slide_plus : (f g : ℕ → ℤ) (k : ℕ) → slide (plus f g) k ≡ plus (slide f) (slide g) k
slide_plus f g zero = refl
slide_plus f g (suc k) = refl

pub slides_plus : (h : ℕ) (f g : ℕ → ℤ) → slides h (plus f g) ≡ plus (slides h f) (slides h g)
unfolding slides
slides_plus zero f g = refl
slides_plus (suc h) f g = ap slide (slides_plus h f g) ∙ fun_ext (slide_plus (slides h f) (slides h g))

-- ---- f g
pub conv_comm : (f g : ℕ → ℤ) → conv f g ≡ conv g f
unfolding conv
conv_comm f g =
    fun_ext (λ k. sum_reverse (suc k) _ ∙ sum_cong (suc k) _ (λ i. g i *ℤ f (k - i)) (λ i h.
    let p : suc k - suc i ≡ k - i = omega arith in
    let q : k - (k - i) ≡ i = omega arith in
    rw (p, q) (*ℤ_comm (f (k - i)) (g i))))

pub conv_plus : (f g g' : ℕ → ℤ) → conv f (plus g g') ≡ plus (conv f g) (conv f g')
unfolding conv
conv_plus f g g' =
    fun_ext (λ k. sum_cong (suc k) _ _ (λ i h. mul_addℤ (f i) (g (k - i)) (g' (k - i)))
    ∙ sum_add (suc k) (λ i. f i *ℤ g (k - i)) (λ i. f i *ℤ g' (k - i)))

pub conv_plus_left : (f f' g : ℕ → ℤ) → conv (plus f f') g ≡ plus (conv f g) (conv f' g)
conv_plus_left f f' g = conv_comm (plus f f') g ∙ conv_plus g f f' ∙ ap₂ plus (conv_comm g f) (conv_comm g f')

conv_slide : (f g : ℕ → ℤ) (k : ℕ) → conv (slide f) g k ≡ slide (conv f g) k
unfolding conv sum
conv_slide f g zero = +ℤ_idl _ ∙ zero-*ℤ (g 0)
conv_slide f g (suc k) =
    sum_front (suc k) (λ i. slide f i *ℤ g (suc k - i))
    ∙ ap₂ ◌+ℤ◌ (zero-*ℤ (g (suc k - 0))) (sum_cong (suc k) _ _ (λ i h. ap (λ (j : ℕ). f i *ℤ g j) (suc-sub-suc k i)))
    ∙ +ℤ_idl (conv f g k)

pub conv_slides : (h : ℕ) (f g : ℕ → ℤ) → conv (slides h f) g ≡ slides h (conv f g)
unfolding slides
conv_slides zero f g = refl
conv_slides (suc h) f g = fun_ext (conv_slide (slides h f) g) ∙ ap slide (conv_slides h f g)

pub conv_slides_right : (h : ℕ) (f g : ℕ → ℤ) → conv f (slides h g) ≡ slides h (conv f g)
conv_slides_right h f g = conv_comm f (slides h g) ∙ conv_slides h g f ∙ ap (slides h) (conv_comm g f)

-- where one factor is 0
none_left : (x y : ℤ) → x ≡ pos 0 → x *ℤ y ≡ pos 0
none_left x y e = rw e (zero-*ℤ y)

none_right : (x y : ℤ) → y ≡ pos 0 → x *ℤ y ≡ pos 0
none_right x y e = rw e (*ℤ-zero x)

pub conv_past : (n : ℕ) (f g : ℕ → ℤ) → Degree n f → Degree n g → (k : ℕ) → n + n ≤ suc k → conv f g k ≡ pos 0
unfolding conv
conv_past n f g zf zg k hk = sum_none (suc k) _ (λ i h. term i (dec_lt i n))
  where
    term : (i : ℕ) → Dec (i < n) → f i *ℤ g (k - i) ≡ pos 0
    term i (yes p) = none_right (f i) _ (zg (k - i) (omega arith))
    term i (no q) = none_left _ (g (k - i)) (zf i (omega arith))

pub conv_same :
    {n : ℕ} (f f' g g' : ℕ → ℤ) → ((i : ℕ) → Same n (f i) (f' i)) → ((i : ℕ) → Same n (g i) (g' i)) →
    (k : ℕ) → Same n (conv f g k) (conv f' g' k)
unfolding conv
conv_same f f' g g' p q k = same_sum (suc k) (λ i h. same_mul (p i) (q (k - i)))

-- ---- X^n = -1
conv_fold :
    (n : ℕ) (f g : ℕ → ℤ) → Degree n f → Degree n g → (k : ℕ) → k < n →
    conv f g (n + k) ≡ sum (n - suc k) (λ i. f (suc k + i) *ℤ g (n - suc i))
unfolding conv
conv_fold n f g zf zg k h =
    let u : ℕ → ℤ = λ i. f i *ℤ g (n + k - i) in
    let v : ℕ → ℤ = λ i. f (suc k + i) *ℤ g (n - suc i) in
    let all : suc (n + k) ≡ suc k + n = omega arith in
    let rest : n ≡ n - suc k + suc k = omega arith in
    ap (λ (t : ℕ). sum t u) all
    ∙ sum_split (suc k) n u
    ∙ ap₂ ◌+ℤ◌ (sum_none (suc k) u (λ i hi. none_right (f i) _ (zg (n + k - i) (omega arith))))
    (sum_cong n (λ i. u (suc k + i)) v (λ i hi. ap (λ (j : ℕ). f (suc k + i) *ℤ g j) (omega arith)))
    ∙ +ℤ_idl (sum n v)
    ∙ ap (λ (t : ℕ). sum t v) rest
    ∙ sum_past (n - suc k) (suc k) v (λ i hi. none_left _ (g (n - suc i)) (zf (suc k + i) (omega arith)))

pub coef_conv :
    (n : ℕ) (a b : List ℤ) → length a ≤ n → length b ≤ n → (k : ℕ) → k < n →
    coef n a b k ≡ conv (at a) (at b) k -ℤ conv (at a) (at b) (n + k)
unfolding coef conv
coef_conv n a b la lb k h = ap (λ z. conv (at a) (at b) k -ℤ z) (sym (conv_fold n (at a) (at b) (past a la) (past b lb) k h))
  where
    past : (c : List ℤ) → length c ≤ n → Degree n (at c)
    past c lc i hi = get_or-eq_default c (pos 0) (omega arith)

-- ---- eight terms at a time
module _ (g R : ℕ → ℤ) (back : (j : ℕ) → R (8 + j) ≡ g j) where
  pub window_past : Degree 16 g → (f : ℕ → ℤ) (t : ℕ) → window f R (24 + t) ≡ pos 0
  unfolding window
  window_past zg f t =
      sum_none 8 _ (λ i h.
      let e : 24 + t + 8 - i ≡ 8 + (24 + t - i) = omega arith in
      none_right (f i) _ (ap R e ∙ back (24 + t - i) ∙ zg (24 + t - i) (omega arith)))

  module _ (front : (i : ℕ) → i < 8 → R i ≡ pos 0) (f : ℕ → ℤ) where
    -- f g at t by what R holds
    abbrev term : ℕ → ℕ → ℤ
    term t i = f i *ℤ R (t + 8 - i)

    in_padded : (t : ℕ) → conv f g t ≡ sum (suc t) (term t)
    unfolding conv
    in_padded t =
        sum_cong (suc t) _ _ (λ i h.
        let e : t + 8 - i ≡ 8 + (t - i) = omega arith in
        ap (λ z. f i *ℤ z) (sym (ap R e ∙ back (t - i))))

    none_late : (t i : ℕ) → suc t ≤ i → term t i ≡ pos 0
    none_late t i h = none_right (f i) _ (front (t + 8 - i) (omega arith))

    pub window_first : (t : ℕ) → t < 8 → conv f g t ≡ window f R t
    unfolding window
    window_first t h =
        let e : 8 ≡ suc t + (7 - t) = omega arith in
        in_padded t ∙ sym (ap (λ (n : ℕ). sum n (term t)) e ∙ sum_past (suc t) (7 - t) (term t) (none_late t))

    pub window_both : Degree 16 f → (t : ℕ) → conv f g (8 + t) ≡ window f R (8 + t) +ℤ window (high 8 f) R t
    unfolding window
    window_both zf t =
        let u = term (8 + t) in
        let e : suc (8 + t) + 16 ≡ 16 + suc (8 + t) = omega arith in
        in_padded (8 + t)
        ∙ sym (sum_past (suc (8 + t)) 16 u (none_late (8 + t)))
        ∙ ap (λ (n : ℕ). sum n u) e
        ∙ sum_past 16 (suc (8 + t)) u (λ i h. none_left _ (R (8 + t + 8 - i)) (zf i h))
        ∙ sum_split 8 8 u
        ∙ ap (λ z. sum 8 u +ℤ z) (sum_cong 8 _ _ (λ i h.
        let d : 8 + t + 8 - (8 + i) ≡ t + 8 - i = omega arith in
        ap (λ (j : ℕ). f (8 + i) *ℤ R j) d))
