-- How large sums, products and the noise can be.
use Rattle.std.specs.Prelude.{◌≡◌, ℕ, zero, suc, ◌+◌, ◌-◌, ◌*◌, ◌<◌, ◌≤◌, List, [], ◌∷◌, length, ℤ, pos, negsuc, ◌+ℤ◌, ◌-ℤ◌, ◌*ℤ◌, neg_ℤ, unsigned_abs}
use Rattle.std.proofs.Math.Path.{ap}
use Rattle.std.proofs.Common.{◌∙◌, mul-le-mul}
use Rattle.std.proofs.Math.Nat.{add-mul}
use native.Mathlib.Omega.{arith}
use Rattle.algebra.specs.Integers.{up, dn, sum}
use Rattle.algebra.specs.Ring.{at, coef, inner}
use Rattle.algebra.proofs.Laws.Whole.{add_split, up_mul, dn_mul, up_neg, dn_neg}
use Rattle.algebra.proofs.Laws.Product.{at_inner}
use Rattle.noise.specs.Noise.{Lies, transposed, e, e'}
use Rattle.noise.proofs.Laws.Errors.{one_sign}
use Rattle.noise.proofs.Laws.Range.{errors_range}
use Rattle.margin_noise.specs.Norm.{norm}
use Rattle.margin_noise.specs.Requires.{Small}

-- a magnitude is how far a number lies above zero or below it
pub magnitude_is : (z : ℤ) → unsigned_abs z ≡ up z + dn z
magnitude_is (pos n) = omega arith
magnitude_is (negsuc n) = omega arith

add_magnitude : (x y : ℤ) → unsigned_abs (x +ℤ y) ≤ unsigned_abs x + unsigned_abs y
add_magnitude x y = omega (arith, magnitude_is x, magnitude_is y, magnitude_is (x +ℤ y), one_sign (x +ℤ y), add_split x y)

neg_magnitude : (x : ℤ) → unsigned_abs (neg_ℤ x) ≡ unsigned_abs x
neg_magnitude x = omega (arith, magnitude_is x, magnitude_is (neg_ℤ x), up_neg x, dn_neg x)

sub_magnitude : (x y : ℤ) → unsigned_abs (x -ℤ y) ≤ unsigned_abs x + unsigned_abs y
sub_magnitude x y = omega (arith, add_magnitude x (neg_ℤ y), neg_magnitude y)

mul_magnitude : (x y : ℤ) → unsigned_abs (x *ℤ y) ≡ unsigned_abs x * unsigned_abs y
mul_magnitude x y = rw (magnitude_is x, magnitude_is y, magnitude_is (x *ℤ y), up_mul x y, dn_mul x y) (omega arith)

sum_magnitude : (m most : ℕ) (f : ℕ → ℤ) → ((i : ℕ) → unsigned_abs (f i) ≤ most) → unsigned_abs (sum m f) ≤ m * most
unfolding sum
sum_magnitude zero most f h = omega arith
sum_magnitude (suc m) most f h = omega (arith, add_magnitude (sum m f) (f m), sum_magnitude m most f h, h m)

module _ (n most most' : ℕ) where
  coef_magnitude : (a b : List ℤ) → Small most a → Small most' b → (k : ℕ) → k < n → unsigned_abs (coef n a b k) ≤ n * (most * most')
  unfolding coef
  coef_magnitude a b p q k h =
      let product : (i j : ℕ) → unsigned_abs (at a i *ℤ at b j) ≤ most * most' = λ i j. rw (mul_magnitude (at a i) (at b j)) (mul-le-mul (p i) (q j)) in
      let low : ℕ → ℤ = λ i. at a i *ℤ at b (k - i) in
      let high : ℕ → ℤ = λ i. at a (suc k + i) *ℤ at b (n - suc i) in
      let terms : n ≡ suc k + (n - suc k) = omega arith in
      omega (
        arith,
        ap (λ (t : ℕ). t * (most * most')) terms ∙ add-mul (suc k) (n - suc k) (most * most'),
        sub_magnitude (sum (suc k) low) (sum (n - suc k) high),
        sum_magnitude (suc k) (most * most') low (λ i. product i (k - i)),
        sum_magnitude (n - suc k) (most * most') high (λ i. product (suc k + i) (n - suc i)),
      )

  inner_magnitude :
      (l : ℕ) (a b : ℕ → List ℤ) → ((i : ℕ) → Small most (a i)) → ((i : ℕ) → Small most' (b i)) → (k : ℕ) → k < n →
      unsigned_abs (at (inner n l a b) k) ≤ l * (n * (most * most'))
  inner_magnitude l a b p q k h =
      rw (at_inner n l a b k h) (sum_magnitude l (n * (most * most')) (λ i. coef n (a i) (b i) k) (λ i. coef_magnitude (a i) (b i) (p i) (q i) k h))

-- a number between two bounds; so the magnitude of an error is at most 4, and the noise is bounded by the secrets' coefficients
pub lies_magnitude : {low high most : ℕ} → low ≤ most → high ≤ most → (z : ℤ) → Lies low high z → unsigned_abs z ≤ most
lies_magnitude p q (pos n) h = omega (arith, h.above)
lies_magnitude p q (negsuc n) h = omega (arith, h.below)

pub noise_bound :
    (n l most : ℕ) (A : ℕ → ℕ → List ℕ) (s s' : ℕ → List ℤ) → ((i : ℕ) → Small most (s i)) → ((i : ℕ) → Small most (s' i)) →
    (k : ℕ) → k < n → unsigned_abs (at (inner n l (e' n l A s s') s) k -ℤ at (inner n l (e n l A s s') s') k) ≤ 2 * (l * (n * (4 * most)))
noise_bound n l most A s s' p q k h =
    let small : (z : ℤ) → Lies 3 4 z → unsigned_abs z ≤ 4 = lies_magnitude (omega arith) (omega arith) in
    omega (
      arith,
      sub_magnitude (at (inner n l (e' n l A s s') s) k) (at (inner n l (e n l A s s') s') k),
      inner_magnitude n 4 most l (e' n l A s s') s (λ i j. small _ (errors_range n l A s' i j)) p k h,
      inner_magnitude n 4 most l (e n l A s s') s' (λ i j. small _ (errors_range n l (transposed A) s i j)) q k h,
    )

-- the norm of bounded numbers, and no magnitude is larger than the norm
pub norm_bound : (most : ℕ) (zs : List ℤ) → ((k : ℕ) → k < length zs → unsigned_abs (at zs k) ≤ most) → norm zs ≤ most
unfolding norm
norm_bound most [] h = omega arith
norm_bound most (z ∷ zs) h = omega (arith, h 0 (omega arith), norm_bound most zs (λ k hk. h (suc k) (omega arith)))

pub no_larger : (zs : List ℤ) (k : ℕ) → k < length zs → unsigned_abs (at zs k) ≤ norm zs
unfolding norm
no_larger [] k h = absurd (omega arith)
no_larger (z ∷ zs) zero h = omega arith
no_larger (z ∷ zs) (suc k) h = omega (arith, no_larger zs k (omega arith))
