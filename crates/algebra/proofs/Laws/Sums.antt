-- Laws of sums by a count.
use Rattle.std.specs.Prelude.{ℕ, zero, suc, ◌+◌, ◌-◌, ◌<◌, ◌≤◌, ◌≡◌, refl, ℤ, pos, neg_ℤ, ◌+ℤ◌}
use Rattle.std.proofs.Common.{sym, ◌∙◌, ap, ap₂, add-zero, add-suc, add-one, arith}
use Rattle.std.proofs.Math.Nat.{suc-sub-suc, sub-zero}
use Rattle.std.proofs.Math.IntN.{+ℤ_assoc, +ℤ_comm, +ℤ_idr, neg_ℤ-+ℤ}
use Rattle.algebra.specs.Integers.{sum}
use Rattle.algebra.proofs.Laws.Whole.{add_swapℤ}

-- one term more
pub sum_next : (m : ℕ) (f : ℕ → ℤ) → sum (m + 1) f ≡ sum m f +ℤ f m
unfolding sum
sum_next m f = rw add-one

pub sum_cong : (m : ℕ) (f g : ℕ → ℤ) → ((i : ℕ) → i < m → f i ≡ g i) → sum m f ≡ sum m g
unfolding sum
sum_cong zero f g e = refl
sum_cong (suc m) f g e = ap₂ ◌+ℤ◌ (sum_cong m f g (λ i h. e i (omega arith))) (e m (omega arith))

pub sum_none : (m : ℕ) (f : ℕ → ℤ) → ((i : ℕ) → i < m → f i ≡ pos 0) → sum m f ≡ pos 0
unfolding sum
sum_none zero f e = refl
sum_none (suc m) f e = ap₂ ◌+ℤ◌ (sum_none m f (λ i h. e i (omega arith))) (e m (omega arith))

pub sum_add : (m : ℕ) (f g : ℕ → ℤ) → sum m (λ i. f i +ℤ g i) ≡ sum m f +ℤ sum m g
unfolding sum
sum_add zero f g = refl
sum_add (suc m) f g = ap (λ z. z +ℤ (f m +ℤ g m)) (sum_add m f g) ∙ add_swapℤ (sum m f) (sum m g) (f m) (g m)

-- the first term apart
pub sum_front : (m : ℕ) (f : ℕ → ℤ) → sum (suc m) f ≡ f 0 +ℤ sum m (λ i. f (suc i))
unfolding sum
sum_front zero f = +ℤ_comm (pos 0) (f 0)
sum_front (suc m) f = ap (λ z. z +ℤ f (suc m)) (sum_front m f) ∙ +ℤ_assoc (f 0) (sum m (λ i. f (suc i))) (f (suc m))

-- the first m terms apart
pub sum_split : (m r : ℕ) (f : ℕ → ℤ) → sum (m + r) f ≡ sum m f +ℤ sum r (λ i. f (m + i))
unfolding sum
sum_split m zero f = rw add-zero (sym (+ℤ_idr (sum m f)))
sum_split m (suc r) f =
    rw add-suc (ap (λ z. z +ℤ f (m + r)) (sum_split m r f) ∙ +ℤ_assoc (sum m f) (sum r (λ i. f (m + i))) (f (m + r)))

-- no term from m on
pub sum_past : (m r : ℕ) (f : ℕ → ℤ) → ((i : ℕ) → m ≤ i → f i ≡ pos 0) → sum (m + r) f ≡ sum m f
sum_past m r f e =
    sum_split m r f ∙ ap (λ z. sum m f +ℤ z) (sum_none r (λ i. f (m + i)) (λ i h. e (m + i) (omega arith))) ∙ +ℤ_idr (sum m f)

-- the last term first
pub sum_reverse : (m : ℕ) (f : ℕ → ℤ) → sum m f ≡ sum m (λ i. f (m - suc i))
unfolding sum
sum_reverse zero f = refl
sum_reverse (suc m) f =
    ap (λ z. z +ℤ f m) (sum_reverse m f) ∙ +ℤ_comm (sum m (λ i. f (m - suc i))) (f m)
    ∙ sym (sum_front m (λ i. f (suc m - suc i)) ∙ simp (suc-sub-suc, suc-sub-suc m 0, sub-zero))

pub sum_neg : (m : ℕ) (f : ℕ → ℤ) → neg_ℤ (sum m f) ≡ sum m (λ i. neg_ℤ (f i))
unfolding sum
sum_neg zero f = refl
sum_neg (suc m) f = neg_ℤ-+ℤ (sum m f) (f m) ∙ ap (λ z. z +ℤ neg_ℤ (f m)) (sum_neg m f)
