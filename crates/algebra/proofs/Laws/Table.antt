-- A coefficient of the ring product is one sum of n terms: the scalar product of a with a part of the doubled table of b.
use Rattle.std.specs.Prelude.{ℕ, suc, ◌+◌, ◌-◌, ◌<◌, ◌≤◌, List, ◌≡◌, refl, ℤ, pos, neg_ℤ, ◌+ℤ◌, ◌*ℤ◌, take, drop}
use Rattle.std.proofs.Common.{sym, ◌∙◌, ap, ap₂, arith, get_or-take, get_or-drop, lt-ltb, le-ltb}
use Rattle.lists.proofs.Laws.Lists.{from_at}
use Rattle.algebra.specs.Integers.{sum}
use Rattle.algebra.specs.Ring.{at, coef}
use Rattle.algebra.specs.Columns.{doubled, table, dot}
use Rattle.algebra.proofs.Laws.Whole.{mul_negℤ}
use Rattle.algebra.proofs.Laws.Sums.{sum_cong, sum_split, sum_neg}

pub doubled_low : (n : ℕ) (f : ℕ → ℤ) (j : ℕ) → j < n → doubled n f j ≡ f (n - suc j)
unfolding doubled
doubled_low n f j h = rw (lt-ltb j n h)

pub doubled_high : (n : ℕ) (f : ℕ → ℤ) (j : ℕ) → n ≤ j → doubled n f j ≡ neg_ℤ (f (n + n - suc j))
unfolding doubled
doubled_high n f j h = rw (le-ltb j n h)

pub coef_doubled :
    (n : ℕ) (a b : List ℤ) (k : ℕ) → k < n → coef n a b k ≡ sum n (λ i. at a i *ℤ doubled n (at b) (n - suc k + i))
unfolding coef
coef_doubled n a b k h =
    let F : ℕ → ℤ = λ i. at a i *ℤ doubled n (at b) (n - suc k + i) in
    let all : n ≡ suc k + (n - suc k) = omega arith in
    ap₂ ◌+ℤ◌
    (sum_cong (suc k) _ F (λ i hi.
    let e : n - suc (n - suc k + i) ≡ k - i = omega arith in
    ap (λ z. at a i *ℤ z) (sym (doubled_low n (at b) (n - suc k + i) (omega arith) ∙ ap (at b) e))))
    (sum_neg (n - suc k) _ ∙ sum_cong (n - suc k) _ (λ i. F (suc k + i)) (λ i hi.
    let e : n + n - suc (n - suc k + (suc k + i)) ≡ n - suc i = omega arith in
    sym (mul_negℤ (at a (suc k + i)) (at b (n - suc i)))
    ∙ ap (λ z. at a (suc k + i) *ℤ z)
    (sym (doubled_high n (at b) (n - suc k + (suc k + i)) (omega arith) ∙ ap (λ (j : ℕ). neg_ℤ (at b j)) e))))
    ∙ sym (ap (λ (t : ℕ). sum t F) all ∙ sum_split (suc k) (n - suc k) F)

pub coef_table : (n : ℕ) (a b : List ℤ) (k : ℕ) → k < n → coef n a b k ≡ dot n a (take n (drop (n - suc k) (table n b)))
unfolding dot table
coef_table n a b k h =
    coef_doubled n a b k h
    ∙ sum_cong n _ _ (λ i hi. rw (get_or-take, get_or-drop, from_at (n + n) (doubled n (at b)) (pos 0) (n - suc k + i) (omega arith)) refl)
