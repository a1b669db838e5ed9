-- Laws of the ring product and the inner product over the whole numbers.
use Prim.Native.Nat.{ℕ, zero, suc, ◌+◌, ◌-◌, ◌<◌, ◌≤◌}
use mathlib.Core.List.{List}
use Rattle.std.specs.Prelude.{◌≡◌, ℤ, pos, ◌*ℤ◌, ◌-ℤ◌, length}
use Rattle.std.proofs.Math.Path.{refl, sym, ap₂}
use Rattle.std.proofs.Common.{◌∙◌, ap, arith, ext_get_or}
use Rattle.std.proofs.Math.IntN.{◌+ℤ◌, *ℤ_comm}
use Rattle.lists.proofs.Laws.Lists.{from_at, length_from, from_cong}
use Rattle.algebra.specs.Integers.{sum}
use Rattle.algebra.specs.Ring.{at, coef, inner}
use Rattle.algebra.specs.Halves.{conv}
use Rattle.algebra.proofs.Laws.Sums.{sum_cong, sum_reverse}
use Rattle.algebra.proofs.Laws.Convolution.{conv_comm}
use Rattle.algebra.proofs.Laws.Module.{acts, adjoint}
use Rattle.algebra.proofs.Laws.Operators.{ops, laws, acts_below, act_coef}

-- the order of the factors does not count
pub coef_comm : (n : ℕ) (a b : List ℤ) (k : ℕ) → k < n → coef n a b k ≡ coef n b a k
unfolding coef conv
coef_comm n a b k h =
    ap₂ ◌-ℤ◌ (ap (λ (f : ℕ → ℤ). f k) (conv_comm (at a) (at b)))
    (sum_reverse (n - suc k) _ ∙ sum_cong (n - suc k) _ (λ i. at b (suc k + i) *ℤ at a (n - suc i)) (λ i hi.
    let p : suc k + (n - suc k - suc i) ≡ n - suc i = omega arith in
    let q : n - suc (n - suc k - suc i) ≡ suc k + i = omega arith in
    rw (p, q) (*ℤ_comm (at a (n - suc i)) (at b (suc k + i)))))

module _ (n : ℕ) where
  module _ (l : ℕ) where
    pub at_inner : (a b : ℕ → List ℤ) (k : ℕ) → k < n → at (inner n l a b) k ≡ sum l (λ i. coef n (a i) (b i) k)
    unfolding inner
    at_inner a b = from_at n (λ k. sum l (λ i. coef n (a i) (b i) k)) (pos 0)

    pub length_inner : (a b : ℕ → List ℤ) → length (inner n l a b) ≡ n
    unfolding inner
    length_inner a b = length_from n (λ k. sum l (λ i. coef n (a i) (b i) k))

    -- only the first l polynomials count
    pub inner_cong :
        (a a' b b' : ℕ → List ℤ) → ((i : ℕ) → i < l → a i ≡ a' i) → ((i : ℕ) → i < l → b i ≡ b' i) →
        inner n l a b ≡ inner n l a' b'
    unfolding inner
    inner_cong a a' b b' p q =
        from_cong n _ _ (λ k h. sum_cong l _ _ (λ i hi. ap₂ (λ (x y : List ℤ). coef n x y k) (p i hi) (q i hi)))

  -- the inner product is the action of one of the vectors
  inner_acts :
      (l : ℕ) (u s : ℕ → List ℤ) → ((i : ℕ) → length (s i) ≤ n) → (k : ℕ) → k < n →
      at (inner n l u s) k ≡ acts (ops n) l s (λ i. at (u i)) k
  unfolding sum acts
  inner_acts l u s ls k h = at_inner l u s k h ∙ go l
    where
      go : (l : ℕ) → sum l (λ i. coef n (u i) (s i) k) ≡ acts (ops n) l s (λ i. at (u i)) k
      go zero = refl
      go (suc l) = ap₂ ◌+ℤ◌ (go l) (coef_comm n (u l) (s l) k h ∙ sym (act_coef n (s l) (u l) (ls l) k h))

  -- ⟨Aᵀ s, s'⟩ = ⟨A s', s⟩
  pub inner_adjoint :
      (l : ℕ) (A : ℕ → ℕ → List ℤ) (s s' : ℕ → List ℤ) → ((i : ℕ) → length (s i) ≤ n) → ((i : ℕ) → length (s' i) ≤ n) →
      inner n l (λ i. inner n l (λ j. A j i) s) s' ≡ inner n l (λ j. inner n l (λ i. A j i) s') s
  inner_adjoint l A s s' ls ls' =
      ext_get_or (pos 0) _ _ (length_inner l Aᵀs s' ∙ sym (length_inner l As' s)) (λ k hk.
      let h : k < n = omega (arith, length_inner l Aᵀs s') in
      inner_acts l Aᵀs s' ls' k h
      ∙ acts_below n l s' _ _ (λ i j hj. inner_acts l (λ r. A r i) s ls j hj) k h
      ∙ ap (λ (f : ℕ → ℤ). f k) (adjoint (laws n) l l s s' (λ j i. at (A j i)))
      ∙ sym (acts_below n l s _ _ (λ j i hi. inner_acts l (λ r. A j r) s' ls' i hi) k h)
      ∙ sym (inner_acts l As' s ls k h))
    where
      Aᵀs : ℕ → List ℤ
      Aᵀs i = inner n l (λ j. A j i) s

      As' : ℕ → List ℤ
      As' j = inner n l (λ i. A j i) s'
