-- The ring product as the action of a list of coefficients on functions from an exponent to its coefficient, of which the exponents
-- from n up are never looked at.
use Prim.Native.Nat.{ℕ, zero, suc, ◌+◌, ◌-◌, ◌<◌, ◌≤◌}
use mathlib.Core.List.{List, [], ◌∷◌}
use Rattle.std.specs.Prelude.{◌≡◌, ℤ, pos, neg_ℤ, ◌*ℤ◌, length}
use Rattle.std.proofs.Math.Path.{refl, sym, ap₂, fun_ext}
use Rattle.std.proofs.Common.{◌∙◌, ap, arith}
use Rattle.std.proofs.Math.IntN.{◌+ℤ◌, +ℤ_assoc, +ℤ_comm, +ℤ_idr, *ℤ-zero, zero-*ℤ, neg_ℤ-+ℤ}
use Rattle.algebra.specs.Integers.{sum}
use Rattle.algebra.specs.Ring.{at, coef}
use Rattle.algebra.proofs.Laws.Whole.{mul_addℤ, mul_negℤ, mul_leftℤ}
use Rattle.algebra.proofs.Laws.Sums.{sum_cong, sum_none, sum_front, sum_neg}
use Rattle.algebra.specs.Columns.{doubled}
use Rattle.algebra.proofs.Laws.Table.{doubled_low, doubled_high, coef_doubled}
use Rattle.algebra.proofs.Laws.Module.{Ops, Laws, act, acts}

-- X times f, where X^n = -1
abbrev pub shift : ℕ → (ℕ → ℤ) → ℕ → ℤ
shift n f zero = neg_ℤ (f (n - 1))
shift n f (suc k) = f k

abbrev pub ops : ℕ → Ops ℤ (ℕ → ℤ)
ops n = record { add = λ f g k. f k +ℤ g k; none = λ k. pos 0; scale = λ c f k. c *ℤ f k; X = shift n }

pub laws : (n : ℕ) → Laws (ops n)
laws n = record {
  add_assoc = λ u v w. fun_ext (λ k. +ℤ_assoc (u k) (v k) (w k));
  add_comm = λ u v. fun_ext (λ k. +ℤ_comm (u k) (v k));
  add_none = λ u. fun_ext (λ k. +ℤ_idr (u k));
  scale_add = λ c u v. fun_ext (λ k. mul_addℤ c (u k) (v k));
  scale_none = λ c. fun_ext (λ k. *ℤ-zero c);
  scale_swap = λ c d u. fun_ext (λ k. mul_leftℤ c d (u k));
  X_add = λ u v. fun_ext (X_add u v);
  X_none = fun_ext X_none;
  X_scale = λ c u. fun_ext (X_scale c u);
}
  where
    X_add : (u v : ℕ → ℤ) (k : ℕ) → shift n (λ j. u j +ℤ v j) k ≡ shift n u k +ℤ shift n v k
    X_add u v zero = neg_ℤ-+ℤ (u (n - 1)) (v (n - 1))
    X_add u v (suc k) = refl

    X_none : (k : ℕ) → shift n (λ j. pos 0) k ≡ pos 0
    X_none zero = refl
    X_none (suc k) = refl

    X_scale : (c : ℤ) (u : ℕ → ℤ) (k : ℕ) → shift n (λ j. c *ℤ u j) k ≡ c *ℤ shift n u k
    X_scale c u zero = sym (mul_negℤ c (u (n - 1)))
    X_scale c u (suc k) = refl

module _ (n : ℕ) where
  -- what stands at n and above does not count
  shift_below : (u v : ℕ → ℤ) → ((k : ℕ) → k < n → u k ≡ v k) → (k : ℕ) → k < n → shift n u k ≡ shift n v k
  shift_below u v e zero h = ap neg_ℤ (e (n - 1) (omega arith))
  shift_below u v e (suc k) h = e k (omega arith)

  act_below :
      (a : List ℤ) (u v : ℕ → ℤ) → ((k : ℕ) → k < n → u k ≡ v k) → (k : ℕ) → k < n → act (ops n) a u k ≡ act (ops n) a v k
  unfolding act
  act_below [] u v e k h = refl
  act_below (a ∷ as') u v e k h =
      ap₂ ◌+ℤ◌ (ap (λ z. a *ℤ z) (e k h)) (shift_below (act (ops n) as' u) (act (ops n) as' v) (act_below as' u v e) k h)

  pub acts_below :
      (l : ℕ) (a : ℕ → List ℤ) (u v : ℕ → ℕ → ℤ) → ((i k : ℕ) → k < n → u i k ≡ v i k) →
      (k : ℕ) → k < n → acts (ops n) l a u k ≡ acts (ops n) l a v k
  unfolding acts
  acts_below zero a u v e k h = refl
  acts_below (suc l) a u v e k h = ap₂ ◌+ℤ◌ (acts_below l a u v e k h) (act_below (a l) (u l) (v l) (e l) k h)

  -- X turns the doubled table by one place
  doubled_last : (f : ℕ → ℤ) (k : ℕ) → k < n → f k ≡ doubled n f (n - suc k + 0)
  doubled_last f k h =
      let e : n - suc (n - suc k + 0) ≡ k = omega arith in
      sym (doubled_low n f (n - suc k + 0) (omega arith) ∙ ap f e)

  doubled_turn : (f : ℕ → ℤ) (i : ℕ) → i < n → neg_ℤ (doubled n f (n - suc (n - 1) + i)) ≡ doubled n f (n - 1 + suc i)
  doubled_turn f i h =
      let e : n - suc (n - suc (n - 1) + i) ≡ n + n - suc (n - 1 + suc i) = omega arith in
      ap neg_ℤ (doubled_low n f (n - suc (n - 1) + i) (omega arith) ∙ ap f e) ∙ sym (doubled_high n f (n - 1 + suc i) (omega arith))

  shift_doubled :
      (r : ℕ) (c f : ℕ → ℤ) → r < n → (k : ℕ) → k < n →
      shift n (λ j. sum r (λ i. c i *ℤ doubled n f (n - suc j + i))) k ≡ sum r (λ i. c i *ℤ doubled n f (n - suc k + suc i))
  shift_doubled r c f hr zero h =
      sum_neg r (λ i. c i *ℤ doubled n f (n - suc (n - 1) + i))
      ∙ sum_cong r _ _ (λ i hi.
      sym (mul_negℤ (c i) (doubled n f (n - suc (n - 1) + i))) ∙ ap (λ z. c i *ℤ z) (doubled_turn f i (omega arith)))
  shift_doubled r c f hr (suc k) h =
      sum_cong r _ _ (λ i hi.
      let e : n - suc k + i ≡ n - suc (suc k) + suc i = omega arith in
      ap (λ (j : ℕ). c i *ℤ doubled n f j) e)

  act_doubled :
      (a : List ℤ) (f : ℕ → ℤ) (r : ℕ) → length a ≤ r → r ≤ n → (k : ℕ) → k < n →
      act (ops n) a f k ≡ sum r (λ i. at a i *ℤ doubled n f (n - suc k + i))
  unfolding act
  act_doubled [] f r la hr k h = sym (sum_none r _ (λ i hi. zero-*ℤ (doubled n f (n - suc k + i))))
  act_doubled (a ∷ as') f zero la hr k h = absurd (omega arith)
  act_doubled (a ∷ as') f (suc r) la hr k h =
      ap₂ ◌+ℤ◌ (ap (λ z. a *ℤ z) (doubled_last f k h))
      (shift_below (act (ops n) as' f) _ (act_doubled as' f r (omega arith) (omega arith)) k h ∙ shift_doubled r (at as') f hr k h)
      ∙ sym (sum_front r (λ i. at (a ∷ as') i *ℤ doubled n f (n - suc k + i)))

  -- the action on the coefficients of b has those of the product
  pub act_coef : (a b : List ℤ) → length a ≤ n → (k : ℕ) → k < n → act (ops n) a (at b) k ≡ coef n a b k
  act_coef a b la k h = act_doubled a (at b) n la (omega arith) k h ∙ sym (coef_doubled n a b k h)
