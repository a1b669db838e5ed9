-- Laws of the ring product's call: what is made modulo 65536 and then reduced, and what an answer of 0 gives.
use Rattle.std.specs.Prelude.{◌≡◌, ℕ, ◌%◌, true, ◌⊎◌, List, map, length, ℤ, ◌==◌, refl}
use Rattle.std.proofs.Common.{inl, inr, ⊎_elim, ◌∙◌, ap, arith, Fits, eqb-true}
use Rattle.std.specs.Int.{w16}
use Rattle.lists.proofs.Laws.Booleans.{or_cases}
use Rattle.questions.specs.Answers.{earliest}
use Rattle.questions.specs.Laws.Answers.{all_yes, wrote}
use Rattle.algebra.specs.Ring.{mul, nat, residues}
use Rattle.algebra.proofs.Laws.Reduced.{residues_part}
use Rattle.ring.specs.Products.{product, is_modulus, mul_questions}
use Rattle.ring.specs.Promises.{Multiplied}
use Rattle.ring.specs.Requires.{Factors}

pub moduli : (m : ℕ) → is_modulus m ≡ true → (m ≡ 1024) ⊎ (m ≡ 8192)
moduli m h = ⊎_elim (λ p. inl (eqb-true m 1024 p)) (λ p. inr (eqb-true m 8192 p)) (or_cases (m == 1024) (m == 8192) h)

-- the sums modulo 65536, reduced
pub reduced :
    (m : ℕ) (z : List ℤ) {acc out : List ℕ} → is_modulus m ≡ true → acc ≡ residues 65536 z → out ≡ map (λ x. x % m) acc → out ≡ residues m z
reduced m z h p q =
    q ∙ ap (map (λ x. x % m)) p
    ∙ ⊎_elim (λ e. rw e (residues_part 1024 (omega arith) 64 (omega arith) z)) (λ e. rw e (residues_part 8192 (omega arith) 8 (omega arith) z))
    (moduli m h)

-- an answer of 0 gives the inner functions what they require, and with the work done it is what the call promises
module _ (m : ℕ) (a b out : List ℕ) {r : ℕ} (e : r ≡ earliest (mul_questions m a b (length out))) (z : r ≡ 0) where
  pub mul_modulus : is_modulus m ≡ true
  mul_modulus = (all_yes (mul_questions m a b (length out)) refl e z).0

  pub mul_factors : Factors (length a) (length b) (length out)
  mul_factors =
      let y = all_yes (mul_questions m a b (length out)) refl e z in
      record { first = eqb-true _ _ y.1.0; second = eqb-true _ _ y.1.1.0; fits = eqb-true _ _ y.1.1.1.1.1.0 }

  pub mul_fits : Fits w16 m
  mul_fits = ⊎_elim (λ h. omega arith) (λ h. omega arith) (moduli m mul_modulus)

  pub mul_done : {acc new : List ℕ} → acc ≡ product 65536 a b → new ≡ map (λ x. x % m) acc → Multiplied m a b out 0 new
  unfolding product
  mul_done p q = wrote e z (reduced m (mul 256 (nat a) (nat b)) mul_modulus p q)
