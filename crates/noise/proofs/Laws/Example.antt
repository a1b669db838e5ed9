-- The errors, the noise and its bounds on a small example, n = 4 and l = 2, by computing. The figures are those that the oracle's own formula
-- gives (oracle/selftest.py).
use Rattle.std.specs.Prelude.{ℕ, zero, suc, List, [], ◌∷◌, ◌≡◌, refl, ℤ, pos, neg_ℤ}
use Rattle.std.proofs.Common.{arith}
use Rattle.lists.specs.Lists.{from}
use Rattle.algebra.specs.Integers.{sum}
use Rattle.algebra.specs.Ring.{coef, inner}
use Rattle.noise.specs.Noise.{times, errors, e, e', noise, Within}

abbrev neg : ℕ → ℤ
neg n = neg_ℤ (pos n)

-- four coefficients
abbrev four : {C : Type 0} → C → C → C → C → List C
four a b c d = a ∷ b ∷ c ∷ d ∷ []

-- the matrix by row and column, and the secrets by polynomial
abbrev A : ℕ → ℕ → List ℕ
A zero zero = four 3168 1 3400 2
A zero (suc j) = four 4095 3144 5 6450
A (suc i) zero = four 7776 2581 8190 0
A (suc i) (suc j) = four 8191 7627 5593 4096

abbrev s : ℕ → List ℤ
s zero = four (neg 5) (pos 5) (pos 3) (pos 2)
s (suc i) = four (pos 0) (pos 2) (neg 4) (neg 4)

abbrev s' : ℕ → List ℤ
s' zero = four (neg 1) (pos 2) (neg 4) (pos 5)
s' (suc i) = four (pos 0) (pos 0) (neg 5) (neg 2)

-- N, and with e of keygen and e' of encryption what the definitions compute
abbrev N : List ℤ
N = four (pos 24) (neg 24) (neg 16) (pos 8)

pub record Computed : Type 0 where
  pub e_is : from 2 (e 4 2 A s s') ≡ four (pos 0) (pos 3) (neg 3) (neg 1) ∷ four (pos 4) (pos 3) (neg 2) (pos 1) ∷ []
  pub e'_is : from 2 (e' 4 2 A s s') ≡ four (pos 0) (neg 3) (neg 1) (pos 4) ∷ four (neg 2) (pos 1) (neg 1) (neg 3) ∷ []
  pub N_is : noise 4 2 A s s' ≡ N
  -- 24 is 8 × 3: N lies within the bounds of a margin of 3, and not of 2
  pub within : Within 3 (noise 4 2 A s s')
  pub beyond : Within 2 (noise 4 2 A s s') → ⊥

pub computed : Computed
unfolding noise errors times inner coef sum from
computed = record {
  e_is = refl;
  e'_is = refl;
  N_is = refl;
  within = within;
  beyond = λ h. absurd (omega (arith, (h 0 (omega arith)).above));
}
  where
    within : Within 3 (noise 4 2 A s s')
    within zero h = record { below = omega arith; above = omega arith }
    within (suc zero) h = record { below = omega arith; above = omega arith }
    within (suc (suc zero)) h = record { below = omega arith; above = omega arith }
    within (suc (suc (suc zero))) h = record { below = omega arith; above = omega arith }
    within (suc (suc (suc (suc k)))) h = absurd (omega arith)
