-- Laws of the parameter sets: every number that Q1 takes means one of the three sets.
use Rattle.std.specs.Prelude.{ℕ, zero, suc, ◌*◌, ◌/◌, ◌≤◌, ◌<◌, Bool, true, false, cond, ◌||◌, ◌≡◌, refl, eqb, ltb}
use Rattle.std.proofs.lemmas.Bool.{false≢true}
use Rattle.std.proofs.Common.{arith, rules, ne_eqb}
use Rattle.std.specs.Int.Count.{count_trailing_zeros}
use Rattle.sets.specs.declared.Params.{Params}
use Rattle.sets.specs.Sets.{light_saber, saber, fire_saber, no_set, params_of, known}
use Rattle.sets.specs.Requires.{IsSet, Numbered}

pub unknown_from : (n : ℕ) → 4 ≤ n → params_of n ≡ no_set
unfolding params_of
unknown_from n h =
    rw (ne_eqb n 0 (λ e. omega arith), ne_eqb n 1 (λ e. omega arith), ne_eqb n 2 (λ e. omega arith), ne_eqb n 3 (λ e. omega arith))

-- what holds of the three sets and of no set holds of every number
every_number : (P : Params → Type 0) → P light_saber → P saber → P fire_saber → P no_set → (set : ℕ) → P (params_of set)
unfolding params_of
every_number P light mid fire none set = go (eqb set 1) (eqb set 0 || eqb set 2) (eqb set 3)
  where
    go : (x y z : Bool) → P (cond x light_saber (cond y saber (cond z fire_saber no_set)))
    go true y z = light
    go false true z = mid
    go false false true = fire
    go false false false = none

-- what holds of the three sets holds of every number that Q1 takes
each_set : (P : Params → Type 0) → P light_saber → P saber → P fire_saber → (set : ℕ) → known set ≡ true → P (params_of set)
each_set P light mid fire =
    every_number (λ p. ltb 0 p.l ≡ true → P p) (λ _. light) (λ _. mid) (λ _. fire) (λ e. absurd (false≢true e))

pub is_set_lem : (set : ℕ) → known set ≡ true → IsSet (params_of set)
unfolding count_trailing_zeros
is_set_lem = each_set IsSet (search rules) (search rules) (search rules)

-- every set has its own number: the one that was asked for, unless that is 0, which means the default
pub numbered : (set : ℕ) → known set ≡ true → Numbered (params_of set)
unfolding params_of
numbered = each_set Numbered (search rules) (search rules) (search rules)

pub own_number : (set : ℕ) → 0 < set → known set ≡ true → (params_of set).number ≡ set
unfolding params_of
own_number zero h k = absurd (omega arith)
own_number (suc zero) h k = refl
own_number (suc (suc zero)) h k = refl
own_number (suc (suc (suc zero))) h k = refl
own_number (suc (suc (suc (suc n)))) h k = absurd (false≢true (rw (unknown_from (suc (suc (suc (suc n)))) (omega arith)) at k))

-- bounds that hold of no set too
pub few_polynomials : (set : ℕ) {p : Params} → p ≡ params_of set → p.l ≤ 4
few_polynomials set is = rw is (every_number (λ p. p.l ≤ 4) (omega arith) (omega arith) (omega arith) (omega arith) set)

pub few_bytes : (set : ℕ) {p : Params} → p ≡ params_of set → p.ct ≤ 1472
few_bytes set is = rw is (every_number (λ p. p.ct ≤ 1472) (omega arith) (omega arith) (omega arith) (omega arith) set)

pub data_bound : (set : ℕ) → 2 * (params_of set).t ≡ 1024 / (params_of set).g
data_bound = every_number (λ p. 2 * p.t ≡ 1024 / p.g) refl refl refl refl
