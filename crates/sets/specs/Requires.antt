-- What functions require of the parameters of a set.
use Rattle.std.specs.Prelude.{◌+◌, ◌-◌, ◌*◌, ◌/◌, ◌%◌, ◌^◌, ◌≤◌, ◌<◌, ◌≡◌}
use Rattle.std.specs.Int.Count.{count_trailing_zeros}
use Rattle.sets.specs.declared.Params.{Params}
use Rattle.sets.specs.Sets.{params_of, added}

-- how the parameters of a set depend on each other
pub record Sums (p : Params) : Type 0 where
  pub step_some : 0 < p.g
  pub step_even : p.g % 2 ≡ 0
  pub step_is : p.g * 2 ^ p.bits ≡ 1024
  pub t_is : p.g * p.t ≡ 512
  pub margin_is : p.margin ≡ 256 - p.g / 2
  pub added_is : added p + p.g / 2 ≡ 256
  pub sk_is : p.sk ≡ 416 * p.l + (p.pk + 64)

-- one of the three sets: some polynomials and no more than four; a secret from pieces of whole bits; the step of reconciliation, a power of two; sizes
pub record IsSet (p : Params) : Type 0 where
  pub some : 0 < p.l
  pub few : p.l ≤ 4
  pub mu_some : 0 < p.mu
  pub mu_few : p.mu ≤ 16
  pub mu_even : p.mu % 2 ≡ 0
  pub seed_few : 32 * p.l * p.mu ≤ 768
  pub bits_some : 1 ≤ p.bits
  pub bits_few : p.bits ≤ 6
  pub zeros : count_trailing_zeros 16 p.g < 16
  pub power : p.g ≡ 2 ^ count_trailing_zeros 16 p.g
  pub pk_is : p.pk ≡ 320 * p.l + 32
  pub ct_is : p.ct ≡ 320 * p.l + 32 * p.bits
  pub sums : Sums p

-- a set's own number: one byte, not 0, and it means that set
pub record Numbered (p : Params) : Type 0 where
  pub some : 0 < p.number
  pub byte : p.number < 256
  pub means : params_of p.number ≡ p
