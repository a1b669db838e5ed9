-- What the inner functions require of their arguments.
use Rattle.std.specs.Prelude.{ℕ, ◌^◌, ◌<◌, ◌≡◌}
use Rattle.std.specs.Int.Count.{count_trailing_zeros}

-- `recon_into`: a step that is a power of two, and an output as long as w
pub record ReconLengths (g w out : ℕ) : Type 0 where
  pub zeros : count_trailing_zeros 16 g < 16
  pub power : g ≡ 2 ^ count_trailing_zeros 16 g
  pub out_long : out ≡ w

-- `recover_into`: data and an output as long as v
pub record RecoverLengths (v d out : ℕ) : Type 0 where
  pub numbers : d ≡ v
  pub out_long : out ≡ v
