-- What the inner functions require of their arguments.
use Rattle.std.specs.Prelude.{ℕ, ◌*◌, ◌%◌, ◌<◌, ◌≤◌, ◌≡◌}
use Rattle.packing.specs.Requires.{Fills}

-- `matrix_into`: no more rows than its buffer has bytes for, and an output of all coefficients
pub record MatrixLengths (l out : ℕ) : Type 0 where
  pub few : l ≤ 4
  pub out_long : out ≡ 256 * l * l

-- mu bits, up to 16, are two pieces of one width
pub record Pieces (mu : ℕ) : Type 0 where
  pub least : 0 < mu
  pub most : mu ≤ 16
  pub even : mu % 2 ≡ 0

-- `sample_into`: numbers of mu bits in two pieces fill the bytes, one for each of up to 1024 outputs
pub record SampleLengths (mu bytes out : ℕ) : Type 0 where
  pub cut : Fills mu out bytes
  pub even : mu % 2 ≡ 0
  pub few : out ≤ 1024

-- `secret_into`: no more polynomials and bytes than its buffers can hold, and an output of all coefficients
pub record SecretLengths (l mu out : ℕ) : Type 0 where
  pub pieces : Pieces mu
  pub few : l ≤ 4
  pub bytes : 32 * l * mu ≤ 768
  pub out_long : out ≡ 256 * l
