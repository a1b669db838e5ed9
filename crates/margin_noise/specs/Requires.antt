-- What the functions require of their arguments.
use Rattle.std.specs.Prelude.{◌≡◌, ℕ, ◌*◌, ◌<◌, ◌≤◌, List, length, ℤ, unsigned_abs}
use Rattle.algebra.specs.Ring.{at}
use Rattle.matrix.specs.Requires.{three_rows, three_rows_work}

-- `product`: two secrets of l polynomials; a buffer for three; scratch for three rows
pub record SecretsScratch (l s t cut work : ℕ) : Type 0 where
  pub few : l ≤ 4
  pub s_long : s ≡ 256 * l
  pub t_long : t ≡ 256 * l
  pub cut_long : three_rows ≤ cut
  pub work_long : three_rows_work ≤ work

-- no coefficient's magnitude is more than `most`
abbrev pub Small : ℕ → List ℤ → Type 0
Small most s = (k : ℕ) → unsigned_abs (at s k) ≤ most

-- `noise_norm`: a packed matrix and two secrets, whose coefficients are small and not too many for the sums
pub record NoiseLengths (l A : ℕ) (s t : List ℤ) : Type 0 where
  pub few : l ≤ 4
  pub matrix_long : A ≡ 416 * (l * l)
  pub s_long : length s ≡ 256 * l
  pub t_long : length t ≡ 256 * l
  pub most : ℕ
  pub s_small : Small most s
  pub t_small : Small most t
  pub sums : 2048 * (l * most) < 32768
