-- What inner functions require.
use Rattle.std.specs.Prelude.{ℕ, ◌+◌, ◌<◌, ◌≤◌}

-- the figures of a line, and the places for its text: up to 27 from `at` on
pub record LineLengths (margin cases norm wrong rest at long : ℕ) : Type 0 where
  pub margin_few : margin ≤ 256
  pub cases_few : cases ≤ 4096
  pub norm_few : norm < 65536
  pub wrong_few : wrong < 10000000
  pub rest_few : rest < 96
  pub fits : at + 27 ≤ long
