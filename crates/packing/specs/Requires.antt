-- What the inner functions require of their arguments.
use Rattle.std.specs.Prelude.{ℕ, ◌*◌, ◌%◌, ◌≤◌, ◌≡◌}

-- n numbers of w bits, 1 to 16, fill m bytes, and these are in fours
pub record Fills (w n m : ℕ) : Type 0 where
  pub least : 1 ≤ w
  pub most : w ≤ 16
  pub fills : w * n ≡ 8 * m
  pub fours : m % 4 ≡ 0
