-- What the function requires of its arguments.
use Rattle.std.specs.Prelude.{ℕ, ◌+◌, ◌*◌, ◌/◌, ◌%◌, ◌≤◌, ◌≡◌}

-- whole polynomials of w bits a coefficient, 1 to 16, go to `place` of `out` bytes
pub record PlaceLengths (w coefficients place out : ℕ) : Type 0 where
  pub least : 1 ≤ w
  pub widest : w ≤ 16
  pub polynomials : coefficients % 256 ≡ 0
  pub fits : place + coefficients / 8 * w ≤ out
