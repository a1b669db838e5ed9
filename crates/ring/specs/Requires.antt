-- What the inner functions require of their arguments.
use Rattle.std.specs.Prelude.{◌≡◌, ℕ}

-- what `mul_into` requires of the lengths of its factors and of its output
pub record Factors (a b product : ℕ) : Type 0 where
  pub first : a ≡ 256
  pub second : b ≡ 256
  pub fits : product ≡ 256
