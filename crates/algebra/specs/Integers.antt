-- Whole numbers: how far they lie above and below zero, residues and quotients, sums by a count, and numbers that are the same modulo m.
use Rattle.std.specs.Prelude.{ℕ, zero, suc, ◌+◌, ◌*◌, ◌-◌, ◌/◌, ◌%◌, ◌≡◌, ℤ, pos, negsuc, ◌+ℤ◌}

-- z is up z - dn z, one of which is 0
abbrev pub up : ℤ → ℕ
up (pos n) = n
up (negsuc n) = 0

abbrev pub dn : ℤ → ℕ
dn (pos n) = 0
dn (negsuc n) = suc n

-- z modulo m, from 0 up to m - 1
abbrev pub modℤ : ℤ → ℕ → ℕ
modℤ (pos a) m = a % m
modℤ (negsuc a) m = m - 1 - a % m

-- z / m, rounded down
abbrev pub quotℤ : ℤ → ℕ → ℤ
quotℤ (pos a) m = pos (a / m)
quotℤ (negsuc a) m = negsuc (a / m)

-- f 0 + f 1 + .. + f (m - 1)
unfoldable pub sum : ℕ → (ℕ → ℤ) → ℤ
sum zero f = pos 0
sum (suc m) f = sum m f +ℤ f m

-- x and y differ by a multiple of m
pub record Same (m : ℕ) (x y : ℤ) : Type 0 where
  pub less : ℕ
  pub more : ℕ
  pub eq : up x + dn y + m * less ≡ up y + dn x + m * more
