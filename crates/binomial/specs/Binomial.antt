-- Document 02, request A4: the weight of a number of bits in two pieces, which is a coefficient of a secret.
use Rattle.std.specs.Prelude.{ℕ, ◌/◌, ◌%◌, ◌^◌, ℤ, pos, ◌-ℤ◌}
use Rattle.std.specs.Int.Count.{ones}

-- of a number of 2 h bits the ones of its h low bits less those above them
abbrev pub weighed : ℕ → ℕ → ℤ
weighed h x = pos (ones (x % 2 ^ h)) -ℤ pos (ones (x / 2 ^ h))
