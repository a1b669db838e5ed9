-- Document 02, A5: "the largest size of a noise coefficient".
use Rattle.std.specs.Prelude.{ℕ, max, List, [], ◌∷◌, ℤ, unsigned_abs}

-- the norm of whole numbers: their largest magnitude
unfoldable pub norm : List ℤ → ℕ
norm [] = 0
norm (z ∷ zs) = max (unsigned_abs z) (norm zs)
