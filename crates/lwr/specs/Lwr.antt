-- Document 01, "Steps": b of making keys and b' of encryption.
use Rattle.std.specs.Prelude.{ℕ, Bool, List, map, ℤ}
use Rattle.rounding.specs.Rounding.{round}
use Rattle.algebra.specs.Vectors.{side, matrix_vector}
use Rattle.sampling.specs.Sampling.{matrix}

-- the rounded product of the matrix that a seed gives and s: of the matrix itself b', of the transposed one b
unfoldable pub rounded_vector : Bool → ℕ → List ℕ → List ℤ → List ℕ
rounded_vector transposed l seed s = map round (matrix_vector l (side transposed l (matrix l seed)) s)
