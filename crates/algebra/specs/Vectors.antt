-- Document 01, "Ring and sampling" and "Steps": products of vectors and matrices of polynomials, modulo m.
-- A vector is a flat list of l polynomials, a matrix one of l rows of l polynomials; secrets are whole numbers.
use Rattle.std.specs.Prelude.{ℕ, ◌+◌, ◌*◌, Bool, true, false, List, ℤ}
use Rattle.algebra.specs.Ring.{inner, nat, residues, poly, blocks}

-- the inner product of a and s modulo m
unfoldable pub inner_mod : ℕ → ℕ → List ℕ → List ℤ → List ℕ
inner_mod m l a s = residues m (inner 256 l (λ i. nat (poly a i)) (λ i. poly s i))

-- the product of a matrix and s, modulo 8192, where M i j is the entry in row i and column j: its polynomial i, and the whole
unfoldable pub matrix_row : ℕ → (ℕ → ℕ → List ℕ) → List ℤ → ℕ → List ℕ
matrix_row l M s i = residues 8192 (inner 256 l (λ j. nat (M i j)) (λ j. poly s j))

unfoldable pub matrix_vector : ℕ → (ℕ → ℕ → List ℕ) → List ℤ → List ℕ
matrix_vector l M s = blocks l (matrix_row l M s)

-- the entry in row i and column j of the flat list A
abbrev pub entry : ℕ → List ℕ → ℕ → ℕ → List ℕ
entry l A i j = poly A (l * i + j)

-- the matrix, or where the flag is set the transposed one, by row and column
abbrev pub side : Bool → ℕ → List ℕ → ℕ → ℕ → List ℕ
side false l A i j = entry l A i j
side true l A i j = entry l A j i
