-- What the functions ensure.
use Rattle.std.specs.Prelude.{ℕ, ◌+◌, ◌*◌, List}
use Rattle.algebra.specs.Ring.{inner, nat, residues, poly, blocks}
use Rattle.algebra.specs.Vectors.{side}
use Rattle.packing.specs.Packing.{unpacked}
use Rattle.matrix.specs.declared.Grid.{Grid}
use Rattle.matrix.specs.declared.Matrix.{Matrix}

-- the polynomial in row i and column j of packed ones
abbrev pub polynomial : Grid → ℕ → ℕ → List ℕ
polynomial g i j = poly (unpacked g.width g.packed.now) (g.start + g.column * j + g.row * i)

-- the polynomial in row i and column j of a packed matrix, or of the transposed one
abbrev pub entries : Matrix → ℕ → ℕ → List ℕ
entries m = side m.transposed m.l (unpacked 13 m.packed.now)

-- for each i < rows the sum of the products of M i j and polynomial j of s, j < l, modulo m
unfoldable pub sums : ℕ → ℕ → ℕ → (ℕ → ℕ → List ℕ) → List ℕ → List ℕ
sums m rows l M s = blocks rows (λ i. residues m (inner 256 l (λ j. nat (M i j)) (λ j. poly (nat s) j)))
