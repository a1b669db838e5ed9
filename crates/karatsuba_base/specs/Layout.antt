-- Where coefficients stand in the scratch, one lent slice, in chunks of 16 coefficients; a chunk of an operand has 8 zeros before it.
-- Operands: the first chunk of each row, then that of the factor b, then the second chunks, and so on; products the same, without b and
-- without zeros.
use Rattle.std.specs.Prelude.{◌≡◌, ℕ, ◌+◌, ◌*◌, ◌/◌, ◌%◌, ◌<◌, ◌≤◌, ◌⊎◌, List, ℤ, pos, slice_index}
use Rattle.algebra.specs.Halves.{low}

-- what stands at place p
abbrev pub reads : List ℕ → ℕ → ℤ
reads w p = pos (slice_index w p)

-- how far coefficient k stands from the first one, where the next chunk is s places on
unfoldable pub offset : ℕ → ℕ → ℕ
offset s k = s * (k / 16) + k % 16

-- row i of the operands at a, which have `chunks` chunks each; row number `rows` is b
unfoldable pub operand : (rows chunks : ℕ) → List ℕ → (a i : ℕ) → ℕ → ℤ
operand rows chunks w a i = low (16 * chunks) (λ k. reads w (a + 24 * i + 8 + offset (24 * (rows + 1)) k))

-- the zeros of the operands at a, which take n places
abbrev pub Blank : (n : ℕ) → List ℕ → (a : ℕ) → Type 0
Blank n w a = (p : ℕ) → p < n → p % 24 < 8 → slice_index w (a + p) ≡ 0

-- the m places from a on and the n from `out` on do not meet
abbrev pub Apart : (a m out n : ℕ) → Type 0
Apart a m out n = (a + m ≤ out) ⊎ (out + n ≤ a)
