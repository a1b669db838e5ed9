-- What the inner functions ensure.
use Rattle.std.specs.Prelude.{◌≡◌, ℕ, ◌+◌, ◌*◌, ◌<◌, ◌≤◌, List, length, ◌+ℤ◌, replicate, slice_index, slice_range}
use Rattle.algebra.specs.Integers.{Same}
use Rattle.algebra.specs.Halves.{conv, window}
use Rattle.karatsuba_base.specs.Layout.{reads, offset, operand}

-- the n places from `at` on hold f 0, .., f (n - 1), and every other what it held
pub record Put (at n : ℕ) (f : ℕ → ℕ) (w w' : List ℕ) : Type 0 where
  pub size : length w' ≡ length w
  pub value : (k : ℕ) → k < n → slice_index w' (at + k) ≡ f k
  pub below : (p : ℕ) → p < at → slice_index w' p ≡ slice_index w p
  pub above : (p : ℕ) → at + n ≤ p → slice_index w' p ≡ slice_index w p

-- eight coefficients p times the sixteen padded ones, added to the sums: the first n of 24 places from `at` on; the others are as they were
pub record Added (p padded : List ℕ) (at : ℕ) (sums : List ℕ) (n : ℕ) (r : List ℕ) : Type 0 where
  pub size : length r ≡ 32
  pub value : (t : ℕ) → t < n → Same 65536 (reads r (at + t)) (reads sums (at + t) +ℤ window (reads p) (reads padded) t)
  pub before : (t : ℕ) → t < at → slice_index r t ≡ slice_index sums t
  pub behind : (t : ℕ) → at + n ≤ t → slice_index r t ≡ slice_index sums t

-- sixteen coefficients b times the sixteen padded ones: the first eight, and then the next eight added
pub record Both (b padded r : List ℕ) : Type 0 where
  pub low : List ℕ
  pub first : Added (slice_range b 0 8) padded 0 (replicate 32 0) 24 low
  pub next : Added (slice_range b 8 16) padded 8 low 24 r

-- the plain products of 16 coefficients of the first n rows, at out; beyond the products of all rows nothing changes
pub record Plain (rows n a out : ℕ) (w w' : List ℕ) : Type 0 where
  pub size : length w' ≡ length w
  pub value :
      (i k : ℕ) → i < n → k < 32 →
      Same 65536 (reads w' (out + 16 * i + offset (16 * rows) k)) (conv (operand rows 1 w a rows) (operand rows 1 w a i) k)
  pub below : (p : ℕ) → p < out → slice_index w' p ≡ slice_index w p
  pub above : (p : ℕ) → out + 32 * rows ≤ p → slice_index w' p ≡ slice_index w p
