-- What the inner functions ensure.
use Rattle.std.specs.Prelude.{◌≡◌, ℕ, ◌+◌, ◌*◌, ◌<◌, ◌≤◌, cond, List, length, ◌+ℤ◌, ◌-ℤ◌, nat_lt, slice_index}
use Rattle.lists.specs.Lists.{from}
use Rattle.algebra.specs.Integers.{modℤ}
use Rattle.algebra.specs.Ring.{at, coef, nat, poly, blocks}
use Rattle.karatsuba_base.specs.Layout.{reads, offset}

-- the operand laid as row i: polynomial i of a, or behind the rows b
unfoldable pub source : (rows : ℕ) → List ℕ → List ℕ → ℕ → List ℕ
source rows a b i = cond (nat_lt i rows) (poly a i) b

-- n of the sixteen coefficients of a chunk, those of f from s on, behind 8 zeros
pub record Chunk (f : List ℕ) (s n : ℕ) (r : List ℕ) : Type 0 where
  pub size : length r ≡ 24
  pub zero : (t : ℕ) → t < 8 → slice_index r t ≡ 0
  pub value : (t : ℕ) → t < n → slice_index r (t + 8) ≡ slice_index f (s + t)

-- chunk g of the first n operands f, at `at`
pub record LaidChunk (f : ℕ → List ℕ) (g n at : ℕ) (w w' : List ℕ) : Type 0 where
  pub size : length w' ≡ length w
  pub zero : (i t : ℕ) → i < n → t < 8 → slice_index w' (at + 24 * i + t) ≡ 0
  pub value : (i t : ℕ) → i < n → t < 16 → slice_index w' (at + 24 * i + 8 + t) ≡ slice_index (f i) (16 * g + t)
  pub below : (p : ℕ) → p < at → slice_index w' p ≡ slice_index w p

-- the first n chunks of the operands f, from the front
pub record Laid (rows : ℕ) (f : ℕ → List ℕ) (n : ℕ) (w w' : List ℕ) : Type 0 where
  pub size : length w' ≡ length w
  pub zero : (g i t : ℕ) → g < n → i ≤ rows → t < 8 → slice_index w' (24 * ((rows + 1) * g) + 24 * i + t) ≡ 0
  pub value : (g i t : ℕ) → g < n → i ≤ rows → t < 16 → slice_index w' (24 * ((rows + 1) * g) + 24 * i + 8 + t) ≡ slice_index (f i) (16 * g + t)

-- old + x - y at place k, modulo 65536
abbrev pub fold_at : List ℕ → (x y : ℕ) → List ℕ → (o : ℕ) → ℕ → ℕ
fold_at w x y old o k = modℤ (reads old (o + k) +ℤ (reads w (x + k) -ℤ reads w (y + k))) 65536

-- old + the product at x, with X^256 = -1
abbrev pub fold_row : List ℕ → (x s : ℕ) → List ℕ → ℕ → ℕ
fold_row w x s old k = modℤ (reads old k +ℤ (reads w (x + offset s k) -ℤ reads w (x + offset s (256 + k)))) 65536

-- to polynomial i of `old` the product of polynomial i of a and b, modulo 65536, for each i below rows
unfoldable pub rows_added : ℕ → List ℕ → List ℕ → List ℕ → List ℕ
rows_added rows a b old = blocks rows (λ i. from 256 (λ k. modℤ (at (nat (poly old i)) k +ℤ coef 256 (nat (poly a i)) (nat b) k) 65536))
