-- What the functions require of their arguments.
use Rattle.std.specs.Prelude.{ℕ, ◌+◌, ◌-◌, ◌*◌, ◌<◌, ◌≤◌, ◌≡◌, length}
use Rattle.matrix.specs.declared.Grid.{Grid}

-- the scratch for one row at a time and for three, 1256 places a row and 864 more; and three polynomials
abbrev pub one_row_work : ℕ
one_row_work = 2120

abbrev pub three_rows_work : ℕ
three_rows_work = 4632

abbrev pub three_rows : ℕ
three_rows = 768

-- `cut_into`: packed polynomials of w bits a coefficient, 1 to 16; the last row among them, and a place for each
pub record CutLengths (w bytes start step rows out : ℕ) : Type 0 where
  pub least : 1 ≤ w
  pub most : w ≤ 16
  pub count : ℕ
  pub whole : bytes ≡ 32 * w * count
  pub last : start + step * (rows - 1) < count
  pub fits : out ≡ 256 * rows

-- `sums_into`: the same for each column; up to four rows; the polynomials of s; a buffer for those that are multiplied at once; scratch; a place for
-- each sum
pub record SumsScratch (g : Grid) (rows l s cut work out : ℕ) : Type 0 where
  pub least : 1 ≤ g.width
  pub most : g.width ≤ 16
  pub some : 1 ≤ rows
  pub few : rows ≤ 4
  pub count : ℕ
  pub whole : length g.packed.now ≡ 32 * g.width * count
  pub last : (j : ℕ) → j < l → g.start + g.column * j + g.row * (rows - 1) < count
  pub vector : s ≡ 256 * l
  pub cut_long : 256 * rows ≤ cut
  pub scratch : 1256 * rows + 864 ≤ work
  pub fits : out ≡ 256 * rows

-- what `inner_words` requires: two vectors, and scratch
pub record WordsScratch (l a s work : ℕ) : Type 0 where
  pub first : a ≡ 256 * l
  pub second : s ≡ 256 * l
  pub scratch : one_row_work ≤ work

-- what `inner` requires: a packed vector and another; a buffer for the first one; scratch
pub record InnerScratch (l vector s words work : ℕ) : Type 0 where
  pub packed : vector ≡ 320 * l
  pub fits : WordsScratch l words s work

-- `rows_into`: up to three rows of a matrix, from `first` on; a vector; a buffer for a polynomial of each; scratch for three rows; a place for each
-- product
pub record RowsScratch (l s first rows cut work out : ℕ) : Type 0 where
  pub some : 1 ≤ rows
  pub few : rows ≤ 3
  pub within : first + rows ≤ l
  pub vector : s ≡ 256 * l
  pub cut_long : 256 * rows ≤ cut
  pub scratch : three_rows_work ≤ work
  pub fits : out ≡ 256 * rows

-- `product_into`: a vector; a buffer for three polynomials; scratch for three rows; a place for each row
pub record ProductScratch (l s cut work out : ℕ) : Type 0 where
  pub vector : s ≡ 256 * l
  pub cut_long : three_rows ≤ cut
  pub scratch : three_rows_work ≤ work
  pub fits : out ≡ 256 * l
