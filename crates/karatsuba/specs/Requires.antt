-- What the inner functions require of their arguments.
use Rattle.std.specs.Prelude.{◌≡◌, ℕ, ◌+◌, ◌*◌, ◌<◌, ◌≤◌}

-- what `lay` requires: the rows a, the factor b, and places for all of them
pub record LayScratch (rows a b work : ℕ) : Type 0 where
  pub factors : a ≡ 256 * rows
  pub factor : b ≡ 256
  pub left : 384 * (rows + 1) ≤ work

-- what `lay_chunk` requires: the same, and the chunks g to end at `end`
pub record ChunkScratch (rows a b g end work : ℕ) : Type 0 where
  pub factors : a ≡ 256 * rows
  pub factor : b ≡ 256
  pub chunks : g < 16
  pub left : end ≤ work

-- what `folded` requires: sixteen places of each
pub record FoldedScratch (x y work o old : ℕ) : Type 0 where
  pub first : x + 16 ≤ work
  pub second : y + 16 ≤ work
  pub third : o + 16 ≤ old

-- what `rows_add` requires: at most four rows a; one factor; scratch; a polynomial of out for each row
pub record RowsScratch (rows a b work out : ℕ) : Type 0 where
  pub most : rows ≤ 4
  pub factors : a ≡ 256 * rows
  pub factor : b ≡ 256
  pub scratch : 1256 * rows + 864 ≤ work
  pub fits : out ≡ 256 * rows
