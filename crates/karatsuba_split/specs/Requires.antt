-- What the inner functions require of their arguments.
use Rattle.std.specs.Prelude.{◌≡◌, ℕ, ◌+◌, ◌*◌, ◌%◌, ◌^◌, ◌≤◌, List, length}
use Rattle.karatsuba_base.specs.Layout.{Blank, Apart}

-- what `add` requires: the sums behind what is added
pub record SumScratch (x y at m size : ℕ) : Type 0 where
  pub first : x + m ≤ at
  pub second : y + m ≤ at
  pub left : at + m ≤ size

-- what `join` requires: whole chunks, and the lower product behind the others
pub record JoinScratch (out low q size : ℕ) : Type 0 where
  pub whole : q % 16 ≡ 0
  pub apart : out + q + q + q + q ≤ low
  pub left : low + q + q ≤ size

-- what `split` requires: the operands at a with their zeros, places for the products, and free places for the sums of the halves down to one
-- chunk
pub record SplitScratch (rows chunks a out free : ℕ) (w : List ℕ) : Type 0 where
  pub most : rows ≤ 4
  pub depth : ℕ
  pub sized : chunks ≡ 2 ^ depth
  pub apart : Apart a (24 * (rows * chunks + chunks)) out (32 * (rows * chunks))
  pub operands : a + 24 * (rows * chunks + chunks) ≤ free
  pub product : out + 32 * (rows * chunks) ≤ free
  pub left : free + 24 * (rows * chunks) + 32 * chunks ≤ length w + 24 * rows + 32
  pub blank : Blank (24 * (rows * chunks + chunks)) w a
