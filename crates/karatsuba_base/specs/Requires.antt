-- What the inner functions require of their arguments.
use Rattle.std.specs.Prelude.{◌≡◌, ℕ, ◌+◌, ◌*◌, ◌≤◌, List, length}
use Rattle.karatsuba_base.specs.Layout.{Blank, Apart}

-- what `terms` and `added` require: eight coefficients, and sixteen between eight zeros on each side
pub record TermsLengths (p padded : ℕ) : Type 0 where
  pub eight : p ≡ 8
  pub whole : padded ≡ 32

-- what `plain` requires: the operands at a with their zeros, and places for the products
pub record PlainScratch (rows a out : ℕ) (w : List ℕ) : Type 0 where
  pub apart : Apart a (24 * (rows + 1)) out (32 * rows)
  pub operands : a + 24 * (rows + 1) ≤ length w
  pub product : out + 32 * rows ≤ length w
  pub blank : Blank (24 * (rows + 1)) w a
