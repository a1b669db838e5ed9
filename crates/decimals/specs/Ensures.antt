-- What inner functions ensure.
use Rattle.std.specs.Prelude.{ℕ, ◌+◌, List, ◌++◌, ◌≡◌, length, take}

-- a text was written to place `at`, and the next one goes to `next`
pub record Appended (old : List ℕ) (at : ℕ) (text new : List ℕ) (next : ℕ) : Type 0 where
  pub front : take next new ≡ take at old ++ text
  pub place : next ≡ at + length text
