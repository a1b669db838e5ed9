-- Strings of bytes: when two are the same, and one written at a place of a larger one.
use Rattle.std.specs.Prelude.{ℕ, ◌+◌, Bool, true, false, ◌&&◌, List, [], ◌∷◌, ◌++◌, eqb, length, take, drop}

-- whether two strings hold the same bytes
unfoldable pub same : List ℕ → List ℕ → Bool
same [] [] = true
same [] (y ∷ ys) = false
same (x ∷ xs) [] = false
same (x ∷ xs) (y ∷ ys) = eqb x y && same xs ys

-- the string s written from place `at` on: `out` before it, s, `out` after it
unfoldable pub placed : ℕ → List ℕ → List ℕ → List ℕ
placed at s out = take at out ++ s ++ drop (at + length s) out
