-- A part of a string, and the first place in it that holds a byte.
use Rattle.std.specs.Prelude.{ℕ, suc, Bool, true, false, List, [], ◌∷◌, nat_eq, take, drop}

-- the part from place `at` on and before place `end`
unfoldable pub slice : ℕ → ℕ → List ℕ → List ℕ
slice at end s = drop at (take end s)

-- the place in a string with one byte more in front, which is the one that is looked for or not
unfoldable pub index_after : Bool → ℕ → ℕ
index_after true k = 0
index_after false k = suc k

-- the first place of a byte, or else the length
unfoldable pub index_of : ℕ → List ℕ → ℕ
index_of b [] = 0
index_of b (x ∷ xs) = index_after (nat_eq x b) (index_of b xs)
