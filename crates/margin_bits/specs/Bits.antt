-- Document 02, A5: "message bits decrypted wrong", as two lists compared.
use Rattle.std.specs.Prelude.{ℕ, ◌+◌, cond, List, [], ◌∷◌, eqb}

-- in how many places two lists of one length differ
unfoldable pub differing : List ℕ → List ℕ → ℕ
differing (x ∷ xs) (y ∷ ys) = cond (eqb x y) 0 1 + differing xs ys
differing [] ys = 0
differing (x ∷ xs) [] = 0
