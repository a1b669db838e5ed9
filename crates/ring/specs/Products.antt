-- Document 01, "Ring and sampling": the ring product modulo m, and what its call asks.
use Rattle.std.specs.Prelude.{ℕ, Bool, ◌||◌, List, [], ◌∷◌, length, ◌==◌}
use Rattle.questions.specs.Answers.{Question, all_below}
use Rattle.algebra.specs.Ring.{mul, nat, residues}

-- the ring product modulo m
unfoldable pub product : ℕ → List ℕ → List ℕ → List ℕ
product m a b = residues m (mul 256 (nat a) (nat b))

-- the ring moduli
abbrev pub is_modulus : ℕ → Bool
is_modulus m = m == 1024 || m == 8192

-- what the ring product of a and b into an output of the given length asks: Q2, Q7, Q8, Q9
abbrev pub mul_questions : ℕ → List ℕ → List ℕ → ℕ → List Question
mul_questions modulus a b output =
    (is_modulus modulus, 2) ∷ ((length a == 256), 7) ∷ ((length b == 256), 7)
    ∷ (all_below modulus a, 8) ∷ (all_below modulus b, 8) ∷ ((output == 256), 9) ∷ []
