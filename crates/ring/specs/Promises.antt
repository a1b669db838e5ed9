-- What the call promises.
use Rattle.std.specs.Prelude.{ℕ, List, length}
use Rattle.questions.specs.Answers.{earliest, Wrote}
use Rattle.ring.specs.Products.{product, mul_questions}

-- the promise of `poly_mul`: the product of a and b into an output that held `old`
abbrev pub Multiplied : ℕ → List ℕ → List ℕ → List ℕ → ℕ → List ℕ → Type 0
Multiplied modulus a b old = Wrote (earliest (mul_questions modulus a b (length old))) (product modulus a b) old
