-- What the calls promise.
use Rattle.std.specs.Prelude.{ℕ, List, length}
use Rattle.questions.specs.Answers.{earliest, Wrote}
use Rattle.packing.specs.Packing.{packed, unpacked, pack_questions, unpack_questions}

-- the promises of `pack` and `unpack`
abbrev pub Packed : ℕ → List ℕ → List ℕ → ℕ → List ℕ → Type 0
Packed w coefficients out = Wrote (earliest (pack_questions w coefficients (length out))) (packed w coefficients) out

abbrev pub Unpacked : ℕ → List ℕ → List ℕ → ℕ → List ℕ → Type 0
Unpacked w bytes out = Wrote (earliest (unpack_questions w (length bytes) (length out))) (unpacked w bytes) out
