-- Document 01, "Bytes": packing lays coefficient 0 first, least significant bit first, with no gaps. The definitions are for every width.
use Rattle.std.specs.Prelude.{ℕ, ◌*◌, ◌/◌, ◌%◌, ◌^◌, Bool, ◌||◌, List, [], ◌∷◌, eqb, length, get_or}
use Rattle.lists.specs.Numbers.{number, digits}
use Rattle.questions.specs.Answers.{Question, all_below}

-- numbers of a bits laid end to end, the first one lowest, and cut into whole numbers of b bits in the same order
unfoldable pub recut : ℕ → ℕ → List ℕ → List ℕ
recut a b xs = digits (2 ^ b) (a * length xs / b) (number (2 ^ a) xs)

-- packing: coefficients of w bits to bytes
abbrev pub packed : ℕ → List ℕ → List ℕ
packed w coefficients = recut w 8 coefficients

-- unpacking, and the cutting of SHAKE-128 output: bytes to numbers of w bits
abbrev pub unpacked : ℕ → List ℕ → List ℕ
unpacked w bytes = recut 8 w bytes

-- bit k of a number, the least significant one being bit 0
abbrev pub bit : ℕ → ℕ → ℕ
bit x k = x / 2 ^ k % 2

-- bit k of the stream that numbers of w bits make: the first number first, least significant bit first, with no gaps
abbrev pub stream_bit : ℕ → List ℕ → ℕ → ℕ
stream_bit w xs k = bit (get_or xs (k / w) 0) (k % w)

-- Q2: the packing width is one of 1, 3, 4, 6, 10, 13
abbrev pub is_width : ℕ → Bool
is_width w = eqb w 1 || (eqb w 3 || (eqb w 4 || (eqb w 6 || (eqb w 10 || eqb w 13))))

-- what packing asks: Q2, Q7, Q8, which asks what the coefficients hold, Q9
abbrev pub pack_questions : ℕ → List ℕ → ℕ → List Question
pack_questions w coefficients out =
    (is_width w, 2) ∷ (eqb (length coefficients) 256, 7) ∷ (all_below (2 ^ w) coefficients, 8) ∷ (eqb out (32 * w), 9) ∷ []

-- what unpacking asks: Q2, Q7, Q9
abbrev pub unpack_questions : ℕ → ℕ → ℕ → List Question
unpack_questions w bytes out = (is_width w, 2) ∷ (eqb bytes (32 * w), 7) ∷ (eqb out 256, 9) ∷ []
