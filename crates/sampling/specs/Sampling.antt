-- Document 01, "Ring and sampling": the matrix and the secret that a seed gives, and what the two calls ask.
use Rattle.std.specs.Prelude.{ℕ, ◌*◌, ◌/◌, List, [], ◌∷◌, eqb, ℤ, pos, ◌-ℤ◌}
use Rattle.std.specs.Int.Count.{ones}
use Rattle.questions.specs.Answers.{Question}
use Rattle.sets.specs.Sets.{params_of, known}
use Rattle.packing.specs.Packing.{unpacked}
use Rattle.sha3.specs.Hashes.{shake128}

-- the matrix of l rows: SHAKE-128 of its seed, cut into 13-bit numbers, row by row, coefficient 0 first
unfoldable pub matrix : ℕ → List ℕ → List ℕ
matrix l seed = unpacked 13 (shake128 seed (416 * l * l))

-- the number of ones in one piece less the number of ones in the following piece, for each two pieces
unfoldable pub differences : List ℕ → List ℤ
differences [] = []
differences (a ∷ []) = []
differences (a ∷ b ∷ ps) = (pos (ones a) -ℤ pos (ones b)) ∷ differences ps

-- the coefficients that bytes give, cut into pieces of mu/2 bits
unfoldable pub secret_of : ℕ → List ℕ → List ℤ
secret_of mu bytes = differences (unpacked (mu / 2) bytes)

-- the secret of l polynomials: SHAKE-128 of its seed, 32 × l × mu bytes
unfoldable pub secret : ℕ → ℕ → List ℕ → List ℤ
secret l mu seed = secret_of mu (shake128 seed (32 * l * mu))

-- what the matrix call and secret sampling ask: Q1, Q3, Q9
abbrev pub gen_matrix_questions : ℕ → ℕ → ℕ → List Question
gen_matrix_questions set seed out = (known set, 1) ∷ (eqb seed 32, 3) ∷ (eqb out (256 * (params_of set).l * (params_of set).l), 9) ∷ []

abbrev pub gen_secret_questions : ℕ → ℕ → ℕ → List Question
gen_secret_questions set seed out = (known set, 1) ∷ (eqb seed 32, 3) ∷ (eqb out (256 * (params_of set).l), 9) ∷ []
