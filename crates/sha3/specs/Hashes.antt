-- Document 01, "Hashes": the three hashes of FIPS 202, section 6, and what the calls with a digest ask.
use Rattle.std.specs.Prelude.{ℕ, List, [], ◌∷◌, eqb}
use Rattle.questions.specs.Answers.{Question}
use Rattle.sponge.specs.Sponge.{sponge}

abbrev pub shake128 : List ℕ → ℕ → List ℕ
shake128 m n = sponge 168 0x1f m n

abbrev pub sha3_256 : List ℕ → List ℕ
sha3_256 m = sponge 136 0x06 m 32

abbrev pub sha3_512 : List ℕ → List ℕ
sha3_512 m = sponge 72 0x06 m 64

-- Q9, the only question, of an output of n bytes where the hash has `size`
abbrev pub hash_questions : ℕ → ℕ → List Question
hash_questions size n = (eqb n size, 9) ∷ []
