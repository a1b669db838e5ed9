-- What the calls promise.
use Rattle.std.specs.Prelude.{ℕ, List, length}
use Rattle.questions.specs.Answers.{earliest, Wrote}
use Rattle.sha3.specs.Hashes.{shake128, hash_questions}

-- the promise of `shake128`, which fills an output of any length and never refuses
abbrev pub Shaken : List ℕ → List ℕ → ℕ → List ℕ → Type 0
Shaken message out = Wrote 0 (shake128 message (length out)) out

-- the promise of `sha3_256` and `sha3_512`, whose hash has `size` bytes
abbrev pub Hashed : ℕ → List ℕ → List ℕ → ℕ → List ℕ → Type 0
Hashed size hash out = Wrote (earliest (hash_questions size (length out))) hash out
