-- What the four calls in turn promise: each keeps its own promise, and demand 3 holds of them together.
use Rattle.std.specs.Prelude.{ℕ, List, [], ◌∷◌, ◌≡◌, eqb, length}
use Rattle.questions.specs.Answers.{Question, earliest}
use Rattle.correctness.specs.declared.SetNumbers.{SetNumbers}
use Rattle.correctness.specs.Claim.{NoiseWithin, Ready, Calls, Accepted, Agreed, keys_set}

-- the answers of four calls as questions: whether each is 0
abbrev pub refusals : ℕ → ℕ → ℕ → ℕ → List Question
refusals r1 r2 r3 r4 = (eqb r1 0, r1) ∷ (eqb r2 0, r2) ∷ (eqb r3 0, r3) ∷ (eqb r4 0, r4) ∷ []

pub record RoundTrip
    (sets : SetNumbers) (matrix_seed secret_seed z seed pk sk ct ss message secret : List ℕ) (r : ℕ)
    (pk' sk' ct' ss' message' secret' : List ℕ) : Type 0
  where
    -- the answers of the four calls, and what the calls did, within the bounds or not
    pub r1 : ℕ
    pub r2 : ℕ
    pub r3 : ℕ
    pub r4 : ℕ
    pub calls : Calls sets matrix_seed secret_seed z seed pk sk ct ss message secret r1 r2 r3 r4 pk' sk' ct' ss' message' secret'
    -- the earliest refusal
    pub answers : r ≡ earliest (refusals r1 r2 r3 r4)
    -- one set, seeds and outputs of the right lengths: all four answer 0, and so r is 0; and demand 3
    pub accepts :
        Ready sets (length matrix_seed) (length secret_seed) (length z) (length seed) (length pk) (length sk) (length ct) (length ss) (length message)
        (length secret) → Accepted r1 r2 r3 r4 × (r ≡ 0)
    pub agrees :
        Ready sets (length matrix_seed) (length secret_seed) (length z) (length seed) (length pk) (length sk) (length ct) (length ss) (length message)
        (length secret) → NoiseWithin (keys_set sets) matrix_seed secret_seed seed → Agreed seed ss' message' secret'
