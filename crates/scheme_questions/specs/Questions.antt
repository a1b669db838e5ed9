-- Document 01, "Questions asked of a call": what the five calls of the scheme ask, by the set number and lengths alone.
use Rattle.std.specs.Prelude.{ℕ, ◌*◌, List, [], ◌∷◌, eqb}
use Rattle.questions.specs.Answers.{Question}
use Rattle.sets.specs.Sets.{params_of, known}

-- making keys: Q1, Q3 of the two seeds and z, Q9 of the two keys
abbrev pub keygen_questions : ℕ → ℕ → ℕ → ℕ → ℕ → ℕ → List Question
keygen_questions set matrix_seed secret_seed z pk sk =
    (known set, 1) ∷ (eqb matrix_seed 32, 3) ∷ (eqb secret_seed 32, 3) ∷ (eqb z 32, 3)
    ∷ (eqb pk (params_of set).pk, 9) ∷ (eqb sk (params_of set).sk, 9) ∷ []

-- encapsulation ("sealing"): Q1, Q3, Q4, Q9 of the ciphertext and the shared secret
abbrev pub encaps_questions : ℕ → ℕ → ℕ → ℕ → ℕ → List Question
encaps_questions set pk seed ct ss =
    (known set, 1) ∷ (eqb seed 32, 3) ∷ (eqb pk (params_of set).pk, 4) ∷ (eqb ct (params_of set).ct, 9) ∷ (eqb ss 32, 9) ∷ []

-- decapsulation ("unsealing"): Q1, Q5, Q6, Q9
abbrev pub decaps_questions : ℕ → ℕ → ℕ → ℕ → List Question
decaps_questions set sk ct ss =
    (known set, 1) ∷ (eqb sk (params_of set).sk, 5) ∷ (eqb ct (params_of set).ct, 6) ∷ (eqb ss 32, 9) ∷ []

-- encryption: Q1, Q3 of the message and the seed, Q4, Q9
abbrev pub encrypt_questions : ℕ → ℕ → ℕ → ℕ → ℕ → List Question
encrypt_questions set pk message seed ct =
    (known set, 1) ∷ (eqb message 32, 3) ∷ (eqb seed 32, 3) ∷ (eqb pk (params_of set).pk, 4) ∷ (eqb ct (params_of set).ct, 9) ∷ []

-- decryption: Q1, Q5 of the plain secret, Q6, Q9
abbrev pub decrypt_questions : ℕ → ℕ → ℕ → ℕ → List Question
decrypt_questions set plain ct message =
    (known set, 1) ∷ (eqb plain (416 * (params_of set).l), 5) ∷ (eqb ct (params_of set).ct, 6) ∷ (eqb message 32, 9) ∷ []
