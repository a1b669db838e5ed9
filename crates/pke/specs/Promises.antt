-- What encryption and decryption promise.
use Rattle.std.specs.Prelude.{ℕ, List, length}
use Rattle.questions.specs.Answers.{earliest, Wrote}
use Rattle.sets.specs.Sets.{params_of}
use Rattle.scheme_questions.specs.Questions.{encrypt_questions, decrypt_questions}
use Rattle.pke.specs.Pke.{encrypted, decrypted}

abbrev pub Encrypted : ℕ → List ℕ → List ℕ → List ℕ → List ℕ → ℕ → List ℕ → Type 0
Encrypted set pk message seed ct =
    Wrote (earliest (encrypt_questions set (length pk) (length message) (length seed) (length ct)))
    (encrypted (params_of set) pk message seed) ct

abbrev pub Decrypted : ℕ → List ℕ → List ℕ → List ℕ → ℕ → List ℕ → Type 0
Decrypted set plain ct out =
    Wrote (earliest (decrypt_questions set (length plain) (length ct) (length out))) (decrypted (params_of set) plain ct) out
