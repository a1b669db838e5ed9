-- What encapsulation and decapsulation promise: r is the answer, a primed list is an output at exit.
use Rattle.std.specs.Prelude.{ℕ, List, ◌≡◌, length}
use Rattle.questions.specs.Answers.{earliest, written, Wrote}
use Rattle.sets.specs.Sets.{params_of}
use Rattle.scheme_questions.specs.Questions.{encaps_questions, decaps_questions}
use Rattle.kem.specs.Kem.{encaps_ciphertext, encaps_secret, decaps_secret}

pub record Encapsulated (set : ℕ) (pk seed ct ss : List ℕ) (r : ℕ) (ct' ss' : List ℕ) : Type 0 where
  pub answers : r ≡ earliest (encaps_questions set (length pk) (length seed) (length ct) (length ss))
  pub ciphertext : ct' ≡ written r (encaps_ciphertext (params_of set) pk seed) ct
  pub shared_secret : ss' ≡ written r (encaps_secret (params_of set) pk seed) ss

abbrev pub Decapsulated : ℕ → List ℕ → List ℕ → List ℕ → ℕ → List ℕ → Type 0
Decapsulated set sk ct ss =
    Wrote (earliest (decaps_questions set (length sk) (length ct) (length ss))) (decaps_secret (params_of set) sk ct) ss
