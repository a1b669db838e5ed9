-- What making keys promises: r is the answer, a primed list is an output at exit.
use Rattle.std.specs.Prelude.{ℕ, List, ◌≡◌, length}
use Rattle.questions.specs.Answers.{earliest, written}
use Rattle.sets.specs.Sets.{params_of}
use Rattle.scheme_questions.specs.Questions.{keygen_questions}
use Rattle.keys.specs.Keys.{public_key, secret_key}

pub record Generated (set : ℕ) (matrix_seed secret_seed z pk sk : List ℕ) (r : ℕ) (pk' sk' : List ℕ) : Type 0 where
  pub answers : r ≡ earliest (keygen_questions set (length matrix_seed) (length secret_seed) (length z) (length pk) (length sk))
  pub public : pk' ≡ written r (public_key (params_of set) matrix_seed secret_seed) pk
  pub secret : sk' ≡ written r (secret_key (params_of set) matrix_seed secret_seed z) sk
