-- What the two calls promise.
use Rattle.std.specs.Prelude.{ℕ, List, ℤ, length}
use Rattle.questions.specs.Answers.{earliest, Wrote}
use Rattle.sets.specs.Sets.{params_of}
use Rattle.sampling.specs.Sampling.{matrix, secret, gen_matrix_questions, gen_secret_questions}

-- the promise of `gen_matrix`, and that of `gen_secret`, whose output is the secret's own signed numbers
abbrev pub GenMatrix : ℕ → List ℕ → List ℕ → ℕ → List ℕ → Type 0
GenMatrix set seed out = Wrote (earliest (gen_matrix_questions set (length seed) (length out))) (matrix (params_of set).l seed) out

abbrev pub GenSecret : ℕ → List ℕ → List ℤ → ℕ → List ℤ → Type 0
GenSecret set seed out =
    Wrote (earliest (gen_secret_questions set (length seed) (length out))) (secret (params_of set).l (params_of set).mu seed) out
