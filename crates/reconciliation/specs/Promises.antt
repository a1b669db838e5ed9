-- What the two calls promise.
use Rattle.std.specs.Prelude.{ℕ, List, length}
use Rattle.questions.specs.Answers.{earliest, Wrote}
use Rattle.sets.specs.Sets.{params_of, added}
use Rattle.reconciliation.specs.Reconciliation.{recon_data, recovered, recon_data_questions, recover_questions}

-- the promise of `recon_data`, and that of `recover`
abbrev pub ReconData : ℕ → List ℕ → List ℕ → ℕ → List ℕ → Type 0
ReconData set w out = Wrote (earliest (recon_data_questions set w (length out))) (recon_data (params_of set).g w) out

abbrev pub Recovered : ℕ → List ℕ → List ℕ → List ℕ → ℕ → List ℕ → Type 0
Recovered set v d out =
    Wrote (earliest (recover_questions set v d (length out))) (recovered (params_of set).g (added (params_of set)) v d) out
