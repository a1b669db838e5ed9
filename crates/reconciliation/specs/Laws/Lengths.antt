-- An answer of 0 gives the inner functions what they require, and with the work done it is what the call promises.
use Rattle.std.specs.Prelude.{ℕ, List, ◌≡◌, refl, length}
use Rattle.std.proofs.Common.{arith, rules, eqb-true}
use Rattle.questions.specs.Answers.{earliest}
use Rattle.questions.specs.Laws.Answers.{all_yes, wrote}
use Rattle.sets.specs.declared.Params.{Params}
use Rattle.sets.specs.Sets.{params_of, added}
use Rattle.sets.specs.Laws.Sets.{is_set_lem}
use Rattle.reconciliation.specs.Reconciliation.{recon_data, recovered, recon_data_questions, recover_questions}
use Rattle.reconciliation.specs.Promises.{ReconData, Recovered}
use Rattle.reconciliation.specs.Requires.{ReconLengths, RecoverLengths}

module _
    (set : ℕ) (w out : List ℕ) {r : ℕ} {p : Params} (is : p ≡ params_of set) (a : r ≡ earliest (recon_data_questions set w (length out)))
    (z : r ≡ 0) where
  pub recon_lengths : ReconLengths p.g (length w) (length out)
  recon_lengths =
      let y = all_yes (recon_data_questions set w (length out)) refl a z in
      let k = is_set_lem set y.0 in
      rw is (record { zeros = search rules; power = search rules; out_long = omega (arith, eqb-true) })

  pub recon_done : {out' : List ℕ} → out' ≡ recon_data p.g w → ReconData set w out 0 out'
  recon_done e = wrote a z (rw is at e)

module _
    (set : ℕ) (v d out : List ℕ) {r : ℕ} {p : Params} (is : p ≡ params_of set) (a : r ≡ earliest (recover_questions set v d (length out)))
    (z : r ≡ 0) where
  pub recover_lengths : RecoverLengths (length v) (length d) (length out)
  recover_lengths =
      let y = all_yes (recover_questions set v d (length out)) refl a z in
      record { numbers = omega (arith, eqb-true); out_long = omega (arith, eqb-true) }

  pub recover_done : {out' : List ℕ} → out' ≡ recovered p.g (added p) v d → Recovered set v d out 0 out'
  recover_done e = wrote a z (rw is at e)
