-- An answer of 0 gives the inner functions what they require, and with the work done it is what the call promises.
use Rattle.std.specs.Prelude.{ℕ, ◌*◌, List, ◌≡◌, refl, ℤ, length}
use Rattle.std.proofs.Common.{arith, rules, eqb-true}
use Rattle.questions.specs.Answers.{earliest}
use Rattle.questions.specs.Laws.Answers.{all_yes, wrote}
use Rattle.sets.specs.declared.Params.{Params}
use Rattle.sets.specs.Sets.{params_of}
use Rattle.sets.specs.Laws.Sets.{is_set_lem}
use Rattle.sampling.specs.Sampling.{matrix, secret, gen_matrix_questions, gen_secret_questions}
use Rattle.sampling.specs.Promises.{GenMatrix, GenSecret}
use Rattle.sampling.specs.Requires.{MatrixLengths, SampleLengths, SecretLengths}

-- the coefficients of a secret are numbers of mu bits that fill its bytes
pub sample_lengths : (l mu out n : ℕ) → SecretLengths l mu out → n ≡ 32 * l * mu → SampleLengths mu n out
sample_lengths l mu out n r e = record {
  cut = record {
    least = r.pieces.least;
    most = r.pieces.most;
    fills = rw (r.out_long, e) (omega arith);
    fours = rw e (omega arith);
  };
  even = r.pieces.even;
  few = omega (arith, r.out_long, r.few);
}

-- where a number is a byte there is one for each output
pub byte_each : {mu bytes out : ℕ} → SampleLengths mu bytes out → mu ≡ 8 → out ≡ bytes
byte_each r e = let filled = rw e at r.cut.fills in omega arith

module _ (set : ℕ) (seed : List ℕ) {r : ℕ} {p : Params} (is : p ≡ params_of set) (z : r ≡ 0) where
  module _ (out : List ℕ) (a : r ≡ earliest (gen_matrix_questions set (length seed) (length out))) where
    pub matrix_lengths : MatrixLengths p.l (length out)
    matrix_lengths =
        let y = all_yes (gen_matrix_questions set (length seed) (length out)) refl a z in
        let w = is_set_lem set y.0 in
        rw is (search (rules, eqb-true))

    pub matrix_done : {out' : List ℕ} → out' ≡ matrix p.l seed → GenMatrix set seed out 0 out'
    matrix_done e = wrote a z (rw is at e)

  module _ (out : List ℤ) (a : r ≡ earliest (gen_secret_questions set (length seed) (length out))) where
    pub secret_lengths : SecretLengths p.l p.mu (length out)
    secret_lengths =
        let y = all_yes (gen_secret_questions set (length seed) (length out)) refl a z in
        let w = is_set_lem set y.0 in
        rw is (search (rules, eqb-true))

    pub secret_done : {out' : List ℤ} → out' ≡ secret p.l p.mu seed → GenSecret set seed out 0 out'
    secret_done e = wrote a z (rw is at e)
