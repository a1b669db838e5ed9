-- `round_trip::round_trip` meets its contract: the four calls keep their promises, and `trip` says what these give together.
use Rattle.correctness.proofs.Laws.Theorem.{same_string, trip}
use Rattle.round_trip.proofs.Refusals.{first_refusal}
use Rattle.round_trip.proofs.round_trip.Goals as goal

pub returns : goal.returns
returns c =
    let a = c.args in
    trip a.sets a.matrix_seed.now a.secret_seed.now a.z.now a.seed.now a.public_key.now a.secret_key.now
    a.ciphertext.now a.shared_secret.now a.message.now a.decaps_secret.now
    (record {
      keygen = c.keygen-r1.ensures;
      encaps = c.encaps-r2.ensures;
      decrypt = same_string a.sets.decrypt _ c.plain_secret_of.ensures c.decrypt-r3.ensures;
      decaps = c.decaps-r4.ensures;
    })
    (rw (c.and-3.ensures, c.and-2.ensures, c.and.ensures) (first_refusal _ _ _ _))
