-- Demand 3 as a theorem about any four calls that keep their promises, each made on what the earlier ones wrote.
use Rattle.std.specs.Prelude.{ℕ, ◌*◌, true, List, ◌≡◌, refl}
use Rattle.std.proofs.Common.{sym, ◌∙◌, subst, arith, eq-eqb}
use Rattle.std.proofs.Math.Path.{ap}
use Rattle.std.proofs.Math.ListN.{length}
use Rattle.questions.specs.Answers.{earliest, written}
use Rattle.questions.specs.Laws.Answers.{◌and◌, accepted, none_no}
use Rattle.sets.specs.declared.Params.{Params}
use Rattle.sets.specs.Sets
use Rattle.sets.specs.Sets.{params_of}
use Rattle.sets.specs.Requires.{IsSet}
use Rattle.sets.specs.Laws.Sets.{is_set_lem}
use Rattle.scheme_questions.specs.Questions.{keygen_questions, encaps_questions, decaps_questions, decrypt_questions}
use Rattle.pke.specs.Promises.{Decrypted}
use Rattle.pke.specs.Laws.Lengths.{length_encrypted}
use Rattle.keys.specs.Keys.{public_key, secret_key, plain_part}
use Rattle.keys.specs.Laws.Parts.{length_public, length_secret_key, length_plain_part}
use Rattle.kem.specs.Kem.{encaps_ciphertext, encaps_secret}
use Rattle.kem.specs.Promises.{Encapsulated, Decapsulated}
use Rattle.correctness.specs.declared.SetNumbers.{SetNumbers}
use Rattle.correctness.specs.Claim.{seeds_ciphertext, OneSet, NoiseWithin, Ready, Calls, Accepted, Agreed}
use Rattle.correctness.specs.Promises.{refusals, RoundTrip}
use Rattle.correctness.proofs.Laws.Steps.{returned}

-- where the answer is 0 the output holds the result
taken : {r : ℕ} {out : List ℕ} (result old : List ℕ) → r ≡ 0 → out ≡ written r result old → out ≡ result
taken result old z e = e ∙ sym (accepted _ result old z)

-- a promise under one number of a set is the promise under every other number of it
module _ (set set' : ℕ) (e : params_of set ≡ params_of set') where
  encapsulated_as : {r : ℕ} {pk seed ct ss ct' ss' : List ℕ} → Encapsulated set pk seed ct ss r ct' ss' → Encapsulated set' pk seed ct ss r ct' ss'
  encapsulated_as c = record { answers = rw e at c.answers; ciphertext = rw e at c.ciphertext; shared_secret = rw e at c.shared_secret }

  decapsulated_as : (sk ct : List ℕ) {r : ℕ} {ss ss' : List ℕ} → Decapsulated set sk ct ss r ss' → Decapsulated set' sk ct ss r ss'
  decapsulated_as sk ct c = record { answers = rw e at c.answers; writes = rw e at c.writes }

  decrypted_as :
      (sk ct : List ℕ) {r : ℕ} {m m' : List ℕ} → Decrypted set (plain_part (params_of set) sk) ct m r m' →
      Decrypted set' (plain_part (params_of set') sk) ct m r m'
  decrypted_as sk ct c = record { answers = rw e at c.answers; writes = rw e at c.writes }

module _
    (sets : SetNumbers) (matrix_seed secret_seed z seed pk sk ct ss message secret : List ℕ) (r1 r2 r3 r4 : ℕ)
    (pk' sk' ct' ss' message' secret' : List ℕ)
    (ready :
    Ready sets (length matrix_seed) (length secret_seed) (length z) (length seed) (length pk) (length sk) (length ct) (length ss) (length message)
    (length secret))
    (calls : Calls sets matrix_seed secret_seed z seed pk sk ct ss message secret r1 r2 r3 r4 pk' sk' ct' ss' message' secret') where
  abbrev set : ℕ
  set = sets.keygen

  abbrev p : Params
  p = params_of set

  known : Sets.known set ≡ true
  known = ready.one_set.known

  is_set : IsSet p
  is_set = is_set_lem set known

  -- the calls under the number that keys are generated under
  encapsulation : Encapsulated set pk' seed ct ss r2 ct' ss'
  encapsulation = encapsulated_as sets.encaps set ready.one_set.encaps calls.encaps

  decryption : Decrypted set (plain_part p sk') ct' message r3 message'
  decryption = decrypted_as sets.decrypt set ready.one_set.decrypt sk' ct' calls.decrypt

  decapsulation : Decapsulated set sk' ct' secret r4 secret'
  decapsulation = decapsulated_as sets.decaps set ready.one_set.decaps sk' ct' calls.decaps

  keygen_accepts : r1 ≡ 0
  keygen_accepts =
      calls.keygen.answers ∙
      none_no (keygen_questions set (length matrix_seed) (length secret_seed) (length z) (length pk) (length sk))
      (known and eq-eqb _ 32 ready.matrix_seed_long and eq-eqb _ 32 ready.secret_seed_long and eq-eqb _ 32 ready.z_long
      and eq-eqb _ p.pk ready.pk_long and eq-eqb _ p.sk ready.sk_long and tt)

  pk_is_lem : pk' ≡ public_key p matrix_seed secret_seed
  pk_is_lem = taken _ pk keygen_accepts calls.keygen.public

  sk_is_lem : sk' ≡ secret_key p matrix_seed secret_seed z
  sk_is_lem = taken _ sk keygen_accepts calls.keygen.secret

  encaps_accepts : r2 ≡ 0
  encaps_accepts =
      encapsulation.answers ∙
      none_no (encaps_questions set (length pk') (length seed) (length ct) (length ss))
      (known and eq-eqb _ 32 ready.seed_long and eq-eqb _ p.pk (ap length pk_is_lem ∙ length_public p is_set matrix_seed secret_seed z)
      and eq-eqb _ p.ct ready.ct_long and eq-eqb _ 32 ready.ss_long and tt)

  ct_is_lem : ct' ≡ seeds_ciphertext p matrix_seed secret_seed seed
  ct_is_lem = taken _ ct encaps_accepts encapsulation.ciphertext ∙ ap (λ (k : List ℕ). encaps_ciphertext p k seed) pk_is_lem

  ct_long_lem : length ct' ≡ p.ct
  unfolding encaps_ciphertext
  ct_long_lem = ap length ct_is_lem ∙ length_encrypted p is_set _ _ _

  decrypt_accepts : r3 ≡ 0
  decrypt_accepts =
      decryption.answers ∙
      none_no (decrypt_questions set (length (plain_part p sk')) (length ct') (length message))
      (known
      and eq-eqb _ (416 * p.l) (ap (λ (k : List ℕ). length (plain_part p k)) sk_is_lem ∙ length_plain_part p is_set matrix_seed secret_seed z)
      and eq-eqb _ p.ct ct_long_lem and eq-eqb _ 32 ready.message_long and tt)

  decaps_accepts : r4 ≡ 0
  decaps_accepts =
      decapsulation.answers ∙
      none_no (decaps_questions set (length sk') (length ct') (length secret))
      (known and eq-eqb _ p.sk (ap length sk_is_lem ∙ length_secret_key p is_set matrix_seed secret_seed z ready.z_long)
      and eq-eqb _ p.ct ct_long_lem and eq-eqb _ 32 ready.secret_long and tt)

  -- no call refuses, whatever the seeds hold
  pub accepts : Accepted r1 r2 r3 r4
  accepts = record { keygen = keygen_accepts; encaps = encaps_accepts; decrypt = decrypt_accepts; decaps = decaps_accepts }

  -- demand 3
  pub agrees : NoiseWithin p matrix_seed secret_seed seed → Agreed seed ss' message' secret'
  agrees within =
      let back = returned set known matrix_seed secret_seed z seed within in
      record {
        message = taken _ message decrypt_accepts decryption.writes ∙ rw (sk_is_lem, ct_is_lem) back.message;
        secret =
            taken _ secret decaps_accepts decapsulation.writes
            ∙ rw (sk_is_lem, ct_is_lem) back.secret
            ∙ sym (taken _ ss encaps_accepts encapsulation.shared_secret ∙ ap (λ (k : List ℕ). encaps_secret p k seed) pk_is_lem);
      }

-- 0 counts as the set it means; two sets are not one
pub default_counts : OneSet (record { keygen = 0; encaps = 2; decrypt = 2; decaps = 0 })
unfolding params_of
default_counts = record { known = refl; encaps = refl; decrypt = refl; decaps = refl }

pub mixed : OneSet (record { keygen = 2; encaps = 3; decrypt = 3; decaps = 3 }) → ⊥
unfolding params_of
mixed h = absurd (omega (arith, ap (λ (p : Params). p.l) h.encaps))

-- the same string is decrypted
pub same_string :
    (set : ℕ) (ct : List ℕ) {r : ℕ} {plain x m m' : List ℕ} → plain ≡ x → Decrypted set plain ct m r m' → Decrypted set x ct m r m'
same_string set ct {r} {m = m} {m' = m'} e = subst (λ (y : List ℕ). Decrypted set y ct m r m') e

-- the promise of the four calls in turn
pub trip :
    (sets : SetNumbers) (matrix_seed secret_seed z seed pk sk ct ss message secret : List ℕ) {r1 r2 r3 r4 r : ℕ}
    {pk' sk' ct' ss' message' secret' : List ℕ} →
    Calls sets matrix_seed secret_seed z seed pk sk ct ss message secret r1 r2 r3 r4 pk' sk' ct' ss' message' secret' →
    r ≡ earliest (refusals r1 r2 r3 r4) →
    RoundTrip sets matrix_seed secret_seed z seed pk sk ct ss message secret r pk' sk' ct' ss' message' secret'
trip sets a s z seed pk sk ct ss m t {r1} {r2} {r3} {r4} {r} calls e = record {
  r1 = r1;
  r2 = r2;
  r3 = r3;
  r4 = r4;
  calls = calls;
  answers = e;
  accepts = λ ready.
      let y = accepts sets a s z seed pk sk ct ss m t r1 r2 r3 r4 _ _ _ _ _ _ ready calls in (
        y,
        e ∙ none_no (refusals r1 r2 r3 r4)
            (eq-eqb r1 0 y.keygen and eq-eqb r2 0 y.encaps and eq-eqb r3 0 y.decrypt and eq-eqb r4 0 y.decaps and tt),
      );
  agrees = λ ready within. agrees sets a s z seed pk sk ct ss m t r1 r2 r3 r4 _ _ _ _ _ _ ready calls within;
}
