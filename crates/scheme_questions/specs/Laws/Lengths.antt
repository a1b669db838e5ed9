-- An answer of 0 gives the work its lengths: r is the answer, and p the set's parameters.
use Rattle.std.specs.Prelude.{ℕ, ◌≡◌, refl}
use Rattle.std.proofs.Common.{rules, eqb-true}
use Rattle.questions.specs.Answers.{earliest}
use Rattle.questions.specs.Laws.Answers.{all_yes}
use Rattle.sets.specs.declared.Params.{Params}
use Rattle.sets.specs.Sets.{params_of}
use Rattle.sets.specs.Laws.Sets.{is_set_lem}
use Rattle.scheme_questions.specs.Questions.{keygen_questions, encaps_questions, decaps_questions, encrypt_questions, decrypt_questions}
use Rattle.scheme_questions.specs.Requires.{KeygenLengths, EncapsLengths, DecapsLengths, EncryptLengths, DecryptLengths}

module _ (set : ℕ) {r : ℕ} {p : Params} (is : p ≡ params_of set) (z : r ≡ 0) where
  pub keygen_lengths :
      (matrix_seed secret_seed seed pk sk : ℕ) → r ≡ earliest (keygen_questions set matrix_seed secret_seed seed pk sk) → KeygenLengths p seed pk sk
  keygen_lengths matrix_seed secret_seed seed pk sk a =
      let y = all_yes (keygen_questions set matrix_seed secret_seed seed pk sk) refl a z in
      let w = is_set_lem set y.0 in
      rw is (search (rules, eqb-true))

  pub encaps_lengths : (pk seed ct ss : ℕ) → r ≡ earliest (encaps_questions set pk seed ct ss) → EncapsLengths p pk ct ss
  encaps_lengths pk seed ct ss a =
      let y = all_yes (encaps_questions set pk seed ct ss) refl a z in
      let w = is_set_lem set y.0 in
      rw is (search (rules, eqb-true))

  pub decaps_lengths : (sk ct ss : ℕ) → r ≡ earliest (decaps_questions set sk ct ss) → DecapsLengths p sk ct ss
  decaps_lengths sk ct ss a =
      let y = all_yes (decaps_questions set sk ct ss) refl a z in
      let w = is_set_lem set y.0 in
      rw is (search (rules, eqb-true))

  pub encrypt_lengths : (pk message seed ct : ℕ) → r ≡ earliest (encrypt_questions set pk message seed ct) → EncryptLengths p pk message ct
  encrypt_lengths pk message seed ct a =
      let y = all_yes (encrypt_questions set pk message seed ct) refl a z in
      let w = is_set_lem set y.0 in
      rw is (search (rules, eqb-true))

  pub decrypt_lengths : (plain ct message : ℕ) → r ≡ earliest (decrypt_questions set plain ct message) → DecryptLengths p plain ct message
  decrypt_lengths plain ct message a =
      let y = all_yes (decrypt_questions set plain ct message) refl a z in
      let w = is_set_lem set y.0 in
      rw is (search (rules, eqb-true))
