-- Laws of the key encapsulation: the steps of each function, which together are its definition, and what a call then promises.
use Rattle.std.specs.Prelude.{ℕ, ◌*◌, cond, List, ◌++◌, ◌≡◌, length, take, drop}
use Rattle.std.proofs.Common.{sym, ap, ◌∙◌}
use Rattle.lists.specs.Strings.{same, placed}
use Rattle.lists.proofs.Laws.Strings.{placed_whole}
use Rattle.questions.specs.Answers.{earliest}
use Rattle.sets.specs.declared.Params.{Params}
use Rattle.sets.specs.Sets.{params_of}
use Rattle.scheme_questions.specs.Questions.{encaps_questions, decaps_questions}
use Rattle.scheme_questions.specs.Laws.Lengths.{decaps_lengths}
use Rattle.sponge.specs.Laws.Sponge.{length_sponge}
use Rattle.sha3.specs.Hashes.{sha3_256, sha3_512}
use Rattle.pke.specs.Pke.{encrypted, decrypted}
use Rattle.keys.specs.Keys.{plain_part, key_part, hash_part, z_part}
use Rattle.kdf.specs.Kdf.{secret_under}
use Rattle.kem.specs.Kem.{encaps_ciphertext, encaps_secret, decaps_secret}
use Rattle.kem.specs.Promises.{Encapsulated, Decapsulated}
use Rattle.kem.specs.Ensures.{Encapsulation, MadeAgain}
use Rattle.kem.specs.Requires.{DecapsScratch}

-- a string of 32 bytes written over the whole of an output
over : (h out : List ℕ) {out' : List ℕ} → length out ≡ 32 → length h ≡ 32 → out' ≡ placed 0 h out → out' ≡ h
over h out l k w = w ∙ placed_whole h out (l ∙ sym k)

pub encaps_steps :
    (p : Params) (pk seed ss : List ℕ) {m h kr coins k ct s ss' : List ℕ} → length ss ≡ 32 → m ≡ sha3_256 seed → h ≡ sha3_256 pk →
    kr ≡ sha3_512 (m ++ h) → coins ≡ drop 32 kr → k ≡ take 32 kr → ct ≡ encrypted p pk m coins → s ≡ secret_under k ct →
    ss' ≡ placed 0 s ss → Encapsulation p pk seed ct ss'
unfolding encaps_ciphertext encaps_secret
encaps_steps p pk seed ss {ct = ct} l em eh er ec ek et es ew =
    let done : ct ≡ encaps_ciphertext p pk seed = et ∙ rw (ec, er, em, eh) in
    record {
      ciphertext = done;
      shared_secret = over _ ss l (ap length es ∙ length_sponge 136 6 _ 32) ew ∙ es ∙ rw (done, ek, er, em, eh);
    }

pub again_steps :
    (p : Params) (sk ct : List ℕ) {plain key hash m kr coins again : List ℕ} → plain ≡ plain_part p sk → key ≡ key_part p sk →
    hash ≡ hash_part p sk → m ≡ decrypted p plain ct → kr ≡ sha3_512 (m ++ hash) → coins ≡ drop 32 kr → again ≡ encrypted p key m coins →
    MadeAgain p sk ct kr again
again_steps p sk ct ep ey eh em er ec ea = record { key = er ∙ rw (em, ep, eh); again = ea ∙ rw (ec, er, em, ep, ey, eh) }

pub decaps_steps :
    (p : Params) (sk ct ss : List ℕ) {z kr k again s ss' : List ℕ} → length ss ≡ 32 → MadeAgain p sk ct kr again →
    z ≡ z_part p sk → k ≡ take 32 kr → s ≡ secret_under (cond (same again ct) k z) ct → ss' ≡ placed 0 s ss →
    ss' ≡ decaps_secret p sk ct
unfolding decaps_secret
decaps_steps p sk ct ss l made ez ek es ew =
    over _ ss l (ap length es ∙ length_sponge 136 6 _ 32) ew ∙ rw (es, made.again, ek, made.key, ez)

-- with the work done an answer of 0 is what the call promises
module _ (set : ℕ) {r : ℕ} {p : Params} (is : p ≡ params_of set) (z : r ≡ 0) where
  pub encaps_done :
      (pk seed ct ss : List ℕ) {ct' ss' : List ℕ} → r ≡ earliest (encaps_questions set (length pk) (length seed) (length ct) (length ss)) →
      Encapsulation p pk seed ct' ss' → Encapsulated set pk seed ct ss 0 ct' ss'
  encaps_done pk seed ct ss a e =
      record { answers = sym z ∙ a; ciphertext = rw is at e.ciphertext; shared_secret = rw is at e.shared_secret }

  -- the lengths that the work of decapsulation needs
  pub decaps_scratch :
      (sk ct ss : ℕ) {secret again : ℕ} → r ≡ earliest (decaps_questions set sk ct ss) → secret ≡ 256 * p.l → again ≡ p.ct →
      DecapsScratch p sk ct secret again ss
  decaps_scratch sk ct ss a s n =
      let lengths = decaps_lengths set is z sk ct ss a in
      record {
        scratch = record { is_set = lengths.is_set; sk_long = lengths.sk_long ∙ lengths.is_set.sums.sk_is; ct_long = lengths.ct_long; secret_long = s; again_long = n };
        ss_long = lengths.ss_long;
      }

  pub decaps_done :
      (sk ct ss : List ℕ) {ss' : List ℕ} → r ≡ earliest (decaps_questions set (length sk) (length ct) (length ss)) →
      ss' ≡ decaps_secret p sk ct → Decapsulated set sk ct ss 0 ss'
  decaps_done sk ct ss a w = record { answers = sym z ∙ a; writes = rw is at w }
