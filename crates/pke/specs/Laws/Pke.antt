-- Laws of encryption and decryption: the steps of each function, which together are its definition, and what a call then promises.
use Rattle.std.specs.Prelude.{ℕ, ◌*◌, false, List, ◌≡◌, length, take, drop}
use Rattle.std.proofs.Common.{sym, ◌∙◌, arith}
use Rattle.lists.specs.Strings.{placed}
use Rattle.lists.proofs.Laws.Strings.{placed_two, placed_whole}
use Rattle.questions.specs.Answers.{earliest}
use Rattle.sets.specs.declared.Params.{Params}
use Rattle.sets.specs.Sets.{params_of, added}
use Rattle.sets.specs.Requires.{IsSet}
use Rattle.scheme_questions.specs.Questions.{encrypt_questions, decrypt_questions}
use Rattle.algebra.specs.Ring.{nat, residues}
use Rattle.packing.specs.Packing.{packed, unpacked}
use Rattle.packing.specs.Laws.Polynomials.{length_packed}
use Rattle.algebra.specs.Vectors.{inner_mod}
use Rattle.algebra.proofs.Laws.Matrices.{inner_secret}
use Rattle.sampling.specs.Sampling.{secret}
use Rattle.reconciliation.specs.Reconciliation.{masked_poly, recon_data, recovered}
use Rattle.lwr.specs.Lwr.{rounded_vector}
use Rattle.lwr.specs.Laws.Lwr.{vector_secret, length_packed_vector}
use Rattle.pke.specs.Pke.{data_poly, encrypted, decrypted}
use Rattle.pke.specs.Promises.{Encrypted, Decrypted}
use Rattle.pke.specs.Laws.Lengths.{length_data_part}

pub encrypt_steps :
    (p : Params) (pk message seed old : List ℕ) {first last s v front ct : List ℕ} → IsSet p → length old ≡ p.ct →
    s ≡ residues 8192 (secret p.l p.mu seed) → front ≡ placed 0 (packed 10 (rounded_vector false p.l last (nat s))) old →
    v ≡ inner_mod 1024 p.l (unpacked 10 first) (nat s) →
    ct ≡ placed (320 * p.l) (packed p.bits (recon_data p.g (masked_poly v (unpacked 1 message)))) front →
    first ≡ take (320 * p.l) pk → last ≡ drop (320 * p.l) pk → ct ≡ encrypted p pk message seed
unfolding encrypted data_poly
encrypt_steps p pk message seed old is_set long s b v n f l =
    let first = take (320 * p.l) pk in
    let last = drop (320 * p.l) pk in
    let s' = secret p.l p.mu seed in
    let y = packed p.bits (data_poly p (unpacked 10 first) s' message) in
    let ly : length y ≡ 32 * p.bits = length_data_part p is_set (unpacked 10 first) s' message in
    placed_two (320 * p.l) (packed 10 (rounded_vector false p.l last s')) y old (length_packed_vector false p.l last s')
    (omega (arith, ly, long, is_set.ct_is)) (b ∙ rw (s, l, vector_secret)) (n ∙ rw (v, s, f, inner_secret))

pub message_steps :
    (p : Params) (v numbers old : List ℕ) {n bits message : List ℕ} → length bits ≡ 256 → length old ≡ 32 → n ≡ unpacked p.bits numbers →
    bits ≡ recovered p.g (added p) v n → message ≡ placed 0 (packed 1 bits) old →
    message ≡ packed 1 (recovered p.g (added p) v (unpacked p.bits numbers))
message_steps p v numbers old {bits = bits} l long n b m =
    m ∙ placed_whole (packed 1 bits) old (long ∙ sym (length_packed 1 1 (omega arith) bits l)) ∙ rw (b, n)

pub decrypt_steps :
    (p : Params) (plain ct : List ℕ) {first last secret v message : List ℕ} → first ≡ take (320 * p.l) ct →
    last ≡ drop (320 * p.l) ct → secret ≡ unpacked 13 plain → v ≡ inner_mod 1024 p.l (unpacked 10 first) (nat secret) →
    message ≡ packed 1 (recovered p.g (added p) v (unpacked p.bits last)) → message ≡ decrypted p plain ct
unfolding decrypted
decrypt_steps p plain ct f l s v m = rw (m, v, s, f, l)

-- with the work done an answer of 0 is what the call promises
module _ (set : ℕ) {r : ℕ} {p : Params} (is : p ≡ params_of set) (z : r ≡ 0) where
  pub encrypt_done :
      (pk message seed ct : List ℕ) {ct' : List ℕ} →
      r ≡ earliest (encrypt_questions set (length pk) (length message) (length seed) (length ct)) →
      ct' ≡ encrypted p pk message seed → Encrypted set pk message seed ct 0 ct'
  encrypt_done pk message seed ct a w = record { answers = sym z ∙ a; writes = rw is at w }

  pub decrypt_done :
      (plain ct message : List ℕ) {message' : List ℕ} → r ≡ earliest (decrypt_questions set (length plain) (length ct) (length message)) →
      message' ≡ decrypted p plain ct → Decrypted set plain ct message 0 message'
  decrypt_done plain ct message a w = record { answers = sym z ∙ a; writes = rw is at w }
