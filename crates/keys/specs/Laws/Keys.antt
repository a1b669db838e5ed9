-- Laws of the keys: the steps that make them, the lookup, and the parts and lengths of what was made.
use Rattle.std.specs.Prelude.{ℕ, ◌+◌, ◌-◌, ◌*◌, true, List, [], ◌++◌, ◌≡◌, refl, ℤ, length, take, drop}
use Rattle.std.proofs.Common.{append_assoc, sym, ap, ◌∙◌, arith, eqb-true}
use Rattle.std.proofs.Math.Nat.{add-sub_cancel_left}
use Rattle.lists.specs.Numbers.{Below}
use Rattle.lists.specs.Strings.{placed}
use Rattle.lists.proofs.Laws.Parts.{prefix_none, prefix_copy, prefix_all}
use Rattle.lists.proofs.Laws.Strings.{placed_two}
use Rattle.questions.specs.Answers.{earliest}
use Rattle.questions.specs.Laws.Answers.{all_yes, accepted}
use Rattle.sets.specs.declared.Params.{Params}
use Rattle.sets.specs.Sets.{params_of}
use Rattle.sets.specs.Laws.Sets.{is_set_lem}
use Rattle.scheme_questions.specs.Questions.{keygen_questions}
use Rattle.sponge.specs.Laws.Sponge.{length_sponge}
use Rattle.sha3.specs.Hashes.{shake128, sha3_256}
use Rattle.algebra.specs.Ring.{nat, residues}
use Rattle.algebra.proofs.Laws.Reduced.{residues_below}
use Rattle.packing.specs.Packing.{packed}
use Rattle.packing.specs.Laws.Polynomials.{length_packed}
use Rattle.sampling.specs.Sampling.{secret}
use Rattle.lwr.specs.Lwr.{rounded_vector}
use Rattle.lwr.specs.Laws.Lwr.{vector_secret, length_packed_vector}
use Rattle.keys.specs.Keys.{public_key, plain_secret, secret_key, lookup_questions, public_key_of}
use Rattle.keys.specs.Promises.{Generated}
use Rattle.keys.specs.Ensures.{KeyPair}
use Rattle.keys.specs.Requires.{Found}

-- what stands in an output that is written part by part
pub public_steps :
    (l : ℕ) (seed old : List ℕ) (s : List ℤ) {stored front pk : List ℕ} → length old ≡ 320 * l + 32 → stored ≡ shake128 seed 32 →
    front ≡ placed 0 (packed 10 (rounded_vector true l stored s)) old → pk ≡ placed (320 * l) stored front →
    pk ≡ packed 10 (rounded_vector true l (shake128 seed 32) s) ++ shake128 seed 32
public_steps l seed old s lo es ef ep =
    let stored = shake128 seed 32 in
    let ls : length stored ≡ 32 = length_sponge 168 0x1f seed 32 in
    placed_two (320 * l) (packed 10 (rounded_vector true l stored s)) stored old (length_packed_vector true l stored s) (omega arith) (ef ∙ rw es)
    (ep ∙ rw es)

pub secret_steps :
    (l : ℕ) (s pk z old : List ℕ) {hash plain first second sk : List ℕ} → length old ≡ 416 * l + (length pk + 64) → length s ≡ 256 * l →
    length z ≡ 32 → plain ≡ placed 0 (packed 13 s) old → hash ≡ sha3_256 pk → first ≡ placed (416 * l) pk plain →
    second ≡ placed (416 * l + length pk) hash first → sk ≡ placed (416 * l + length pk + 32) z second →
    sk ≡ packed 13 s ++ (pk ++ (sha3_256 pk ++ z))
secret_steps l s pk z old {hash} {sk = sk} lo ls lz e0 eh e1 e2 e3 =
    let lp : length (packed 13 s) ≡ 416 * l = length_packed 13 l (omega arith) s ls in
    let lh : length hash ≡ 32 = ap length eh ∙ length_sponge 136 6 pk 32 in
    let h : ℕ = 416 * l + length pk in
    let plain = prefix_copy {e = 416 * l} (packed 13 s) (prefix_none old) (omega arith) (omega arith) in
    let public = prefix_copy {e = h} pk plain refl (omega arith) in
    let hashed = prefix_copy {e = h + 32} hash public (omega arith) (omega arith) in
    let whole = prefix_copy {e = h + 32 + 32} z hashed (omega arith) (omega arith) in
    let done : sk ≡ ((packed 13 s ++ pk) ++ hash) ++ z = rw (e3, e2, e1, e0) (prefix_all whole (omega arith)) in
    done ∙ simp append_assoc (rw eh)

-- the plain secret has 13 bits a coefficient
pub secret_below_lem : (l mu : ℕ) (seed : List ℕ) {s : List ℕ} → s ≡ residues 8192 (secret l mu seed) → Below 8192 s
secret_below_lem l mu seed e k h = rw e (residues_below 8192 (omega arith) (secret l mu seed) k)

pub keygen_steps :
    (p : Params) (matrix_seed secret_seed z : List ℕ) {s pk sk : List ℕ} → s ≡ residues 8192 (secret p.l p.mu secret_seed) →
    pk ≡ packed 10 (rounded_vector true p.l (shake128 matrix_seed 32) (nat s)) ++ shake128 matrix_seed 32 →
    sk ≡ packed 13 s ++ (pk ++ (sha3_256 pk ++ z)) → KeyPair p matrix_seed secret_seed z pk sk
unfolding public_key plain_secret secret_key
keygen_steps p matrix_seed secret_seed z {s} {pk} {sk} es ek ez =
    let public : pk ≡ public_key p matrix_seed secret_seed = ek ∙ rw (es, vector_secret) in
    record { public = public; secret = ez ∙ rw (public, es) }

-- with the work done an answer of 0 is what the call promises
pub keygen_done :
    (set : ℕ) (matrix_seed secret_seed z pk sk : List ℕ) {r : ℕ} {p : Params} {pk' sk' : List ℕ} → p ≡ params_of set → r ≡ 0 →
    r ≡ earliest (keygen_questions set (length matrix_seed) (length secret_seed) (length z) (length pk) (length sk)) →
    KeyPair p matrix_seed secret_seed z pk' sk' → Generated set matrix_seed secret_seed z pk sk 0 pk' sk'
keygen_done set matrix_seed secret_seed z pk sk is n a k =
    record { answers = sym n ∙ a; public = rw is at k.public; secret = rw is at k.secret }

-- a lookup that no question refuses, and what it hands back
pub found : (set sk : ℕ) → earliest (lookup_questions set sk) ≡ 0 → Found (params_of set) sk
found set sk e =
    let y = all_yes (lookup_questions set sk) refl refl e in
    let w = is_set_lem set y.0 in
    record { few = w.few; pk_is = w.pk_is; sk_is = eqb-true sk (params_of set).sk y.1.0 ∙ w.sums.sk_is }

pub lookup_part :
    (set : ℕ) (sk : List ℕ) (p : Params) → p ≡ params_of set → earliest (lookup_questions set (length sk)) ≡ 0 →
    take (416 * p.l + p.pk - 416 * p.l) (drop (416 * p.l) sk) ≡ public_key_of set sk
lookup_part set sk p e z = rw (e, add-sub_cancel_left) (accepted _ _ [] z)
