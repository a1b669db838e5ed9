-- Laws of the two calls, by their promises: what is given back, and that one reads what the other writes.
use Rattle.std.specs.Prelude.{ℕ, zero, suc, Option, None, Some, Result, Ok, Err, List, [], ◌∷◌, ◌≡◌, refl, length, get_or}
use Rattle.std.specs.Result.{result_ok}
use Rattle.std.proofs.Common.{sym, ap, ◌∙◌, eqb-true}
use Rattle.lists.specs.Numbers.{Below}
use Rattle.questions.specs.declared.Refusal.{Refusal}
use Rattle.questions.specs.declared.Refusal.TheVariants.{UnknownSet, UnknownNumber, SeedLength, PublicKeyLength, SecretKeyLength, CiphertextLength, InputLength, CoefficientRange, OutputLength, RecordMap, RecordLength, RecordDoor}
use Rattle.questions.specs.Answers.{written}
use Rattle.questions.specs.Refusals.{answer_of}
use Rattle.questions.specs.Laws.Answers.{all_yes}
use Rattle.sets.specs.Sets.{params_of}
use Rattle.record_format.specs.declared.Head.{Head}
use Rattle.record_format.specs.Records.{head_length, map_of, headed, write_questions, head_in, read_answer, Fits}
use Rattle.record_format.specs.Promises.{Recorded, Retrieved}
use Rattle.record_format.proofs.Laws.Records.{read_written, written_read, write_accepts}

-- the refusals by their numbers, from 1 on
abbrev pub refusals : List Refusal
refusals =
    UnknownSet ∷ UnknownNumber ∷ SeedLength ∷ PublicKeyLength ∷ SecretKeyLength ∷ CiphertextLength ∷ InputLength
    ∷ CoefficientRange ∷ OutputLength ∷ RecordMap ∷ RecordLength ∷ RecordDoor ∷ []

-- the entry of a head where the answer is 0, and else the refusal with that number
abbrev pub read_of : ℕ → Head → Result Head Refusal
read_of zero h = Ok h
read_of (suc n) h = Err (get_or refusals n UnknownSet)

-- a number and values say together what is given back
by_parts : (r : Result Head Refusal) (h : Head) → result_ok r ≡ written (answer_of r) (Some h) None → r ≡ read_of (answer_of r) h
by_parts (Ok g) h e = cc
by_parts (Err UnknownSet) h e = refl
by_parts (Err UnknownNumber) h e = refl
by_parts (Err SeedLength) h e = refl
by_parts (Err PublicKeyLength) h e = refl
by_parts (Err SecretKeyLength) h e = refl
by_parts (Err CiphertextLength) h e = refl
by_parts (Err InputLength) h e = refl
by_parts (Err CoefficientRange) h e = refl
by_parts (Err OutputLength) h e = refl
by_parts (Err RecordMap) h e = refl
by_parts (Err RecordLength) h e = refl
by_parts (Err RecordDoor) h e = refl

-- so the promise says exactly what is given back
pub given_back : (s old : List ℕ) {r : Result Head Refusal} {ct' : List ℕ} → Retrieved s old r ct' → r ≡ read_of (read_answer s (length old)) (head_in s)
given_back s old {r} g = by_parts r (head_in s) g.gives ∙ ap (λ (a : ℕ). read_of a (head_in s)) g.answers

-- what was written is read back: the same door and time, the set that its number means and the same ciphertext
pub read_back :
    (d t : Option ℕ) (set : ℕ) (c old ct : List ℕ) {new ct' : List ℕ} {r : Result Head Refusal} → Fits 4 d → Fits 8 t →
    length ct ≡ length c → Recorded d t set c old 0 new → Retrieved new ct r ct' → (r ≡ Ok (headed d t set)) × (ct' ≡ c)
read_back d t set c old ct {new} {ct'} {r} fd ft l w g =
    let h = headed d t set in
    let y = all_yes (write_questions (head_length (map_of h)) set (length c) (length old)) refl w.answers refl in
    let k = read_written d t set c fd ft y.0 (eqb-true (length c) (params_of set).ct y.1.0) in
    let a : read_answer new (length ct) ≡ 0 = rw (l, w.writes) k.accepted in
    let e : r ≡ Ok h = given_back new ct g ∙ rw (a, w.writes, k.head) in
    (e, g.writes ∙ rw (e, w.writes) k.rest)

-- what was read is written again: the same bytes
pub write_back :
    (s old lent : List ℕ) {h : Head} {ct new : List ℕ} {r : ℕ} → Below 256 s → length lent ≡ length s → Retrieved s old (Ok h) ct →
    Recorded h.door h.time h.set ct lent r new → (r ≡ 0) × (new ≡ s)
write_back s old lent {h} {ct} {new} {r} b l g w =
    let read = sym g.answers in
    let is : h ≡ head_in s = cc in
    let a = write_accepts s (length old) b read in
    let z : r ≡ 0 = w.answers ∙ rw (l, g.writes, is, a.0) a.1 in
    (z, w.writes ∙ rw (z, g.writes, is, a.0) (written_read s (length old) b read))
