-- Laws of records from before A7: every record that was accepted then reads to the same entry as it did, and an entry that could be
-- written then has the same record.
use Rattle.std.specs.Prelude.{ℕ, zero, suc, ◌+◌, ◌<◌, Bool, true, false, cond, not, ◌&&◌, Option, None, Some, unwrap_or, Result, Ok, List, [], ◌∷◌, ◌≡◌, eqb, ltb, length}
use Rattle.std.specs.Bool.{then_some}
use Rattle.std.specs.Option.{option_or}
use Rattle.std.proofs.Math.Path.{refl, sym}
use Rattle.std.proofs.Common.{ap, ◌∙◌, mod-eq_of_lt, arith, ltb-true, lt-ltb, le-ltb}
use Rattle.std.proofs.Math.Nat.{add-zero}
use Rattle.lists.specs.Numbers.{number, digits, digit}
use Rattle.lists.proofs.Laws.Booleans.{and_left, and_right, and_false}
use Rattle.questions.specs.declared.Refusal.{Refusal}
use Rattle.questions.specs.Answers.{ask, earliest}
use Rattle.questions.specs.Laws.Answers.{all_yes}
use Rattle.sets.specs.Sets.{params_of, known}
use Rattle.sets.specs.Laws.Sets.{unknown_from}
use Rattle.record_format.specs.declared.Head.{Head}
use Rattle.record_format.specs.Records.{fields, stands, taken_by, head_length, bits_of, laid}
use Rattle.record_format.specs.Records.{record_of, map_in, head_in, ciphertext_in, is_map, read_answer}
use Rattle.record_format.specs.Before as before
use Rattle.record_format.specs.Promises.{Retrieved}
use Rattle.record_format.proofs.Laws.Doors.{is_short}
use Rattle.record_format.proofs.Laws.Heads.{head_steps}
use Rattle.record_format.proofs.Laws.Maps.{no_wide}
use Rattle.record_format.proofs.Laws.Calls.{given_back}

-- bytes hold the number that they held
number_is : (bs : List ℕ) → before.number bs ≡ number 256 bs
unfolding number before.number
number_is [] = refl
number_is (b ∷ bs) = rw (number_is bs)

-- what is made of a field, where its bit stands and where it does not
field_is : {A : Type 0} (f : Option ℕ → A) (b : Bool) {x y : ℕ} → x ≡ y → cond b (f (Some x)) (f None) ≡ f (then_some b y)
field_is f true e = ap (λ n. f (Some n)) e
field_is f false e = refl

-- a set byte of 1 to 3 has its ciphertext's length, and any other is refused with 1
set_as_before :
    (set : ℕ) (rest : ℕ → ℕ) →
    ask (ltb 0 set) 1 (ask (known set) 1 (rest (params_of set).ct)) ≡ ask (before.is_set set) 1 (rest (before.ciphertext_length set))
unfolding params_of
set_as_before zero rest = refl
set_as_before (suc zero) rest = refl
set_as_before (suc (suc zero)) rest = refl
set_as_before (suc (suc (suc zero))) rest = refl
set_as_before (suc (suc (suc (suc n)))) rest =
    let set = suc (suc (suc (suc n))) in
    rw (unknown_from set (omega arith), lt-ltb 0 set (omega arith), le-ltb set 4 (omega arith))

-- a string whose map has bits 0 to 3 alone
module _ (s : List ℕ) (h : before.map_in s < 16) where
  narrow : digit 2 (map_in s) 4 ≡ 0
  narrow = no_wide s h

  pub head_as_before : head_in s ≡ before.head_in s
  head_as_before =
      let m = map_in s in
      let door = field_is (λ o. option_or o None) (stands m 0) (number_is _) in
      let time = field_is (λ o. o) (stands m 1) (number_is _) in
      let set = field_is (λ o. unwrap_or o 0) (stands m 2) (number_is _) in
      sym (head_steps s refl refl (sym narrow) refl (rw narrow door) (rw add-zero time) (rw add-zero set))

  length_as_before : head_length (map_in s) ≡ before.ciphertext_at (map_in s)
  unfolding taken_by fields
  length_as_before = omega (arith, narrow)

  pub rest_as_before : ciphertext_in s ≡ before.ciphertext_in s
  rest_as_before = rw length_as_before

  map_as_before : is_map (map_in s) ≡ before.is_map (map_in s)
  map_as_before =
      let m = map_in s in
      let few : ltb m 32 && not (stands m 0 && stands m 4) ≡ ltb m 16 = rw (lt-ltb m 32 (omega arith), narrow, and_false, lt-ltb m 16 h) in
      ap (λ (b : Bool). b && stands m 2 && stands m 3) few

  -- it is answered as it was, whether it is accepted or refused
  pub answer_as_before : (ct : ℕ) → read_answer s ct ≡ before.read_answer s ct
  unfolding earliest
  answer_as_before ct =
      let n = before.ciphertext_at (map_in s) in
      rw (head_as_before, length_as_before, map_as_before, narrow, set_as_before (before.set_in s) (λ k. ask (eqb (length s) (n + k)) 11 (ask (eqb ct k) 9 0)))

-- every record that was accepted reads to the same entry as before
pub read_as_before :
    (s : List ℕ) (ct : ℕ) → before.read_answer s ct ≡ 0 →
    (read_answer s ct ≡ 0) × (head_in s ≡ before.head_in s) × (ciphertext_in s ≡ before.ciphertext_in s)
read_as_before s ct z =
    let y = all_yes (before.read_questions s ct) refl refl z in
    let m = before.map_in s in
    let h = ltb-true m 16 (and_left (ltb m 16) _ (and_left (ltb m 16 && before.stands m 2) _ y.1.0)) in
    (answer_as_before s h ct ∙ z, head_as_before s h, rest_as_before s h)

-- the same of a call that keeps its promise
pub call_as_before :
    (s old : List ℕ) {r : Result Head Refusal} {ct' : List ℕ} → before.read_answer s (length old) ≡ 0 → Retrieved s old r ct' →
    (r ≡ Ok (before.head_in s)) × (ct' ≡ before.ciphertext_in s)
call_as_before s old {r} z g =
    let w = read_as_before s (length old) z in
    let e : r ≡ Ok (before.head_in s) = given_back s old g ∙ rw (w.0, w.1) in
    (e, g.writes ∙ rw e w.2)

-- an entry that A1 has, its door missing or of two bytes and its set 1 to 3, is written as before
written_parts :
    (d t : Option ℕ) (n : ℕ) (c : List ℕ) → before.is_door d ≡ true → n < 256 →
    let h : Head = record { door = d; time = t; set = n } in record_of h c ≡ before.record_of h c
unfolding record_of fields bits_of laid digits before.record_of before.bytes
written_parts None None n c e l = rw (mod-eq_of_lt l)
written_parts None (Some y) n c e l = rw (mod-eq_of_lt l)
written_parts (Some x) None n c e l = let f = is_short x (ltb-true x 65536 e) in rw (f.0, f.1, mod-eq_of_lt l)
written_parts (Some x) (Some y) n c e l = let f = is_short x (ltb-true x 65536 e) in rw (f.0, f.1, mod-eq_of_lt l)

pub written_as_before :
    (h : Head) (c : List ℕ) → before.is_door h.door ≡ true → before.is_set h.set ≡ true → record_of h c ≡ before.record_of h c
written_as_before h c d n =
    written_parts h.door h.time h.set c d (omega (arith, ltb-true h.set 4 (and_right (ltb 0 h.set) _ n)))
