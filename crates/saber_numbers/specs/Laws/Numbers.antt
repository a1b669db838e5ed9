-- Laws of numbers that may be missing, by a flag and a number, and of the read that lends them.
use Rattle.std.specs.Prelude.{ℕ, zero, suc, Option, Some, Result, Ok, Err, List, ◌≡◌, refl, eqb}
use Rattle.std.proofs.lemmas.Bool.{false≢true}
use Rattle.std.proofs.Common.{sym, ap, ◌∙◌}
use Rattle.questions.specs.declared.Refusal.{Refusal}
use Rattle.questions.specs.Refusals.{number_of}
use Rattle.questions.specs.Laws.Answers.{numbered_refusal, refused}
use Rattle.record_format.specs.declared.Head.{Head}
use Rattle.record_format.specs.Records.{head_in}
use Rattle.record_format.specs.Promises.{Recorded, Retrieved}
use Rattle.saber_numbers.specs.Numbers.{flagged, flag_of, or_old}
use Rattle.saber_numbers.specs.Promises.{ReadInto}

-- a flag that is not 0
pub there : (flag x : ℕ) → (flag ≡ 0 → ⊥) → Some x ≡ flagged flag x
there zero x h = absurd (h refl)
there (suc flag) x h = refl

-- the promise of writing, of the door and the time that are meant
pub recorded_as :
    {d d' t t' : Option ℕ} (set : ℕ) (ct old : List ℕ) {r : ℕ} {new : List ℕ} → d ≡ d' → t ≡ t' → Recorded d t set ct old r new →
    Recorded d' t' set ct old r new
recorded_as set ct old e e' w = rw (e, e') at w

-- a read that gives an entry, whose numbers are handed out, and one that is refused
module _ (s ct : List ℕ) (has_door door has_time time set : ℕ) {r : Result Head Refusal} {ct' : List ℕ} (w : Retrieved s ct r ct') where
  pub read_entry :
      {h : Head} {has_door' door' has_time' time' : ℕ} → r ≡ Ok h →
      (has_door' ≡ flag_of h.door) × (door' ≡ or_old h.door door) → (has_time' ≡ flag_of h.time) × (time' ≡ or_old h.time time) →
      ReadInto s has_door door has_time time set ct 0 has_door' door' has_time' time' h.set ct'
  read_entry {h} is d t =
      let g = rw is at w in
      let e : h ≡ head_in s = cc in
      record {
        answers = g.answers;
        door_flag = d.0 ∙ rw e;
        door_is = d.1 ∙ rw e;
        time_flag = t.0 ∙ rw e;
        time_is = t.1 ∙ rw e;
        set_is = rw e;
        writes = g.writes;
      }

  pub read_refusal :
      {refusal : Refusal} → r ≡ Err refusal →
      ReadInto s has_door door has_time time set ct (number_of refusal) has_door door has_time time set ct'
  read_refusal {refusal} is =
      let g = rw is at w in
      let n = number_of refusal in
      let e : n ≡ 0 → ⊥ = λ z. false≢true (sym (numbered_refusal refusal) ∙ ap (λ (n : ℕ). eqb n 0) z) in
      record {
        answers = g.answers;
        door_flag = refused n _ has_door e;
        door_is = refused n _ door e;
        time_flag = refused n _ has_time e;
        time_is = refused n _ time e;
        set_is = refused n _ set e;
        writes = g.writes;
      }
