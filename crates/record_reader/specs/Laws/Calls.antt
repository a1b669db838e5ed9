-- Laws of reading: a refused read keeps its promise, which gives no field and leaves the output as it was; and so does one that is accepted,
-- with its steps made.
use Rattle.std.specs.Prelude.{ℕ, ◌+◌, ◌-◌, ◌≤◌, None, Some, unwrap_or, Ok, Err, List, ◌≡◌, refl, eqb, length, get_or, take, drop}
use Rattle.std.proofs.lemmas.Bool.{false≢true}
use Rattle.std.proofs.Common.{sym, ap, ◌∙◌, arith, length-drop}
use Rattle.lists.specs.Strings.{placed}
use Rattle.lists.proofs.Laws.Parts.{last_part}
use Rattle.lists.proofs.Laws.Strings.{placed_whole}
use Rattle.questions.specs.declared.Refusal.{Refusal}
use Rattle.questions.specs.Answers.{earliest}
use Rattle.questions.specs.Refusals.{number_of}
use Rattle.questions.specs.Laws.Answers.{numbered_refusal, refused}
use Rattle.record_format.specs.declared.Head.{Head}
use Rattle.record_format.specs.Records.{head_length, head_in, read_questions, read_answer}
use Rattle.record_format.specs.Promises.{Retrieved}
use Rattle.record_format.specs.Ensures.{Readable}
use Rattle.record_format.proofs.Laws.Records.{readable}

pub read_refused : (s old : List ℕ) {refusal : Refusal} → number_of refusal ≡ read_answer s (length old) → Retrieved s old (Err refusal) old
read_refused s old {refusal} a =
    let some : number_of refusal ≡ 0 → ⊥ = λ z. false≢true (sym (numbered_refusal refusal) ∙ ap (λ (n : ℕ). eqb n 0) z) in
    record { answers = a; gives = refused (number_of refusal) _ None some; writes = refused (number_of refusal) _ old some }

module _ (s old : List ℕ) {m r : ℕ} {h : Head} (im : m ≡ get_or s 0 0) (ih : h ≡ head_in s)
    (a : r ≡ earliest (read_questions m (unwrap_or h.door 0) h.set (length s) (length old))) where
  answer_is : r ≡ read_answer s (length old)
  answer_is = a ∙ rw (im, ih)

  pub read_lengths : r ≡ 0 → Readable m (unwrap_or h.door 0) h.set (length s) (length old)
  read_lengths z = readable m (unwrap_or h.door 0) h.set (length s) (length old) a z

  module _ {e : ℕ} (z : r ≡ 0) (ie : e ≡ head_length m) where
    -- the rest of the record is as long as the output
    rest_long_lem : length (drop e s) ≡ length old
    rest_long_lem = let w = read_lengths z in rw (length-drop, ie) (omega arith)

    part_is : take (length s - e) (drop e s) ≡ drop e s
    part_is = last_part e (length s) s refl

    pub read_fits : 0 + length (take (length s - e) (drop e s)) ≤ length old
    read_fits = rw (part_is, rest_long_lem) (omega arith)

    pub read_done : {new : List ℕ} → new ≡ placed 0 (take (length s - e) (drop e s)) old → Retrieved s old (Ok h) new
    read_done p =
        let copied : placed 0 (take (length s - e) (drop e s)) old ≡ drop e s = rw part_is (placed_whole (drop e s) old (sym rest_long_lem)) in
        record { answers = sym z ∙ answer_is; gives = ap (λ g. Some g) ih; writes = p ∙ copied ∙ rw (ie, im) }
