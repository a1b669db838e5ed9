-- `record_reader::read_record` meets its contract where it accepts a record: the head that it gives is the one in the record, and the bytes behind
-- that fill the output.
use Rattle.std.proofs.Common.{◌≡◌, ◌+◌, rules, arith, ap, ◌∙◌, length, length-drop}
use Rattle.std.specs.Prelude.{Some}
use Rattle.lists.proofs.Laws.Strings.{placed_whole}
use Rattle.questions.specs.Answers.{earliest}
use Rattle.record_format.specs.Records.{head_in}
use Rattle.record_reader.proofs.read_record.Goals as goal

pub returns : goal.returns
unfolding earliest head_in
returns c =
    let parts = rw c.in_ok-map.ensures.ok_part at c.split_first.ensures.cases in
    let after = ap length c.head_in.ensures.after in
    let size : length c.args.record.now ≡ c.head_length-start.result + length c.args.ciphertext.now = search rules in
    record {
      answers = search rules;
      gives = rw parts.0 (ap (λ h. Some h) c.head_in.ensures.head);
      writes = c.copy_at.ensures ∙ placed_whole _ _ (omega (arith, parts.1, c.head_length-start.ensures, size, simp length-drop at after)) ∙ search rules;
    }
