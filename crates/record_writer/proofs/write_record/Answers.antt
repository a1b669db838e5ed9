-- `record_writer::write_record` meets its contract where it writes the record.
use Rattle.std.proofs.Common.{rules, ◌∙◌}
use Rattle.questions.specs.Answers.{earliest}
use Rattle.record_writer.specs.Laws.Calls.{head_is, record_is}
use Rattle.record_writer.proofs.write_record.Goals as goal

pub returns : goal.returns
unfolding earliest
returns c =
    let a = c.args in
    let set = rw c.in_ok-p.ensures.ok_part at c.known_params.ensures in
    record {
      answers = search (rules, head_is);
      writes = c.write_into.ensures ∙ record_is a.door a.time a.set c.door_part-d.ensures c.number_part-t.ensures a.ciphertext.now set.params;
    }
