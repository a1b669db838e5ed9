-- `record_writer::number_part` meets its contract: a number has its bit and the bytes of its field, a missing one has neither.
use Rattle.record_writer.specs.Laws.Steps.{lays_none, lays_some}
use Rattle.record_writer.proofs.number_part.Goals as goal

pub returns-in-Some : goal.returns-in-Some
returns-in-Some c = search lays_some

pub returns-in-None : goal.returns-in-None
returns-in-None c = search lays_none
