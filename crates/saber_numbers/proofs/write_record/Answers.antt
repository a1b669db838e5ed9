-- `saber_numbers::write_record` meets its contract: the call of the library, with the door and the time that are meant.
use Rattle.saber_numbers.specs.Laws.Numbers.{recorded_as}
use Rattle.saber_numbers.proofs.write_record.Goals as goal

pub returns : goal.returns
returns c = rw c.answer.ensures (recorded_as _ _ _ c.flagged-door.ensures c.flagged-time.ensures c.write_record.ensures)
