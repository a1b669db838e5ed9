-- `record_writer::write_into` meets its contract: the parts are written one behind the other.
use Rattle.record_writer.specs.Laws.Steps.{record_steps}
use Rattle.record_writer.proofs.write_into.Goals as goal

pub returns : goal.returns
returns c =
    let a = c.args in
    record_steps a.map a.door.number a.door.size a.time.number a.time.size a.set a.ciphertext.now a.«record».now c.requires
    c.store_at.ensures c.store_at-2.ensures c.store_at-3.ensures c.store_at-4.ensures c.copy_at.ensures
