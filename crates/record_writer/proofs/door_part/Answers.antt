-- `record_writer::door_part` meets its contract: the upper half says which field has the door.
use Rattle.std.proofs.Common.{◌≡◌, ◌+◌, ◌/◌, refl, arith}
use Rattle.record_writer.specs.Laws.Steps.{lays_door}
use Rattle.record_writer.proofs.door_part.Goals as goal

pub returns : goal.returns
returns c =
    let same : c.map.result ≡ c.args.door = grind (arith, c.map.ensures.cases) in
    let wide = (c.unwrap_or.result / 65536 + 65535) / 65536 in
    lays_door c.args.door {w = wide} same c.unwrap_or.ensures c.unwrap_or.type_inv refl c.number_part.ensures
