-- `saber_numbers::public_key_offset` meets its contract: a lookup that is not refused has the set's parameters.
use Rattle.std.proofs.Common.{◌*◌, ap}
use Rattle.sets.specs.declared.Params.{Params}
use Rattle.saber_numbers.proofs.public_key_offset.Goals as goal

pub returns-in-Ok : goal.returns-in-Ok
returns-in-Ok c = rw (← c.in-Ok.ensures.answer) (ap (λ (p : Params). 416 * p.l) c.in-Ok.ensures.params)
