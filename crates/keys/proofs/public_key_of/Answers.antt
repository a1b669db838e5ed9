-- `keys::public_key_of` meets its contract: the part is cut where the definition cuts it.
use mathlib.Core.Path.{sym}
use Rattle.keys.specs.Laws.Keys.{lookup_part}
use Rattle.keys.proofs.public_key_of.Goals as goal

pub returns-in-Ok : goal.returns-in-Ok
returns-in-Ok c = lookup_part c.args.set _ _ c.in-Ok.ensures.params (sym c.in-Ok.ensures.answer)
