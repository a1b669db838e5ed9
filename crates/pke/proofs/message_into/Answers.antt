-- `pke::message_into` meets its contract: the three steps of the definition, one after another.
use Rattle.pke.specs.Laws.Pke.{message_steps}
use Rattle.pke.proofs.message_into.Goals as goal

pub returns : goal.returns
returns c =
    message_steps c.args.p _ _ _ c.recover_into.auto.bits c.requires.message_long
    c.unpack_into.ensures c.recover_into.ensures c.pack_at.ensures
