-- `keys::public_key_into` meets its contract: the vector and the stored matrix seed are written one behind the other.
use Rattle.keys.specs.Laws.Keys.{public_steps}
use Rattle.keys.proofs.public_key_into.Goals as goal

pub returns : goal.returns
returns c =
    public_steps c.args.l _ _ _ c.requires.pk_long c.shake128.ensures c.vector_into.ensures c.copy_at.ensures
