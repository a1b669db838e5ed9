-- `keys::secret_key_into` meets its contract: the four parts are written one behind the other.
use Rattle.keys.specs.Laws.Keys.{secret_steps}
use Rattle.keys.proofs.secret_key_into.Goals as goal

pub returns : goal.returns
returns c =
    secret_steps c.args.l _ _ _ _ c.requires.sk_long c.requires.secret_long c.requires.z_long c.pack_at.ensures
    c.hash256-hash.ensures c.copy_at.ensures c.copy_at-2.ensures c.copy_at-3.ensures
