-- `lwr::both_into` meets its contract: the packed vector and the secret are those of the inner product.
use Rattle.std.proofs.Common.{rules}
use Rattle.lwr.proofs.both_into.Goals as goal

pub inner-requires : goal.inner-requires
inner-requires c = record { packed = c.requires.1.vector_long; fits = search rules }
