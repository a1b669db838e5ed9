-- `sponge::mix_at` meets its contract: it is the definition, from what `load64` ensures.
use Rattle.sponge.specs.Sponge.{mix_at}
use Rattle.sponge.proofs.mix_at.Goals as goal

pub returns : goal.returns
unfolding mix_at
returns c = cc
