-- `keccak::rnd` meets its contract: each step is applied to what the step before it ensures.
use Rattle.keccak.specs.Keccak.{rnd}
use Rattle.keccak.proofs.rnd.Goals as goal

pub returns : goal.returns
unfolding rnd
returns c = cc
