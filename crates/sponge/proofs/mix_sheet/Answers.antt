-- `sponge::mix_sheet` meets its contract: each lane is what its call ensures.
use Rattle.sponge.proofs.mix_sheet.Goals as goal

pub returns : goal.returns
returns c = cc
