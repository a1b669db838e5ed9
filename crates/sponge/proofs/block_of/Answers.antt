-- `sponge::block_of` meets its contract: a copy over zeros.
use mathlib.Core.Path.{◌∙◌}
use native.Mathlib.Omega.{arith}
use Rattle.sponge.specs.Laws.Sponge.{over_zeros}
use Rattle.sponge.proofs.block_of.Goals as goal

pub returns : goal.returns
returns c = c.copy_at.ensures ∙ over_zeros _ 200 (omega arith)
