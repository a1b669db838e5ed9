-- `reconciliation::mask_into` meets its contract: after k turns the first k coefficients are masked.
use native.Mathlib.Omega.{arith}
use Rattle.lists.proofs.Laws.Fill.{fill_more}
use Rattle.reconciliation.proofs.mask_into.Goals as goal

pub loop-k-preserved : goal.loop-k-preserved
loop-k-preserved c = fill_more (omega arith) c.loop-k.invariant c.mask.ensures
