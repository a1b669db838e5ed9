-- `reconciliation::recover_into` meets its contract: each place passed holds its bit.
use native.Mathlib.Omega.{arith}
use Rattle.lists.proofs.Laws.Fill.{fill_more}
use Rattle.reconciliation.proofs.recover_into.Goals as goal

pub loop-i-preserved : goal.loop-i-preserved
loop-i-preserved c = fill_more (omega arith) c.loop-i.invariant c.bit_of.ensures
