-- `reconciliation::recover_into` meets its contract: each place passed holds its bit.
use lib.ListN.{length, get_or}
use Rattle.lists.proofs.Laws.Fill.{Filled}
use Rattle.reconciliation.specs.Reconciliation.{bit_of}
use Rattle.reconciliation.proofs.recover_into.Given as goal

abbrev pub invariant-loop-i : goal.invariant-loop-i
invariant-loop-i l = Filled (length l.v) l.bits l.i (λ k. bit_of l.g l.added (get_or l.v k 0) (get_or l.data k 0))
