-- `reconciliation::mask_into` meets its contract: after k turns the first k coefficients are masked.
use lib.ListN.{get_or}
use Rattle.lists.proofs.Laws.Fill.{Filled}
use Rattle.reconciliation.specs.Reconciliation.{masked}
use Rattle.reconciliation.proofs.mask_into.Given as goal

abbrev pub invariant-loop-k : goal.invariant-loop-k
invariant-loop-k l = Filled 256 l.w l.k (λ j. masked (get_or l.v j 0) (get_or l.bits j 0))
