-- `karatsuba::folded` meets its contract: one place a turn.
use Rattle.lists.proofs.Laws.Fill.{Filled}
use Rattle.karatsuba.specs.Ensures.{fold_at}
use Rattle.karatsuba.proofs.folded.Given as goal

abbrev pub invariant-loop-k : goal.invariant-loop-k
invariant-loop-k l = Filled 16 l.r l.k (fold_at l.work l.x l.y l.old l.o)
