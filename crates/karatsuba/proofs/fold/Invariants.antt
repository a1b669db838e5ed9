-- `karatsuba::fold` meets its contract: one row a turn.
use Rattle.std.proofs.Common.{ℕ, ◌+◌, ◌*◌}
use Rattle.lists.specs.Lists.{from}
use Rattle.algebra.specs.Ring.{poly}
use Rattle.karatsuba.specs.Ensures.{fold_row}
use Rattle.karatsuba.specs.Laws.Fold.{Written}
use Rattle.karatsuba.proofs.fold.Given as goal

abbrev pub invariant-loop-i : goal.invariant-loop-i
invariant-loop-i l = Written l.i (λ (i : ℕ). from 256 (fold_row l.work (l.x + 16 * i) (16 * l.rows) (poly l.initial.out i))) l.initial.out l.out
