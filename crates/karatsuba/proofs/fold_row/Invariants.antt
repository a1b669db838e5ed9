-- `karatsuba::fold_row` meets its contract: sixteen places a turn.
use Rattle.std.proofs.Common.{◌*◌}
use Rattle.karatsuba.specs.Ensures.{fold_row}
use Rattle.karatsuba_base.specs.Ensures.{Put}
use Rattle.karatsuba.proofs.fold_row.Given as goal

abbrev pub invariant-loop-g : goal.invariant-loop-g
invariant-loop-g l = Put 0 (16 * l.g) (fold_row l.work l.x l.s l.initial.out) l.initial.out l.out
