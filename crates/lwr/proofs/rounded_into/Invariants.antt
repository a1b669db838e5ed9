-- `lwr::rounded_into` meets its contract: after each turn the rows before the next one stand packed at the front, and all else is as it was.
use Rattle.std.proofs.Common.{◌≡◌, ◌-◌, min, map}
use Rattle.lists.specs.Strings.{placed}
use Rattle.algebra.specs.Ring.{nat, blocks}
use Rattle.packing.specs.Packing.{packed}
use Rattle.rounding.specs.Rounding.{round}
use Rattle.algebra.specs.Vectors.{matrix_row}
use Rattle.matrix.specs.Ensures.{entries}
use Rattle.lwr.proofs.rounded_into.Given as goal

abbrev pub invariant-loop-first : goal.invariant-loop-first
invariant-loop-first l =
    l.out
    ≡ placed 0 (packed 10 (map round (blocks (min l.first l.matrix.l) (matrix_row l.matrix.l (entries l.matrix) (nat l.secret))))) l.initial.out

abbrev pub decreases-loop-first : goal.decreases-loop-first
decreases-loop-first l = l.matrix.l - l.first
