-- `matrix::Matrix::product_into` meets its contract: after each turn the rows before the next one stand one behind another.
use Rattle.std.proofs.Common.{◌*◌, ◌-◌, min, length}
use Rattle.lists.proofs.Laws.Parts.{Prefix}
use Rattle.algebra.specs.Ring.{nat, blocks}
use Rattle.algebra.specs.Vectors.{matrix_row}
use Rattle.matrix.specs.Ensures.{entries}
use Rattle.matrix.proofs.Matrix.product_into.Given as goal

abbrev pub invariant-loop-first : goal.invariant-loop-first
invariant-loop-first l =
    let i = min l.first l.self.l in
    Prefix (length l.initial.out) l.out (256 * i) (blocks i (matrix_row l.self.l (entries l.self) (nat l.s)))

abbrev pub decreases-loop-first : goal.decreases-loop-first
decreases-loop-first l = l.self.l - l.first
