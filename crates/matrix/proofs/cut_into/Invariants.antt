-- `matrix::cut_into` meets its contract: after i turns the first i polynomials stand one behind another.
use Rattle.std.proofs.Common.{◌+◌, ◌*◌, length}
use Rattle.lists.proofs.Laws.Parts.{Prefix}
use Rattle.algebra.specs.Ring.{poly, blocks}
use Rattle.packing.specs.Packing.{unpacked}
use Rattle.matrix.proofs.cut_into.Given as goal

abbrev pub invariant-loop-i : goal.invariant-loop-i
invariant-loop-i l =
    Prefix (length l.initial.out) l.out (256 * l.i) (blocks l.i (λ i. poly (unpacked l.width l.bytes) (l.start + l.step * i)))
