-- `karatsuba::fold` meets its contract: one row a turn.
use Rattle.std.proofs.Common.{refl, ◌∙◌, arith}
use Rattle.karatsuba.specs.Laws.Fold.{written_none, written_more, lent}
use Rattle.karatsuba.proofs.fold.Goals as goal

pub loop-i-init : goal.loop-i-init
loop-i-init c = written_none _ _

pub loop-i-preserved : goal.loop-i-preserved
loop-i-preserved c =
    let v = c.fold_row in
    written_more c.loop-i.invariant _ (omega (arith, c.requires.1)) v.auto.out (v.ensures ∙ rw (lent c.loop-i.invariant) refl)
