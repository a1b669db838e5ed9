-- `matrix::inner_words` meets its contract: after the zeros, each turn adds one product.
use Rattle.std.proofs.Common.{arith}
use Rattle.matrix.specs.Laws.Sums.{inner_none, inner_next}
use Rattle.matrix.proofs.inner_words.Goals as goal

pub loop-j-init : goal.loop-j-init
loop-j-init c = inner_none c.args.a.now c.args.s.now

pub loop-j-preserved : goal.loop-j-preserved
loop-j-preserved c =
    inner_next c.args.a.now c.args.s.now c.loop-j.j (omega (arith, c.requires.first, c.loop-j-test.true)) c.loop-j.invariant c.rows_add.ensures
