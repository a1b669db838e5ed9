-- `karatsuba::fold_row` meets its contract: sixteen places a turn.
use Rattle.std.proofs.Common.{◌≡◌, ◌*◌, arith}
use Rattle.karatsuba_base.specs.Laws.Put.{put_to, put_all}
use Rattle.karatsuba.specs.Laws.Fold.{fold_next}
use Rattle.karatsuba.proofs.fold_row.Goals as goal

pub loop-g-preserved : goal.loop-g-preserved
loop-g-preserved c =
    let x = c.args in
    fold_next x.work.now x.x x.s c.loop-g.g c.loop-g.invariant c.folded-r.ensures c.put.ensures

pub returns : goal.returns
returns c =
    let e : 16 * c.loop-g.g ≡ 256 = omega arith in
    put_all c.requires.1 (put_to e c.loop-g.invariant)
