-- `karatsuba::folded` meets its contract: one place a turn.
use Rattle.std.proofs.Common.{◌≡◌, ◌+◌, ◌-◌, ◌%◌, get_or, refl, arith}
use Rattle.lists.proofs.Laws.Fill.{fill_more, fill_all}
use Rattle.karatsuba.specs.Laws.Fold.{fold_one}
use Rattle.karatsuba.proofs.folded.Goals as goal

pub loop-k-preserved : goal.loop-k-preserved
loop-k-preserved c =
    let k = c.loop-k.k in
    let w = c.args.work.now in
    let p = c.args.x + k in
    let q = c.args.y + k in
    let back : ((get_or w p 0 + (65536 - get_or w q 0)) % 65536 + get_or w q 0) % 65536 ≡ get_or w p 0 =
    omega (arith, c.type_inv.work p, c.type_inv.work q) in
    fill_more (omega arith) c.loop-k.invariant (fold_one _ _ _ _ back refl)

pub returns : goal.returns
returns c = fill_all (omega arith) c.loop-k.invariant
