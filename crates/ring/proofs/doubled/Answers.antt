-- `ring::doubled` meets its contract: each loop writes one place of the table a turn, from the front.
use Rattle.std.proofs.Common.{◌≡◌, ◌-◌, refl, ◌∙◌, arith}
use Rattle.lists.proofs.Laws.Fill.{fill_none, fill_more, fill_all}
use Rattle.ring.specs.Laws.Columns.{place_low, place_high, places}
use Rattle.ring.proofs.doubled.Goals as goal

pub loop-j-init : goal.loop-j-init
loop-j-init c = fill_none refl

pub loop-j-preserved : goal.loop-j-preserved
loop-j-preserved c =
    let k = c.loop-j in
    let fits = c.type_inv.b (255 - k.j) in
    fill_more (omega arith) k.invariant (search place_low)

pub loop-j-2-init : goal.loop-j-2-init
loop-j-2-init c =
    let e : c.loop-j.j ≡ 256 = omega arith in
    rw e at c.loop-j.invariant

pub loop-j-2-preserved : goal.loop-j-2-preserved
loop-j-2-preserved c = fill_more (omega arith) c.loop-j-2.invariant (search place_high)

pub returns : goal.returns
returns c = fill_all (omega arith) c.loop-j-2.invariant ∙ places c.args.b.now
