-- A list's text is written number by number.
use Rattle.std.proofs.Common.{◌<◌, length, arith, rules}
use Rattle.decimals.specs.Laws.Texts.{written_none, written_first, written_more, written_all}
use Rattle.decimals_write.proofs.signed_into.Goals as goal

pub returns-then-is_empty : goal.returns-then-is_empty
returns-then-is_empty c = (omega (arith, c.put.ensures.place), written_none _ (search rules) c.put.ensures)

pub loop-i-init : goal.loop-i-init
loop-i-init c = written_first _ (search rules) (search rules) c.number_into-at.ensures

pub loop-i-preserved : goal.loop-i-preserved
loop-i-preserved c =
    let l = c.loop-i in
    written_more _ l.i (omega arith) (search rules) l.invariant c.put-next.ensures c.number_into-at-in-loop-i.ensures

pub returns : goal.returns
returns c =
    let some : 0 < length c.args.list.now = search rules in
    (omega (arith, c.loop-i.invariant.within), written_all _ c.loop-i.i (search rules) c.loop-i.invariant)
