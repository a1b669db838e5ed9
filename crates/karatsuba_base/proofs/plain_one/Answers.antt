-- `karatsuba_base::plain_one` meets its contract.
use Rattle.std.proofs.Common.{◌+◌, refl, arith, length-drop, length-take}
use Rattle.karatsuba_base.specs.Laws.Put.{part_at, put_part}
use Rattle.karatsuba_base.specs.Laws.Base.{row_value, plain_none, plain_turn}
use Rattle.karatsuba_base.proofs.plain_one.Goals as goal

pub returns : goal.returns
returns c =
    let w = c.args.work.now in
    let a = c.args.a in
    let r = c.product-r in
    let s = r.ensures.next.size in
    plain_turn r.result (omega arith) plain_none
    (row_value 1 a 0 w _ _ c.requires.blank (omega arith) (simp (length-take, length-drop) (omega (arith, c.requires.operands)))
    (λ t h. part_at a (a + 32) w (omega arith) (omega arith)) (λ t h. part_at (a + 32) (a + 32 + 16) w (omega arith) (omega arith)) r.ensures)
    (omega arith) (omega arith) (put_part 0 16 r.result (omega (arith, s)) refl c.put.ensures)
    (put_part 16 32 r.result (omega (arith, s)) refl c.put-2.ensures)
