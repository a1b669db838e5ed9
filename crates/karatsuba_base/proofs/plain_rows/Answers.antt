-- `karatsuba_base::plain_rows` meets its contract: one row a turn.
use Rattle.std.proofs.Common.{ℕ, ◌+◌, ◌*◌, List, get_or, refl, ap, ◌∙◌, arith, length-drop, length-take}
use Rattle.karatsuba_base.specs.Laws.Put.{part_at, put_part}
use Rattle.karatsuba_base.specs.Laws.Base.{row_value, plain_row, plain_turn}
use Rattle.karatsuba_base.proofs.plain_rows.Goals as goal

pub loop-i-preserved : goal.loop-i-preserved
loop-i-preserved c =
    let hi = c.loop-i-test.true in
    let p = c.loop-i.invariant in
    let w = c.args.work.now in
    let a = c.args.a in
    let i = c.loop-i.i in
    let x = a + 24 * c.args.rows + 8 in
    let r = c.product-r in
    let s = r.ensures.next.size in
    plain_turn r.result hi p
    (row_value c.args.rows a i w _ _ c.requires.blank hi (simp (length-take, length-drop) (omega (arith, c.requires.operands, p.size, hi)))
    (λ t h. part_at (a + 24 * i) (a + 24 * i + 32) c.loop-i.work (omega arith) refl ∙ plain_row c.requires.apart p hi h)
    (λ t h. ap (λ (v : List ℕ). get_or v t 0) c.copy_from_slice.ensures.after ∙ part_at x (x + 16) w (omega arith) refl) r.ensures)
    refl refl (put_part 0 16 r.result (omega (arith, s)) refl c.put.ensures) (put_part 16 32 r.result (omega (arith, s)) refl c.put-in-loop-i.ensures)
