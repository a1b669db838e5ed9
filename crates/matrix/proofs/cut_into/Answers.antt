-- `matrix::cut_into` meets its contract: after i turns the first i polynomials stand one behind another.
use Rattle.std.proofs.Common.{◌≡◌, ◌+◌, ◌*◌, ◌<◌, arith, mul-le-mul_left, mul-suc, add-one}
use Rattle.lists.proofs.Laws.Parts.{prefix_none, prefix_part}
use Rattle.algebra.specs.Ring.{blocks}
use Rattle.matrix.specs.Laws.Rows.{before_last, cut_part}
use Rattle.matrix.proofs.cut_into.Goals as goal

pub loop-i-init : goal.loop-i-init
unfolding blocks
loop-i-init c = prefix_none _

pub slice_bounds-unpack_into-end : goal.slice_bounds-unpack_into-end
slice_bounds-unpack_into-end c =
    let w = 32 * c.args.width in
    let x = c.args.start + c.args.step * c.loop-i.i in
    let h : x < c.requires.count = before_last c.args.start c.args.step c.args.rows c.requires.last c.loop-i-test.true in
    omega (arith, c.requires.whole, mul-suc w x, mul-le-mul_left w h)

pub loop-i-preserved : goal.loop-i-preserved
unfolding blocks
loop-i-preserved c =
    let place : c.args.start + c.args.step * c.loop-i.i < c.requires.count =
    before_last c.args.start c.args.step c.args.rows c.requires.last c.loop-i-test.true in
    let t = c.loop-i in
    let a = c.args in
    let e : 256 * (t.i + 1) ≡ 256 * t.i + 256 = omega arith in
    let y =
    cut_part a.width (a.start + a.step * t.i) c.requires.count a.bytes.now c.requires.least (λ j h. (c.type_inv.bytes j).fits)
    c.requires.whole place c.unpack_into.ensures in
    rw (e, add-one t.i, ← y)
    (prefix_part _ t.invariant (omega arith) (omega (arith, c.requires.fits, c.loop-i-test.true)) c.unpack_into.auto.coefficients)
