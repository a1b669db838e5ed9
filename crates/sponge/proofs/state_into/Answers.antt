-- `sponge::state_into` meets its contract. The loop's invariant: the first k lanes are written.
use mathlib.Core.Path.{◌≡◌, refl}
use Prim.Native.Nat.{◌+◌, ◌*◌, ◌/◌}
use native.Mathlib.Omega.{arith}
use lib.ListN.{length, length-take, length-drop}
use Rattle.lists.proofs.Laws.Fill.{fill_none, fill_all}
use Rattle.sponge.specs.Laws.Sponge.{lane_more}
use Rattle.sponge.proofs.state_into.Goals as goal

pub loop-k-init : goal.loop-k-init
loop-k-init c = fill_none refl

pub store-requires : goal.store-requires
store-requires c = simp (length-take, length-drop) (omega arith)

pub loop-k-preserved : goal.loop-k-preserved
loop-k-preserved c =
    let l = c.loop-k in
    let e : 8 * (l.k + 1) ≡ 8 * l.k + 8 = omega arith in
    rw e
    (lane_more c.args.a l.k (omega arith) (omega arith) (omega (arith, l.invariant.size)) l.invariant
    c.store.ensures)

pub store-requires-2 : goal.store-requires-2
store-requires-2 c = simp (length-take, length-drop) (omega arith)

pub shape_of-output : goal.shape_of-output
shape_of-output c =
    let l = c.loop-k in
    let e : l.k ≡ length c.args.output.now / 8 = omega arith in
    (lane_more c.args.a (length c.args.output.now / 8) (omega (arith, l.invariant.size)) (omega (arith, l.invariant.size)) (omega (arith, l.invariant.size))
    (rw e at l.invariant) c.store-2.ensures).size

pub returns : goal.returns
returns c =
    let l = c.loop-k in
    let e : l.k ≡ length c.args.output.now / 8 = omega arith in
    fill_all (omega (arith, l.invariant.size))
    (lane_more c.args.a (length c.args.output.now / 8) (omega (arith, l.invariant.size)) (omega (arith, l.invariant.size)) (omega (arith, l.invariant.size))
    (rw e at l.invariant) c.store-2.ensures)
