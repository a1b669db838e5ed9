-- `sponge::squeeze` meets its contract. The loop's invariant: the bytes before place at are written, and while some are left to write,
-- a block starts there and the next permutation of a gives its state.
use mathlib.Core.Path.{◌≡◌, refl, ap, ◌∙◌}
use Prim.Native.Nat.{◌<◌, ◌+◌, ◌/◌}
use native.Mathlib.Nat.{zero-mod, zero-div, add-mod_right, add-div_right}
use native.Mathlib.Numerals.{add-one}
use native.Mathlib.Omega.{arith}
use lib.ListN.{length-take, length-drop}
use Rattle.lists.proofs.Laws.Fill.{fill_none, fill_part, fill_all}
use Rattle.keccak.specs.Keccak.{State, keccak_f}
use Rattle.sponge.specs.Sponge.{byte_at, later}
use Rattle.sponge.specs.Laws.Sponge.{squeeze_at}
use Rattle.sponge.proofs.squeeze.Goals as goal

pub loop-at-init : goal.loop-at-init
unfolding later
loop-at-init c = (fill_none refl, λ h. (zero-mod _, rw zero-div))

pub state_into-requires : goal.state_into-requires
state_into-requires c = simp (length-take, length-drop) (omega arith)

pub loop-at-preserved : goal.loop-at-preserved
unfolding later
loop-at-preserved c =
    let l = c.loop-at in
    let r = c.args.rate in
    let n = c.min in
    let now = l.invariant.1 (omega (arith, l.invariant.0.size)) in
    let state = c.permute-next.ensures ∙ now.1 in
    let pos : 0 < r = omega arith in (
      fill_part (omega arith) (omega (arith, l.invariant.0.size, n.ensures)) l.invariant.0 c.state_into.ensures
          (λ i h. ap (λ (a : State). byte_at a i) state ∙ squeeze_at r l.at pos now.0 _ i (omega (arith, n.ensures))),
      λ h.
          let e : l.at + n.result ≡ l.at + r = omega (arith, n.ensures, l.invariant.0.size) in
          rw e (add-mod_right l.at r ∙ now.0, rw (add-div_right l.at pos, add-one (l.at / r)) (ap keccak_f state)),
    )

pub shape_of-output : goal.shape_of-output
shape_of-output c = c.loop-at.invariant.0.size

pub returns : goal.returns
returns c = fill_all (omega arith) c.loop-at.invariant.0
