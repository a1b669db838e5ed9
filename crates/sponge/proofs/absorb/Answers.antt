-- `sponge::absorb` meets its contract. The loop's invariant: a is the state after the whole blocks before a place, from which on the rest is left.
use mathlib.Core.Path.{◌≡◌, refl, ap, sym, ◌∙◌}
use Prim.Native.Nat.{◌+◌, ◌-◌, ◌≤◌}
use native.Mathlib.Nat.{zero-mod, zero-div, add-mod_right}
use native.Mathlib.Omega.{arith}
use lib.ListN.{length, take, drop, length-drop}
use lib.Seq.{drop-drop}
use borrow.Rule.Slice.PartMut.{mid_of}
use Rattle.lists.proofs.Laws.Parts.{mid_part, last_part}
use Rattle.keccak.specs.Keccak.{keccak_f}
use Rattle.sponge.specs.Sponge.{absorbed, mix}
use Rattle.sponge.specs.Laws.Sponge.{absorb_whole, absorb_end}
use Rattle.sponge.proofs.absorb.Goals as goal

pub loop-rest-init : goal.loop-rest-init
unfolding absorbed
loop-rest-init c = (0, omega arith, zero-mod _, refl, rw zero-div)

pub loop-rest-preserved : goal.loop-rest-preserved
unfolding mix
loop-rest-preserved c =
    let l = c.loop-rest in
    let v = l.invariant in
    let at = v.0 in
    let x = c.args in
    let m = x.message.now in
    let front : c.split_at.result.0.now ≡ take x.rate l.rest.now = c.split_at.ensures.front in
    let back : c.split_at.result.1.now ≡ drop x.rate l.rest.now = c.split_at.ensures.back in
    let fits : at + x.rate ≤ length m = omega (arith, ap length v.3, length-drop at m) in
    let block : c.split_at.result.0.now ≡ mid_of at (at + x.rate - at) m = front ∙ ap (take x.rate) v.3 ∙ sym (mid_part at x.rate m) in (
      at + x.rate,
      fits,
      add-mod_right at x.rate ∙ v.2,
      back ∙ ap (drop x.rate) v.3 ∙ drop-drop x.rate at m,
      c.permute-a.ensures ∙ ap keccak_f c.mix.ensures
          ∙ absorb_whole x.rate at (omega arith) v.2 x.domain m _ _ v.4 fits (rw block at c.block_of.ensures),
    )

pub last_block-requires : goal.last_block-requires
last_block-requires c = omega arith

pub returns : goal.returns
unfolding mix
returns c =
    let l = c.loop-rest in
    let v = l.invariant in
    let at = v.0 in
    let x = c.args in
    let m = x.message.now in
    let left : l.rest.now ≡ mid_of at (length m - at) m = v.3 ∙ sym (last_part at (length m) m refl) in
    ap keccak_f c.mix-2.ensures
    ∙ absorb_end x.rate at (omega arith) v.2 x.domain m _ _ v.4 v.1 (omega (arith, ap length v.3, length-drop at m))
    (rw left at c.last_block.ensures)
