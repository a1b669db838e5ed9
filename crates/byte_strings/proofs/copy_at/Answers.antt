-- `byte_strings::copy_at` meets its contract: after i turns the first i bytes stand at their places.
use mathlib.Core.Path.{◌≡◌, ◌∙◌}
use native.Mathlib.Numerals.{add-one}
use native.Mathlib.Omega.{arith}
use lib.ListN.{length}
use lib.Seq.{paste-zero, paste-suc}
use Rattle.lists.proofs.Laws.Strings.{placed_paste}
use Rattle.byte_strings.proofs.copy_at.Goals as goal

pub loop-i-init : goal.loop-i-init
loop-i-init c = paste-zero c.args.to.now c.args.at c.args.from.now

pub loop-i-preserved : goal.loop-i-preserved
loop-i-preserved c =
    let a = c.args in
    let l = c.loop-i in
    rw (l.invariant, add-one l.i) (paste-suc a.to.now a.at a.from.now l.i 0 (omega arith) (omega arith))

pub returns : goal.returns
returns c =
    let a = c.args in
    let e : c.loop-i.i ≡ length a.from.now = omega arith in
    c.loop-i.invariant ∙ rw e (placed_paste a.at a.from.now a.to.now)
