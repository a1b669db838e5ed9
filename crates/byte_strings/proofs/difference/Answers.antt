-- `byte_strings::difference` meets its contract: after i bytes the bits are none just where the first i are the same.
use mathlib.Core.Path.{refl, ◌∙◌}
use native.Mathlib.Omega.{arith}
use borrow.Author.Rules.{rules}
use Rattle.lists.specs.Strings.{same}
use Rattle.lists.proofs.Laws.Strings.{same_more, same_all}
use Rattle.byte_strings.proofs.difference.Goals as goal

pub loop-i-init : goal.loop-i-init
unfolding same
loop-i-init c = (search rules, refl)

pub loop-i-preserved : goal.loop-i-preserved
loop-i-preserved c =
    let at = c.loop-i in
    (omega arith, same_more c.args.a.now c.args.b.now at.i at.bits (omega arith) c.requires at.invariant.1)

pub returns : goal.returns
returns c =
    c.loop-i.invariant.1 ∙ same_all c.args.a.now c.args.b.now c.loop-i.i (omega arith) c.requires
