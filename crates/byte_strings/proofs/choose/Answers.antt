-- `byte_strings::choose` meets its contract: after i turns the first i bytes are chosen.
use mathlib.Core.Path.{refl}
use lib.Dec.{eqb}
use borrow.Author.Rules.{rules}
use Rattle.lists.proofs.Laws.Fill.{fill_none, fill_more, fill_chosen}
use Rattle.byte_strings.proofs.choose.Goals as goal

pub loop-i-init : goal.loop-i-init
loop-i-init c = fill_none refl

pub loop-i-preserved : goal.loop-i-preserved
loop-i-preserved c = fill_more (search rules) c.loop-i.invariant c.either.ensures

pub returns : goal.returns
returns c =
    fill_chosen (eqb c.args.difference 0) _ _ c.requires.0 c.requires.1 (search rules) c.loop-i.invariant
