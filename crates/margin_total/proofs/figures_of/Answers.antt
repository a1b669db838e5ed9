-- `margin_total::figures_of` meets its contract: the steps of the definition, one after another.
use Rattle.margin_total.specs.Laws.Group.{group_steps}
use Rattle.margin_total.proofs.figures_of.Goals as goal

pub returns : goal.returns
returns c =
    group_steps _ c.requires.0 _ _ c.keygen_with.ensures c.hash256-message.ensures c.hash256-hash.ensures c.key_and_coins-kr.ensures
    c.norm_of-norm.ensures c.wrong_of-wrong.ensures
