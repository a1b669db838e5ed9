-- `margin_line::text_into` meets its contract.
use Rattle.margin_line.specs.Laws.Texts.{appended_copy}
use Rattle.margin_line.proofs.text_into.Goals as goal

pub returns : goal.returns
returns c = appended_copy _ _ _ c.requires c.copy_at.ensures
