-- `margin_text::refusal_into` meets its contract.
use Rattle.lists.specs.Lists.{from}
use Rattle.margin_line.specs.Line.{ascii}
use Rattle.margin_text.specs.Report.{refusal}
use Rattle.margin_text.proofs.refusal_into.Goals as goal

pub returns : goal.returns
unfolding ascii from refusal
returns c = c.text_into.ensures
