-- `margin_text::report` meets its contract: by the first byte.
use Rattle.std.proofs.Common.{sym, ◌∙◌, arith, length}
use Rattle.std.proofs.lemmas.Slice.{between_to_end}
use Rattle.margin_text.specs.Laws.Texts.{report_none, report_other, report_set, whole}
use Rattle.margin_text.proofs.report.Goals as goal

pub returns-in_default : goal.returns-in_default
returns-in_default c = rw (report_none c.args.input.now (omega arith)) (whole c.refusal_into.ensures)

pub returns-then-is_set : goal.returns-then-is_set
returns-then-is_set c =
    let input = c.args.input.now in
    let set = sym c.is_set.ensures ∙ c.if-is_set.true in
    rw (report_set input set (between_to_end input 1 (length input) (omega arith))) (whole c.figures_into.ensures)

pub returns : goal.returns
returns c = rw (report_other _ (sym c.is_set.ensures ∙ c.if-is_set.false)) (whole c.refusal_into-2.ensures)
