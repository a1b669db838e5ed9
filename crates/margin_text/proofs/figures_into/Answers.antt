-- `margin_text::figures_into` meets its contract: the header, and the line of what is found.
use Rattle.std.proofs.Common.{ℕ, ◌≡◌, true, arith, ltb}
use Rattle.lists.specs.Lists.{from}
use Rattle.lists.proofs.Laws.Booleans.{and_right}
use Rattle.sets.specs.Sets.{known, params_of}
use Rattle.sets.specs.Requires.{IsSet}
use Rattle.sets.specs.Laws.Sets.{is_set_lem}
use Rattle.margin_line.specs.Line.{ascii}
use Rattle.margin_text.specs.Report.{is_set}
use Rattle.margin_text.specs.Laws.Texts.{figures_appended}
use Rattle.margin_text.proofs.figures_into.Goals as goal

set_of : (set : ℕ) → is_set set ≡ true → IsSet (params_of set)
set_of set h = is_set_lem set (and_right (ltb 0 set) (known set) h)

pub totals_of-t-requires : goal.totals_of-t-requires
totals_of-t-requires c = rw c.set_params-p.ensures (set_of c.args.set c.requires.0)

pub line_into-requires : goal.line_into-requires
unfolding ascii from
line_into-requires c =
    let set : IsSet c.set_params-p.result = rw c.set_params-p.ensures (set_of c.args.set c.requires.0) in
    let t = c.totals_of-t.ensures in
    record {
      margin_few = omega (arith, set.sums.margin_is);
      cases_few = omega (arith, t.cases);
      norm_few = t.norm_fits;
      wrong_few = omega (arith, t.wrong_few, t.cases);
      rest_few = c.rest_of-rest.ensures.1;
      fits = omega (arith, c.text_into-at.ensures.place);
    }

pub returns : goal.returns
unfolding ascii from
returns c =
    figures_appended c.args.set c.set_params-p.ensures c.totals_of-t.ensures c.rest_of-rest.ensures.0
    c.text_into-at.ensures c.line_into.ensures
