-- The report of the single byte 02, computed, and that a report has nothing of what stands behind 4096 groups.
use Rattle.std.specs.Prelude.{ℕ, ◌*◌, List, [], ◌∷◌, ◌++◌, ◌≡◌, refl, length}
use Rattle.lists.specs.Lists.{from}
use Rattle.sets.specs.Sets.{params_of}
use Rattle.decimals.specs.Decimals.{digits_within, decimal}
use Rattle.margin_group.specs.Margin.{groups, smallest, total, least, wrong}
use Rattle.margin_group.specs.Laws.Enough.{cases_enough, rest_enough, least_enough, wrong_enough}
use Rattle.margin_line.specs.Line.{ascii, least_text, line}
use Rattle.margin_text.specs.Report.{header, figures, report_of}

-- "The single input byte 02 prints that header and `2 0 none 0 0`"
pub computed : report_of (2 ∷ []) ≡ ascii "set cases least wrong rest\n2 0 none 0 0\n"
unfolding report_of figures header line least_text ascii from params_of least wrong groups smallest total decimal digits_within
computed = refl

-- "After 4096 groups it reads no further": nothing is lost by that
pub nothing_behind : (set : ℕ) (p q : List ℕ) → length p ≡ 96 * 4096 → report_of (set ∷ p ++ q) ≡ report_of (set ∷ p)
unfolding report_of figures
nothing_behind set p q whole =
    rw (rest_enough p q whole, cases_enough p q whole, least_enough p q whole (params_of set), wrong_enough p q whole (params_of set))
