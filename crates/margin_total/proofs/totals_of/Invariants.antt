-- `margin_total::totals_of` meets its contract: one group a turn.
use mathlib.Core.Path.{◌≡◌}
use Rattle.margin_group.specs.Margin
use Rattle.margin_total.specs.Laws.Groups.{Partly}
use Rattle.margin_total.proofs.totals_of.Given as goal

abbrev pub invariant-loop-i : goal.invariant-loop-i
invariant-loop-i l = (l.cases ≡ Margin.cases l.bytes) × Partly l.p l.bytes l.i l.norm l.wrong
