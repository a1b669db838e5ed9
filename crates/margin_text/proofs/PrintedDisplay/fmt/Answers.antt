-- The header and the line are written, or the refusal.
use Rattle.std.proofs.Common.{ap, sym}
use Rattle.std.proofs.Output.{has_written_of_eq}
use Rattle.lists.specs.Lists.{from}
use Rattle.margin_line.specs.Line.{ascii}
use Rattle.margin_text.specs.Report.{header, refusal, report_text}
use Rattle.margin_text.proofs.PrintedDisplay.fmt.Goals as goal

pub returns-in-Some-clause-writes : goal.returns-in-Some-clause-writes
unfolding report_text header ascii from
returns-in-Some-clause-writes g c =
    λ p ok. has_written_of_eq _ _ _ _ _ (ap report_text (sym c.in-Some.is)) (c.write.ensures.writes p ok)

pub returns-in-None-clause-writes : goal.returns-in-None-clause-writes
unfolding report_text refusal ascii from
returns-in-None-clause-writes g c =
    λ p ok. has_written_of_eq _ _ _ _ _ (ap report_text (sym c.in-None.is)) (c.writeln.ensures.writes p ok)
