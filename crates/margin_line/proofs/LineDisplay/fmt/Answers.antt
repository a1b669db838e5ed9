-- The figures are written with spaces between, as the library writes numbers.
use Rattle.std.proofs.Common.{rules}
use Rattle.std.proofs.Output.{has_written_of_eq}
use Rattle.margin_line.specs.Laws.Texts.{line_written}
use Rattle.margin_line.proofs.LineDisplay.fmt.Goals as goal

pub returns-clause-writes : goal.returns-clause-writes
returns-clause-writes g c =
    λ p ok.
    has_written_of_eq _ _ _ _ _ (line_written c.args.self.now (search rules) (search rules) (search rules) (search rules))
    (c.writeln.ensures.writes p ok)
