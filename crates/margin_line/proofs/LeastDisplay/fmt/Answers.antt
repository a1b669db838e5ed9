-- A margin is written as the library writes numbers, or as `none`.
use Rattle.std.proofs.Common.{◌<◌, ◌^◌, ap, ◌∙◌, rules, to_z-of_z}
use Rattle.std.specs.Fmt.{signed_decimal}
use lib.Signed.{mag}
use mir.Syntax.{w32}
use Rattle.std.proofs.Output.{has_written_of_eq}
use Rattle.margin_line.specs.Laws.Texts.{none_written, some_written}
use Rattle.margin_line.proofs.LeastDisplay.fmt.Goals as goal

pub returns-in-Some-clause-writes : goal.returns-in-Some-clause-writes
returns-in-Some-clause-writes g c =
    let z = c.in-Some.least in
    let fits : mag z < 2 ^ 63 = search rules in
    let same = ap signed_decimal (to_z-of_z {w = w32} (search rules)) in
    λ p ok. has_written_of_eq _ _ _ _ _ (same ∙ some_written c.args.self.now.0 z c.in-Some.is fits) (c.write.ensures.writes p ok)

pub returns-in-None-clause-writes : goal.returns-in-None-clause-writes
returns-in-None-clause-writes g c =
    λ p ok. has_written_of_eq _ _ _ _ _ (none_written c.args.self.now.0 c.in-None.is) (c.write-in-None.ensures.writes p ok)
