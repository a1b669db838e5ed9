-- `sets::known_params` meets its contract: a number means a set where its parameters have polynomials.
use mathlib.Core.Path.{sym, ap, ◌∙◌}
use lib.Dec.{ltb}
use Rattle.std.proofs.Common.{lt-ltb, le-ltb}
use Rattle.sets.specs.declared.Params.{Params}
use Rattle.sets.proofs.known_params.Goals as goal

pub returns-then-p-gt0-clause-known : goal.returns-then-p-gt0-clause-known
returns-then-p-gt0-clause-known c =
    sym (lt-ltb 0 _ c.if-p-gt0.true) ∙ ap (λ (p : Params). ltb 0 p.l) c.set_params-p.ensures

pub returns-else-p-gt0-clause-known : goal.returns-else-p-gt0-clause-known
returns-else-p-gt0-clause-known c =
    sym (le-ltb 0 _ c.if-p-gt0.false) ∙ ap (λ (p : Params). ltb 0 p.l) c.set_params-p.ensures
