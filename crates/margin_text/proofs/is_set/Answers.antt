-- `margin_text::is_set`: a byte above 0 whose set has polynomials.
use Rattle.std.proofs.Common.{◌&&◌, ap, nat_lt}
use Rattle.sets.specs.declared.Params.{Params}
use Rattle.margin_text.proofs.is_set.Goals as goal

pub returns : goal.returns
returns c = ap (λ (p : Params). nat_lt 0 c.args.byte && nat_lt 0 p.l) c.set_params-p.ensures
