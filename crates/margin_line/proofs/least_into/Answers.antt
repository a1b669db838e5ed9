-- `margin_line::least_into`: `none` of no group alone, and else the difference of 8 × M and the norm.
use Rattle.std.proofs.Common.{◌≡◌, arith}
use Rattle.margin_line.proofs.Smallest.{none_long, some_long, some_written}
use Rattle.margin_line.proofs.least_into.Goals as goal

pub text_into-requires : goal.text_into-requires
text_into-requires c =
    let none : c.args.cases ≡ 0 = omega arith in
    omega (arith, none_long c.args.p c.args.cases c.args.norm none)

pub difference_into-requires : goal.difference_into-requires
difference_into-requires c =
    let some : c.args.cases ≡ 0 → ⊥ = omega arith in
    omega (arith, some_long c.args.p c.args.cases c.args.norm some)

pub returns : goal.returns
returns c =
    let some : c.args.cases ≡ 0 → ⊥ = omega arith in
    some_written c.args.p c.args.cases c.args.norm some c.difference_into.ensures
