-- A number has one digit, or those of a tenth of it and its last one.
use Rattle.std.proofs.Common.{arith}
use Rattle.decimals.specs.Laws.Decimals.{more_digits, one_more}
use Rattle.decimals.specs.Laws.Texts.{appended_as, appended_two}
use Rattle.decimals_write.proofs.Digit.{some_long}
use Rattle.decimals_write.proofs.+decimal_into.Goals as goal

pub put-requires : goal.put-requires
put-requires t c = omega (arith, some_long c.args.n)

pub decimal_into-last-requires : goal.decimal_into-last-requires
decimal_into-last-requires t c = (omega arith, omega (arith, one_more c.args.n (omega arith)))

pub put-requires-2 : goal.put-requires-2
put-requires-2 t c = omega (arith, c.decimal_into-last.ensures.place, one_more c.args.n (omega arith))

pub returns : goal.returns
returns t c = appended_as (more_digits _ (omega arith)) (appended_two c.decimal_into-last.ensures c.put-2.ensures)
