-- `margin_line::difference_into` meets its contract: a minus and b - a, or a - b.
use Rattle.std.proofs.Common.{ap, arith, length}
use Rattle.decimals.specs.Laws.Texts.{appended_as, appended_two}
use Rattle.margin_line.specs.Laws.Texts.{negative_text, plain_text}
use Rattle.margin_line.proofs.difference_into.Goals as goal

pub put-next-requires : goal.put-next-requires
put-next-requires c = omega (arith, ap length (negative_text c.args.a c.args.b c.if-a-b.true))

pub decimal_into-requires : goal.decimal_into-requires
decimal_into-requires c =
    omega (arith, c.put-next.ensures.place, ap length (negative_text c.args.a c.args.b c.if-a-b.true))

pub returns-then-a-b : goal.returns-then-a-b
returns-then-a-b c =
    appended_as (negative_text c.args.a c.args.b c.if-a-b.true) (appended_two c.put-next.ensures c.decimal_into.ensures)

pub decimal_into-requires-2 : goal.decimal_into-requires-2
decimal_into-requires-2 c = omega (arith, ap length (plain_text c.args.a c.args.b (omega arith)))

pub returns : goal.returns
returns c = appended_as (plain_text c.args.a c.args.b (omega arith)) c.decimal_into-2.ensures
