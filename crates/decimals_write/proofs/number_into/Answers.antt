-- `decimals_write::number_into` meets its contract: a minus and the magnitude, which has up to three digits, or the magnitude alone.
use Rattle.std.proofs.Common.{arith, rules}
use Rattle.decimals.specs.Laws.Decimals.{decimal_long}
use Rattle.decimals.specs.Laws.Texts.{appended_as, appended_two}
use Rattle.decimals.specs.Laws.Signs.{negative_text, plain_text}
use Rattle.decimals_write.proofs.number_into.Goals as goal

pub decimal_into-requires : goal.decimal_into-requires
decimal_into-requires c = omega (arith, c.put-next.ensures.place, decimal_long 2 c.unsigned_abs-n.result (omega arith))

pub returns-then-z-lt0 : goal.returns-then-z-lt0
returns-then-z-lt0 c =
    appended_as (negative_text _ c.ranges.z c.unsigned_abs-n.ensures.value (search rules)) (appended_two c.put-next.ensures c.decimal_into.ensures)

pub decimal_into-requires-2 : goal.decimal_into-requires-2
decimal_into-requires-2 c = omega (arith, decimal_long 2 c.unsigned_abs-n.result (omega arith))

pub returns : goal.returns
returns c = appended_as (plain_text _ c.ranges.z c.unsigned_abs-n.ensures.value (search rules)) c.decimal_into-2.ensures
