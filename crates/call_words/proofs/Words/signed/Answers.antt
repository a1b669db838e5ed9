-- `call_words::Words::signed`: the list has a place for each number, since all but the last have a comma behind them.
use Rattle.std.proofs.Common.{arith}
use Rattle.call_words.proofs.Words.signed.Goals as goal

pub signed_of-requires : goal.signed_of-requires
signed_of-requires c = omega (arith, c.if-list-word.false)
