-- `decimals_read::decimal_of` meets its contract: what is read and what is left are the word.
use Rattle.std.proofs.Common.{drop}
use Rattle.decimals.specs.Laws.Decimals.{Partly}
use Rattle.decimals_read.proofs.decimal_of.Given as goal

abbrev pub invariant-loop-b : goal.invariant-loop-b
invariant-loop-b l = Partly l.most l.word l.number (drop l.b-index l.word)
