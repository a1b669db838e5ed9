-- What is written and the text of what is left are the list's.
use Rattle.decimals.specs.Laws.Texts.{Written}
use Rattle.decimals_write.proofs.signed_into.Given as goal

abbrev pub invariant-loop-i : goal.invariant-loop-i
invariant-loop-i l = Written l.list l.i l.text l.at
