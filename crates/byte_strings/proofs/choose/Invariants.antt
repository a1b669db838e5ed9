-- `byte_strings::choose` meets its contract: after i turns the first i bytes are chosen.
use mathlib.Core.Bool.{cond}
use lib.Dec.{eqb}
use lib.ListN.{length, get_or}
use Rattle.lists.proofs.Laws.Fill.{Filled}
use Rattle.byte_strings.proofs.choose.Given as goal

abbrev pub invariant-loop-i : goal.invariant-loop-i
invariant-loop-i l = Filled (length l.initial.out) l.out l.i (λ k. cond (eqb l.difference 0) (get_or l.a k 0) (get_or l.b k 0))
