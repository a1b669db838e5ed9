-- `ring::doubled` meets its contract: each loop writes one place of the table a turn, from the front.
use Rattle.std.proofs.Common.{ℕ}
use Rattle.lists.proofs.Laws.Fill.{Filled}
use Rattle.algebra.specs.Integers.{modℤ}
use Rattle.algebra.specs.Ring.{at, nat}
use Rattle.algebra.specs.Columns.{doubled}
use Rattle.ring.proofs.doubled.Given as goal

abbrev pub invariant-loop-j : goal.invariant-loop-j
invariant-loop-j l = Filled 512 l.w l.j (λ (j : ℕ). modℤ (doubled 256 (at (nat l.b)) j) 65536)

abbrev pub invariant-loop-j-2 : goal.invariant-loop-j-2
invariant-loop-j-2 l = Filled 512 l.w l.j (λ (j : ℕ). modℤ (doubled 256 (at (nat l.b)) j) 65536)
