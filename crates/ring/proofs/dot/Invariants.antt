-- `ring::dot` meets its contract: the sum is that of the products so far, modulo 65536.
use Rattle.std.proofs.Common.{◌≡◌, length}
use Rattle.algebra.specs.Integers.{modℤ}
use Rattle.algebra.specs.Ring.{nat}
use Rattle.algebra.specs.Columns.{dot}
use Rattle.ring.proofs.dot.Given as goal

abbrev pub invariant-loop-x : goal.invariant-loop-x
invariant-loop-x l = l.sum ≡ modℤ (dot (length l.yielded) (nat l.a) (nat l.w)) 65536
