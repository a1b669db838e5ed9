-- `ring::mul_into` meets its contract: each turn writes one coefficient, the scalar product of a with 256 places of b's table.
use Rattle.std.proofs.Common.{ℕ}
use Rattle.lists.proofs.Laws.Fill.{Filled}
use Rattle.algebra.specs.Integers.{modℤ}
use Rattle.algebra.specs.Ring.{coef, nat}
use Rattle.ring.proofs.mul_into.Given as goal

abbrev pub invariant-loop-k : goal.invariant-loop-k
invariant-loop-k l = Filled 256 l.product l.k (λ (k : ℕ). modℤ (coef 256 (nat l.a) (nat l.b) k) 65536)
