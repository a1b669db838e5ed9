-- `karatsuba_split::add` meets its contract: one place a turn.
use Rattle.std.proofs.Common.{ℕ, ◌+◌, ◌%◌, get_or}
use Rattle.karatsuba_base.specs.Ensures.{Put}
use Rattle.karatsuba_split.proofs.add.Given as goal

abbrev pub invariant-loop-k : goal.invariant-loop-k
invariant-loop-k l =
    Put 0 l.k (λ (k : ℕ). (get_or l.operands (l.x + k) 0 + get_or l.operands (l.y + k) 0) % 65536) l.initial.sums l.sums
