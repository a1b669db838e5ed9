-- `karatsuba::chunk` meets its contract: one coefficient a turn.
use Rattle.karatsuba.specs.Ensures.{Chunk}
use Rattle.karatsuba.proofs.chunk.Given as goal

abbrev pub invariant-loop-k : goal.invariant-loop-k
invariant-loop-k l = Chunk l.f l.s l.k l.r
