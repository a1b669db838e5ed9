-- `karatsuba::lay_chunk` meets its contract: one row a turn, and then b.
use Rattle.karatsuba.specs.Ensures.{LaidChunk, source}
use Rattle.karatsuba.proofs.lay_chunk.Given as goal

abbrev pub invariant-loop-i : goal.invariant-loop-i
invariant-loop-i l = LaidChunk (source l.rows l.a l.b) l.g l.i l.at l.initial.work l.work
