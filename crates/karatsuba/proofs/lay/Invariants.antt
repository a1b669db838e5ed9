-- `karatsuba::lay` meets its contract: one chunk of each operand a turn.
use Rattle.karatsuba.specs.Ensures.{Laid, source}
use Rattle.karatsuba.proofs.lay.Given as goal

abbrev pub invariant-loop-g : goal.invariant-loop-g
invariant-loop-g l = Laid l.rows (source l.rows l.a l.b) l.g l.initial.work l.work
