-- `karatsuba_base::plain_rows` meets its contract: one row a turn.
use Rattle.karatsuba_base.specs.Ensures.{Plain}
use Rattle.karatsuba_base.proofs.plain_rows.Given as goal

abbrev pub invariant-loop-i : goal.invariant-loop-i
invariant-loop-i l = Plain l.rows l.i l.a l.out l.initial.work l.work
