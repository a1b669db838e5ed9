-- `karatsuba_base::terms` meets its contract: one term a turn.
use Rattle.std.proofs.Common.{ℕ, ◌+◌, ◌-◌, pos, ◌*ℤ◌}
use Rattle.algebra.specs.Integers.{sum, Same}
use Rattle.karatsuba_base.specs.Layout.{reads}
use Rattle.karatsuba_base.proofs.terms.Given as goal

abbrev pub invariant-loop-i : goal.invariant-loop-i
invariant-loop-i l = Same 65536 (pos l.s) (sum l.i (λ (i : ℕ). reads l.p i *ℤ reads l.padded (l.t + 8 - i)))
