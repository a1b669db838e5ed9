-- `byte_strings::copy_at` meets its contract: after i turns the first i bytes stand at their places.
use mathlib.Core.Path.{◌≡◌}
use lib.Seq.{paste}
use Rattle.byte_strings.proofs.copy_at.Given as goal

abbrev pub invariant-loop-i : goal.invariant-loop-i
invariant-loop-i l = l.to ≡ paste l.initial.to l.at l.from l.i
