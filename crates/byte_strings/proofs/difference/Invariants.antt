-- `byte_strings::difference` meets its contract: after i bytes the bits are none just where the first i are the same.
use Prim.Native.Nat.{◌≤◌}
use mathlib.Core.Path.{◌≡◌}
use lib.Dec.{eqb}
use lib.ListN.{length, take}
use Rattle.lists.specs.Strings.{same}
use Rattle.byte_strings.proofs.difference.Given as goal

abbrev pub invariant-loop-i : goal.invariant-loop-i
invariant-loop-i l = (l.i ≤ length l.a) × (eqb l.bits 0 ≡ same (take l.i l.a) (take l.i l.b))
