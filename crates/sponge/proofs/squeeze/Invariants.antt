-- `sponge::squeeze` meets its contract. The loop's invariant: the bytes before place at are written, and while some are left to write,
-- a block starts there and the next permutation of a gives its state.
use mathlib.Core.Path.{◌≡◌}
use Prim.Native.Nat.{◌<◌, ◌-◌, ◌/◌, ◌%◌}
use lib.ListN.{length}
use Rattle.lists.proofs.Laws.Fill.{Filled}
use Rattle.keccak.specs.Keccak.{keccak_f}
use Rattle.sponge.specs.Sponge.{later, squeezed}
use Rattle.sponge.proofs.squeeze.Given as goal

abbrev pub invariant-loop-at : goal.invariant-loop-at
invariant-loop-at l =
    Filled (length l.initial.output) l.output l.at (squeezed l.rate (keccak_f l.initial.a)) ×
    (l.at < length l.initial.output → (l.at % l.rate ≡ 0) × (keccak_f l.a ≡ later (l.at / l.rate) (keccak_f l.initial.a)))

abbrev pub decreases-loop-at : goal.decreases-loop-at
decreases-loop-at l = length l.initial.output - l.at
