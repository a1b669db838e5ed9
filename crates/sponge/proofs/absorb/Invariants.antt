-- `sponge::absorb` meets its contract. The loop's invariant: a is the state after the whole blocks before a place, from which on the rest is left.
use mathlib.Core.Path.{◌≡◌}
use Prim.Native.Nat.{ℕ, ◌≤◌, ◌/◌, ◌%◌}
use lib.ListN.{length, drop}
use Rattle.sponge.specs.Sponge.{padded, absorbed}
use Rattle.sponge.proofs.absorb.Given as goal

abbrev pub invariant-loop-rest : goal.invariant-loop-rest
invariant-loop-rest l =
    (at : ℕ) × (at ≤ length l.message) × (at % l.rate ≡ 0) × (l.rest ≡ drop at l.message)
    × (l.a ≡ absorbed l.rate (padded l.rate l.domain l.message) (at / l.rate))

abbrev pub decreases-loop-rest : goal.decreases-loop-rest
decreases-loop-rest l = length l.rest
