-- `keccak::permute` meets its contract. The loop's invariant: s is the state after the rounds so far.
use Prim.Native.Nat.{ℕ, ◌+◌, ◌<◌}
use mathlib.Core.Path.{◌≡◌, refl, ap, ◌∙◌}
use native.Mathlib.Numerals.{add-one}
use lib.ListN.{get_or, take}
use lib.Seq.{get_or-take}
use Rattle.keccak.specs.Keccak.{State, rounds, rnd, constants}
use Rattle.keccak.proofs.permute.Goals as goal

-- a round of the first n constants
next :
    (n i : ℕ) (a : State) {s t : State} → i < n → t ≡ rnd s (get_or (take n constants) i 0) → s ≡ rounds i a → t ≡ rounds (i + 1) a
unfolding rounds
next n i a {s} h r e =
    rw (add-one i)
    (r ∙ ap (rnd s) (get_or-take n constants i 0 h) ∙ ap (λ (s : State). rnd s (get_or constants i 0)) e)

pub loop-c-init : goal.loop-c-init
unfolding rounds
loop-c-init c = refl

pub loop-c-preserved : goal.loop-c-preserved
loop-c-preserved c = next _ _ _ c.loop-c-test.true c.rnd-t.ensures c.loop-c.invariant
