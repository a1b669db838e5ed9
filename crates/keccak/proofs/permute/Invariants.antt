-- `keccak::permute` meets its contract. The loop's invariant: s is the state after the rounds so far.
use mathlib.Core.Path.{◌≡◌}
use Rattle.keccak.specs.Keccak.{rounds}
use Rattle.keccak.proofs.permute.Given as goal

abbrev pub invariant-loop-c : goal.invariant-loop-c
invariant-loop-c l = l.s ≡ rounds l.c-index l.initial.s
