-- `margin_noise::errors_in` meets its contract: the places passed hold errors, the others are as they were.
use Rattle.std.proofs.Common.{◌≡◌, ℕ, ◌≤◌, take, map, pos, get_or}
use Rattle.algebra.specs.Integers.{modℤ}
use Rattle.noise.specs.Noise.{error}
use Rattle.margin_noise.proofs.errors_in.Given as goal

abbrev pub invariant-loop-x : goal.invariant-loop-x
invariant-loop-x l = record {
  passed : take l.x-index l.exact ≡ map (λ (x : ℕ). modℤ (error (pos x)) 65536) (take l.x-index l.initial.exact);
  left : (k : ℕ) → l.x-index ≤ k → get_or l.exact k 0 ≡ get_or l.initial.exact k 0;
}
