-- `margin_noise::norm_of` meets its contract: the largest magnitude so far, and the numbers that are left.
use Rattle.std.proofs.Common.{◌≡◌, ℕ, max, List, length, get_or, drop, ℤ, pos, ◌-ℤ◌}
use Rattle.lists.specs.Lists.{from}
use Rattle.noise.specs.Noise.{around}
use Rattle.margin_noise.specs.Norm.{norm}
use Rattle.margin_noise.proofs.norm_of.Given as goal

abbrev pub near : List ℕ → List ℕ → ℕ → ℤ
near left right k = around 65536 (pos (get_or left k 0) -ℤ pos (get_or right k 0))

abbrev pub invariant-loop-x : goal.invariant-loop-x
invariant-loop-x l = max l.most (norm (drop (length l.yielded) (from 256 (near l.left l.right)))) ≡ norm (from 256 (near l.left l.right))
