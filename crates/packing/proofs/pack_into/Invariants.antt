-- `packing::pack_into` meets its contract: each turn reads a coefficient, and writes four bytes once 32 bits are held.
use Prim.Native.Nat.{ℕ, ◌%◌, ◌≤◌}
use mathlib.Core.List.{List}
use mathlib.Core.Path.{◌≡◌}
use Rattle.packing.specs.Laws.Cutting.{Cutting}
use Rattle.packing.proofs.pack_into.Given as goal

pub record Turn (width : ℕ) (coefficients bytes : List ℕ) (acc held i j : ℕ) : Type 0 where
  pub few : held ≤ 31
  pub fours : j % 4 ≡ 0
  pub cut : Cutting width 8 coefficients bytes acc held i j

abbrev pub invariant-loop-x : goal.invariant-loop-x
invariant-loop-x l = Turn l.width l.coefficients l.bytes l.acc l.held l.x-index l.j
