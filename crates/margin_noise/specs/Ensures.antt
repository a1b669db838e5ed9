-- What functions over groups of seeds ensure.
use Rattle.std.specs.Prelude.{ℕ, zero, suc, ℤ, pos, ◌-ℤ◌}
use Rattle.std.proofs.Math.Option.{Option, none, some}
use Rattle.sets.specs.declared.Params.{Params}
use Rattle.noise.specs.Noise.{bound}

-- the smallest margin of a number of groups, by their largest norm
abbrev pub least_of : Params → ℕ → ℕ → Option ℤ
least_of p zero norm = none
least_of p (suc n) norm = some (pos (bound p.margin) -ℤ pos norm)
