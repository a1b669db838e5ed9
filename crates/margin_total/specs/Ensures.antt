-- What the inner functions ensure.
use Rattle.std.specs.Prelude.{ℕ, ◌*◌, ◌<◌, ◌≤◌, List, ◌≡◌}
use Rattle.sets.specs.declared.Params.{Params}
use Rattle.margin_noise.specs.Ensures.{least_of}
use Rattle.margin_group.specs.Margin
use Rattle.margin_total.specs.declared.Figures.{Figures}
use Rattle.margin_total.specs.declared.Totals.{Totals}

-- the figures of a group
pub record Measured (p : Params) (group : List ℕ) (f : Figures) : Type 0 where
  pub norm : f.norm ≡ Margin.norm p group
  pub wrong : f.wrong ≡ Margin.wrong_bits p group
  pub norm_fits : f.norm < 65536
  pub wrong_few : f.wrong ≤ 256

-- the figures of the groups of a string
pub record Totalled (p : Params) (bytes : List ℕ) (t : Totals) : Type 0 where
  pub cases : t.cases ≡ Margin.cases bytes
  pub least : least_of p t.cases t.norm ≡ Margin.least p bytes
  pub wrong : t.wrong ≡ Margin.wrong p bytes
  pub norm_fits : t.norm < 65536
  pub wrong_few : t.wrong ≤ 256 * t.cases
