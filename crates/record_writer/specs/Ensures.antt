-- What the inner functions ensure.
use Rattle.std.specs.Prelude.{ℕ, ◌≤◌, Option, List, ◌≡◌}
use Rattle.lists.specs.Numbers.{digits}
use Rattle.record_format.specs.Records.{Field, bits_of, laid}
use Rattle.record_writer.specs.declared.Part.{Part}

-- how numbers are written in their fields, where at most one of them is there
pub record Lays (fs : List Field) (xs : List (Option ℕ)) (r : Part) : Type 0 where
  pub bit : r.bit ≡ bits_of fs xs
  pub bit_few : r.bit ≤ 16
  pub bytes : digits 256 r.size r.number ≡ laid fs xs
  pub few : r.size ≤ 8
