-- Maps of records from before A7.
use Rattle.std.specs.Prelude.{ℕ, ◌<◌, List, ◌≡◌}
use Rattle.std.proofs.Common.{arith}
use Rattle.lists.specs.Numbers.{digit}
use Rattle.record_format.specs.Records.{map_in}
use Rattle.record_format.specs.Before as before

-- a map with bits 0 to 3 alone has no wide door
module _ (s : List ℕ) (h : before.map_in s < 16) where
  pub no_wide : digit 2 (map_in s) 4 ≡ 0
  no_wide = omega arith
