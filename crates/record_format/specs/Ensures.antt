-- What an answer of 0 ensures of a record that is read.
use Rattle.std.specs.Prelude.{ℕ, ◌+◌, ◌<◌, ◌≤◌, true, not, ◌&&◌, ◌≡◌, ltb}
use Rattle.sets.specs.Sets.{params_of, known}
use Rattle.record_format.specs.Records.{stands, head_length, wide_from, is_map}

-- m is its map, door its door, set its set byte, size its length and ct that of the output
pub record Readable (m door set size ct : ℕ) : Type 0 where
  pub some : 0 < size
  pub map : is_map m ≡ true
  pub reaches : head_length m ≤ size
  pub set_some : 0 < set
  pub set_known : known set ≡ true
  pub size_is : size ≡ head_length m + (params_of set).ct
  pub wide : not (stands m 4 && ltb door wide_from) ≡ true
  pub ct_is : ct ≡ (params_of set).ct
