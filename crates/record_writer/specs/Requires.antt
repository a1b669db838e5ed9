-- What the inner functions require of their arguments.
use Rattle.std.specs.Prelude.{ℕ, ◌+◌, ◌≤◌, ◌≡◌}

-- the map, the door, the time, the set and the ciphertext fill the record: by the lengths of door, time, ciphertext and record
pub record WriteLengths (door time ct size : ℕ) : Type 0 where
  pub door_few : door ≤ 8
  pub time_few : time ≤ 8
  pub size_is : size ≡ 1 + door + time + 1 + ct
