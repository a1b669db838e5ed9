-- The two tables of `Keccak` are those that FIPS 202 generates: the offsets by its algorithm 2, the round constants by its algorithms 5 and 6.
use Rattle.std.specs.Prelude.{◌≡◌, refl, Bool, true, false, ℕ, zero, suc, ◌+◌, ◌-◌, ◌*◌, ◌/◌, ◌%◌, ◌^◌, eqb, ltb}
use Rattle.std.specs.Int.Bits.{bit_xor}
use Rattle.lists.specs.Lists.{from}
use Rattle.keccak.specs.Keccak.{State, state, offsets, constants}

abbrev pub pick : Bool → ℕ → ℕ → ℕ
pick true a b = a
pick false a b = b

-- algorithm 2: the walk over n lanes that is at [x, y] in its step t, and the offset that it gives to lane [u, v]; a lane that it misses has 0
pub walk : ℕ → ℕ → ℕ → ℕ → ℕ → ℕ → ℕ
walk zero t x y u v = 0
walk (suc n) t x y u v =
    pick (eqb (5 * x + y) (5 * u + v)) ((t + 1) * (t + 2) / 2 % 64) (walk n (t + 1) y ((2 * x + 3 * y) % 5) u v)

pub walked : State
walked = state (walk 24 0 1 0)

-- algorithm 5: its register R after t steps, place i as the bit of 2 ^ i. A step moves each place on by one,
-- and what comes out at place 8 turns places 0, 4, 5 and 6.
pub register : ℕ → ℕ
register zero = 1
register (suc t) = let r : ℕ = 2 * register t in pick (ltb r 256) r (bit_xor r 0x171)

-- algorithm 6: the constant of round i, whose bit 2 ^ j - 1 is rc (j + 7 i)
pub constant : ℕ → ℕ
constant i =
    let bit : ℕ → ℕ = λ j. register (j + 7 * i) % 2 * 2 ^ (2 ^ j - 1) in
    bit 0 + bit 1 + bit 2 + bit 3 + bit 4 + bit 5 + bit 6

pub tables : (offsets ≡ walked) × (constants ≡ from 24 constant)
unfolding walked walk register constant from
tables = (refl, refl)
