-- The sponge of FIPS 202, section 4, on bytes. Throughout, r is the rate in bytes, and d the domain's bits and the first bit of the padding,
-- as a byte.
use Rattle.std.specs.Prelude.{ℕ, zero, suc, ◌+◌, ◌-◌, ◌*◌, ◌/◌, ◌%◌, List, [], ◌∷◌, ◌++◌, length, take, drop, replicate}
use Rattle.std.specs.Int.Bits.{bit_xor}
use Rattle.lists.specs.Lists.{from}
use Rattle.lists.specs.Numbers.{number, digit}
use Rattle.keccak.specs.Keccak.{State, lane, state, keccak_f}

-- a block xored into a state, whose lane [x, y] takes the block's lane x + 5 y; a lane is 8 bytes, lowest first
unfoldable pub mix_at : State → List ℕ → ℕ → ℕ → ℕ
mix_at a s x y = bit_xor (lane a x y) (number 256 (take 8 (drop (8 * (x + 5 * y)) s)))

unfoldable pub mix : State → List ℕ → State
mix a s = state (mix_at a s)

-- byte i of a state
unfoldable pub byte_at : State → ℕ → ℕ
byte_at a i = digit 256 (lane a (i / 8 % 5) (i / 8 / 5)) (i % 8)

-- the q bytes that are put behind a message: d, zeros, and the padding's last bit, which is the highest of the last byte
unfoldable pub padding : ℕ → ℕ → List ℕ
padding zero d = []
padding (suc zero) d = (d + 128) ∷ []
padding (suc (suc k)) d = d ∷ (replicate k 0 ++ (128 ∷ []))

unfoldable pub padded : ℕ → ℕ → List ℕ → List ℕ
padded r d m = m ++ padding (r - length m % r) d

-- the state after the first n blocks of p, each followed by zeros
unfoldable pub absorbed : ℕ → List ℕ → ℕ → State
absorbed r p zero = state (λ x y. 0)
absorbed r p (suc n) = keccak_f (mix (absorbed r p n) (take r (drop (n * r) p) ++ replicate (200 - r) 0))

-- the state after the whole message m, padded
abbrev pub absorb : ℕ → ℕ → List ℕ → State
absorb r d m = absorbed r (padded r d m) (length (padded r d m) / r)

-- the state after n more permutations
unfoldable pub later : ℕ → State → State
later zero a = a
later (suc n) a = keccak_f (later n a)

-- byte i of the output: each state gives r bytes
abbrev pub squeezed : ℕ → State → ℕ → ℕ
squeezed r a i = byte_at (later (i / r) a) (i % r)

-- n bytes of output for the message m
unfoldable pub sponge : ℕ → ℕ → List ℕ → ℕ → List ℕ
sponge r d m n = from n (squeezed r (absorb r d m))
