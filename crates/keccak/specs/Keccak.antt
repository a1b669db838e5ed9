-- The permutation of FIPS 202, section 3, on twenty-five lanes of 64 bits: its five steps, their round, and 24 rounds.
use Rattle.std.specs.Prelude.{ℕ, zero, suc, ◌+◌, ◌-◌, ◌*◌, ◌/◌, ◌%◌, ◌^◌, List, [], ◌∷◌, get_or, set}
use Rattle.std.specs.Int.Bits.{bit_and, bit_xor, bit_or}

-- a state A: twenty-five lanes, five by five, as five sheets of five
abbrev pub State : Type 0
State = List (List ℕ)

-- the lane A[x, y]
abbrev pub lane : State → ℕ → ℕ → ℕ
lane a x y = get_or (get_or a x []) y 0

abbrev pub five : {A : Type 0} → (ℕ → A) → List A
five f = f 0 ∷ f 1 ∷ f 2 ∷ f 3 ∷ f 4 ∷ []

-- the state whose lane at [x, y] is f x y
abbrev pub state : (ℕ → ℕ → ℕ) → State
state f = five (λ x. five (f x))

-- a lane rotated by n bits, towards its high bits
unfoldable pub rot : ℕ → ℕ → ℕ
rot v n = bit_or (v * 2 ^ n % 2 ^ 64) (v / 2 ^ (64 - n))

abbrev pub not64 : ℕ → ℕ
not64 v = (2 ^ 64 - 1) - v

-- C[x] and D[x] of theta
abbrev pub parity : State → ℕ → ℕ
parity a x = bit_xor (bit_xor (bit_xor (bit_xor (lane a x 0) (lane a x 1)) (lane a x 2)) (lane a x 3)) (lane a x 4)

unfoldable pub effect : State → ℕ → ℕ
effect a x = bit_xor (parity a ((x + 4) % 5)) (rot (parity a ((x + 1) % 5)) 1)

abbrev pub theta_at : State → ℕ → ℕ → ℕ
theta_at a x y = bit_xor (lane a x y) (effect a x)

abbrev pub theta : State → State
theta a = state (theta_at a)

-- table 2 of FIPS 202, modulo 64: the offset of lane [x, y]
abbrev pub offsets : State
offsets =
    (0 ∷ 36 ∷ 3 ∷ 41 ∷ 18 ∷ [])
    ∷ (1 ∷ 44 ∷ 10 ∷ 45 ∷ 2 ∷ [])
    ∷ (62 ∷ 6 ∷ 43 ∷ 15 ∷ 61 ∷ [])
    ∷ (28 ∷ 55 ∷ 25 ∷ 21 ∷ 56 ∷ [])
    ∷ (27 ∷ 20 ∷ 39 ∷ 8 ∷ 14 ∷ [])
    ∷ []

abbrev pub rho : State → State
rho a = state (λ x y. rot (lane a x y) (lane offsets x y))

abbrev pub pi_at : State → ℕ → ℕ → ℕ
pi_at a x y = lane a ((x + 3 * y) % 5) x

abbrev pub pi : State → State
pi a = state (pi_at a)

abbrev pub chi_at : State → ℕ → ℕ → ℕ
chi_at a x y = bit_xor (lane a x y) (bit_and (not64 (lane a ((x + 1) % 5) y)) (lane a ((x + 2) % 5) y))

abbrev pub chi : State → State
chi a = state (chi_at a)

-- A[0, 0] takes the round constant c
abbrev pub iota : State → ℕ → State
iota a c = set a 0 (set (get_or a 0 []) 0 (bit_xor (lane a 0 0) c))

unfoldable pub rnd : State → ℕ → State
rnd a c = iota (chi (pi (rho (theta a)))) c

-- the constants of rounds 0 to 23
abbrev pub constants : List ℕ
constants =
    0x0000000000000001 ∷ 0x0000000000008082 ∷ 0x800000000000808A ∷ 0x8000000080008000
    ∷ 0x000000000000808B ∷ 0x0000000080000001 ∷ 0x8000000080008081 ∷ 0x8000000000008009
    ∷ 0x000000000000008A ∷ 0x0000000000000088 ∷ 0x0000000080008009 ∷ 0x000000008000000A
    ∷ 0x000000008000808B ∷ 0x800000000000008B ∷ 0x8000000000008089 ∷ 0x8000000000008003
    ∷ 0x8000000000008002 ∷ 0x8000000000000080 ∷ 0x000000000000800A ∷ 0x800000008000000A
    ∷ 0x8000000080008081 ∷ 0x8000000000008080 ∷ 0x0000000080000001 ∷ 0x8000000080008008
    ∷ []

-- the first n rounds
unfoldable pub rounds : ℕ → State → State
rounds zero a = a
rounds (suc n) a = rnd (rounds n a) (get_or constants n 0)

abbrev pub keccak_f : State → State
keccak_f a = rounds 24 a
