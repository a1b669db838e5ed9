-- Numbers by their digits, lowest first; to the base 256 these are the bytes of a little-endian number.
use Rattle.std.specs.Prelude.{ℕ, zero, suc, ◌+◌, ◌*◌, ◌/◌, ◌%◌, ◌^◌, ◌<◌, List, [], ◌∷◌, length, get_or}

-- the number whose digits to the base B the list gives, lowest first
unfoldable pub number : ℕ → List ℕ → ℕ
number B [] = 0
number B (x ∷ xs) = x + B * number B xs

-- the n lowest digits of v to the base B, lowest first
unfoldable pub digits : ℕ → ℕ → ℕ → List ℕ
digits B zero v = []
digits B (suc n) v = v % B ∷ digits B n (v / B)

-- digit k of v to the base B, the lowest being digit 0
abbrev pub digit : ℕ → ℕ → ℕ → ℕ
digit B v k = v / B ^ k % B

-- each element is below B
abbrev pub Below : ℕ → List ℕ → Type 0
Below B xs = (k : ℕ) → k < length xs → get_or xs k 0 < B
