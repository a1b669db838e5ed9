-- Decimal numbers as words: digits, the highest first.
use Rattle.std.specs.Prelude.{ℕ, zero, suc, ◌+◌, ◌-◌, ◌*◌, ◌/◌, ◌%◌, Bool, cond, ◌&&◌, List, [], ◌∷◌, ◌++◌, Result, Ok, Err, ltb, leb, length}
use Rattle.std.specs.List.{list_all}
use Rattle.decimals.specs.declared.Fault.{Fault}
use Rattle.decimals.specs.declared.Fault.TheVariants.{BadDigit, TooLarge}

-- ---- the text of a number

-- a digit, `0` to `9`
abbrev pub digit : ℕ → ℕ
digit d = 48 + d

-- the digits of a number, the highest first, with no zeros in front: those of a tenth of it, and its last one. There are no more than f
unfoldable pub digits_within : ℕ → ℕ → List ℕ
digits_within zero n = []
digits_within (suc f) n =
    let more = digits_within f (n / 10) ++ digit (n % 10) ∷ [] in
    cond (ltb n 10) (digit n ∷ []) more

-- n has no more than n + 1 digits
unfoldable pub decimal : ℕ → List ℕ
decimal n = digits_within (suc n) n

-- ---- what a word reads as

abbrev pub is_digit : ℕ → Bool
is_digit b = leb (digit 0) b && leb b (digit 9)

-- one digit or more
unfoldable pub is_decimal : List ℕ → Bool
is_decimal word = ltb 0 (length word) && list_all is_digit word

-- the number that digits spell behind those of v
unfoldable pub value_behind : ℕ → List ℕ → ℕ
value_behind v [] = v
value_behind v (b ∷ bs) = value_behind (v * 10 + (b - digit 0)) bs

abbrev pub value : List ℕ → ℕ
value word = value_behind 0 word

-- what reading gives: x of a word that is formed and small; a bad digit comes before a number that is too large
abbrev pub read_as : {A : Type 0} → Bool → Bool → A → Result A Fault
read_as formed small x = cond formed (cond small (Ok x) (Err TooLarge)) (Err BadDigit)

-- what a word reads as: a number up to `most`
unfoldable pub number_read : ℕ → List ℕ → Result ℕ Fault
number_read most word = read_as (is_decimal word) (leb (value word) most) (value word)
