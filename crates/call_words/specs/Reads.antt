-- What a word of a line reads as.
use Rattle.std.specs.Prelude.{ℕ, ◌-◌, ◌^◌, ◌%◌, eqb, length, cond, List, [], ◌∷◌, Option, None, Some, Result, Ok, Err, ℤ}
use Rattle.std.specs.Result.{result_map_both}
use Rattle.decimals.specs.Decimals.{number_read}
use Rattle.decimals.specs.Signed.{is_none, list_read}
use Rattle.decimals.specs.declared.Fault as decimals
use Rattle.hex.specs.Hex.{decode_of}
use Rattle.hex.specs.declared.error.FromHexError as hex
use Rattle.call_words.specs.declared.Fault.{Fault}
use Rattle.call_words.specs.declared.Fault.TheVariants.{WrongCount, BadDigit, OddCount, TooLarge, OutOfMemory}

-- what is wrong with a decimal word is wrong with the line
abbrev pub wrong_decimal : decimals.Fault → Fault
wrong_decimal decimals.TheVariants.BadDigit = BadDigit
wrong_decimal decimals.TheVariants.TooLarge = TooLarge

-- a number of 64 bits
abbrev pub decimal_word : List ℕ → Result ℕ Fault
decimal_word word = result_map_both (λ n. n) wrong_decimal (number_read (2 ^ 64 - 1) word)

-- one that may be missing
abbrev pub optional_word : List ℕ → Result (Option ℕ) Fault
optional_word word = cond (is_none word) (Ok None) (result_map_both (λ n. Some n) wrong_decimal (number_read (2 ^ 64 - 1) word))

-- what is wrong with hex digits is wrong with the line
abbrev pub wrong_hex : hex.FromHexError → Fault
wrong_hex (hex.TheVariants.InvalidHexCharacter c index) = BadDigit
wrong_hex hex.TheVariants.OddLength = OddCount
wrong_hex hex.TheVariants.InvalidStringLength = OddCount
wrong_hex hex.TheVariants.OutOfMemory = OutOfMemory

-- bytes, whose elements have so many digits each
abbrev pub hex_word : ℕ → List ℕ → Result (List ℕ) Fault
hex_word digits word =
    let bytes = cond (eqb (length word % digits) 0) (result_map_both (λ bytes. bytes) wrong_hex (decode_of word)) (Err OddCount) in
    cond (is_none word) (Ok []) (cond (eqb (length word) 0) (Err BadDigit) bytes)

-- signed numbers
abbrev pub signed_word : List ℕ → Result (List ℤ) Fault
signed_word word = result_map_both (λ list. list) wrong_decimal (list_read word)

-- the first of the words, where there is one
abbrev pub first_read : {A : Type 0} → (List ℕ → Result A Fault) → List (List ℕ) → Result A Fault
first_read read [] = Err WrongCount
first_read read (word ∷ words) = read word
