-- What the arguments of a request read as.
use Rattle.std.specs.Prelude.{ℕ, ◌^◌, ltb, cond, List, take, ◌≡◌, Option, None, Some, Result, Ok, Err}
use Rattle.call_words.specs.Words.{words_left}
use Rattle.call_words.specs.Reads.{decimal_word, optional_word}
use Rattle.call_arguments.specs.declared.Arguments.{Arguments}
use Rattle.call_arguments.specs.declared.Buffers.{Buffers}
use Rattle.call_words.specs.declared.Fault.{Fault}
use Rattle.call_words.specs.declared.Fault.TheVariants.{TooLarge}

-- a number of 32 bits
abbrev pub narrowed : ℕ → Result ℕ Fault
narrowed x = cond (ltb x (2 ^ 32)) (Ok x) (Err TooLarge)

abbrev pub narrow_number : Result ℕ Fault → Result ℕ Fault
narrow_number (Ok x) = narrowed x
narrow_number (Err fault) = Err fault

abbrev pub some_number : Result ℕ Fault → Result (Option ℕ) Fault
some_number (Ok x) = Ok (Some x)
some_number (Err fault) = Err fault

abbrev pub narrow_optional : Result (Option ℕ) Fault → Result (Option ℕ) Fault
narrow_optional (Ok (Some x)) = some_number (narrowed x)
narrow_optional (Ok None) = Ok None
narrow_optional (Err fault) = Err fault

abbrev pub number_word : List ℕ → Result ℕ Fault
number_word word = narrow_number (decimal_word word)

-- one that may be missing
abbrev pub door_word : List ℕ → Result (Option ℕ) Fault
door_word word = narrow_optional (optional_word word)

-- the arguments that are not read yet
abbrev pub arguments_left : Arguments → List (List ℕ)
arguments_left arguments = words_left arguments.words

-- so many bytes, numbers and signed numbers are read
abbrev pub HasRead : ℕ → ℕ → ℕ → Arguments → Type 0
HasRead bytes numbers signed arguments =
    (arguments.bytes_read ≡ bytes) × (arguments.numbers_read ≡ numbers) × (arguments.signed_read ≡ signed)

-- as many as before
abbrev pub SamePlace : Arguments → Arguments → Type 0
SamePlace old new = HasRead old.bytes_read old.numbers_read old.signed_read new

-- what the arguments before take of the buffers stays as it was
abbrev pub KeepsArguments : Arguments → Buffers → Buffers → Type 0
KeepsArguments before old new =
    (take before.bytes_read new.bytes ≡ take before.bytes_read old.bytes)
    × (take before.numbers_read new.numbers ≡ take before.numbers_read old.numbers)
    × (take before.signed_read new.signed ≡ take before.signed_read old.signed)
