-- The words of a line.
use Rattle.std.specs.Prelude.{ℕ, List, [], ◌∷◌, length, nat_eq}
use Rattle.std.specs.List.{slice_split}
use Rattle.std.specs.Option.{option_map_or}
use Rattle.call_words.specs.declared.Words.{Words}

abbrev pub space : ℕ
space = 32

-- what stands between the spaces
unfoldable pub words_of : List ℕ → List (List ℕ)
words_of line = slice_split (λ b. nat_eq b space) line

-- the words behind a space, or none at the line's end
unfoldable pub words_behind : List ℕ → List (List ℕ)
words_behind [] = []
words_behind (b ∷ line) = words_of line

-- the words that are not read yet
abbrev pub words_left : Words → List (List ℕ)
words_left words = option_map_or (λ rest. words_of rest.now) words.rest []

-- how long the first of the words is, where there is one
abbrev pub first_length : List (List ℕ) → ℕ
first_length [] = 0
first_length (word ∷ words) = length word
