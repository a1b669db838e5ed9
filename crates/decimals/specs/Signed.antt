-- Lists of signed numbers as words: decimals with commas between, `-` before a negative one, and just `-` for the empty list.
use Rattle.std.specs.Prelude.{ℕ, suc, Bool, cond, ◌&&◌, List, [], ◌∷◌, ◌++◌, map, Result, leb, eqb, ℤ, pos, negsuc, neg_ℤ, length, get_or, take, drop}
use Rattle.std.specs.List.{flat_map, list_all, slice_split}
use Rattle.std.specs.Result.{result_map_both}
use Rattle.decimals.specs.declared.Fault.{Fault}
use Rattle.decimals.specs.Decimals.{decimal, is_decimal, value, read_as}

abbrev pub minus : ℕ
minus = 45

abbrev pub comma : ℕ
comma = 44

-- ---- the text of a list

-- a number; negsuc n is -(n + 1)
unfoldable pub number_text : ℤ → List ℕ
number_text (pos n) = decimal n
number_text (negsuc n) = minus ∷ decimal (suc n)

-- numbers, each behind a comma
abbrev pub further_text : List ℤ → List ℕ
further_text zs = flat_map (λ z. comma ∷ number_text z) zs

unfoldable pub list_text : List ℤ → List ℕ
list_text [] = minus ∷ []
list_text (z ∷ zs) = number_text z ++ further_text zs

-- ---- what a word reads as

-- what stands between the commas
unfoldable pub pieces : List ℕ → List (List ℕ)
pieces word = slice_split (λ b. eqb b comma) word

-- just `-`
unfoldable pub is_none : List ℕ → Bool
is_none word = eqb (length word) 1 && eqb (get_or word 0 0) minus

-- the pieces that spell numbers
unfoldable pub pieces_of : List ℕ → List (List ℕ)
pieces_of word = cond (is_none word) [] (pieces word)

-- a piece is a minus or none, and digits
abbrev pub is_negative : List ℕ → Bool
is_negative piece = eqb (get_or piece 0 0) minus

abbrev pub digits_of : List ℕ → List ℕ
digits_of piece = cond (is_negative piece) (drop 1 piece) piece

unfoldable pub is_formed : List ℕ → Bool
is_formed piece = is_decimal (digits_of piece)

unfoldable pub number_of : List ℕ → ℤ
number_of piece = cond (is_negative piece) (neg_ℤ (pos (value (digits_of piece)))) (pos (value (digits_of piece)))

-- -128 .. 127
abbrev pub is_small : ℤ → Bool
is_small (pos n) = leb n 127
is_small (negsuc n) = leb n 127

unfoldable pub numbers_of : List ℕ → List ℤ
numbers_of word = map number_of (pieces_of word)

-- what a piece reads as, and what a word does: a bad digit anywhere comes before a number that is too large
unfoldable pub piece_read : List ℕ → Result ℤ Fault
piece_read piece = read_as (is_formed piece) (is_small (number_of piece)) (number_of piece)

unfoldable pub list_read : List ℕ → Result (List ℤ) Fault
list_read word = read_as (list_all is_formed (pieces_of word)) (list_all is_small (numbers_of word)) (numbers_of word)

-- what was read of a word: so many numbers at the front of a list, or what is wrong
abbrev pub read_to : List ℤ → Result ℕ Fault → Result (List ℤ) Fault
read_to list read = result_map_both (λ n. take n list) (λ e. e) read
