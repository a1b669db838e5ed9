-- The undo-law: the text of a list of numbers in -128 .. 127 reads as that list.
use Rattle.std.specs.Prelude.{ℕ, suc, ◌≤◌, true, false, List, [], ◌∷◌, ◌++◌, map, ◌≡◌, refl, Result, Ok, Err, leb, ℤ, pos, negsuc, take}
use Rattle.std.specs.List.{list_all}
use Rattle.std.specs.Result.{IsOkAnd}
use Rattle.std.proofs.lemmas.Bool.{false≢true}
use Rattle.std.proofs.Common.{sym, ap, ap₂, ◌∙◌, arith, leb-true, ne_eqb}
use Rattle.decimals.specs.declared.Fault.{Fault}
use Rattle.decimals.specs.Decimals.{decimal, is_digit, is_decimal}
use Rattle.decimals.specs.Signed.{minus, comma, number_text, further_text, list_text, pieces, is_none, pieces_of, is_negative}
use Rattle.decimals.specs.Signed.{is_formed, number_of, is_small, numbers_of, list_read, read_to}
use Rattle.decimals.specs.Laws.Decimals.{all_digits, spelled}
use Rattle.decimals.specs.Laws.Pieces.{none_no}
use Rattle.lists.proofs.Laws.Booleans.{and_left, and_right}

-- ---- a number

first_digit : (b : ℕ) (ds : List ℕ) → list_all is_digit (b ∷ ds) ≡ true → 48 ≤ b
first_digit b ds h = leb-true 48 b (and_left (leb 48 b) (leb b 57) (and_left (is_digit b) (list_all is_digit ds) h))

-- digits have no sign and no comma
unsigned : (ds : List ℕ) → is_decimal ds ≡ true → is_negative ds ≡ false
unfolding is_decimal
unsigned [] h = absurd (false≢true h)
unsigned (b ∷ ds) h = ne_eqb b minus (λ e. omega (arith, first_digit b ds (all_digits (b ∷ ds) h)))

digits_part : (ds rest : List ℕ) (ps : List (List ℕ)) → list_all is_digit ds ≡ true → pieces rest ≡ [] ∷ ps → pieces (ds ++ rest) ≡ ds ∷ ps
unfolding pieces
digits_part [] rest ps h e = e
digits_part (b ∷ ds) rest ps h e =
    rw (ne_eqb b comma (λ q. omega (arith, first_digit b ds h)), digits_part ds rest ps (and_right (is_digit b) (list_all is_digit ds) h) e)

-- the text of a number is a piece that reads as the number
record Undone (z : ℤ) (piece : List ℕ) : Type 0 where
  formed : is_formed piece ≡ true
  number : number_of piece ≡ z
  part : (rest : List ℕ) (ps : List (List ℕ)) → pieces rest ≡ [] ∷ ps → pieces (piece ++ rest) ≡ piece ∷ ps

number_undone : (z : ℤ) → Undone z (number_text z)
unfolding number_text is_formed number_of pieces
number_undone (pos n) =
    let s = spelled n in
    let plain = unsigned (decimal n) s.decimal in
    record {
      formed = rw plain s.decimal;
      number = rw plain (ap pos s.number);
      part = λ rest ps e. digits_part (decimal n) rest ps (all_digits (decimal n) s.decimal) e;
    }
number_undone (negsuc n) =
    let s = spelled (suc n) in
    record {
      formed = s.decimal;
      number = rw s.number;
      part = λ rest ps e. rw (digits_part (decimal (suc n)) rest ps (all_digits (decimal (suc n)) s.decimal) e);
    }

-- ---- a list

further_parts : (zs : List ℤ) → pieces (further_text zs) ≡ [] ∷ map number_text zs
unfolding pieces
further_parts [] = refl
further_parts (z ∷ zs) = rw ((number_undone z).part (further_text zs) (map number_text zs) (further_parts zs))

all_formed : (zs : List ℤ) → list_all is_formed (map number_text zs) ≡ true
all_formed [] = refl
all_formed (z ∷ zs) = rw ((number_undone z).formed, all_formed zs)

all_numbers : (zs : List ℤ) → map number_of (map number_text zs) ≡ zs
all_numbers [] = refl
all_numbers (z ∷ zs) = ap₂ ◌∷◌ (number_undone z).number (all_numbers zs)

-- just `-` is the text of no number
no_number : (zs : List ℤ) → pieces (minus ∷ []) ≡ map number_text zs → ⊥
unfolding pieces is_formed is_decimal
no_number zs e = false≢true (ap (list_all is_formed) e ∙ all_formed zs)

list_parts : (zs : List ℤ) → pieces_of (list_text zs) ≡ map number_text zs
unfolding pieces_of is_none list_text
list_parts [] = refl
list_parts (z ∷ zs) = rw (none_no (list_text (z ∷ zs)) (λ e. no_number (z ∷ zs) (ap pieces (sym e) ∙ parts))) parts
  where
    parts : pieces (list_text (z ∷ zs)) ≡ map number_text (z ∷ zs)
    parts = (number_undone z).part (further_text zs) (map number_text zs) (further_parts zs)

pub undone : (zs : List ℤ) → list_all is_small zs ≡ true → list_read (list_text zs) ≡ Ok zs
unfolding list_read numbers_of
undone zs h = rw (list_parts zs, all_formed zs, all_numbers zs, h)

-- so what is read of the text of a list is the list
pub read_back :
    (list : List ℤ) (read : Result ℕ Fault) (zs : List ℤ) → list_all is_small zs ≡ true → read_to list read ≡ list_read (list_text zs) →
    IsOkAnd read (λ n. take n list ≡ zs)
read_back list (Ok n) zs h r = let e = r ∙ undone zs h in cc
read_back list (Err e) zs h r = let e = r ∙ undone zs h in cc
