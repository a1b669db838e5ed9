-- Laws of the pieces of a word: where they part, what is read of each, and what is read of them all.
use Rattle.std.specs.Prelude.{ℕ, zero, suc, ◌+◌, ◌-◌, ◌*◌, ◌<◌, ◌≤◌, Bool, cond, ◌≡◌, Result, Ok, Err, MatchResult, ltb, leb, eqb, ℤ, length, get_or, take, drop, set}
use Rattle.std.specs.List.{list_all, onto_first}
use Rattle.std.specs.Result.{result_map_both}
use Rattle.std.proofs.Math.Bool.{true, false}
use Rattle.std.proofs.lemmas.Bool.{false≢true}
use mathlib.Core.List.{List, [], ◌∷◌, ◌++◌, map, append_assoc, append-nil}
use Rattle.std.proofs.Common.{ap, ◌∙◌, arith, length-drop, drop-drop}
use Rattle.std.proofs.Math.Path.{refl, sym}
use Rattle.std.proofs.Math.Numerals.{add-one}
use Rattle.std.proofs.Math.Dec.{leb-suc-suc}
use Rattle.std.proofs.Math.IntN.{pos, neg_ℤ}
use Rattle.std.proofs.Math.ListN.{length-take}
use Rattle.std.proofs.Math.Seq.{take-length, take-suc-set}
use borrow.Author.Tests.{lt-ltb, le-ltb, eq-eqb, ne_eqb, eqb-true}
use Rattle.lists.proofs.Laws.Booleans.{and_left}
use Rattle.lists.proofs.Laws.Lists.{drop_next}
use Rattle.decimals.specs.declared.Fault.{Fault}
use Rattle.decimals.specs.declared.Fault.TheVariants.{BadDigit, TooLarge}
use Rattle.decimals.specs.Places.{index_of, index_after, slice}
use Rattle.decimals.specs.Decimals.{is_decimal, value, read_as, number_read}
use Rattle.decimals.specs.Signed.{minus, comma, pieces, is_none, pieces_of, is_formed, number_of, is_small}
use Rattle.decimals.specs.Signed.{numbers_of, piece_read, list_read, read_to}

-- ---- where the pieces part

-- the pieces behind place k, where there are any
abbrev later : ℕ → List ℕ → List (List ℕ)
later k w = cond (ltb k (length w)) (pieces (drop (suc k) w)) []

first_piece : (w : List ℕ) → pieces w ≡ take (index_of comma w) w ∷ later (index_of comma w) w
unfolding pieces index_of index_after
first_piece [] = refl
first_piece (b ∷ bs) = go (eqb b comma) (first_piece bs)
  where
    k : ℕ
    k = index_of comma bs

    go :
        (t : Bool) → pieces bs ≡ take k bs ∷ later k bs →
        cond t ([] ∷ pieces bs) (onto_first b (pieces bs)) ≡ take (index_after t k) (b ∷ bs) ∷ later (index_after t k) (b ∷ bs)
    go true e = rw (lt-ltb 0 (suc (length bs)) (omega arith))
    go false e = rw (e, leb-suc-suc)

-- the pieces from place `at` on, where the next comma, or else the end, is at place e
module _ (word : List ℕ) (at e : ℕ) (found : e ≡ at + index_of comma (slice at (length word) word)) where
  place : e ≡ at + index_of comma (drop at word)
  unfolding slice
  place = rw take-length at found

  this_piece : pieces (drop at word) ≡ take (e - at) (drop at word) ∷ later (e - at) (drop at word)
  this_piece =
      let k : e - at ≡ index_of comma (drop at word) = omega (arith, place) in
      rw k (first_piece (drop at word))

  next_pieces : e < length word → later (e - at) (drop at word) ≡ pieces (drop (e + 1) word)
  next_pieces h =
      let l : e - at < length (drop at word) = omega (arith, place, length-drop at word) in
      let next : at + suc (e - at) ≡ e + 1 = omega (arith, place) in
      rw (lt-ltb (e - at) (length (drop at word)) l, drop-drop (suc (e - at)) at word, next)

  no_pieces : e ≡ length word → later (e - at) (drop at word) ≡ []
  no_pieces h = rw (le-ltb (e - at) (length (drop at word)) (omega (arith, length-drop at word)))

-- ---- a piece

small_negated : (v : ℕ) → is_small (neg_ℤ (pos v)) ≡ leb v 128
small_negated zero = refl
small_negated (suc n) = sym (leb-suc-suc n 127)

read_map : {A B : Type 0} (f : A → B) (formed small : Bool) (x : A) → read_as formed small (f x) ≡ result_map_both f (λ e. e) (read_as formed small x)
read_map f true true x = refl
read_map f true false x = refl
read_map f false small x = refl

-- what a piece reads as is what its digits do: those behind a minus, and all where there is none
module _ (piece : List ℕ) where
  pub negative_piece :
      (digits : List ℕ) → digits ≡ drop 1 piece → get_or piece 0 0 ≡ minus →
      result_map_both (λ n. neg_ℤ (pos n)) (λ e. e) (number_read 128 digits) ≡ piece_read piece
  unfolding piece_read is_formed number_of number_read
  negative_piece digits e h =
      let v = value (drop 1 piece) in
      rw (e, eq-eqb (get_or piece 0 0) minus h, small_negated) (sym (read_map (λ n. neg_ℤ (pos n)) (is_decimal (drop 1 piece)) (leb v 128) v))

  pub plain_piece : (get_or piece 0 0 ≡ minus → ⊥) → result_map_both pos (λ e. e) (number_read 127 piece) ≡ piece_read piece
  unfolding piece_read is_formed number_of number_read
  plain_piece h =
      let v = value piece in
      rw (ne_eqb (get_or piece 0 0) minus h) (sym (read_map pos (is_decimal piece) (leb v 127) v))

-- a piece with a minus has a byte, and so has a piece with a form
pub minus_some : (piece : List ℕ) → get_or piece 0 0 ≡ minus → 0 < length piece
minus_some [] h = absurd (omega arith)
minus_some (b ∷ bs) h = omega arith

formed_some : (piece : List ℕ) → is_formed piece ≡ true → 0 < length piece
unfolding is_formed is_decimal
formed_some [] h = absurd (false≢true h)
formed_some (b ∷ bs) h = omega arith

-- what a result says of a word
module _ {A : Type 0} where
  read_bad : (formed small : Bool) (x : A) → Err BadDigit ≡ read_as formed small x → formed ≡ false
  read_bad true true x h = cc
  read_bad true false x h = cc
  read_bad false s x h = refl

  read_large : (formed small : Bool) (x : A) → Err TooLarge ≡ read_as formed small x → (formed ≡ true) × (small ≡ false)
  read_large true true x h = cc
  read_large true false x h = (refl, refl)
  read_large false s x h = cc

  read_sound : (formed small : Bool) (x y : A) → Ok y ≡ read_as formed small x → (formed ≡ true) × (small ≡ true) × (y ≡ x)
  read_sound true true x y h = (refl, refl, cc)
  read_sound true false x y h = cc
  read_sound false s x y h = cc

-- ---- all pieces

-- the places of pieces, each with one behind it
pub span : List (List ℕ) → ℕ
span [] = 0
span (p ∷ ps) = length p + 1 + span ps

span_first : (b : ℕ) (ps : List (List ℕ)) → 0 < span ps → span (onto_first b ps) ≡ span ps + 1
unfolding span
span_first b [] h = absurd (omega arith)
span_first b (p ∷ ps) h = omega arith

span_is : (word : List ℕ) → span (pieces word) ≡ length word + 1
unfolding span pieces
span_is [] = refl
span_is (b ∷ bs) = go (eqb b comma) (span_is bs)
  where
    go : (t : Bool) → span (pieces bs) ≡ length bs + 1 → span (cond t ([] ∷ pieces bs) (onto_first b (pieces bs))) ≡ length (b ∷ bs) + 1
    go true e = omega (arith, e)
    go false e = omega (arith, e, span_first b (pieces bs) (omega (arith, e)))

-- n numbers of the pieces are read, and the pieces that are left
pub record Sound (word : List ℕ) (list : List ℤ) (n : ℕ) (rest : List (List ℕ)) : Type 0 where
  pub room : 2 * n + span rest ≤ length word + 1
  pub small : list_all is_small (map number_of (pieces word)) ≡ list_all is_small (map number_of rest)
  pub numbers : take n list ++ map number_of rest ≡ map number_of (pieces word)

-- pieces of which all are read but `rest`: their numbers, or one is too large
pub record Gathered (word : List ℕ) (list : List ℤ) (read : Result ℕ Fault) (rest : List (List ℕ)) : Type 0 where
  pub formed : list_all is_formed (pieces word) ≡ list_all is_formed rest
  pub numbers : MatchResult read (λ n. Sound word list n rest) (λ e. (e ≡ TooLarge) × (list_all is_small (map number_of (pieces word)) ≡ false))

pub gathered_none : (word : List ℕ) (list : List ℤ) → Gathered word list (Ok 0) (pieces word)
gathered_none word list =
    record { formed = refl; numbers = record { room = omega (arith, span_is word); small = refl; numbers = refl } }

-- one piece more, of those that are left
module _ (word piece : List ℕ) {left rest : List (List ℕ)} (here : left ≡ piece ∷ rest) where
  formed_next : list_all is_formed (pieces word) ≡ list_all is_formed left → is_formed piece ≡ true → list_all is_formed (pieces word) ≡ list_all is_formed rest
  formed_next h f = h ∙ rw (here, f)

  bad_next : {list : List ℤ} {read : Result ℕ Fault} → Err BadDigit ≡ piece_read piece → Gathered word list read left → list_all is_formed (pieces word) ≡ false
  unfolding piece_read
  bad_next h g =
      let bad = read_bad (is_formed piece) (is_small (number_of piece)) (number_of piece) h in
      g.formed ∙ rw (here, bad)

  large_next :
      {list : List ℤ} {read : Result ℕ Fault} → Err TooLarge ≡ piece_read piece → Gathered word list read left → Gathered word list (Err TooLarge) rest
  unfolding piece_read
  large_next {list} {read} h g =
      let large = read_large (is_formed piece) (is_small (number_of piece)) (number_of piece) h in
      record { formed = formed_next g.formed large.0; numbers = (refl, go large.1 read g.numbers) }
    where
      go :
          is_small (number_of piece) ≡ false → (read : Result ℕ Fault) →
          MatchResult read (λ n. Sound word list n left) (λ e. (e ≡ TooLarge) × (list_all is_small (map number_of (pieces word)) ≡ false)) →
          list_all is_small (map number_of (pieces word)) ≡ false
      go large (Ok n) s = s.small ∙ rw (here, large)
      go large (Err e) s = s.1

  still_next : {list : List ℤ} {z : ℤ} {e : Fault} → Ok z ≡ piece_read piece → Gathered word list (Err e) left → Gathered word list (Err e) rest
  unfolding piece_read
  still_next {list} {z} h g =
      let sound = read_sound (is_formed piece) (is_small (number_of piece)) (number_of piece) z h in
      record { formed = formed_next g.formed sound.0; numbers = g.numbers }

  place_next : {list : List ℤ} {z : ℤ} {n : ℕ} → Ok z ≡ piece_read piece → Gathered word list (Ok n) left → 2 * n + 2 ≤ length word + 1
  unfolding piece_read span
  place_next {list} {z} h g =
      let sound = read_sound (is_formed piece) (is_small (number_of piece)) (number_of piece) z h in
      let room = rw here at g.numbers.room in
      omega (arith, formed_some piece sound.0, room)

  one_next :
      {list : List ℤ} {z : ℤ} {n : ℕ} → Ok z ≡ piece_read piece → n < length list → Gathered word list (Ok n) left →
      Gathered word (set list n z) (Ok (n + 1)) rest
  unfolding piece_read span
  one_next {list} {z} {n} h l g =
      let sound = read_sound (is_formed piece) (is_small (number_of piece)) (number_of piece) z h in
      let room = rw here at g.numbers.room in
      let numbers = rw here at g.numbers.numbers in
      record {
        formed = formed_next g.formed sound.0;
        numbers =
            record {
              room = omega (arith, formed_some piece sound.0, room);
              small = g.numbers.small ∙ rw (here, sound.1);
              numbers =
                  rw (add-one n, take-suc-set list n z l, sound.2, append_assoc (take n list) (number_of piece ∷ []) (map number_of rest)) numbers;
            };
      }

-- at place k of the pieces
module _ (word : List ℕ) (k : ℕ) (piece : List ℕ) (there : k < length (pieces word)) (is : piece ≡ get_or (pieces word) k piece) where
  -- the pieces that are left are this one and those behind it
  here : drop k (pieces word) ≡ piece ∷ drop (k + 1) (pieces word)
  here = drop_next (pieces word) k piece there ∙ ap (λ (p : List ℕ). p ∷ drop (k + 1) (pieces word)) (sym is)

  pub bad_read :
      {list : List ℤ} {read : Result ℕ Fault} → Err BadDigit ≡ piece_read piece → Gathered word list read (drop k (pieces word)) →
      list_all is_formed (pieces word) ≡ false
  bad_read h g = bad_next word piece here h g

  pub large_read :
      {list : List ℤ} {read : Result ℕ Fault} → Err TooLarge ≡ piece_read piece → Gathered word list read (drop k (pieces word)) →
      Gathered word list (Err TooLarge) (drop (k + 1) (pieces word))
  large_read h g = large_next word piece here h g

  pub still_large :
      {list : List ℤ} {z : ℤ} {e : Fault} → Ok z ≡ piece_read piece → Gathered word list (Err e) (drop k (pieces word)) →
      Gathered word list (Err e) (drop (k + 1) (pieces word))
  still_large h g = still_next word piece here h g

  pub place_left : {list : List ℤ} {z : ℤ} {n : ℕ} → Ok z ≡ piece_read piece → Gathered word list (Ok n) (drop k (pieces word)) → 2 * n + 2 ≤ length word + 1
  place_left h g = place_next word piece here h g

  pub one_read :
      {list : List ℤ} {z : ℤ} {n : ℕ} → Ok z ≡ piece_read piece → n < length list → Gathered word list (Ok n) (drop k (pieces word)) →
      Gathered word (set list n z) (Ok (n + 1)) (drop (k + 1) (pieces word))
  one_read h l g = one_next word piece here h l g

-- what is read with a piece more: its number behind the others where both are sound, and else what is too large is kept
abbrev pub Further : List ℕ → List ℤ → Result ℕ Fault → Result ℤ Fault → List (List ℕ) → Type 0
Further word list (Ok n) (Ok z) rest = n < length list → Gathered word (set list n z) (Ok (n + 1)) rest
Further word list (Ok n) (Err e) rest = Gathered word list (Err e) rest
Further word list (Err e) piece rest = Gathered word list (Err e) rest

further :
    (word piece : List ℕ) {left rest : List (List ℕ)} (list : List ℤ) (read : Result ℕ Fault) (number : Result ℤ Fault) → left ≡ piece ∷ rest →
    (piece_read piece ≡ Err BadDigit → ⊥) → number ≡ piece_read piece → Gathered word list read left → Further word list read number rest
further word piece list (Ok n) (Ok z) here formed h g = λ l. one_next word piece here h l g
further word piece list (Ok n) (Err BadDigit) here formed h g = absurd (formed (sym h))
further word piece list (Ok n) (Err TooLarge) here formed h g = large_next word piece here h g
further word piece list (Err e) (Ok z) here formed h g = still_next word piece here h g
further word piece list (Err e) (Err BadDigit) here formed h g = absurd (formed (sym h))
further word piece list (Err e) (Err TooLarge) here formed h g = rw (g.numbers.0) (large_next word piece here h g)

-- a piece that begins at place `at` of the word and ends at e
module _ (word : List ℕ) (at : ℕ) {e : ℕ} (found : e ≡ at + index_of comma (slice at (length word) word)) where
  pub bad_piece :
      {list : List ℤ} {read : Result ℕ Fault} → Gathered word list read (pieces (drop at word)) → piece_read (take (e - at) (drop at word)) ≡ Err BadDigit → list_all is_formed (pieces word) ≡ false
  bad_piece g h = bad_next word (take (e - at) (drop at word)) (this_piece word at e found) (sym h) g

  module _ (formed : piece_read (take (e - at) (drop at word)) ≡ Err BadDigit → ⊥) where
    pub some_byte : at < e
    unfolding piece_read
    some_byte = go (is_formed piece) refl
      where
        piece : List ℕ
        piece = take (e - at) (drop at word)

        go : (t : Bool) → is_formed piece ≡ t → at < e
        go true q = omega (arith, formed_some piece q, length-take (e - at) (drop at word))
        go false q = absurd (formed (rw q))

    module _ {list : List ℤ} {read : Result ℕ Fault} (g : Gathered word list read (pieces (drop at word))) where
      pub next_piece : e < length word → Further word list read (piece_read (take (e - at) (drop at word))) (pieces (drop (e + 1) word))
      next_piece h =
          further word (take (e - at) (drop at word)) list read (piece_read (take (e - at) (drop at word)))
          (rw (next_pieces word at e found h) at (this_piece word at e found)) formed refl g

      pub last_piece : e ≡ length word → Further word list read (piece_read (take (e - at) (drop at word))) []
      last_piece h =
          further word (take (e - at) (drop at word)) list read (piece_read (take (e - at) (drop at word)))
          (rw (no_pieces word at e found h) at (this_piece word at e found)) formed refl g

-- ---- the word

none_only : (word : List ℕ) → is_none word ≡ true → word ≡ minus ∷ []
unfolding is_none
none_only [] h = absurd (false≢true h)
none_only (b ∷ []) h = rw (eqb-true b minus h)
none_only (b ∷ x ∷ bs) h = absurd (omega (arith, eqb-true (length (b ∷ x ∷ bs)) 1 (and_left _ _ h)))

pub none_no : (word : List ℕ) → (word ≡ minus ∷ [] → ⊥) → is_none word ≡ false
none_no word h = go (is_none word) refl
  where
    go : (t : Bool) → is_none word ≡ t → t ≡ false
    go true e = absurd (h (none_only word e))
    go false e = refl

pub none_read : (word : List ℕ) → word ≡ minus ∷ [] → Ok [] ≡ list_read word
unfolding list_read numbers_of pieces_of is_none
none_read word h = rw h

module _ {word : List ℕ} (some : word ≡ minus ∷ [] → ⊥) where
  pub bad_list : list_all is_formed (pieces word) ≡ false → Err BadDigit ≡ list_read word
  unfolding list_read pieces_of
  bad_list h = rw (none_no word some, h)

  pub all_read : {list : List ℤ} {read : Result ℕ Fault} → Gathered word list read [] → read_to list read ≡ list_read word
  unfolding list_read numbers_of pieces_of
  all_read {list} {read} g = go read g.numbers
    where
      go :
          (read : Result ℕ Fault) →
          MatchResult read (λ n. Sound word list n []) (λ e. (e ≡ TooLarge) × (list_all is_small (map number_of (pieces word)) ≡ false)) →
          read_to list read ≡ list_read word
      go (Ok n) s = rw (none_no word some, g.formed, s.small, ← s.numbers, append-nil (take n list))
      go (Err e) s = rw (none_no word some, g.formed, s.1, s.0)
