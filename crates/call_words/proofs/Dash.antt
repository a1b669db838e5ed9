-- What a word of just `-`, and another one, reads as.
use Rattle.std.proofs.Common.{◌≡◌, ◌≢◌, ℕ, ◌%◌, List, [], ◌∷◌, Ok, Err, true, false, eqb, length, refl, arith}
use Rattle.std.specs.Result.{result_map_both}
use Rattle.std.proofs.lemmas.Bool.Decides.{nat_tests}
use Rattle.hex.specs.Hex.{decode_of}
use Rattle.decimals.specs.Signed.{is_none, minus}
use Rattle.decimals.specs.Laws.Pieces.{none_no}
use Rattle.call_words.specs.Reads.{hex_word, wrong_hex}
use Rattle.call_words.specs.declared.Fault.TheVariants.{BadDigit, OddCount}

pub dash : (word : List ℕ) → word ≡ minus ∷ [] → is_none word ≡ true
unfolding is_none
dash word e = rw e refl

pub dash_bytes : (digits : ℕ) (word : List ℕ) → word ≡ minus ∷ [] → hex_word digits word ≡ Ok []
dash_bytes digits word e = rw (dash word e) refl

module _ (digits : ℕ) (word : List ℕ) (some : word ≡ minus ∷ [] → ⊥) where
  pub empty_bytes : true ≡ eqb (length word) 0 → hex_word digits word ≡ Err BadDigit
  empty_bytes e = rw (none_no word some, ← e) refl

  pub odd_bytes : false ≡ eqb (length word) 0 → length word % digits ≢ 0 → hex_word digits word ≡ Err OddCount
  odd_bytes e h = rw (none_no word some, ← e) (grind (arith, nat_tests))

  pub even_bytes : false ≡ eqb (length word) 0 → length word % digits ≡ 0 → hex_word digits word ≡ result_map_both (λ bytes. bytes) wrong_hex (decode_of word)
  even_bytes e h = rw (none_no word some, ← e, h) refl
