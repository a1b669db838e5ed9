-- What the hex digits of a word spell in a buffer of half as many bytes.
use Rattle.std.proofs.Common.{◌≡◌, ℕ, ◌/◌, ◌≤◌, List, ◌++◌, Result, Ok, Err, MatchResult, length, take, drop, refl, sym, ap, length-take, arith}
use Rattle.std.proofs.Math.Seq.{take-append_seam}
use Rattle.std.specs.Result.{result_map_both}
use Rattle.hex.specs.Hex.{decode_of, decode_sized}
use Rattle.hex.specs.declared.error.FromHexError.{FromHexError}
use Rattle.call_words.specs.Reads.{wrong_hex}

sized : (word : List ℕ) (n : ℕ) → n ≡ length word / 2 → decode_sized word n ≡ decode_of word
sized word n e = grind (arith)

-- the part of the buffer that the digits are read into
module _ (word buffer out : List ℕ) {T : Type 0} (t : T) (got : Result T FromHexError) (fits : length word / 2 ≤ length buffer)
    (value : MatchResult (decode_sized word (length (take (length word / 2) buffer))) (λ bytes. (got ≡ Ok t) × (out ≡ bytes)) (λ e. got ≡ Err e)) where
  of : (read : Result (List ℕ) FromHexError) → MatchResult read (λ bytes. (got ≡ Ok t) × (out ≡ bytes)) (λ e. got ≡ Err e) → (got ≡ Ok t → read ≡ Ok out) × ((e : FromHexError) → got ≡ Err e → read ≡ Err e)
  of (Ok bytes) h = ((λ ok. rw h.1 refl), (λ e err. cc (sym h.0, err)))
  of (Err e) h = ((λ ok. cc (sym h, ok)), (λ e' err. cc (sym h, err)))

  half : length (take (length word / 2) buffer) ≡ length word / 2
  half = omega (arith, fits, length-take (length word / 2) buffer)

  pub digits_ok : got ≡ Ok t → length out ≡ length word / 2 → result_map_both (λ bytes. bytes) wrong_hex (decode_of word) ≡ Ok (take (length word / 2) (out ++ drop (length word / 2) buffer))
  digits_ok ok e = rw (← sized word _ half, (of _ value).0 ok, ← e) (ap Ok (sym (take-append_seam out _)))

  pub digits_err : (e : FromHexError) → got ≡ Err e → result_map_both (λ bytes. bytes) wrong_hex (decode_of word) ≡ Err (wrong_hex e)
  digits_err e err = rw (← sized word _ half, (of _ value).1 e err) refl
