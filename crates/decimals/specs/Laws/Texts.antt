-- Laws of texts: of those that are written one behind the other, of the numbers of a list, and that the library's decimals are those of the
-- definitions.
use Rattle.std.specs.Prelude.{ℕ, suc, ◌+◌, ◌*◌, ◌^◌, ◌<◌, ◌≤◌, ◌≡◌, ℤ, pos, negsuc, get_or, take, drop}
use mathlib.Core.List.{List, [], ◌∷◌, ◌++◌, append_assoc, append-nil}
use Rattle.std.specs.Fmt as std
use lib.Signed.{mag}
use mir.Val.{SFits}
use Rattle.std.specs.Int.RustNames.{FitsSigned}
use Rattle.std.proofs.Common.{sym, ap, ◌∙◌, arith, w8, lt-ltb, le-ltb, length-append, drop_of_length-le, to_z-of_z}
use Rattle.std.proofs.Math.ListN.{length}
use Rattle.std.proofs.lemmas.List.{take_more, flat_map_more}
use Rattle.std.proofs.lemmas.Fmt.{AppendsLastDigit, decimal_from_appends, length-decimal-le_succ}
use Rattle.lists.proofs.Laws.Lists.{drop_next}
use Rattle.decimals.specs.Decimals.{digits_within, decimal}
use Rattle.decimals.specs.Signed.{minus, comma, number_text, further_text, list_text}
use Rattle.decimals.specs.Ensures.{Appended}
use Rattle.decimals.specs.Laws.Decimals.{decimal_long}
use Rattle.decimals.specs.Laws.Signs.{held}

pub appended_as : {old new s t : List ℕ} {a e : ℕ} → s ≡ t → Appended old a t new e → Appended old a s new e
appended_as q p = rw q p

pub appended_two :
    {old mid new s t : List ℕ} {a m e : ℕ} → Appended old a s mid m → Appended mid m t new e → Appended old a (s ++ t) new e
appended_two {old} {s = s} {t} {a} p q =
    record {
      front = q.front ∙ ap (λ (l : List ℕ). l ++ t) p.front ∙ append_assoc (take a old) s t;
      place = omega (arith, p.place, q.place, length-append s t);
    }

number_long : (z : ℤ) → SFits w8 z → length (number_text z) ≤ 4
unfolding number_text
number_long (pos n) f = omega (arith, decimal_long 2 n (omega (arith, f.sfits)))
number_long (negsuc n) f = omega (arith, decimal_long 2 (suc n) (omega (arith, f.sfits)))

-- the text of a list of which all is written but the numbers from place i on
pub record Written (list : List ℤ) (i : ℕ) (text : List ℕ) (at : ℕ) : Type 0 where
  pub within : at + 1 ≤ 5 * i
  pub front : take at text ++ further_text (drop i list) ≡ list_text list

pub written_none : {old new : List ℕ} {e : ℕ} (list : List ℤ) → length list ≡ 0 → Appended old 0 (minus ∷ []) new e → take e new ≡ list_text list
unfolding list_text
written_none [] h p = p.front
written_none (z ∷ zs) h p = absurd (omega arith)

module _ {old new : List ℕ} {e : ℕ} (list : List ℤ) where
  pub written_first :
      0 < length list → SFits w8 (get_or list 0 (pos 0)) → Appended old 0 (number_text (held (get_or list 0 (pos 0)))) new e →
      Written list 1 new e
  unfolding list_text
  written_first h f p = go list h f (rw (to_z-of_z f) at p)
    where
      go :
          (list : List ℤ) → 0 < length list → SFits w8 (get_or list 0 (pos 0)) → Appended old 0 (number_text (get_or list 0 (pos 0))) new e →
          Written list 1 new e
      go [] h f p = absurd (omega arith)
      go (z ∷ zs) h f p =
          record {
            within = omega (arith, p.place, number_long z f);
            front = ap (λ (l : List ℕ). l ++ further_text zs) p.front;
          }

  pub written_more :
      {mid : List ℕ} {a m : ℕ} (i : ℕ) → i < length list → SFits w8 (get_or list i (pos 0)) → Written list i old a →
      Appended old a (comma ∷ []) mid m → Appended mid m (number_text (held (get_or list i (pos 0)))) new e → Written list (i + 1) new e
  written_more {mid} {a} {m} i h f w p q =
      record {
        within = omega (arith, w.within, p.place, r.place, number_long (get_or list i (pos 0)) f);
        front =
            ap (λ (l : List ℕ). l ++ further_text (drop (i + 1) list)) (appended_two p r).front
            ∙ append_assoc (take a old) _ (further_text (drop (i + 1) list))
            ∙ (rw next at w.front);
      }
    where
      r : Appended mid m (number_text (get_or list i (pos 0))) new e
      r = rw (to_z-of_z f) at q

      next : drop i list ≡ get_or list i (pos 0) ∷ drop (i + 1) list
      next = drop_next list i (pos 0) h

pub written_all : {text : List ℕ} {at : ℕ} (list : List ℤ) (i : ℕ) → length list ≤ i → Written list i text at → take at text ≡ list_text list
written_all {text} {at} list i h w = rw (drop_of_length-le list h, append-nil (take at text)) at w.front

-- ---- as the library writes

appends : AppendsLastDigit digits_within
unfolding digits_within
appends = record { one = λ k n h. rw (lt-ltb n 10 h); more = λ k n h. rw (le-ltb n 10 h) }

-- numbers as the library writes them
pub printed : (n : ℕ) → n < 2 ^ 64 → std.decimal n ≡ decimal n
unfolding decimal
printed n h = sym (decimal_from_appends digits_within appends (suc n) n h (omega (arith, length-decimal-le_succ n h)))

pub number_printed : (z : ℤ) → mag z < 2 ^ 63 → std.signed_decimal z ≡ number_text z
unfolding number_text
number_printed (pos n) h = printed n (omega arith)
number_printed (negsuc n) h = ap (λ (l : List ℕ). minus ∷ l) (printed (suc n) (omega arith))

-- the text of a list, number by number
pub list_one : (z : ℤ) → FitsSigned w8 z → std.signed_decimal z ≡ list_text (z ∷ [])
unfolding list_text
list_one z h = rw (number_printed z (omega (arith, h.sfits)), append-nil)

pub list_more :
    (z : ℤ) (zs : List ℤ) (i : ℕ) → i < length zs → FitsSigned w8 (get_or zs i (pos 0)) →
    list_text (z ∷ take i zs) ++ (comma ∷ std.signed_decimal (get_or zs i (pos 0))) ≡ list_text (z ∷ take (i + 1) zs)
unfolding list_text
list_more z zs i l h =
    rw (number_printed (get_or zs i (pos 0)) (omega (arith, h.sfits)), take_more zs i (pos 0) l, append_assoc)
    (ap (λ (t : List ℕ). number_text z ++ t) (flat_map_more (λ z. comma ∷ number_text z) [] (take i zs) (get_or zs i (pos 0))))
