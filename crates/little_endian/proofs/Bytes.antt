-- The eight bytes of a 64-bit number, as std gives and takes them, are its digits to the base 256.
use Rattle.std.specs.Prelude.{ℕ, zero, suc, ◌+◌, ◌-◌, ◌/◌, ◌%◌, ◌<◌, ◌≤◌, List, [], ◌∷◌, ◌++◌, ◌≡◌, refl, length, get_or, set, take, drop, replicate}
use Rattle.std.proofs.Common.{sym, ap, ◌∙◌, arith, zero-add, div-one, length-append, length-drop, w64}
use Rattle.std.proofs.lemmas.List.{drop-replicate}
use Rattle.std.proofs.lemmas.List.Edits.{paste_more}
use Rattle.std.specs.Int.{to_le_bytes, from_le_bytes}
use Rattle.lists.specs.Lists.{from}
use Rattle.lists.specs.Numbers.{number, digits}
use Rattle.lists.proofs.Laws.Numbers.{digits_from, number_append}

take_digits : (B n m v : ℕ) → n ≤ m → take n (digits B m v) ≡ digits B n v
unfolding digits
take_digits B zero m v h = refl
take_digits B (suc n) zero v h = absurd (omega arith)
take_digits B (suc n) (suc m) v h = ap (λ (l : List ℕ). v % B ∷ l) (take_digits B n m (v / B) (omega arith))

bytes_digits : (x : ℕ) → to_le_bytes w64 x ≡ digits 256 8 x
unfolding from
bytes_digits x = sym (digits_from 256 8 x ∙ rw (div-one x))

-- the first n bytes
pub stored : (n x : ℕ) → n ≤ 8 → take n (to_le_bytes w64 x) ≡ digits 256 n x
stored n x h = rw (bytes_digits x) (take_digits 256 n 8 x h)

bytes_number : (s : List ℕ) → length s ≡ 8 → from_le_bytes w64 s ≡ number 256 s
unfolding number
bytes_number (a ∷ b ∷ c ∷ d ∷ e ∷ f ∷ g ∷ h ∷ []) l = omega arith
bytes_number s l = absurd (omega arith)

number_zeros : (B k : ℕ) → number B (replicate k 0) ≡ 0
unfolding number
number_zeros B zero = refl
number_zeros B (suc k) = rw (number_zeros B k) (omega arith)

-- zeros behind a string add nothing to its number
pub loaded : (s : List ℕ) → length s ≤ 8 → from_le_bytes w64 (s ++ drop (length s) (replicate 8 0)) ≡ number 256 s
loaded s h =
    bytes_number (s ++ drop (length s) (replicate 8 0)) (simp (length-append, length-drop) (omega arith))
    ∙ number_append 256 s (drop (length s) (replicate 8 0))
    ∙ rw (drop-replicate {X = ℕ} (length s) 8 0, number_zeros 256 (8 - length s)) (omega arith)

-- a loop that copies s over the front of d: one turn
pub copied :
    (d s : List ℕ) (i : ℕ) → i < length d → i < length s →
    set (take i s ++ drop i d) i (get_or s i 0) ≡ take (i + 1) s ++ drop (i + 1) d
copied d s i h k = simp zero-add at (paste_more d 0 s i 0 (omega arith) k)
