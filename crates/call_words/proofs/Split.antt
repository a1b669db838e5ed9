-- The first word of a line ends at its first space, or with the line.
use Rattle.std.proofs.Common.{◌≡◌, ℕ, ◌+◌, ◌-◌, ◌<◌, ◌≤◌, List, [], ◌∷◌, length, take, drop, refl, inl, inr, nat_eq, take_all, le_refl, ◌∙◌, arith}
use Rattle.std.proofs.lemmas.Bool.{cases_Bool}
use Rattle.std.proofs.lemmas.List.{take_rest}
use Rattle.decimals.specs.Places.{slice, index_of, index_after}
use Rattle.call_words.specs.Words.{words_of, words_behind, space}

words_at : (s : List ℕ) → words_of s ≡ take (index_of space s) s ∷ words_behind (drop (index_of space s) s)
unfolding words_of words_behind index_of index_after
words_at [] = refl
words_at (b ∷ s) = elim (cases_Bool (nat_eq b space)) [
  | inl yes' ↦ rw yes' refl
  | inr no' ↦ rw (no', words_at s) refl
]

first_word : (s : List ℕ) (end : ℕ) → end ≡ 0 + index_of space (slice 0 (length s) s) → words_of s ≡ take end s ∷ words_behind (drop end s)
unfolding slice
first_word s end e =
    let place : end ≡ index_of space s = e ∙ rw (take_all (length s) s (le_refl (length s))) (omega arith) in
    rw place (words_at s)

behind_none : (after : List ℕ) → length after < 1 → words_behind after ≡ []
unfolding words_behind
behind_none [] h = refl
behind_none (b ∷ after) h = absurd (omega arith)

behind_space : (after : List ℕ) → 1 ≤ length after → words_behind after ≡ words_of (drop 1 after)
unfolding words_behind
behind_space [] h = absurd (omega arith)
behind_space (b ∷ after) h = refl

pub last_word : (s after : List ℕ) (end : ℕ) → end ≡ 0 + index_of space (slice 0 (length s) s) → after ≡ drop end s → length after < 1 → words_of s ≡ take end s ∷ []
last_word s after end e d h = first_word s end e ∙ rw (← d, behind_none after h) refl

pub more_words : (s after : List ℕ) (end : ℕ) → end ≡ 0 + index_of space (slice 0 (length s) s) → after ≡ drop end s → 1 ≤ length after → words_of s ≡ take end s ∷ words_of (take (length after - 1) (drop 1 after))
more_words s after end e d h = first_word s end e ∙ rw (← d, behind_space after h, take_rest after 1) refl

pub some_word : (s : List ℕ) → words_of s ≡ [] → ⊥
some_word s e = cc (words_at s, e)
