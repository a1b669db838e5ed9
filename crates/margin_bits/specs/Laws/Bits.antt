-- Laws of the places in which two lists differ: how they are counted, those counted so far, those that are left, and how many there are at most.
use Rattle.std.specs.Prelude.{ℕ, ◌+◌, ◌<◌, ◌≤◌, Bool, true, false, cond, not, List, [], ◌∷◌, ◌≡◌, refl, eqb, count_by, get_or, drop}
use Rattle.std.specs.List.{zip}
use Rattle.std.proofs.Common.{sym, ◌∙◌, arith, drop_of_length-le}
use Rattle.std.proofs.Math.Path.{ap₂}
use Rattle.std.proofs.Math.ListN.{length}
use Rattle.std.proofs.lemmas.List.Sums.{sum_by-cons}
use Rattle.lists.proofs.Laws.Lists.{drop_next}
use Rattle.margin_bits.specs.Bits.{differing}

-- they are counted by the pairs that are not the same
pub differing_pairs : (a b : List ℕ) → differing a b ≡ count_by (λ (p : ℕ × ℕ). not (eqb p.0 p.1)) (zip a b)
unfolding differing
differing_pairs [] b = refl
differing_pairs (x ∷ a) [] = refl
differing_pairs (x ∷ a) (y ∷ b) =
    one (eqb x y) (differing_pairs a b) ∙ sym (sum_by-cons (λ (p : ℕ × ℕ). cond (not (eqb p.0 p.1)) 1 0) (x, y) (zip a b))
  where
    one : (f : Bool) {m n : ℕ} → m ≡ n → cond f 0 1 + m ≡ cond (not f) 1 0 + n
    one true e = omega arith
    one false e = omega arith

module _ (a b : List ℕ) (long : length a ≡ length b) (i : ℕ) where
  pub differing_more :
      (n : ℕ) {m : ℕ} → i < length a → n + differing (drop i a) (drop i b) ≡ differing a b → m ≡ cond (eqb (get_or a i 0) (get_or b i 0)) 0 1 →
      n + m + differing (drop (i + 1) a) (drop (i + 1) b) ≡ differing a b
  unfolding differing
  differing_more n h p e = omega (arith, p, e, ap₂ differing (drop_next a i 0 h) (drop_next b i 0 (omega arith)))

  pub differing_all : {n : ℕ} → length a ≤ i → n + differing (drop i a) (drop i b) ≡ differing a b → n ≡ differing a b
  unfolding differing
  differing_all h p =
      let past : length b ≤ i = omega arith in
      omega (arith, p, ap₂ differing (drop_of_length-le a h) (drop_of_length-le b past))

-- no more places differ than there are
unequal : (f : Bool) → cond f 0 1 ≤ 1
unequal true = omega arith
unequal false = omega arith

pub differing_most : (a b : List ℕ) → differing a b ≤ length a
unfolding differing
differing_most [] b = omega arith
differing_most (x ∷ a) [] = omega arith
differing_most (x ∷ a) (y ∷ b) = omega (arith, unequal (eqb x y), differing_most a b)
