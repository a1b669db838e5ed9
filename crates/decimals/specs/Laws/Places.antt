-- The first place of a byte: none of those before it holds it, and it does.
use Rattle.std.specs.Prelude.{ℕ, ◌+◌, ◌-◌, ◌<◌, ◌≤◌, Bool, true, false, cond, List, ◌≡◌, refl, nat_eq, length, get_or, take, drop}
use Rattle.std.proofs.Common.{◌∙◌, ap, arith, ne_eqb, eq-eqb}
use Rattle.std.specs.List.{position_or_len}
use Rattle.std.proofs.lemmas.List.{drop-take}
use Rattle.std.proofs.lemmas.List.Recursion.{is_position_or_len}
use Rattle.std.proofs.lemmas.List.Sums.{position_or_len_is}
use Rattle.decimals.specs.Places.{slice, index_after, index_of}

after_is : (t : Bool) (k : ℕ) → index_after t k ≡ cond t 0 (1 + k)
unfolding index_after
after_is true k = refl
after_is false k = omega arith

index_position : (b : ℕ) (s : List ℕ) → index_of b s ≡ position_or_len (λ x. nat_eq x b) s
unfolding index_of
index_position b s = is_position_or_len (index_of b) (λ x. nat_eq x b) refl (λ x xs. after_is (nat_eq x b) (index_of b xs)) s

pub index_is :
    (b : ℕ) (s : List ℕ) (i : ℕ) → i ≤ length s → ((k : ℕ) → k < i → get_or s k 0 ≡ b → ⊥) → (i < length s → get_or s i 0 ≡ b) → index_of b s ≡ i
index_is b s i h before at =
    index_position b s
    ∙ position_or_len_is (λ x. nat_eq x b) s i 0 h (λ k l. ne_eqb (get_or s k 0) b (before k l)) (λ l. eq-eqb (get_or s i 0) b (at l))

module _ (b at end : ℕ) (s : List ℕ) (h : at ≤ end) where
  -- a part as the program borrows it
  part_is : slice at end s ≡ take (end - at) (drop at s)
  unfolding slice
  part_is = let e : end ≡ at + (end - at) = omega arith in ap (λ (n : ℕ). drop at (take n s)) e ∙ drop-take at (end - at) s

  pub place_is :
      (i : ℕ) → let part = take (end - at) (drop at s) in
      i ≤ length part → ((k : ℕ) → k < i → get_or part k 0 ≡ b → ⊥) → (i < length part → get_or part i 0 ≡ b) → index_of b (slice at end s) ≡ i
  place_is i l before here = rw part_is (index_is b (take (end - at) (drop at s)) i l before here)
