-- What the code gathers, product by product.
use Prim.Native.Nat.{ℕ, zero, suc, ◌+◌, ◌*◌, ◌-◌, ◌<◌, ◌≤◌}
use mathlib.Core.List.{List, ◌++◌}
use Rattle.std.specs.Prelude.{◌≡◌, length, take, drop, replicate}
use Rattle.std.proofs.Math.Path.{refl, ap₂}
use Rattle.std.proofs.Common.{sym, ◌∙◌, ap, length-take, length-drop}
use Rattle.std.proofs.Math.Nat.{mul-suc}
use native.Mathlib.Omega.{arith}
use Rattle.std.proofs.Math.IntN.{pos}
use Rattle.std.proofs.Math.ListN.{length-map}
use Rattle.std.proofs.lemmas.List.{replicate-append-replicate}
use Rattle.lists.specs.Lists.{from}
use Rattle.lists.proofs.Laws.Lists.{map_from}
use Rattle.lists.proofs.Laws.Parts.{mid_part}
use Rattle.algebra.specs.Integers.{modℤ, sum}
use Rattle.algebra.specs.Ring.{inner, nat, poly, blocks}
use Rattle.algebra.proofs.Laws.Product.{length_inner}
use Rattle.algebra.proofs.Laws.Reduced.{inner_more}
use Rattle.algebra.proofs.Laws.Vectors.{poly_map, poly_blocks, blocks_cong}
use Rattle.karatsuba.specs.Ensures.{rows_added}
use Rattle.algebra.specs.Vectors.{inner_mod}
use Rattle.matrix.specs.Ensures.{sums}

module _ (M : ℕ → ℕ → List ℕ) (s : List ℕ) where
  -- the sums of no products are zeros
  pub sums_none : (rows : ℕ) → replicate (256 * rows) 0 ≡ sums 65536 rows 0 M s
  unfolding sums blocks inner sum from
  sums_none zero = refl
  sums_none (suc rows) =
      rw mul-suc
      (sym (replicate-append-replicate (256 * rows) 256 0) ∙ ap₂ ◌++◌ (sums_none rows) (sym (map_from (λ z. modℤ z 65536) 256 (λ k. pos 0))))

  -- one product more in each row: the rows' factors stand one behind another, and polynomial j of s at 256 j
  pub sums_more :
      (rows j : ℕ) {a acc out : List ℕ} → ((i : ℕ) → i < rows → length (M i j) ≡ 256) → a ≡ blocks rows (λ i. M i j) →
      acc ≡ sums 65536 rows j M s → out ≡ rows_added rows a (take (256 * j + 256 - 256 * j) (drop (256 * j) s)) acc →
      out ≡ sums 65536 rows (j + 1) M s
  unfolding sums rows_added
  sums_more rows j {a} {acc} long q p e =
      let w : 256 * j + 256 - 256 * j ≡ 256 = omega arith in
      let factor : (i : ℕ) → i < rows → poly a i ≡ M i j = λ i h. rw q (poly_blocks rows (λ i. M i j) long i h) in
      (simp (w, ← poly_map pos s j) at e)
      ∙ blocks_cong rows _ _ (λ i h.
      rw (factor i h)
      (inner_more 65536 (omega arith) 256 j (λ j. nat (M i j)) (λ j. poly (nat s) j) (poly acc i)
      (ap (λ (t : List ℕ). poly t i) p ∙ poly_blocks rows _ (λ i h. length-map (inner 256 j _ _) _ ∙ length_inner 256 j _ _) i h)))

-- two vectors: one row
module _ (a s : List ℕ) where
  pub inner_none : replicate 256 0 ≡ inner_mod 65536 0 a (nat s)
  unfolding inner_mod sums blocks
  inner_none = sums_none (λ i j. poly a j) s 1

  pub inner_next :
      (j : ℕ) {acc out : List ℕ} → 256 * j + 256 ≤ length a → acc ≡ inner_mod 65536 j a (nat s) →
      out ≡ rows_added 1 (take (256 * j + 256 - 256 * j) (drop (256 * j) a)) (take (256 * j + 256 - 256 * j) (drop (256 * j) s)) acc →
      out ≡ inner_mod 65536 (j + 1) a (nat s)
  unfolding inner_mod sums blocks
  inner_next j h p q =
      sums_more (λ i j. poly a j) s 1 j (λ i hi. simp (length-take, length-drop) (omega arith)) (mid_part (256 * j) 256 a) p q
