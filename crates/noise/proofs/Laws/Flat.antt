-- The steps on flat lists of 256 l coefficients: v and v' are the inner products of their rounded vectors and secrets.
use Rattle.std.specs.Prelude.{ℕ, true, false, List, map, ◌≡◌, refl, ℤ, length}
use Rattle.std.proofs.Math.Path.{ap}
use Rattle.std.proofs.lemmas.List.{length-map}
use Rattle.algebra.specs.Ring.{inner, nat, residues, poly, blocks}
use Rattle.algebra.proofs.Laws.Product.{length_inner, inner_cong}
use Rattle.algebra.proofs.Laws.Vectors.{map_blocks, poly_blocks}
use Rattle.rounding.specs.Rounding.{round}
use Rattle.algebra.specs.Vectors.{entry, side, inner_mod, matrix_row, matrix_vector}
use Rattle.noise.specs.Noise.{times, rounded, v, v'}

module _ (l : ℕ) (M : ℕ → ℕ → List ℕ) (s : List ℤ) where
  rounded_flat : map round (matrix_vector l M s) ≡ blocks l (rounded 256 l M (poly s))
  unfolding matrix_vector matrix_row rounded times
  rounded_flat = map_blocks round l (matrix_row l M s)

  rounded_length : (i : ℕ) → length (rounded 256 l M (poly s) i) ≡ 256
  unfolding rounded times
  rounded_length i = simp (length-map, length_inner)

  inner_flat :
      (y : List ℤ) →
      inner_mod 1024 l (map round (matrix_vector l M s)) y ≡ residues 1024 (inner 256 l (λ i. nat (rounded 256 l M (poly s) i)) (poly y))
  unfolding inner_mod
  inner_flat y =
      rw rounded_flat
      (ap (residues 1024) (inner_cong 256 l _ _ (poly y) (poly y)
      (λ i h. ap nat (poly_blocks l (rounded 256 l M (poly s)) (λ j _. rounded_length j) i h)) (λ i _. refl)))

module _ (l : ℕ) (A : List ℕ) (s s' : List ℤ) where
  pub v_flat : inner_mod 1024 l (map round (matrix_vector l (side false l A) s')) s ≡ v 256 l (entry l A) (poly s) (poly s')
  unfolding v
  v_flat = inner_flat l (entry l A) s' s

  pub v'_flat : inner_mod 1024 l (map round (matrix_vector l (side true l A) s)) s' ≡ v' 256 l (entry l A) (poly s) (poly s')
  unfolding v'
  v'_flat = inner_flat l (λ i j. entry l A j i) s s'
