-- Laws of the products of vectors and matrices: what counts of a secret is its residues, lengths, and where the entries of a matrix stand.
use Rattle.std.specs.Prelude.{ℕ, ◌+◌, ◌*◌, ◌<◌, Bool, true, false, cond, not, List, ◌≡◌, refl, ℤ, length}
use Rattle.std.proofs.Common.{sym, ◌∙◌, ap, mul-le-mul_left, mul-suc, one-mul, arith}
use Rattle.std.proofs.lemmas.List.{length-map}
use Rattle.algebra.specs.Integers.{modℤ}
use Rattle.algebra.specs.Ring.{inner, nat, residues, poly}
use Rattle.algebra.proofs.Laws.Reduced.{residues_coarser, residues_nat, inner_residues}
use Rattle.algebra.proofs.Laws.Product.{length_inner}
use Rattle.algebra.proofs.Laws.Vectors.{poly_map, blocks_cong, length_blocks}
use Rattle.algebra.specs.Vectors.{inner_mod, matrix_row, matrix_vector, side}

-- what counts of a secret is its residues
pub same_inner :
    (m : ℕ) → 0 < m → (l : ℕ) (a : ℕ → List ℤ) (s s' : List ℤ) → residues m s ≡ residues m s' →
    residues m (inner 256 l a (λ i. poly s i)) ≡ residues m (inner 256 l a (λ i. poly s' i))
same_inner m hm l a s s' e =
    inner_residues m hm 256 l _ _ _ _ (λ i h. refl)
    (λ i h. sym (poly_map (λ z. modℤ z m) s i) ∙ ap (λ (t : List ℕ). poly t i) e ∙ poly_map (λ z. modℤ z m) s' i)

-- a secret given by its residues modulo 8192, in a product modulo 8192 and modulo 1024
pub matrix_secret : (l : ℕ) (M : ℕ → ℕ → List ℕ) (s : List ℤ) → matrix_vector l M (nat (residues 8192 s)) ≡ matrix_vector l M s
unfolding matrix_vector matrix_row
matrix_secret l M s =
    blocks_cong l _ _ (λ i h. same_inner 8192 (omega arith) l (λ j. nat (M i j)) (nat (residues 8192 s)) s (residues_nat 8192 (omega arith) s))

pub inner_secret : (l : ℕ) (a : List ℕ) (s : List ℤ) → inner_mod 1024 l a (nat (residues 8192 s)) ≡ inner_mod 1024 l a s
unfolding inner_mod
inner_secret l a s =
    same_inner 1024 (omega arith) l (λ i. nat (poly a i)) (nat (residues 8192 s)) s
    (residues_coarser 1024 (omega arith) 8 (omega arith) (nat (residues 8192 s)) s (residues_nat 8192 (omega arith) s))

pub length_row : (l : ℕ) (M : ℕ → ℕ → List ℕ) (s : List ℤ) (i : ℕ) → length (matrix_row l M s i) ≡ 256
unfolding matrix_row
length_row l M s i = length-map (inner 256 l _ _) (λ z. modℤ z 8192) ∙ length_inner 256 l _ _

pub length_matrix_vector : (l : ℕ) (M : ℕ → ℕ → List ℕ) (s : List ℤ) → length (matrix_vector l M s) ≡ 256 * l
unfolding matrix_vector
length_matrix_vector l M s = length_blocks 256 l (matrix_row l M s) (λ i h. length_row l M s i)

-- a matrix by its strides: from a row to the next, and from a column to the next
pub strided : (t : Bool) (l : ℕ) (A : List ℕ) (i j : ℕ) → poly A (cond t l 1 * j + cond (not t) l 1 * i) ≡ side t l A i j
strided true l A i j = rw one-mul
strided false l A i j = let e : 1 * j + l * i ≡ l * i + j = omega arith in ap (λ (n : ℕ). poly A n) e

pub within : (t : Bool) (l i j : ℕ) → i < l → j < l → cond t l 1 * j + cond (not t) l 1 * i < l * l
within true l i j hi hj = omega (arith, mul-suc l j, mul-le-mul_left l hj)
within false l i j hi hj = omega (arith, mul-suc l i, mul-le-mul_left l hi)
