-- Laws of the exchanged vectors: what counts of the secret, the length and the bound of one, and the steps that make it.
use Rattle.std.specs.Prelude.{ℕ, ◌+◌, ◌*◌, ◌≤◌, Bool, List, map, ◌≡◌, ℤ, length}
use Rattle.std.proofs.lemmas.List.{map-append}
use Rattle.std.proofs.Common.{◌∙◌, zero-add, arith}
use Rattle.std.proofs.Math.ListN.{length-map}
use Rattle.lists.specs.Numbers.{Below}
use Rattle.lists.specs.Strings.{placed}
use Rattle.questions.specs.Laws.Bounds.{all_below_at}
use Rattle.algebra.specs.Ring.{nat, residues, blocks}
use Rattle.algebra.proofs.Laws.Vectors.{blocks_append, length_blocks}
use Rattle.packing.specs.Packing.{packed}
use Rattle.packing_vector.specs.Laws.Places.{packed_more}
use Rattle.packing.specs.Laws.Polynomials.{length_packed}
use Rattle.rounding.specs.Rounding.{round}
use Rattle.rounding.specs.Laws.Rounding.{round_below}
use Rattle.algebra.specs.Vectors.{side, matrix_row, matrix_vector}
use Rattle.algebra.proofs.Laws.Matrices.{matrix_secret, length_row, length_matrix_vector}
use Rattle.sampling.specs.Sampling.{matrix}
use Rattle.lwr.specs.Lwr.{rounded_vector}

module _ (t : Bool) (l : ℕ) (seed : List ℕ) (s : List ℤ) where
  -- a secret given by its residues
  pub vector_secret : rounded_vector t l seed (nat (residues 8192 s)) ≡ rounded_vector t l seed s
  unfolding rounded_vector
  vector_secret = rw matrix_secret

  pub length_vector : length (rounded_vector t l seed s) ≡ 256 * l
  unfolding rounded_vector
  length_vector = length-map (matrix_vector l (side t l (matrix l seed)) s) round ∙ length_matrix_vector l (side t l (matrix l seed)) s

  pub length_packed_vector : length (packed 10 (rounded_vector t l seed s)) ≡ 320 * l
  length_packed_vector = length_packed 10 l (omega arith) (rounded_vector t l seed s) length_vector

  pub vector_below : Below 1024 (rounded_vector t l seed s)
  unfolding rounded_vector
  vector_below = all_below_at 1024 _ (round_below (matrix_vector l (side t l (matrix l seed)) s))

-- n rounded rows
length_rounded : (n : ℕ) (f : ℕ → List ℕ) → ((k : ℕ) → length (f k) ≡ 256) → length (map round (blocks n f)) ≡ 256 * n
length_rounded n f long = length-map (blocks n f) round ∙ length_blocks 256 n f (λ k h. long k)

-- n rows more, behind those that stand at the front of an output
pub rows_more :
    (l : ℕ) (M : ℕ → ℕ → List ℕ) (s : List ℤ) (i n : ℕ) (old : List ℕ) {mid out : List ℕ} → 320 * (i + n) ≤ length old →
    mid ≡ placed 0 (packed 10 (map round (blocks i (matrix_row l M s)))) old →
    out ≡ placed (320 * i) (packed 10 (map round (blocks n (λ k. matrix_row l M s (i + k))))) mid →
    out ≡ placed 0 (packed 10 (map round (blocks (i + n) (matrix_row l M s)))) old
rows_more l M s i n old fits p q =
    let f = matrix_row l M s in
    let a = map round (blocks i f) in
    let b = map round (blocks n (λ k. f (i + k))) in
    let la : length a ≡ 256 * i = length_rounded i f (length_row l M s) in
    let lb : length b ≡ 256 * n = length_rounded n (λ k. f (i + k)) (λ k. length_row l M s (i + k)) in
    q ∙ rw (p, blocks_append i n f, map-append round (blocks i f) (blocks n (λ k. f (i + k))))
    (rw zero-add at
    (packed_more 10 0 i a b old (omega arith) la (all_below_at 1024 a (round_below (blocks i f)))
    (rw (length_packed 10 n (omega arith) b lb) (omega arith))))

-- all rows, of the matrix that a seed gives
pub vector_whole :
    (t : Bool) (l : ℕ) (seed : List ℕ) (s : List ℤ) (old : List ℕ) {A out : List ℕ} → A ≡ matrix l seed →
    out ≡ placed 0 (packed 10 (map round (blocks l (matrix_row l (side t l A) s)))) old →
    out ≡ placed 0 (packed 10 (rounded_vector t l seed s)) old
unfolding rounded_vector matrix_vector
vector_whole t l seed s old a o = o ∙ rw a
