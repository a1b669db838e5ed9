-- What the code computes, column by column.
use Rattle.std.specs.Prelude.{ℕ, ◌+◌, ◌-◌, ◌*◌, ◌%◌, ◌<◌, ◌≤◌, Bool, true, cond, not, List, map, ◌≡◌, length, take, drop}
use Rattle.std.proofs.Math.Path.{refl, ap, fun_ext}
use Rattle.std.proofs.Common.{sym, ◌∙◌, mul-le-mul, mul-le-mul_left, le_refl, arith, length-take, length-drop}
use Rattle.std.proofs.Math.Nat.{mul-add}
use Rattle.lists.specs.Numbers.{Below}
use Rattle.lists.proofs.Laws.Parts.{mid_part}
use Rattle.algebra.specs.Ring.{inner, nat, poly, blocks}
use Rattle.algebra.proofs.Laws.Vectors.{blocks_cong, map_blocks}
use Rattle.packing.specs.Packing.{unpacked}
use Rattle.packing.specs.Laws.Packing.{recut_length}
use Rattle.packing.specs.Laws.Polynomials.{unpacked_part}
use Rattle.ring.specs.Products.{is_modulus}
use Rattle.ring.specs.Laws.Products.{reduced}
use Rattle.algebra.specs.Vectors.{inner_mod, matrix_row, side}
use Rattle.algebra.proofs.Laws.Matrices.{strided, within}
use Rattle.matrix.specs.Ensures.{sums}

-- packed polynomials are no more than their bytes
pub count_fits : (w count : ℕ) {bytes : ℕ} → 1 ≤ w → bytes ≡ 32 * w * count → count ≤ bytes
count_fits w count h e = rw e (omega (arith, mul-le-mul h (le_refl count)))

-- a place is among them where the last one is
pub before_last : (start step n : ℕ) {count i : ℕ} → start + step * (n - 1) < count → i < n → start + step * i < count
before_last start step n {i = i} h k =
    let few : i ≤ n - 1 = omega arith in
    omega (arith, mul-le-mul_left step few)

-- what is cut at place x is polynomial x
pub cut_part :
    (w x count : ℕ) (bytes : List ℕ) {y : List ℕ} → 1 ≤ w → Below 256 bytes → length bytes ≡ 32 * w * count → x < count →
    y ≡ unpacked w (take (32 * w * x + 32 * w - 32 * w * x) (drop (32 * w * x) bytes)) → y ≡ poly (unpacked w bytes) x
cut_part w x count bytes some below whole h e =
    e ∙ ap (unpacked w) (mid_part (32 * w * x) (32 * w) bytes) ∙ sym (unpacked_part w x count bytes some below h whole)

pub part_long :
    (w x count : ℕ) (bytes : List ℕ) → 1 ≤ w → length bytes ≡ 32 * w * count → x < count → length (poly (unpacked w bytes) x) ≡ 256
part_long w x count bytes some whole h =
    let e = recut_length 8 w (256 * count) bytes some (rw whole (omega arith)) in
    simp (length-take, length-drop) (omega (arith, e))

-- the sums reduced
sums_reduced :
    (M : ℕ → ℕ → List ℕ) (s : List ℕ) (m rows l : ℕ) → is_modulus m ≡ true → {acc out : List ℕ} → acc ≡ sums 65536 rows l M s →
    out ≡ map (λ x. x % m) acc → out ≡ sums m rows l M s
unfolding sums
sums_reduced M s m rows l h p q =
    q ∙ ap (map (λ x. x % m)) p ∙ map_blocks _ rows _ ∙ blocks_cong rows _ _ (λ i hi. reduced m (inner 256 l _ _) h refl refl)

-- an inner product by its steps
pub inner_steps :
    (l : ℕ) (v s : List ℕ) {a acc out : List ℕ} → a ≡ unpacked 10 v → acc ≡ inner_mod 65536 l a (nat s) → out ≡ map (λ x. x % 1024) acc →
    out ≡ inner_mod 1024 l (unpacked 10 v) (nat s)
unfolding inner_mod
inner_steps l v s e p q = rw e at (reduced 1024 (inner 256 l _ _) refl p q)

module _ (t : Bool) (l : ℕ) {row column : ℕ} (er : row ≡ cond (not t) l 1) (ec : column ≡ cond t l 1) where
  -- n rows from row i on
  pub rows_values :
      (i n : ℕ) (A s : List ℕ) {acc out : List ℕ} → acc ≡ sums 65536 n l (λ k j. poly A (row * i + column * j + row * k)) s →
      out ≡ map (λ x. x % 8192) acc → out ≡ blocks n (λ k. matrix_row l (side t l A) (nat s) (i + k))
  unfolding matrix_row sums
  rows_values i n A s p =
      let place : (k j : ℕ) → row * i + column * j + row * k ≡ column * j + row * (i + k) = λ k j. omega (arith, mul-add row i k) in
      let entry : (k j : ℕ) → poly A (row * i + column * j + row * k) ≡ side t l A (i + k) j =
      λ k j. ap (λ (n : ℕ). poly A n) (place k j) ∙ rw (er, ec) (strided t l A (i + k) j) in
      sums_reduced (λ k. side t l A (i + k)) s 8192 n l refl (p ∙ ap (λ M. sums 65536 n l M s) (fun_ext (λ k. fun_ext (λ j. entry k j))))

  -- the last row's factors are of the matrix
  pub rows_last : (i n j : ℕ) → 1 ≤ n → i + n ≤ l → j < l → row * i + column * j + row * (n - 1) < l * l
  rows_last i n j some h q =
      rw (er, ec) (omega (arith, within t l (i + (n - 1)) j (omega arith) q, mul-add (cond (not t) l 1) i (n - 1)))
