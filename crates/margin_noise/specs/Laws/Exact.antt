-- The noise by its residues modulo 65536.
use Rattle.std.specs.Prelude.{◌≡◌, ℕ, suc, ◌+◌, ◌-◌, ◌*◌, ◌%◌, ◌<◌, ◌≤◌, max, true, false, List, [], ◌∷◌, map, length, drop, ℤ, pos, negsuc, ◌-ℤ◌, slice_index, unsigned_abs, refl}
use Rattle.std.proofs.Common.{sym, ap₂, ◌∙◌, mod-eq_of_lt, arith, drop_of_length-le, get_or-drop, get_or-take}
use Rattle.std.proofs.Math.Path.{ap}
use Rattle.std.proofs.Math.Decide.{dec_lt}
use Rattle.std.proofs.lemmas.List.{length-map}
use Rattle.std.proofs.Math.ListN.{get_or-eq_default}
use Rattle.lists.specs.Lists.{from}
use Rattle.lists.proofs.Laws.Lists.{drop_next, from_at, from_cong, length_from}
use Rattle.algebra.specs.Integers.{modℤ, Same}
use Rattle.algebra.specs.Ring.{at, inner, nat, residues, poly, blocks}
use Rattle.algebra.proofs.Laws.Residues.{mod_of, mod_bound, same_residue, same_sym, same_trans, same_add, same_neg, same_minus}
use Rattle.algebra.proofs.Laws.Reduced.{at_residues, residues_nat, residues_coarser, inner_residues}
use Rattle.algebra.proofs.Laws.Product.{length_inner, inner_cong}
use Rattle.algebra.proofs.Laws.Vectors.{length_poly, blocks_cong, map_blocks, poly_blocks}
use Rattle.algebra.specs.Vectors.{entry, side, inner_mod, matrix_row, matrix_vector}
use Rattle.algebra.proofs.Laws.Matrices.{same_inner}
use Rattle.noise.specs.Noise.{around, error, times, errors, e, e', noise}
use Rattle.noise.proofs.Laws.Errors.{error_is, around_is}
use Rattle.margin_noise.specs.Norm.{norm}
use Rattle.margin_noise.specs.Requires.{Small}
use Rattle.margin_noise.specs.Laws.Bounds.{magnitude_is, noise_bound, norm_bound}

-- ---- errors
-- what counts is the residue modulo 8192
error_residue : (t : ℤ) → error (pos (modℤ t 8192)) ≡ error t
error_residue t = rw (error_is t, error_is (pos (modℤ t 8192)), mod-eq_of_lt (mod_bound t 8192 (omega arith)))

-- as the code computes it
pub error_word : (x : ℕ) {y r : ℕ} → y ≡ (x + 4) % 65536 → r < 65536 → (r + y % 8) % 65536 ≡ 4 → r ≡ modℤ (error (pos x)) 65536
error_word x {y} {r} e h q =
    let drops : (x % 8192 + 4) % 8 ≡ y % 8 = omega arith in
    sym (mod-eq_of_lt h) ∙ mod_of 65536 (omega arith) (same_minus 4 (y % 8) {r = r} q) ∙ rw (error_is (pos x), drops)

error_all : (ts : List ℤ) → map (λ x. modℤ (error (pos x)) 65536) (residues 8192 ts) ≡ residues 65536 (map error ts)
error_all [] = refl
error_all (t ∷ ts) = ap₂ ◌∷◌ (ap (λ z. modℤ z 65536) (error_residue t)) (error_all ts)

same_errors : (ts ts' : List ℤ) → residues 8192 ts ≡ residues 8192 ts' → map error ts ≡ map error ts'
same_errors ts ts' q = sym (go ts) ∙ ap (map (λ x. error (pos x))) q ∙ go ts'
  where
    go : (ts : List ℤ) → map (λ x. error (pos x)) (residues 8192 ts) ≡ map error ts
    go [] = refl
    go (t ∷ ts) = ap₂ ◌∷◌ (error_residue t) (go ts)

-- ---- the inner product of errors and a secret
module _ (l : ℕ) (M : ℕ → ℕ → List ℕ) where
  errors_flat :
      (s : List ℤ) → map (λ x. modℤ (error (pos x)) 65536) (matrix_vector l M s) ≡ blocks l (λ i. residues 65536 (errors 256 l M (poly s) i))
  unfolding matrix_vector matrix_row errors times
  errors_flat s =
      map_blocks _ l (matrix_row l M s) ∙ blocks_cong l _ _ (λ i h. error_all (times 256 l M (poly s) i))

  errors_long : (s : List ℤ) (i : ℕ) → length (residues 65536 (errors 256 l M (poly s) i)) ≡ 256
  unfolding errors times
  errors_long s i = simp (length-map, length_inner)

  pub product_steps :
      (s : List ℤ) (t : List ℕ) {exact errs out : List ℕ} → exact ≡ matrix_vector l M s → errs ≡ map (λ x. modℤ (error (pos x)) 65536) exact →
      out ≡ inner_mod 65536 l errs (nat t) → out ≡ residues 65536 (inner 256 l (errors 256 l M (poly s)) (poly (nat t)))
  unfolding inner_mod
  product_steps s t {errs = errs} p q r =
      let flat : errs ≡ blocks l (λ i. residues 65536 (errors 256 l M (poly s) i)) = q ∙ ap (map _) p ∙ errors_flat s in
      r ∙ rw flat
      (inner_residues 65536 (omega arith) 256 l _ _ _ _ (λ i h.
      ap (λ (x : List ℕ). residues 65536 (nat x)) (poly_blocks l _ (λ i h. errors_long s i) i h)
      ∙ residues_nat 65536 (omega arith) (errors 256 l M (poly s) i))
      (λ i h. refl))

  -- a secret given by its residues modulo 65536
  errors_secret : (s : List ℤ) (i : ℕ) → errors 256 l M (poly (nat (residues 65536 s))) i ≡ errors 256 l M (poly s) i
  unfolding errors times
  errors_secret s i =
      same_errors (times 256 l M (poly (nat (residues 65536 s))) i) (times 256 l M (poly s) i)
      (same_inner 8192 (omega arith) l (λ j. nat (M i j)) (nat (residues 65536 s)) s
      (residues_coarser 8192 (omega arith) 8 (omega arith) (nat (residues 65536 s)) s (residues_nat 65536 (omega arith) s)))

  product_secret :
      (s t : List ℤ) →
      residues 65536 (inner 256 l (errors 256 l M (poly (nat (residues 65536 s)))) (poly (nat (residues 65536 t))))
      ≡ residues 65536 (inner 256 l (errors 256 l M (poly s)) (poly t))
  product_secret s t =
      same_inner 65536 (omega arith) l _ (nat (residues 65536 t)) t (residues_nat 65536 (omega arith) t)
      ∙ ap (residues 65536) (inner_cong 256 l _ _ (poly t) (poly t) (λ i h. errors_secret s i) (λ i h. refl))

-- ---- the noise
-- a number near zero by the difference of two residues, and its magnitude as the code computes it
module _ (x y d : ℕ) (h : d < 65536) (e : (d + y) % 65536 ≡ x) where
  pub magnitude_plain : d < 32768 → d ≡ unsigned_abs (around 65536 (pos x -ℤ pos y))
  magnitude_plain l =
      ap unsigned_abs (sym (around_is 65536 (omega arith) (pos d) (pos x -ℤ pos y) (same_sym (same_minus x y e)) (omega arith) (omega arith)))

  pub magnitude_turned : 32768 ≤ d → 65536 - d ≡ unsigned_abs (around 65536 (pos x -ℤ pos y))
  magnitude_turned l =
      let turned : Same 65536 (pos d) (negsuc (65535 - d)) = record { less = 0; more = 1; eq = omega arith } in
      let whole : 65536 - d ≡ suc (65535 - d) = omega arith in
      whole
      ∙ ap unsigned_abs (sym (around_is 65536 (omega arith) (negsuc (65535 - d)) (pos x -ℤ pos y) (same_trans (same_sym (same_minus x y e)) turned)
      (omega arith) (omega arith)))

small_poly : (most : ℕ) (s : List ℤ) → Small most s → (i : ℕ) → Small most (poly s i)
small_poly most s h i k = go (dec_lt k 256)
  where
    go : Dec (k < 256) → unsigned_abs (at (poly s i) k) ≤ most
    go (yes q) = rw (get_or-take 256 (drop (256 * i) s) k (pos 0) q, get_or-drop (256 * i) s k (pos 0)) (h (256 * i + k))
    go (no q) = rw (get_or-eq_default (poly s i) (pos 0) {n = k} (omega (arith, length_poly s i))) (omega arith)

module _ (l most : ℕ) (A : List ℕ) (s t : List ℤ) (ps : Small most s) (pt : Small most t) (sums : 2048 * (l * most) < 32768) where
  abbrev left : List ℤ
  left = inner 256 l (e' 256 l (entry l A) (poly s) (poly t)) (poly s)

  abbrev right : List ℤ
  right = inner 256 l (e 256 l (entry l A) (poly s) (poly t)) (poly t)

  abbrev N : ℕ → ℤ
  N k = at left k -ℤ at right k

  bounded : (k : ℕ) → k < 256 → unsigned_abs (N k) < 32768
  bounded k h = omega (arith, noise_bound 256 l most (entry l A) (poly s) (poly t) (small_poly most s ps) (small_poly most t pt) k h)

  pub noise_fits : norm (noise 256 l (entry l A) (poly s) (poly t)) < 32768
  unfolding noise
  noise_fits = omega (arith, norm_bound 32767 (from 256 N) (λ k h. small k (omega (arith, length_from 256 N))))
    where
      small : (k : ℕ) → k < 256 → unsigned_abs (at (from 256 N) k) ≤ 32767
      small k h = rw (from_at 256 N (pos 0) k h) (omega (arith, bounded k h))

  -- each coefficient is known by its residue
  known :
      (k : ℕ) → k < 256 → {x y : ℕ} → x ≡ modℤ (at left k) 65536 → y ≡ modℤ (at right k) 65536 → around 65536 (pos x -ℤ pos y) ≡ N k
  known k h {x} {y} p q =
      let residue : (z : ℤ) → Same 65536 (pos (modℤ z 65536)) z = λ z. same_sym (same_residue 65536 (omega arith) z) in
      around_is 65536 (omega arith) (N k) (pos x -ℤ pos y) (rw (p, q) (same_add (residue (at left k)) (same_neg (residue (at right k)))))
      (omega (arith, magnitude_is (N k), bounded k h)) (omega (arith, magnitude_is (N k), bounded k h))

  -- the steps that compute its norm
  pub noise_steps :
      {sw tw x y : List ℕ} {r : ℕ} → sw ≡ residues 65536 s → tw ≡ residues 65536 t →
      x ≡ residues 65536 (inner 256 l (errors 256 l (side false l A) (poly (nat tw))) (poly (nat sw))) →
      y ≡ residues 65536 (inner 256 l (errors 256 l (side true l A) (poly (nat sw))) (poly (nat tw))) →
      r ≡ norm (from 256 (λ k. around 65536 (pos (slice_index x k) -ℤ pos (slice_index y k)))) →
      r ≡ norm (noise 256 l (entry l A) (poly s) (poly t))
  unfolding noise
  noise_steps {x = x} {y} es et p q r-is =
      let ex : x ≡ residues 65536 left = p ∙ rw (es, et) (product_secret l (side false l A) t s) in
      let ey : y ≡ residues 65536 right = q ∙ rw (es, et) (product_secret l (side true l A) s t) in
      r-is ∙ ap norm (from_cong 256 _ _ (λ k h.
      known k h (ap (λ (r : List ℕ). slice_index r k) ex ∙ at_residues 65536 left k) (ap (λ (r : List ℕ). slice_index r k) ey ∙ at_residues 65536 right k)))

-- ---- the norm, one number a turn
pub norm_none : (zs : List ℤ) → max 0 (norm (drop 0 zs)) ≡ norm zs
norm_none zs = omega arith

pub norm_more :
    (zs : List ℤ) (k m : ℕ) {n : ℕ} → k < length zs → max m (norm (drop k zs)) ≡ norm zs → n ≡ max m (unsigned_abs (at zs k)) →
    max n (norm (drop (k + 1) zs)) ≡ norm zs
unfolding norm
norm_more zs k m h p q =
    omega (arith, p, q, ap norm (drop_next zs k (pos 0) h))

pub norm_all : (zs : List ℤ) (k m : ℕ) → length zs ≤ k → max m (norm (drop k zs)) ≡ norm zs → m ≡ norm zs
unfolding norm
norm_all zs k m h p = omega (arith, p, ap norm (drop_of_length-le zs h))
