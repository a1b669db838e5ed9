-- Laws of products and inner products modulo m: what counts of the factors is their residues.
use Prim.Native.Nat.{ℕ, zero, suc, ◌+◌, ◌*◌, ◌-◌, ◌<◌, ◌%◌}
use mathlib.Core.List.{List, [], ◌∷◌, map}
use Rattle.std.specs.Prelude.{◌≡◌, refl, ℤ, pos, ◌+ℤ◌, ◌*ℤ◌, get_or, drop}
use Rattle.std.proofs.Math.Path.{sym, ap}
use Rattle.std.proofs.Common.{◌∙◌, ap₂, arith}
use Rattle.std.proofs.Math.Nat.{zero-mod}
use Rattle.std.proofs.Math.IntN.{*ℤ_comm, *ℤ-zero}
use Rattle.std.proofs.Math.ListN.{take, get_or-map}
use Rattle.lists.specs.Lists.{from}
use Rattle.lists.proofs.Laws.Lists.{from_cong, map_from}
use Rattle.algebra.specs.Integers.{modℤ, sum, Same}
use Rattle.algebra.specs.Ring.{at, coef, inner, nat, residues}
use Rattle.algebra.proofs.Laws.Whole.{add_swapℤ, mul_addℤ, mul_leftℤ}
use Rattle.algebra.proofs.Laws.Sums.{sum_next}
use Rattle.algebra.proofs.Laws.Residues.{mod_of, mod_to, mod_part, mod_bound, same_refl, same_add, same_neg, same_scale}
use Rattle.algebra.proofs.Laws.Residues.{same_mul, same_sum, same_residue}
use Rattle.algebra.specs.Columns.{doubled, table, dot}
use Rattle.algebra.proofs.Laws.Table.{coef_doubled, coef_table}
use Rattle.algebra.proofs.Laws.Product.{at_inner}
use Rattle.algebra.proofs.Laws.Vectors.{part_map}

pub at_nat : (a : List ℕ) (k : ℕ) → at (nat a) k ≡ pos (get_or a k 0)
at_nat a k = get_or-map pos a k 0

pub at_residues : (m : ℕ) (a : List ℤ) (k : ℕ) → get_or (residues m a) k 0 ≡ modℤ (at a k) m
at_residues m a k = (rw zero-mod at (get_or-map (λ z. modℤ z m) a k (pos 0)))

module _ (m : ℕ) (hm : 0 < m) where
  pub residues_below : (a : List ℤ) (k : ℕ) → get_or (residues m a) k 0 < m
  residues_below a k = rw (at_residues m a k) (mod_bound (at a k) m hm)

  -- the residues of a modulus and then of one that divides it
  pub residues_part : (c : ℕ) → 0 < c * m → (a : List ℤ) → map (λ x. x % m) (residues (c * m) a) ≡ residues m a
  residues_part c hc [] = refl
  residues_part c hc (z ∷ a) = ap₂ ◌∷◌ (mod_part m hm c hc z) (residues_part c hc a)

  pub residues_coarser :
      (c : ℕ) → 0 < c * m → (a a' : List ℤ) → residues (c * m) a ≡ residues (c * m) a' → residues m a ≡ residues m a'
  residues_coarser c hc a a' e = sym (residues_part c hc a) ∙ ap (map (λ x. x % m)) e ∙ residues_part c hc a'

  -- numbers that are residues already
  pub residues_nat : (a : List ℤ) → residues m (nat (residues m a)) ≡ residues m a
  residues_nat [] = refl
  residues_nat (z ∷ a) = ap₂ ◌∷◌ (sym (mod_of m hm (same_residue m hm z))) (residues_nat a)

  pub same_at : (a a' : List ℤ) → residues m a ≡ residues m a' → (k : ℕ) → Same m (at a k) (at a' k)
  same_at a a' e k =
      mod_to m hm (at a k) (at a' k) (sym (at_residues m a k) ∙ ap (λ (l : List ℕ). get_or l k 0) e ∙ at_residues m a' k)

module _ {m : ℕ} (n : ℕ) where
  pub same_coef :
      (a a' b b' : List ℤ) → ((i : ℕ) → Same m (at a i) (at a' i)) → ((i : ℕ) → Same m (at b i) (at b' i)) →
      (k : ℕ) → Same m (coef n a b k) (coef n a' b' k)
  unfolding coef
  same_coef a a' b b' p q k =
      same_add (same_sum (suc k) (λ i h. same_mul (p i) (q (k - i))))
      (same_neg (same_sum (n - suc k) (λ i h. same_mul (p (suc k + i)) (q (n - suc i)))))

module _ (m : ℕ) (hm : 0 < m) (n : ℕ) where
  -- a coefficient modulo m by the residues of the table
  pub column_coef :
      (a b : List ℤ) (k : ℕ) → k < n →
      modℤ (dot n a (nat (take n (drop (n - suc k) (residues m (table n b)))))) m ≡ modℤ (coef n a b k) m
  unfolding dot
  column_coef a b k h =
      let t = take n (drop (n - suc k) (table n b)) in
      rw (part_map (λ z. modℤ z m) (n - suc k) n (table n b))
      (mod_of m hm (same_sum n (λ i hi. same_mul (same_refl (at a i)) (same_at m hm (nat (residues m t)) t (residues_nat m hm t) i))))
      ∙ ap (λ z. modℤ z m) (sym (coef_table n a b k h))

  -- one product more
  pub inner_more :
      (l : ℕ) (a b : ℕ → List ℤ) (acc : List ℕ) → acc ≡ residues m (inner n l a b) →
      from n (λ k. modℤ (at (nat acc) k +ℤ coef n (a l) (b l) k) m) ≡ residues m (inner n (l + 1) a b)
  unfolding inner
  inner_more l a b acc e =
      let same = same_at m hm (nat acc) (inner n l a b) (ap (λ (s : List ℕ). residues m (nat s)) e ∙ residues_nat m hm (inner n l a b)) in
      from_cong n _ _ (λ k h.
      mod_of m hm (same_add (rw (at_inner n l a b k h) at (same k)) (same_refl (coef n (a l) (b l) k)))
      ∙ ap (λ z. modℤ z m) (sym (sum_next l (λ i. coef n (a i) (b i) k))))
      ∙ sym (map_from (λ z. modℤ z m) n (λ k. sum (l + 1) (λ i. coef n (a i) (b i) k)))

-- the inner product modulo m is that of any factors with the same residues
pub inner_residues :
    (m : ℕ) → 0 < m → (n l : ℕ) (a a' b b' : ℕ → List ℤ) → ((i : ℕ) → i < l → residues m (a i) ≡ residues m (a' i)) →
    ((i : ℕ) → i < l → residues m (b i) ≡ residues m (b' i)) → residues m (inner n l a b) ≡ residues m (inner n l a' b')
unfolding inner
inner_residues m hm n l a a' b b' p q =
    map_from (λ z. modℤ z m) n _
    ∙ from_cong n _ _ (λ k h.
    mod_of m hm (same_sum l (λ i hi.
    same_coef n (a i) (a' i) (b i) (b' i) (same_at m hm (a i) (a' i) (p i hi)) (same_at m hm (b i) (b' i) (q i hi)) k)))
    ∙ sym (map_from (λ z. modℤ z m) n _)

-- an equation c a = b + d modulo m of the coefficients of vectors holds of their inner products with s
module _ {m : ℕ} (c : ℤ) where
  sum_carries :
      (l : ℕ) (f g h : ℕ → ℤ) → ((i : ℕ) → i < l → Same m (c *ℤ f i) (g i +ℤ h i)) →
      Same m (c *ℤ sum l f) (sum l g +ℤ sum l h)
  unfolding sum
  sum_carries zero f g h e = rw (*ℤ-zero c) (same_refl (pos 0))
  sum_carries (suc l) f g h e =
      rw (mul_addℤ c (sum l f) (f l), add_swapℤ (sum l g) (g l) (sum l h) (h l))
      (same_add (sum_carries l f g h (λ i hi. e i (omega arith))) (e l (omega arith)))

  scale_carries : (x y z w : ℤ) → Same m (c *ℤ x) (y +ℤ z) → Same m (c *ℤ (x *ℤ w)) (y *ℤ w +ℤ z *ℤ w)
  scale_carries x y z w e =
      rw (*ℤ_comm x w, *ℤ_comm y w, *ℤ_comm z w, mul_leftℤ c w x, ← mul_addℤ w y z) (same_scale w e)

  pub inner_carries :
      (n l : ℕ) (a b d s : ℕ → List ℤ) →
      ((i k : ℕ) → i < l → k < n → Same m (c *ℤ at (a i) k) (at (b i) k +ℤ at (d i) k)) →
      (k : ℕ) → k < n → Same m (c *ℤ at (inner n l a s) k) (at (inner n l b s) k +ℤ at (inner n l d s) k)
  inner_carries n l a b d s e k h =
      rw (at_inner n l a s k h, at_inner n l b s k h, at_inner n l d s k h)
      (sum_carries l _ _ _ (λ i hi.
      rw (coef_doubled n (a i) (s i) k h, coef_doubled n (b i) (s i) k h, coef_doubled n (d i) (s i) k h)
      (sum_carries n _ _ _ (λ j hj. scale_carries (at (a i) j) (at (b i) j) (at (d i) j) (doubled n (at (s i)) (n - suc k + j)) (e i j hi hj)))))
