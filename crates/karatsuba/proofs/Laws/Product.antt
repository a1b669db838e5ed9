-- The products by halves, folded, are the ring products.
use Rattle.std.specs.Prelude.{◌≡◌, ℕ, ◌+◌, ◌*◌, ◌<◌, ◌≤◌, List, length, pos, ◌+ℤ◌, refl}
use Rattle.std.proofs.Common.{inl, sym, ◌∙◌, ap, arith, length-take, length-drop}
use Rattle.std.proofs.lemmas.List.{length-map}
use Rattle.lists.specs.Lists.{from}
use Rattle.lists.proofs.Laws.Lists.{from_cong}
use Rattle.algebra.specs.Integers.{modℤ, Same}
use Rattle.algebra.specs.Ring.{at, coef, nat, poly, blocks}
use Rattle.algebra.specs.Halves.{conv}
use Rattle.algebra.proofs.Laws.Residues.{mod_of, same_eq, same_trans, same_add, same_neg}
use Rattle.algebra.proofs.Laws.Reduced.{at_nat}
use Rattle.algebra.proofs.Laws.Product.{coef_comm}
use Rattle.algebra.proofs.Laws.Vectors.{blocks_cong}
use Rattle.algebra.proofs.Laws.Halves.{split_conv}
use Rattle.algebra.proofs.Laws.Convolution.{conv_same, coef_conv}
use Rattle.karatsuba_base.specs.Layout.{reads, offset, operand}
use Rattle.karatsuba_split.specs.Ensures.{Halved}
use Rattle.karatsuba_split.specs.Requires.{SplitScratch}
use Rattle.karatsuba.specs.Ensures.{fold_row, Laid, source, rows_added}
use Rattle.karatsuba.specs.Requires.{RowsScratch}
use Rattle.karatsuba.specs.Laws.Lay.{laid_blank, laid_operand, source_row, source_last}

-- one row: p as row i, b behind the rows
module _ {rows x free i : ℕ} {w w' : List ℕ} (p b : List ℕ) (lp : length p ≡ 256) (lb : length b ≡ 256) (hi : i < rows)
    (ep : (k : ℕ) → operand rows 16 w 0 i k ≡ reads p k) (eb : (k : ℕ) → operand rows 16 w 0 rows k ≡ reads b k) (h : Halved rows 16 0 x free w w') where
  product_same : (k : ℕ) → k < 512 → Same 65536 (reads w' (x + 16 * i + offset (16 * rows) k)) (conv (at (nat b)) (at (nat p)) k)
  product_same k hk =
      same_trans (h.value 4 refl i k hi hk)
      (rw (split_conv 16 4 (operand rows 16 w 0 rows) (operand rows 16 w 0 i) k)
      (conv_same _ _ _ _ (λ n. same_eq (eb n ∙ sym (at_nat b n))) (λ n. same_eq (ep n ∙ sym (at_nat p n))) k))

  pub row_coef :
      (old : List ℕ) (k : ℕ) → k < 256 → fold_row w' (x + 16 * i) (16 * rows) old k ≡ modℤ (at (nat old) k +ℤ coef 256 (nat p) (nat b) k) 65536
  row_coef old k hk =
      mod_of 65536 (omega arith)
      (same_add (same_eq (sym (at_nat old k)))
      (same_trans (same_add (product_same k (omega arith)) (same_neg (product_same (256 + k) (omega arith))))
      (same_eq (sym (coef_comm 256 (nat p) (nat b) k hk ∙ coef_conv 256 (nat b) (nat p) (long b lb) (long p lp) k hk)))))
    where
      long : (c : List ℕ) → length c ≡ 256 → length (nat c) ≤ 256
      long c l = omega (arith, length-map c pos)

module _ (rows : ℕ) (a b : List ℕ) {work out : ℕ} (r : RowsScratch rows (length a) (length b) work out) {w w1 : List ℕ}
    (l : Laid rows (source rows a b) 16 w w1) (size : length w ≡ work) where
  pub rows_scratch : SplitScratch rows 16 0 (384 * (rows + 1)) (384 * (rows + 1) + 512 * rows) w1
  rows_scratch = record {
    most = r.most;
    depth = 4;
    sized = refl;
    apart = inl (omega arith);
    operands = omega arith;
    product = omega arith;
    left = omega (arith, r.scratch, l.size, size);
    blank = laid_blank l;
  }

  pub rows_done :
      (old : List ℕ) {w2 new : List ℕ} → Halved rows 16 0 (384 * (rows + 1)) (384 * (rows + 1) + 512 * rows) w1 w2 →
      new ≡ blocks rows (λ i. from 256 (fold_row w2 (384 * (rows + 1) + 16 * i) (16 * rows) (poly old i))) →
      new ≡ rows_added rows a b old
  unfolding rows_added
  rows_done old h e =
      e ∙ blocks_cong rows _ _ (λ i hi.
      from_cong 256 _ _ (row_coef (poly a i) b (long i hi) r.factor hi (row i hi) last h (poly old i)))
    where
      long : (i : ℕ) → i < rows → length (poly a i) ≡ 256
      long i hi = simp (length-take, length-drop) (omega (arith, r.factors))

      row : (i : ℕ) → i < rows → (k : ℕ) → operand rows 16 w1 0 i k ≡ reads (poly a i) k
      row i hi k =
          let e = source_row rows a b i hi in
          rw e at (laid_operand l i (omega arith) (ap length e ∙ long i hi) k)

      last : (k : ℕ) → operand rows 16 w1 0 rows k ≡ reads b k
      last k =
          let e = source_last rows a b in
          rw e at (laid_operand l rows (omega arith) (ap length e ∙ r.factor) k)
