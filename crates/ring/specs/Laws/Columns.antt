-- What the columns of the plain product compute: the scalar products, the doubled table, and each coefficient by them.
use Rattle.std.specs.Prelude.{◌≡◌, ℕ, suc, ◌+◌, ◌-◌, ◌*◌, ◌%◌, ◌<◌, ◌≤◌, List, length, take, drop, ℤ, pos, ◌+ℤ◌, ◌*ℤ◌, slice_index, refl}
use Rattle.std.proofs.Common.{sym, ◌∙◌, mod-eq_of_lt, arith, length-take, length-drop, take_all}
use Rattle.std.proofs.Math.Path.{ap}
use Rattle.std.proofs.Math.ListN.{length-map}
use Rattle.lists.specs.Lists.{from}
use Rattle.lists.proofs.Laws.Lists.{length_from, map_from}
use Rattle.algebra.specs.Integers.{modℤ, sum}
use Rattle.algebra.specs.Ring.{at, coef, mul, nat, residues}
use Rattle.algebra.specs.Columns.{doubled, table, dot}
use Rattle.algebra.proofs.Laws.Sums.{sum_next}
use Rattle.algebra.proofs.Laws.Residues.{mod_add, mod_neg}
use Rattle.algebra.proofs.Laws.Reduced.{at_nat, column_coef}
use Rattle.algebra.proofs.Laws.Table.{doubled_low, doubled_high}
use Rattle.ring.specs.Products.{product}

-- the scalar product, one term more
pub dot_more :
    (i : ℕ) (a w : List ℕ) {s t r : ℕ} → s ≡ modℤ (dot i (nat a) (nat w)) 65536 → t ≡ slice_index a i * slice_index w i % 65536 →
    r ≡ (s + t) % 65536 → r ≡ modℤ (dot (i + 1) (nat a) (nat w)) 65536
unfolding dot
dot_more i a w p q e =
    let term : ℕ → ℤ = λ j. at (nat a) j *ℤ at (nat w) j in
    (rw (p, q) at e)
    ∙ sym (ap (λ z. modℤ z 65536) (sum_next i term ∙ ap (λ z. sum i term +ℤ z) (rw (at_nat a i, at_nat w i) refl))
    ∙ sym (mod_add 65536 (omega arith) (sum i term) (pos (slice_index a i * slice_index w i))))

-- place j of the doubled table of b
pub place_low :
    (b : List ℕ) (j : ℕ) → j < 256 → slice_index b (255 - j) < 65536 → slice_index b (255 - j) ≡ modℤ (doubled 256 (at (nat b)) j) 65536
place_low b j h fits =
    let e : 256 - suc j ≡ 255 - j = omega arith in
    rw (doubled_low 256 (at (nat b)) j h, e, at_nat b (255 - j)) (sym (mod-eq_of_lt fits))

pub place_high :
    (b : List ℕ) (j r : ℕ) → 256 ≤ j → r < 65536 → (r + slice_index b (511 - j)) % 65536 ≡ 0 → r ≡ modℤ (doubled 256 (at (nat b)) j) 65536
place_high b j r h fits z =
    let e : 256 + 256 - suc j ≡ 511 - j = omega arith in
    rw (doubled_high 256 (at (nat b)) j h, e, at_nat b (511 - j)) (mod_neg 65536 (omega arith) (slice_index b (511 - j)) r fits z)

pub places : (b : List ℕ) → from 512 (λ j. modℤ (doubled 256 (at (nat b)) j) 65536) ≡ residues 65536 (table 256 (nat b))
unfolding table
places b = sym (map_from (λ z. modℤ z 65536) 512 (doubled 256 (at (nat b))))

-- the 256 places of the table that coefficient k takes
module _ (a b w : List ℕ) (k : ℕ) (la : length a ≡ 256) (ew : w ≡ residues 65536 (table 256 (nat b))) (hk : k < 256) where
  width : 511 - k - (255 - k) ≡ 256
  width = omega arith

  start : 255 - k ≡ 256 - suc k
  start = omega arith

  long : length w ≡ 512
  unfolding table
  long = ap length ew ∙ length-map (from 512 (doubled 256 (at (nat b)))) (λ z. modℤ z 65536) ∙ length_from 512 (doubled 256 (at (nat b)))

  pub part_length : length (take 256 a) ≡ length (take (511 - k - (255 - k)) (drop (255 - k) w))
  part_length = rw width (simp (length-take, length-drop) (omega (arith, long)))

  -- d is the scalar product
  pub column :
      {d : ℕ} → d ≡ modℤ (dot (length (take 256 a)) (nat (take 256 a)) (nat (take (511 - k - (255 - k)) (drop (255 - k) w)))) 65536 →
      d ≡ modℤ (coef 256 (nat a) (nat b) k) 65536
  column p =
      (rw (width, start, ew, take_all 256 a (omega arith), la) at p) ∙ column_coef 65536 (omega arith) 256 (nat a) (nat b) k hk

pub coefficients : (a b : List ℕ) → from 256 (λ k. modℤ (coef 256 (nat a) (nat b) k) 65536) ≡ product 65536 a b
unfolding product mul
coefficients a b = sym (map_from (λ z. modℤ z 65536) 256 (coef 256 (nat a) (nat b)))
