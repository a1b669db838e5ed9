-- Laws of the fold by X^256 = -1.
use Rattle.std.specs.Prelude.{◌≡◌, ℕ, ◌+◌, ◌-◌, ◌*◌, ◌%◌, ◌<◌, ◌≤◌, List, ◌++◌, length, take, drop, pos, ◌+ℤ◌, ◌-ℤ◌, slice_index, refl}
use Rattle.std.proofs.Common.{append_assoc, append-nil, sym, ◌∙◌, ap, add-one, arith, length-append, length-take, length-drop, drop_of_length-le, take_at, drop_at}
use Rattle.std.proofs.Math.Nat.{mod-mod, mul-suc}
use borrow.Rule.Slice.PartMut.{put_mid, mid_of, same_len_mid}
use Rattle.std.proofs.Math.Seq.{drop-drop}
use Rattle.lists.specs.Lists.{from}
use Rattle.lists.proofs.Laws.Lists.{from_at, length_from}
use Rattle.algebra.specs.Integers.{modℤ}
use Rattle.algebra.specs.Ring.{poly, blocks}
use Rattle.algebra.proofs.Laws.Residues.{mod_of, same_refl, same_trans, same_add, same_plus, same_minus}
use Rattle.karatsuba_base.specs.Layout.{offset}
use Rattle.karatsuba_base.specs.Ensures.{Put}
use Rattle.karatsuba.specs.Ensures.{fold_at, fold_row}
use Rattle.karatsuba_base.specs.Laws.Put.{put_next, put_to}
use Rattle.karatsuba_base.specs.Laws.Places.{offset_add, offset_first}

-- one place: z + x - y
pub fold_one : (x y z d : ℕ) {r : ℕ} → (d + y) % 65536 ≡ x → r ≡ (z + d) % 65536 → r ≡ modℤ (pos z +ℤ (pos x -ℤ pos y)) 65536
fold_one x y z d {r} p q =
    let small : r % 65536 ≡ r = ap (λ (u : ℕ). u % 65536) q ∙ mod-mod (z + d) 65536 ∙ sym q in
    sym small
    ∙ mod_of 65536 (omega arith) (same_trans (same_plus z d q) (same_add (same_refl (pos z)) (same_minus x y p)))

-- sixteen places more of a row
pub fold_next :
    (w : List ℕ) (x s g : ℕ) {r old out out' : List ℕ} → Put 0 (16 * g) (fold_row w x s old) old out →
    r ≡ from 16 (fold_at w (x + s * g) (x + s * g + 16 * s) out (16 * g)) → Put (16 * g) (length r) (λ (k : ℕ). slice_index r k) out out' →
    Put 0 (16 * (g + 1)) (fold_row w x s old) old out'
fold_next w x s g {r} {old} {out} h e u =
    let z : 16 * g ≡ 0 + 16 * g = omega arith in
    put_to (let d : 16 * g + 16 ≡ 16 * (g + 1) = omega arith in d)
    (put_next h (put_to (ap length e ∙ length_from 16 _) (rw z at u)) (λ k hk. ap (λ (l : List ℕ). slice_index l k) e ∙ from_at 16 _ 0 k hk ∙ same k hk))
  where
    same : (k : ℕ) → k < 16 → fold_at w (x + s * g) (x + s * g + 16 * s) out (16 * g) k ≡ fold_row w x s old (16 * g + k)
    same k hk =
        let first : x + s * g + k ≡ x + offset s (16 * g + k) = omega (arith, offset_add s g k, offset_first s k hk) in
        let up : 256 + (16 * g + k) ≡ 16 * (16 + g) + k = omega arith in
        let last : x + s * g + 16 * s + k ≡ x + offset s (16 * (16 + g) + k) = omega (arith, offset_add s (16 + g) k, offset_first s k hk) in
        rw (h.above (16 * g + k) (omega arith), first, up, last) refl

-- ---- rows written one after another over what stood there
pub record Written (i : ℕ) (f : ℕ → List ℕ) (old s : List ℕ) : Type 0 where
  pub whole : s ≡ blocks i f ++ drop (256 * i) old
  pub long : length (blocks i f) ≡ 256 * i
  pub size : length s ≡ length old

pub written_none : (f : ℕ → List ℕ) (old : List ℕ) → Written 0 f old old
unfolding blocks
written_none f old = record { whole = refl; long = refl; size = refl }

-- what is lent of row i is what stood there; and with it written
module _ {i : ℕ} {f : ℕ → List ℕ} {old s : List ℕ} (w : Written i f old s) where
  behind : drop (256 * i) s ≡ drop (256 * i) old
  behind = rw w.whole (drop_at (blocks i f) (drop (256 * i) old) (256 * i) w.long)

  width : 256 * i + 256 - 256 * i ≡ 256
  width = omega arith

  pub lent : take (256 * i + 256 - 256 * i) (drop (256 * i) s) ≡ poly old i
  lent = rw (width, behind)

  pub written_more :
      (y : List ℕ) → 256 * i + 256 ≤ length old → length y ≡ length (mid_of (256 * i) (256 * i + 256 - 256 * i) s) → y ≡ f i →
      Written (i + 1) f old (put_mid (256 * i) (256 * i + 256 - 256 * i) s y)
  unfolding blocks
  written_more y h l e =
      let l' : length y ≡ 256 = l ∙ rw (width, behind) (simp (length-take, length-drop) (omega arith)) in
      let front : take (256 * i) s ≡ blocks i f = rw w.whole (take_at (blocks i f) (drop (256 * i) old) (256 * i) w.long) in
      let rest : drop 256 (drop (256 * i) old) ≡ drop (256 * i + 256) old = drop-drop 256 (256 * i) old in
      record {
        whole = rw (add-one, mul-suc, width, front, behind, rest, ← e, append_assoc);
        long = rw (add-one, mul-suc, ← e) (length-append (blocks i f) y ∙ omega (arith, w.long, l'));
        size = same_len_mid (256 * i) (256 * i + 256 - 256 * i) s y l ∙ w.size;
      }

  pub written_all : length old ≤ 256 * i → s ≡ blocks i f
  written_all h = w.whole ∙ rw (drop_of_length-le old h) (append-nil (blocks i f))
