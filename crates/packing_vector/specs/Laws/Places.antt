-- Polynomials packed at a place of a larger output: which bytes they are, that no other changes, and one behind another.
use Rattle.std.specs.Prelude.{ℕ, ◌+◌, ◌-◌, ◌*◌, ◌/◌, ◌^◌, ◌<◌, ◌≤◌, List, [], ◌++◌, ◌⊎◌, ◌≡◌, length, get_or, take, drop}
use Rattle.std.proofs.Common.{◌∙◌, arith, mul-zero, length-drop, length-take, take-add, length-take-le}
use Rattle.std.proofs.Math.Seq.{paste-zero}
use Rattle.lists.specs.Numbers.{digits, Below}
use Rattle.lists.specs.Strings.{placed}
use Rattle.lists.proofs.Laws.Numbers.{below_take}
use Rattle.lists.proofs.Laws.Strings.{placed_there, placed_outside, placed_more}
use Rattle.packing.specs.Packing.{recut, packed, unpacked}
use Rattle.packing.specs.Requires.{Fills}
use Rattle.packing_vector.specs.Requires.{PlaceLengths}
use Rattle.packing.specs.Laws.Packing.{recut_append, polynomials_fill}
use Rattle.packing.specs.Laws.Polynomials.{length_packed, whole_back}

-- A6: "for a general width and any place with 32 × width bytes left". One polynomial x, at a place of `out`
module _ (w place : ℕ) (x out : List ℕ) (least : 1 ≤ w) (polynomial : length x ≡ 256) (enough : place + 32 * w ≤ length out) where
  abbrev new : List ℕ
  new = placed place (packed w x) out

  pub size : length (packed w x) ≡ 32 * w
  size = length_packed w 1 least x (omega arith) ∙ omega arith

  fits : place + length (packed w x) ≤ length out
  fits = omega (arith, size)

  -- its 32 w bytes are the packed polynomial
  pub there : take (32 * w) (drop place new) ≡ packed w x
  there = rw (← size) (placed_there place (packed w x) out fits)

  -- and every other byte is as it was
  pub elsewhere : (k : ℕ) → (k < place) ⊎ (place + 32 * w ≤ k) → get_or new k 0 ≡ get_or out k 0
  elsewhere k o = placed_outside place (packed w x) out fits k (rw (← size) at o)

  -- so that they unpack to it
  pub unpacked_there : Below (2 ^ w) x → unpacked w (take (32 * w) (drop place new)) ≡ x
  unpacked_there below = rw there (whole_back w 1 least x (omega arith) below)

  -- and what `pack_at` requires beyond this is a width of at most 16
  pub within : w ≤ 16 → PlaceLengths w (length x) place (length out)
  within widest = record { least = least; widest = widest; polynomials = omega (arith, polynomial); fits = rw polynomial (omega (arith, enough)) }

-- the part of an output that whole polynomials take
pub part_fills :
    (w n place : ℕ) (out : List ℕ) → PlaceLengths w n place (length out) → Fills w n (length (take (place + n / 8 * w - place) (drop place out)))
part_fills w n place out h =
    let eighth : n / 8 ≡ 32 * (n / 256) = omega arith in
    let bytes : n / 8 * w ≡ 32 * w * (n / 256) = rw eighth (omega arith) in
    polynomials_fill w (n / 256) n _ h.least h.widest (omega arith) (simp (length-take, length-drop) (omega (arith, h.fits, bytes)))

-- b packed right behind the l polynomials a: as all of them packed
pub packed_more :
    (w at l : ℕ) (a b out : List ℕ) → 0 < w → length a ≡ 256 * l → Below (2 ^ w) a → at + 32 * w * l + length (packed w b) ≤ length out →
    placed (at + 32 * w * l) (packed w b) (placed at (packed w a) out) ≡ placed at (packed w (a ++ b)) out
packed_more w at l a b out some long below fits =
    let size = length_packed w l some a long in
    rw (recut_append w 8 (32 * w * l) a (omega arith) (rw long (omega arith)) below b, ← size)
    (placed_more at (packed w a) (packed w b) out (omega arith))

-- no polynomial changes nothing, and polynomial i of x goes right behind those before it
pub packed_none : (w at : ℕ) (out : List ℕ) → out ≡ placed at (packed w []) out
unfolding recut placed digits
packed_none w at out = rw (mul-zero w) (paste-zero out at [])

pub packed_next :
    (w at i : ℕ) (x out : List ℕ) → 0 < w → Below (2 ^ w) x → 256 * i + 256 ≤ length x → at + 32 * w * i + 32 * w ≤ length out →
    placed (at + 32 * w * i) (packed w (take (256 * i + 256 - 256 * i) (drop (256 * i) x))) (placed at (packed w (take (256 * i) x)) out)
    ≡ placed at (packed w (take (256 * (i + 1)) x)) out
packed_next w at i x out some below h fits =
    let n : 256 * i + 256 - 256 * i ≡ 256 = omega arith in
    let e : 256 * (i + 1) ≡ 256 * i + 256 = omega arith in
    let y = take 256 (drop (256 * i) x) in
    let one : length y ≡ 256 * 1 = length-take-le 256 (drop (256 * i) x) (rw (length-drop (256 * i) x) (omega arith)) in
    rw (n, e, take-add (256 * i) 256 x)
    (packed_more w at i (take (256 * i) x) y out some (length-take-le (256 * i) x (omega arith)) (below_take (2 ^ w) (256 * i) x (omega arith) below)
    (rw (length_packed w 1 some y one) (omega arith)))
