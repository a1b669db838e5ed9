-- l polynomials of w bits, packed: their length, and how they are read again, first in a string, alone or one of them.
use Rattle.std.specs.Prelude.{ℕ, ◌+◌, ◌-◌, ◌*◌, ◌^◌, ◌<◌, ◌≤◌, List, ◌++◌, ◌≡◌, length, take, drop}
use Rattle.std.proofs.Common.{sym, ap, ◌∙◌, mul-suc, mul-le-mul_left, arith, length-drop, take-append-drop, take_at, drop_at, length-take-le}
use Rattle.lists.specs.Numbers.{Below}
use Rattle.lists.proofs.Laws.Numbers.{below_take, below_drop}
use Rattle.packing.specs.Packing.{packed, unpacked}
use Rattle.packing.specs.Laws.Packing.{recut_length, recut_append, unpacked_packed}

module _ (w l : ℕ) (some : 0 < w) (x : List ℕ) (long : length x ≡ 256 * l) where
  fills : w * length x ≡ 8 * (32 * w * l)
  fills = rw long (omega arith)

  pub length_packed : length (packed w x) ≡ 32 * w * l
  length_packed = recut_length w 8 (32 * w * l) x (omega arith) fills

  pub whole_back : Below (2 ^ w) x → unpacked w (packed w x) ≡ x
  whole_back h = unpacked_packed w (32 * w * l) x some fills h

  module _ (rest : List ℕ) (n : ℕ) (e : n ≡ 32 * w * l) where
    pub first_back : Below (2 ^ w) x → unpacked w (take n (packed w x ++ rest)) ≡ x
    first_back h = rw (take_at (packed w x) rest n (length_packed ∙ sym e)) (whole_back h)

    pub rest_back : drop n (packed w x ++ rest) ≡ rest
    rest_back = drop_at (packed w x) rest n (length_packed ∙ sym e)

-- polynomial k of m packed ones
pub unpacked_part :
    (w k m : ℕ) (bytes : List ℕ) → 0 < w → Below 256 bytes → k < m → length bytes ≡ 32 * w * m →
    take 256 (drop (256 * k) (unpacked w bytes)) ≡ unpacked w (take (32 * w) (drop (32 * w * k) bytes))
unpacked_part w k m bytes some below h long =
    ap (λ (t : List ℕ). take 256 (drop (256 * k) (unpacked w t))) (sym (take-append-drop (32 * w * k) bytes))
    ∙ rw (
      recut_append 8 w (256 * k) a some ea (below_take 256 (32 * w * k) bytes (omega (arith, fits)) below) rest,
      drop_at (unpacked w a) (unpacked w rest) (256 * k) (recut_length 8 w (256 * k) a some ea),
    )
    (ap (λ (t : List ℕ). take 256 (unpacked w t)) (sym (take-append-drop (32 * w) rest))
    ∙ rw (recut_append 8 w 256 b some eb (below_take 256 (32 * w) rest (omega (arith, lr, fits)) lower) (drop (32 * w) rest))
    (take_at (unpacked w b) _ 256 (recut_length 8 w 256 b some eb)))
  where
    fits : 32 * w * k + 32 * w ≤ length bytes
    fits = omega (arith, long, mul-suc (32 * w) k, mul-le-mul_left (32 * w) h)

    a : List ℕ
    a = take (32 * w * k) bytes

    rest : List ℕ
    rest = drop (32 * w * k) bytes

    lower : Below 256 rest
    lower = below_drop 256 (32 * w * k) bytes below

    b : List ℕ
    b = take (32 * w) rest

    lr : length rest ≡ length bytes - 32 * w * k
    lr = length-drop (32 * w * k) bytes

    ea : 8 * length a ≡ w * (256 * k)
    ea = rw (length-take-le (32 * w * k) bytes (omega (arith, fits))) (omega arith)

    eb : 8 * length b ≡ w * 256
    eb = rw (length-take-le (32 * w) rest (omega (arith, lr, fits))) (omega arith)
