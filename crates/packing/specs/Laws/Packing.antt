-- Laws of packing, for every width and lists of any length.
use Rattle.std.specs.Prelude.{ℕ, suc, ◌+◌, ◌-◌, ◌*◌, ◌/◌, ◌%◌, ◌^◌, ◌<◌, ◌≤◌, List, ◌++◌, ◌≡◌, get_or, take, drop}
use Rattle.std.proofs.Common.{sym, ap, ◌∙◌, arith, div-lt_iff_lt-mul, mod-lt, mul_assoc, mul_comm, pow_pos, pow-add, shr-shr, drop-cons, length-take-le}
use Rattle.std.proofs.Math.Nat.{add-mul-div_left, add-mul-mod_self_left, div-add-mod, div-eq_of_lt, mul-add, mul-add-div, mul-div_right, pow-succ', zero-add}
use Rattle.std.proofs.Math.ListN.{length, length-append}
use Rattle.lists.specs.Numbers.{number, Below}
use Rattle.lists.proofs.Laws.Numbers.{length_digits, below_take, digits_below, digits_number, digits_split, number_digits, number_lt, number_append}
use Rattle.lists.proofs.Laws.Numbers.{number_split, pow_mul}
use Rattle.packing.specs.Packing.{recut, packed, unpacked, bit, stream_bit}
use Rattle.packing.specs.Requires.{Fills}

-- each number cut has b bits
pub recut_below : (a b : ℕ) (xs : List ℕ) → Below (2 ^ b) (recut a b xs)
unfolding recut
recut_below a b xs = digits_below (2 ^ b) (a * length xs / b) (number (2 ^ a) xs) (pow_pos b)

-- where the bits fill m whole numbers of b bits
module _ (a b m : ℕ) (xs : List ℕ) (pb : 0 < b) (e : a * length xs ≡ b * m) where
  pub recut_count : a * length xs / b ≡ m
  recut_count = rw e (mul-div_right m pb)

  -- there are m of them
  pub recut_length : length (recut a b xs) ≡ m
  unfolding recut
  recut_length = length_digits (2 ^ b) (a * length xs / b) (number (2 ^ a) xs) ∙ recut_count

  module _ (h : Below (2 ^ a) xs) where
    number_fits : number (2 ^ a) xs < (2 ^ b) ^ m
    number_fits = rw (← pow_mul b m, ← e, pow_mul a (length xs)) (number_lt (2 ^ a) xs h)

    -- they write the same number
    recut_number : number (2 ^ b) (recut a b xs) ≡ number (2 ^ a) xs
    unfolding recut
    recut_number = rw recut_count (number_digits (2 ^ b) m (number (2 ^ a) xs) (pow_pos b) number_fits)

    -- cutting back gives the list
    pub recut_back : 0 < a → recut b a (recut a b xs) ≡ xs
    unfolding recut
    recut_back pa = rw (recut_number, recut_length, ← e, mul-div_right (length xs) pa) (digits_number (2 ^ a) xs (pow_pos a) h)

    -- what follows is cut by itself
    pub recut_append : (ys : List ℕ) → recut a b (xs ++ ys) ≡ recut a b xs ++ recut a b ys
    unfolding recut
    recut_append ys =
        rw (
          recut_count,
          length-append xs ys,
          mul-add a (length xs) (length ys),
          e,
          mul-add-div pb m (a * length ys),
          number_append (2 ^ a) xs ys,
          ← pow_mul a (length xs),
          e,
          pow_mul b m,
          digits_split (2 ^ b) m (a * length ys / b) (number (2 ^ a) xs) (number (2 ^ a) ys) (pow_pos b),
          div-eq_of_lt number_fits,
          zero-add,
        )

-- unpacking undoes packing
pub unpacked_packed : (w m : ℕ) (cs : List ℕ) → 0 < w → w * length cs ≡ 8 * m → Below (2 ^ w) cs → unpacked w (packed w cs) ≡ cs
unpacked_packed w m cs p e h = recut_back w 8 m cs (omega arith) e h p

-- packing undoes unpacking
pub packed_unpacked : (w n : ℕ) (bs : List ℕ) → 0 < w → 8 * length bs ≡ w * n → Below 256 bs → packed w (unpacked w bs) ≡ bs
packed_unpacked w n bs p e h = recut_back 8 w n bs p e h (omega arith)

-- a bit below w is one of x
low_bit : (w k x r : ℕ) → k < w → bit (x + 2 ^ w * r) k ≡ bit x k
low_bit w k x r h =
    let d = w - k - 1 in
    let e : 2 ^ w * r ≡ 2 ^ k * (2 * (2 ^ d * r)) =
    rw (← mul_assoc 2 (2 ^ d) r, ← pow-succ' 2 d, ← mul_assoc (2 ^ k) (2 ^ suc d) r, ← pow-add 2 k (suc d))
    (ap (λ (n : ℕ). 2 ^ n * r) (omega arith)) in
    rw (e, add-mul-div_left x (2 * (2 ^ d * r)) (pow_pos k), add-mul-mod_self_left (x / 2 ^ k) 2 (2 ^ d * r))

-- the bits of the number are the stream of bits
number_bit : (w : ℕ) (xs : List ℕ) (k : ℕ) → 0 < w → Below (2 ^ w) xs → k < w * length xs → bit (number (2 ^ w) xs) k ≡ stream_bit w xs k
unfolding number
number_bit w xs k p h q =
    let n = k / w in
    let l : n < length xs = (div-lt_iff_lt-mul p).1 (rw (mul_comm (length xs) w) q) in
    let front = take n xs in
    let e : length front ≡ n = length-take-le n xs (omega arith) in
    let low : number (2 ^ w) front < 2 ^ (w * n) =
    rw (e, ← pow_mul w n) at (number_lt (2 ^ w) front (below_take (2 ^ w) n xs (omega arith) h)) in
    ap (bit (number (2 ^ w) xs)) (sym (div-add-mod k w))
    ∙ rw (
      ← shr-shr (number (2 ^ w) xs) (w * n) (k % w),
      number_split (2 ^ w) n xs (omega arith),
      ← pow_mul w n,
      add-mul-div_left (number (2 ^ w) front) (number (2 ^ w) (drop n xs)) (pow_pos (w * n)),
      div-eq_of_lt low,
      zero-add,
      drop-cons xs n 0 l,
    )
    (low_bit w (k % w) (get_or xs n 0) (number (2 ^ w) (drop (suc n) xs)) (mod-lt k p))

-- each bit keeps its place in the stream
pub recut_bit :
    (a b m : ℕ) (xs : List ℕ) (k : ℕ) → 0 < a → 0 < b → a * length xs ≡ b * m → Below (2 ^ a) xs → k < a * length xs →
    stream_bit b (recut a b xs) k ≡ stream_bit a xs k
recut_bit a b m xs k pa pb e h q =
    sym (number_bit b (recut a b xs) k pb (recut_below a b xs) (rw (recut_length a b m xs pb e, ← e) q))
    ∙ ap (λ (n : ℕ). bit n k) (recut_number a b m xs pb e h)
    ∙ number_bit a xs k pa h q

-- l polynomials fill 32 × w × l bytes
pub polynomials_fill : (w l n m : ℕ) → 1 ≤ w → w ≤ 16 → n ≡ 256 * l → m ≡ 32 * w * l → Fills w n m
polynomials_fill w l n m p q e f = record { least = p; most = q; fills = rw (e, f) (omega arith); fours = omega arith }
