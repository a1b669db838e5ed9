-- Laws of the places of coefficients.
use Rattle.std.specs.Prelude.{◌≡◌, ℕ, suc, ◌+◌, ◌*◌, ◌/◌, ◌%◌, ◌<◌, ◌≤◌, List, pos, slice_index, refl}
use Rattle.std.proofs.Common.{sym, ◌∙◌, ap, mul-add, mul-suc, mul-le-mul_left, arith}
use Rattle.std.proofs.Math.Decide.{dec_lt}
use Rattle.algebra.specs.Halves.{low, high, Degree}
use Rattle.algebra.proofs.Laws.Halves.{low_below, low_past}
use Rattle.karatsuba_base.specs.Layout.{reads, offset, operand}

pub offset_is : (s k : ℕ) → offset s k ≡ s * (k / 16) + k % 16
unfolding offset
offset_is s k = refl

-- c chunks on
pub offset_add : (s c k : ℕ) → offset s (16 * c + k) ≡ s * c + offset s k
unfolding offset
offset_add s c k =
    let d : (16 * c + k) / 16 ≡ c + k / 16 = omega arith in
    let r : (16 * c + k) % 16 ≡ k % 16 = omega arith in
    rw (d, r, mul-add s c (k / 16)) (omega arith)

-- in the first chunk
pub offset_first : (s k : ℕ) → k < 16 → offset s k ≡ k
unfolding offset
offset_first s k h =
    let d : k / 16 ≡ 0 = omega arith in
    rw d (omega arith)

-- in c chunks
offset_below : (s c k t : ℕ) → k < 16 * c → t + 16 ≤ s → t + offset s k < s * c
unfolding offset
offset_below s c k t h l =
    let g : suc (k / 16) ≤ c = omega arith in
    let e : s * suc (k / 16) ≤ s * c = mul-le-mul_left s g in
    omega (arith, mul-suc s (k / 16))

-- the places of all operands, of c chunks each
span : (rows c : ℕ) → 24 * (rows + 1) * c ≡ 24 * (rows * c + c)
span rows c = omega arith

pub operand_at :
    (rows chunks : ℕ) (w : List ℕ) (a i k : ℕ) → k < 16 * chunks →
    operand rows chunks w a i k ≡ reads w (a + 24 * i + 8 + offset (24 * (rows + 1)) k)
unfolding operand
operand_at rows chunks w a i k h = low_below (16 * chunks) _ k h

pub operand_past : (rows chunks : ℕ) (w : List ℕ) (a i : ℕ) → Degree (16 * chunks) (operand rows chunks w a i)
unfolding operand
operand_past rows chunks w a i = low_past (16 * chunks) _

-- where an operand's coefficient stands
pub operand_in : (rows chunks i k : ℕ) → i ≤ rows → k < 16 * chunks → 24 * i + 8 + offset (24 * (rows + 1)) k < 24 * (rows * chunks + chunks)
operand_in rows chunks i k hi hk =
    omega (arith, offset_below (24 * (rows + 1)) chunks k (24 * i + 8) hk (omega arith), span rows chunks)

-- the operand at one place and at another, where they hold the same
pub operand_same :
    (rows chunks : ℕ) (w w' : List ℕ) (a a' i : ℕ) → i ≤ rows →
    ((p : ℕ) → p < 24 * (rows * chunks + chunks) → slice_index w' (a' + p) ≡ slice_index w (a + p)) →
    (k : ℕ) → operand rows chunks w' a' i k ≡ operand rows chunks w a i k
operand_same rows chunks w w' a a' i hi e k = go (dec_lt k (16 * chunks))
  where
    at : (b : ℕ) → b + 24 * i + 8 + offset (24 * (rows + 1)) k ≡ b + (24 * i + 8 + offset (24 * (rows + 1)) k)
    at b = omega arith

    go : Dec (k < 16 * chunks) → operand rows chunks w' a' i k ≡ operand rows chunks w a i k
    go (yes h) =
        rw (operand_at rows chunks w' a' i k h, operand_at rows chunks w a i k h, at a', at a) (ap pos (e _ (operand_in rows chunks i k hi h)))
    go (no h) =
        operand_past rows chunks w' a' i k (omega arith) ∙ sym (operand_past rows chunks w a i k (omega arith))

-- its halves
module _ (rows c : ℕ) (w : List ℕ) (a i : ℕ) where
  pub operand_low : (k : ℕ) → low (16 * c) (operand rows (c + c) w a i) k ≡ operand rows c w a i k
  operand_low k = go (dec_lt k (16 * c))
    where
      go : Dec (k < 16 * c) → low (16 * c) (operand rows (c + c) w a i) k ≡ operand rows c w a i k
      go (yes h) = low_below (16 * c) _ k h ∙ operand_at rows (c + c) w a i k (omega arith) ∙ sym (operand_at rows c w a i k h)
      go (no h) = low_past (16 * c) _ k (omega arith) ∙ sym (operand_past rows c w a i k (omega arith))

  pub operand_high : (k : ℕ) → high (16 * c) (operand rows (c + c) w a i) k ≡ operand rows c w (a + 24 * (rows * c + c)) i k
  operand_high k = go (dec_lt k (16 * c))
    where
      go : Dec (k < 16 * c) → operand rows (c + c) w a i (16 * c + k) ≡ operand rows c w (a + 24 * (rows * c + c)) i k
      go (yes h) =
          let e : a + 24 * i + 8 + offset (24 * (rows + 1)) (16 * c + k) ≡ a + 24 * (rows * c + c) + 24 * i + 8 + offset (24 * (rows + 1)) k =
          omega (arith, offset_add (24 * (rows + 1)) c k, span rows c) in
          operand_at rows (c + c) w a i (16 * c + k) (omega arith) ∙ rw e (sym (operand_at rows c w (a + 24 * (rows * c + c)) i k h))
      go (no h) = operand_past rows (c + c) w a i (16 * c + k) (omega arith) ∙ sym (operand_past rows c w (a + 24 * (rows * c + c)) i k (omega arith))

-- where a product's coefficient stands, c chunks on
pub product_at : (rows c : ℕ) (at i k : ℕ) → at + 16 * i + offset (16 * rows) (16 * c + k) ≡ at + 16 * (rows * c) + (16 * i + offset (16 * rows) k)
product_at rows c at i k = omega (arith, offset_add (16 * rows) c k)

pub product_in : (rows chunks i k : ℕ) → i < rows → k < 16 * chunks → 16 * i + offset (16 * rows) k < 16 * (rows * chunks)
product_in rows chunks i k hi hk = omega (arith, offset_below (16 * rows) chunks k (16 * i) hk (omega arith))
