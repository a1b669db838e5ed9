-- A loop that cuts numbers of a bits into numbers of b bits: i of them are read, j are written, and the bits between are the `held` lowest of `acc`.
use Rattle.std.specs.Prelude.{ℕ, ◌+◌, ◌-◌, ◌*◌, ◌/◌, ◌^◌, ◌<◌, ◌≤◌, List, ◌++◌, ◌≡◌, take, drop}
use Rattle.std.proofs.Common.{append_assoc, append-nil, ap, ◌∙◌, lt_of_lt_of_le, mul-add, mul_assoc, mul_comm, mul-le-mul_left, mul-suc, mul-zero, one-mul, zero-add, length-drop, pow-add, pow_mono, pow_pos, shl_lt, shr_lt, drop-drop}
use native.Mathlib.Omega.{arith}
use Rattle.std.proofs.Math.Nat.{le_of_mul-le-mul_left, lt_of_mul-lt-mul_left}
use Rattle.std.proofs.Math.ListN.{length}
use Rattle.std.proofs.Math.Pow.{add-lt-pow}
use Rattle.std.proofs.Math.Seq.{take_all}
use Rattle.lists.specs.Numbers.{number, digits}
use Rattle.lists.proofs.Laws.Numbers.{digits_split, number_split, pow_mul}
use Rattle.packing.specs.Packing.{recut}
use Rattle.packing.specs.Laws.Packing.{recut_count}

-- `left` has what is still to be written; a number read may have more than a bits, so `acc` may reach 16 bits above those held
pub record Cutting (a b : ℕ) (src out : List ℕ) (acc held i j : ℕ) : Type 0 where
  pub fills : a * length src ≡ b * length out
  pub used : a * i ≡ b * j + held
  pub small : acc < 2 ^ (held + 16)
  pub left :
      digits (2 ^ b) (length out) (number (2 ^ a) src) ≡
      take j out ++ digits (2 ^ b) (length out - j) (acc + 2 ^ held * number (2 ^ a) (drop i src))

module _ {a b : ℕ} {src out : List ℕ} where
  pub start : a * length src ≡ b * length out → Cutting a b src out 0 0 0 0
  start e = record {
    fills = e;
    used = omega (arith, mul-zero a, mul-zero b);
    small = omega arith;
    left = simp (one-mul, zero-add) (ap (λ (n : ℕ). digits (2 ^ b) n (number (2 ^ a) src)) (omega arith));
  }

  module _ {acc held i j : ℕ} (g : Cutting a b src out acc held i j) where
    -- n more numbers are read, k bits
    pub read :
        (n k x : ℕ) → k ≡ a * n → 0 < k → i + n ≤ length src → x < 2 ^ (k + 15) → x ≡ number (2 ^ a) (take n (drop i src)) →
        Cutting a b src out (acc + x * 2 ^ held) (held + k) (i + n) j
    read n k x e p h l d = record {
      fills = g.fills;
      used = omega (arith, g.used, mul-add a i n);
      small =
          lt_of_lt_of_le
          (add-lt-pow (held + k + 15) (lt_of_lt_of_le g.small (pow_mono (omega arith)))
          (lt_of_lt_of_le (shl_lt (k + 15) held l) (pow_mono (omega arith))))
          (pow_mono (omega arith));
      left =
          g.left ∙
          ap (λ (v : ℕ). take j out ++ digits (2 ^ b) (length out - j) v)
          (rw (number_split (2 ^ a) n (drop i src) (rw (length-drop i src) (omega arith)), drop-drop n i src, ← d, ← pow_mul a n, ← e)
          (above (number (2 ^ a) (drop (i + n) src))));
    }
      where
        above : (r : ℕ) → acc + 2 ^ held * (x + 2 ^ k * r) ≡ acc + x * 2 ^ held + 2 ^ (held + k) * r
        above r = rw (pow-add 2 held k, mul_assoc (2 ^ held) (2 ^ k) r, mul-add (2 ^ held) x (2 ^ k * r), mul_comm x (2 ^ held)) (omega arith)

    -- n more numbers are written, k bits
    pub write :
        (n k : ℕ) {new : List ℕ} → k ≡ b * n → k ≤ held → j + n ≤ length out → length new ≡ length out →
        take (j + n) new ≡ take j out ++ digits (2 ^ b) n acc → Cutting a b src new (acc / 2 ^ k) (held - k) i (j + n)
    write n k e p h l w = record {
      fills = rw l g.fills;
      used = omega (arith, g.used, mul-add b j n);
      small = shr_lt (held - k + 16) k (rw (ap (λ (d : ℕ). 2 ^ d) back) g.small);
      left =
          rw (l, w, append_assoc, e, pow_mul b n, ← digits_split (2 ^ b) n (length out - (j + n)) acc (2 ^ (held - b * n) * rest) (pow_pos b))
          (g.left ∙ ap (λ (l : List ℕ). take j out ++ l) (rw (below, later)));
    }
      where
        rest : ℕ
        rest = number (2 ^ a) (drop i src)

        back : held - k + 16 + k ≡ held + 16
        back = omega arith

        later : length out - j ≡ n + (length out - (j + n))
        later = omega arith

        below : 2 ^ held * rest ≡ (2 ^ b) ^ n * (2 ^ (held - b * n) * rest)
        below =
            rw (← mul_assoc ((2 ^ b) ^ n) (2 ^ (held - b * n)) rest, ← pow_mul b n, ← pow-add 2 (b * n) (held - b * n))
            (ap (λ (d : ℕ). 2 ^ d * rest) (omega arith))

    -- with the bits of n numbers held, n are still to be written
    pub to_write : (n : ℕ) → 0 < b → i ≤ length src → b * n ≤ held → j + n ≤ length out
    to_write n p h k = le_of_mul-le-mul_left (omega (arith, g.used, g.fills, mul-add b j n, mul-le-mul_left a h)) p

    -- with fewer than the bits of the next number held, there is one to read
    pub to_read : j < length out → held < b → i < length src
    to_read h k = lt_of_mul-lt-mul_left a (omega (arith, g.used, g.fills, mul-suc b j, mul-le-mul_left b h))

    -- all is written
    pub done : 0 < b → length out ≤ j → out ≡ recut a b src
    unfolding recut digits
    done p h =
        let z : length out - j ≡ 0 = omega arith in
        rw (recut_count a b (length out) src p g.fills, g.left, z, take_all j out h, append-nil)
