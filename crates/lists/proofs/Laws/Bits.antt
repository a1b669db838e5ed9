-- Laws of bits: those that a comparison gathers, and those by which one of two bytes is chosen.
use Rattle.std.specs.Prelude.{ℕ, zero, suc, ◌+◌, ◌*◌, ◌/◌, ◌%◌, ◌<◌, ◌≤◌, true, cond, ◌&&◌, ◌≡◌, refl, eqb}
use Rattle.std.proofs.Common.{sym, ap, ◌∙◌, div-add-mod', arith, eq-eqb, eqb-true}
use Rattle.std.proofs.Math.Arith.{bin_ind, digits_div, digits_mod}
use Rattle.std.specs.Int.Bits.{bit_and, bit_or, bit_xor, differ, xor_step, xor_zero_r, xor_self, or_add_and}
use Rattle.std.proofs.lemmas.Nat.{xor_lt, and_comm, and_mask, and_le_l, and_le_r}
use Rattle.std.proofs.Math.Dec.{eqb-suc-zero}
use Rattle.lists.proofs.Laws.Booleans.{and_left, and_right, both_ways}

differ_below : (x y : ℕ) → x < 2 → y < 2 → differ x y < 2
differ_below zero y hx hy = hy
differ_below (suc zero) zero hx hy = hx
differ_below (suc zero) (suc y) hx hy = omega arith
differ_below (suc (suc x)) y hx hy = absurd (omega arith)

differ_back : (x y : ℕ) → x < 2 → y < 2 → differ x (differ x y) ≡ y
differ_back zero y hx hy = refl
differ_back (suc zero) zero hx hy = refl
differ_back (suc zero) (suc zero) hx hy = refl
differ_back (suc zero) (suc (suc y)) hx hy = absurd (omega arith)
differ_back (suc (suc x)) y hx hy = absurd (omega arith)

-- bits that are turned twice are as they were
xor_back : (a b : ℕ) → bit_xor a (bit_xor a b) ≡ b
xor_back =
    bin_ind (λ (n : ℕ). (b : ℕ) → bit_xor n (bit_xor n b) ≡ b) (λ b. refl)
    (λ n back b.
    let low : differ (n % 2) (b % 2) < 2 = differ_below (n % 2) (b % 2) (omega arith) (omega arith) in
    xor_step n (bit_xor n b)
    ∙ rw (xor_step n b, digits_div (bit_xor (n / 2) (b / 2)) low, digits_mod (bit_xor (n / 2) (b / 2)) low)
    (rw (back (b / 2), differ_back (n % 2) (b % 2) (omega arith) (omega arith)) (div-add-mod' b 2)))

xor_none : (a b : ℕ) → bit_xor a b ≡ 0 → a ≡ b
xor_none a b e = sym (xor_zero_r a) ∙ ap (bit_xor a) (sym e) ∙ xor_back a b

-- nothing gathered, and one byte more
pub gathered : (bits x y : ℕ) → eqb (bit_or bits (bit_xor x y)) 0 ≡ eqb bits 0 && eqb x y
gathered bits x y = both_ways _ _ there back
  where
    there : eqb (bit_or bits (bit_xor x y)) 0 ≡ true → eqb bits 0 && eqb x y ≡ true
    there e =
        let none : bit_or bits (bit_xor x y) ≡ 0 = eqb-true _ 0 e in
        let sum : bit_or bits (bit_xor x y) + bit_and bits (bit_xor x y) ≡ bits + bit_xor x y = or_add_and bits (bit_xor x y) in
        let l : bit_and bits (bit_xor x y) ≤ bits = and_le_l bits (bit_xor x y) in
        let r : bit_and bits (bit_xor x y) ≤ bit_xor x y = and_le_r bits (bit_xor x y) in
        rw (eq-eqb bits 0 (omega arith), eq-eqb x y (xor_none x y (omega arith)))

    back : eqb bits 0 && eqb x y ≡ true → eqb (bit_or bits (bit_xor x y)) 0 ≡ true
    back e =
        eq-eqb (bit_or bits (bit_xor x y)) 0
        (rw (eqb-true bits 0 (and_left _ _ e), eqb-true x y (and_right (eqb bits 0) (eqb x y) e)) (xor_self y))

-- one of two bytes: the mask is all zeros where d is 0, else all ones
pub turned :
    (d a b : ℕ) → d < 256 → a < 256 → b < 256 → bit_xor a (bit_and ((d + 255) / 256 * 255) (bit_xor a b)) ≡ cond (eqb d 0) a b
turned zero a b hd ha hb = xor_zero_r a
turned (suc d) a b hd ha hb =
    let ones : (suc d + 255) / 256 * 255 ≡ 255 = omega arith in
    let below : bit_xor a b < 256 = xor_lt 8 a b ha hb in
    let whole : bit_and 255 (bit_xor a b) ≡ bit_xor a b = and_comm 255 (bit_xor a b) ∙ and_mask (bit_xor a b) 8 ∙ omega arith in
    rw (ones, whole, xor_back a b, eqb-suc-zero d)
