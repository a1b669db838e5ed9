-- Laws of whole numbers. `omega` reads natural numbers only, so a whole number z is given to it as up z - dn z.
use Rattle.std.specs.Prelude.{ℕ, zero, suc, ◌+◌, ◌*◌, ◌-◌, ◌<◌, ◌≤◌, Bool, true, false, not, cond, ◌≡◌, refl, T, ltb, ℤ, pos, negsuc, neg_ℤ, ◌+ℤ◌, ◌*ℤ◌}
use Rattle.std.proofs.Common.{◌∙◌, ap, arith, ltb→lt, nltb→le}
use Rattle.std.proofs.Math.IntN.{sub_ℕ}
use Rattle.algebra.specs.Integers.{up, dn}

-- two whole numbers are equal where the differences are
pub eqℤ : (x y : ℤ) → up x + dn y ≡ up y + dn x → x ≡ y
eqℤ (pos a) (pos b) h = ap pos (omega arith)
eqℤ (pos a) (negsuc b) h = absurd (omega arith)
eqℤ (negsuc a) (pos b) h = absurd (omega arith)
eqℤ (negsuc a) (negsuc b) h = ap negsuc (omega arith)

pub up_neg : (x : ℤ) → up (neg_ℤ x) ≡ dn x
up_neg (pos zero) = refl
up_neg (pos (suc n)) = refl
up_neg (negsuc n) = refl

pub dn_neg : (x : ℤ) → dn (neg_ℤ x) ≡ up x
dn_neg (pos zero) = refl
dn_neg (pos (suc n)) = refl
dn_neg (negsuc n) = refl

sub_split : (a b : ℕ) → up (sub_ℕ a b) + b ≡ dn (sub_ℕ a b) + a
sub_split a b = go (ltb a b) (ltb→lt a b) (nltb→le a b)
  where
    go :
        (c : Bool) → (T c → a < b) → (T (not c) → b ≤ a) →
        up (cond c (negsuc (b - suc a)) (pos (a - b))) + b ≡ dn (cond c (negsuc (b - suc a)) (pos (a - b))) + a
    go true h k = omega (arith, h tt)
    go false h k = omega (arith, k tt)

-- the sum, and the product
pub add_split : (x y : ℤ) → up (x +ℤ y) + (dn x + dn y) ≡ dn (x +ℤ y) + (up x + up y)
add_split (pos a) (pos b) = omega arith
add_split (pos a) (negsuc b) = omega (arith, sub_split a (suc b))
add_split (negsuc a) (pos b) = omega (arith, sub_split b (suc a))
add_split (negsuc a) (negsuc b) = omega arith

pub up_mul : (x y : ℤ) → up (x *ℤ y) ≡ up x * up y + dn x * dn y
up_mul (pos a) (pos b) = omega arith
up_mul (pos a) (negsuc b) = up_neg (pos (a * suc b)) ∙ omega arith
up_mul (negsuc a) (pos b) = up_neg (pos (suc a * b)) ∙ omega arith
up_mul (negsuc a) (negsuc b) = omega arith

pub dn_mul : (x y : ℤ) → dn (x *ℤ y) ≡ up x * dn y + dn x * up y
dn_mul (pos a) (pos b) = omega arith
dn_mul (pos a) (negsuc b) = dn_neg (pos (a * suc b)) ∙ omega arith
dn_mul (negsuc a) (pos b) = dn_neg (pos (suc a * b)) ∙ omega arith
dn_mul (negsuc a) (negsuc b) = omega arith

-- the laws of a ring that `lib.IntN` lacks
pub add_swapℤ : (w x y z : ℤ) → (w +ℤ x) +ℤ (y +ℤ z) ≡ (w +ℤ y) +ℤ (x +ℤ z)
add_swapℤ w x y z =
    let a = add_split in
    eqℤ _ _ (omega (arith, a (w +ℤ x) (y +ℤ z), a w x, a y z, a (w +ℤ y) (x +ℤ z), a w y, a x z))

pub mul_addℤ : (x y z : ℤ) → x *ℤ (y +ℤ z) ≡ x *ℤ y +ℤ x *ℤ z
mul_addℤ x y z =
    let u = ap (λ (t : ℕ). up x * t) (add_split y z) in
    let d = ap (λ (t : ℕ). dn x * t) (add_split y z) in
    eqℤ _ _ (simp (up_mul, dn_mul) (omega (arith, simp (up_mul, dn_mul) at (add_split (x *ℤ y) (x *ℤ z)))))

pub mul_negℤ : (x y : ℤ) → x *ℤ neg_ℤ y ≡ neg_ℤ (x *ℤ y)
mul_negℤ x y = eqℤ _ _ (simp (up_neg, dn_neg, up_mul, dn_mul) (omega arith))

pub mul_leftℤ : (x y z : ℤ) → x *ℤ (y *ℤ z) ≡ y *ℤ (x *ℤ z)
mul_leftℤ x y z = eqℤ _ _ (simp (up_mul, dn_mul) (omega arith))
