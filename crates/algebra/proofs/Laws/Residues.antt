-- Laws of residues. Two numbers have the same one modulo m where they differ by a multiple of m: `Same m x y`.
use Prim.Native.Nat.{ℕ, zero, suc, ◌+◌, ◌*◌, ◌-◌, ◌<◌, ◌/◌, ◌%◌}
use Rattle.std.specs.Prelude.{◌≡◌, refl, ℤ, pos, negsuc, neg_ℤ, ◌+ℤ◌, ◌*ℤ◌, ◌-ℤ◌}
use Rattle.std.proofs.Common.{sym, ◌∙◌, ap, mod-lt, mod-eq_of_lt, arith}
use Rattle.std.proofs.Math.Nat.{add-mul-mod_self_left, div-add-mod}
use Rattle.std.proofs.Math.IntN.{*ℤ_comm}
use Rattle.algebra.specs.Integers.{up, dn, modℤ, quotℤ, sum, Same}
use Rattle.algebra.proofs.Laws.Whole.{up_neg, dn_neg, add_split, up_mul, dn_mul}

pub mod_split : (z : ℤ) (m : ℕ) → 0 < m → up z + m * dn (quotℤ z m) ≡ dn z + (modℤ z m + m * up (quotℤ z m))
mod_split (pos a) m h = omega (arith, div-add-mod a m)
mod_split (negsuc a) m h = omega (arith, div-add-mod a m, mod-lt a h)

pub mod_bound : (z : ℤ) (m : ℕ) → 0 < m → modℤ z m < m
mod_bound (pos a) m h = mod-lt a h
mod_bound (negsuc a) m h = omega arith

-- of natural numbers, with the multiples given
pub same_mod : (m x y a b : ℕ) → x + m * a ≡ y + m * b → x % m ≡ y % m
same_mod m x y a b e = sym (add-mul-mod_self_left x m a) ∙ ap (λ (t : ℕ). t % m) e ∙ add-mul-mod_self_left y m b

module _ (m : ℕ) (hm : 0 < m) where
  pub mod_of : {x y : ℤ} → Same m x y → modℤ x m ≡ modℤ y m
  mod_of {x} {y} c =
      let p = quotℤ x m in
      let q = quotℤ y m in
      sym (mod-eq_of_lt (mod_bound x m hm))
      ∙ same_mod m (modℤ x m) (modℤ y m) (up p + dn q + c.less) (dn p + up q + c.more)
      (omega (arith, c.eq, mod_split x m hm, mod_split y m hm))
      ∙ mod-eq_of_lt (mod_bound y m hm)

  pub mod_to : (x y : ℤ) → modℤ x m ≡ modℤ y m → Same m x y
  mod_to x y h =
      let p = quotℤ x m in
      let q = quotℤ y m in
      record { less = dn p + up q; more = up p + dn q; eq = omega (arith, mod_split x m hm, mod_split y m hm) }

  -- a number and its residue
  pub same_residue : (z : ℤ) → Same m z (pos (modℤ z m))
  same_residue z = record { less = dn (quotℤ z m); more = up (quotℤ z m); eq = omega (arith, mod_split z m hm) }

module _ {m : ℕ} where
  pub same_refl : (x : ℤ) → Same m x x
  same_refl x = record { less = 0; more = 0; eq = refl }

  pub same_eq : {x y : ℤ} → x ≡ y → Same m x y
  same_eq {x} {y} e = rw e (same_refl y)

  pub same_sym : {x y : ℤ} → Same m x y → Same m y x
  same_sym c = record { less = c.more; more = c.less; eq = sym c.eq }

  pub same_trans : {x y z : ℤ} → Same m x y → Same m y z → Same m x z
  same_trans c d = record { less = c.less + d.less; more = c.more + d.more; eq = omega (arith, c.eq, d.eq) }

  pub same_add : {x x' y y' : ℤ} → Same m x x' → Same m y y' → Same m (x +ℤ y) (x' +ℤ y')
  same_add {x} {x'} {y} {y'} c d =
      record { less = c.less + d.less; more = c.more + d.more; eq = omega (arith, c.eq, d.eq, add_split x y, add_split x' y') }

  pub same_neg : {x x' : ℤ} → Same m x x' → Same m (neg_ℤ x) (neg_ℤ x')
  same_neg {x} {x'} c =
      record { less = c.more; more = c.less; eq = omega (arith, c.eq, up_neg x, dn_neg x, up_neg x', dn_neg x') }

  pub same_scale : (c : ℤ) {x x' : ℤ} → Same m x x' → Same m (c *ℤ x) (c *ℤ x')
  same_scale c {x} {x'} d = record {
    less = up c * d.less + dn c * d.more;
    more = up c * d.more + dn c * d.less;
    eq = simp (up_mul, dn_mul) (omega (arith, ap (λ (t : ℕ). up c * t) d.eq, ap (λ (t : ℕ). dn c * t) d.eq));
  }

  pub same_mul : {x x' y y' : ℤ} → Same m x x' → Same m y y' → Same m (x *ℤ y) (x' *ℤ y')
  same_mul {x} {x'} {y} {y'} c d = same_trans (same_scale x d) (rw (*ℤ_comm x y', *ℤ_comm x' y') (same_scale y' c))

  pub same_sum : (l : ℕ) {f g : ℕ → ℤ} → ((i : ℕ) → i < l → Same m (f i) (g i)) → Same m (sum l f) (sum l g)
  unfolding sum
  same_sum zero e = same_refl (pos 0)
  same_sum (suc l) e = same_add (same_sum l (λ i h. e i (omega arith))) (e l (omega arith))

  -- a sum, a difference and a product of natural numbers, modulo m
  pub same_plus : (x y : ℕ) {r : ℕ} → r ≡ (x + y) % m → Same m (pos r) (pos x +ℤ pos y)
  same_plus x y e = record { less = (x + y) / m; more = 0; eq = omega (arith, div-add-mod (x + y) m) }

  pub same_minus : (x y : ℕ) {r : ℕ} → (r + y) % m ≡ x → Same m (pos r) (pos x -ℤ pos y)
  same_minus x y {r} e = record {
    less = 0;
    more = (r + y) / m;
    eq = omega (arith, add_split (pos x) (neg_ℤ (pos y)), up_neg (pos y), dn_neg (pos y), div-add-mod (r + y) m);
  }

  pub same_times : (x y : ℕ) {r : ℕ} → r ≡ x * y % m → Same m (pos r) (pos x *ℤ pos y)
  same_times x y e = record { less = x * y / m; more = 0; eq = omega (arith, div-add-mod (x * y) m) }

-- from a modulus to one that divides it
pub same_part : (c m : ℕ) {x y : ℤ} → Same (c * m) x y → Same m x y
same_part c m d = record { less = c * d.less; more = c * d.more; eq = omega (arith, d.eq) }

module _ (m : ℕ) (hm : 0 < m) where
  pub mod_part : (c : ℕ) → 0 < c * m → (z : ℤ) → modℤ z (c * m) % m ≡ modℤ z m
  mod_part c hc z = sym (mod_of m hm (same_part c m (same_residue (c * m) hc z)))

  pub mod_add : (x y : ℤ) → (modℤ x m + modℤ y m) % m ≡ modℤ (x +ℤ y) m
  mod_add x y = sym (mod_of m hm (same_add (same_residue m hm x) (same_residue m hm y)))

  pub mod_sub : (x y : ℕ) → modℤ (pos x -ℤ pos y) m ≡ (x + (m - y % m)) % m
  mod_sub x y =
      mod_of m hm {x = pos x -ℤ pos y} {y = pos (x + (m - y % m))}
      (record {
        less = y / m + 1;
        more = 0;
        eq = omega (arith, add_split (pos x) (neg_ℤ (pos y)), up_neg (pos y), dn_neg (pos y), div-add-mod y m, mod-lt y hm);
      })

  -- the residue of -x by what it adds up to with x
  pub mod_neg : (x r : ℕ) → r < m → (r + x) % m ≡ 0 → r ≡ modℤ (neg_ℤ (pos x)) m
  mod_neg x r hr e =
      sym (mod-eq_of_lt hr)
      ∙ mod_of m hm {x = pos r} {y = neg_ℤ (pos x)}
      (record { less = 0; more = (r + x) / m; eq = omega (arith, up_neg (pos x), dn_neg (pos x), div-add-mod (r + x) m) })
