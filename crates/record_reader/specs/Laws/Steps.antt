-- The steps of reading: what the code reads of a record, one number after another, is the definition.
use Rattle.std.specs.Prelude.{ℕ, ◌+◌, ◌-◌, ◌^◌, ◌<◌, ◌≤◌, not, ◌&&◌, Option, None, Some, List, ◌≡◌, refl, eqb, ltb, length, take, drop}
use Rattle.std.specs.Bool.{then_some}
use Rattle.std.specs.Option.{option_or}
use Rattle.std.proofs.Common.{sym, ap, ◌∙◌, lt_of_lt_of_le, arith, length-take, length-drop, drop_of_length-le, take_all, eq-eqb, ne_eqb}
use Rattle.std.proofs.Math.Nat.{pow-le-pow_right, one-le-pow, min-le_left}
use Rattle.std.proofs.Math.Seq.{take-nil}
use Rattle.lists.specs.Numbers.{number, digit}
use Rattle.lists.proofs.Laws.Parts.{last_part}
use Rattle.record_format.specs.Records.{stands, is_map}

-- a number whose bit b stands, and one whose bit does not
pub there : (m k : ℕ) {b v x : ℕ} → b ≡ digit 2 m k → b ≡ 1 → v ≡ x → Some v ≡ then_some (stands m k) x
there m k e t q = rw (eq-eqb (digit 2 m k) 1 (sym e ∙ t), q)

pub missing : (m k x : ℕ) {b : ℕ} → b ≡ digit 2 m k → (b ≡ 1 → ⊥) → None ≡ then_some (stands m k) x
missing m k x e t = rw (ne_eqb (digit 2 m k) 1 (λ q. t (e ∙ q)))

-- the first of two numbers is there, or the second counts
pub first : (a b : Option ℕ) {x : ℕ} → Some x ≡ a → Some x ≡ option_or a b
first a b e = rw (← e)

pub second : (a b : Option ℕ) {o : Option ℕ} → None ≡ a → o ≡ b → o ≡ option_or a b
second a b e f = rw (← e) f

-- a number of n bytes at a place, as far as there are any
module _ (s : List ℕ) (at n : ℕ) where
  pub clipped :
      {y : List ℕ} {r : ℕ} → y ≡ take n (drop at s) → (r ≡ number 256 y) × (r < 256 ^ length y) →
      (r ≡ number 256 (take n (drop at s))) × (r < 256 ^ n)
  clipped {y} {r} e h =
      let few : length y ≤ n = rw (e, length-take) (min-le_left _ _) in
      (h.0 ∙ ap (number 256) e, lt_of_lt_of_le h.1 (pow-le-pow_right (omega arith) few))

  -- up to the end, and past it
  pub to_end : length s ≤ at + n → take (length s - at) (drop at s) ≡ take n (drop at s)
  to_end h = last_part at (length s) s refl ∙ sym (take_all n (drop at s) (simp length-drop (omega arith)))

  pub past : length s ≤ at → (0 ≡ number 256 (take n (drop at s))) × (0 < 256 ^ n)
  unfolding number
  past h = (rw (drop_of_length-le s h, take-nil), one-le-pow n 256 (omega arith))

-- the tests of a map, by its bits
pub map_tests :
    (m : ℕ) {b c d e : ℕ} → b ≡ digit 2 m 0 → c ≡ digit 2 m 4 → d ≡ digit 2 m 2 → e ≡ digit 2 m 3 →
    ltb m 32 && not (eqb b 1 && eqb c 1) && eqb d 1 && eqb e 1 ≡ is_map m
map_tests m eb ec ed ee = rw (eb, ec, ed, ee)
