-- Laws of a door in its two fields, the short one and the wide one: its number says which of them has it.
use Rattle.std.specs.Prelude.{ℕ, zero, suc, ◌/◌, ◌<◌, ◌≤◌, true, not, ◌&&◌, Option, None, Some, unwrap_or, ◌≡◌, refl, eqb, ltb, leb}
use Rattle.std.proofs.lemmas.Bool.{false≢true, not-true, lt-leb}
use Rattle.std.specs.Bool.{then_some}
use Rattle.std.specs.Option.{option_or}
use Rattle.std.proofs.Math.Decide.{dec_lt}
use Rattle.std.proofs.Common.{arith, ltb-false, lt-ltb, le-ltb, le-leb}
use Rattle.record_format.specs.Records.{wide_from, short_door, wide_door, Fits}

-- a short door, and a wide one
pub is_short : (x : ℕ) → x < wide_from → (short_door (Some x) ≡ Some x) × (wide_door (Some x) ≡ None)
is_short x h = (rw (lt-ltb x wide_from h), rw (lt-leb wide_from x h))

pub is_wide : (x : ℕ) → wide_from ≤ x → (short_door (Some x) ≡ None) × (wide_door (Some x) ≡ Some x)
is_wide x h = (rw (le-ltb x wide_from h), rw (le-leb wide_from x h))

-- what holds of a missing door, of each short one and of each wide one, holds of every door and its two fields
pub by_width :
    (P : Option ℕ → Option ℕ → Option ℕ → Type 0) → P None None None → ((x : ℕ) → x < wide_from → P (Some x) (Some x) None) →
    ((x : ℕ) → wide_from ≤ x → P (Some x) None (Some x)) → (o : Option ℕ) → P o (short_door o) (wide_door o)
by_width P n s w None = n
by_width P n s w (Some x) = go (dec_lt x wide_from)
  where
    go : Dec (x < wide_from) → P (Some x) (short_door (Some x)) (wide_door (Some x))
    go (yes h) = let f = is_short x h in rw (f.0, f.1) (s x h)
    go (no h) =
        let l : wide_from ≤ x = omega arith in
        let f = is_wide x l in
        rw (f.0, f.1) (w x l)

-- the one that is there is the door
pub door_whole : (o : Option ℕ) → option_or (short_door o) (wide_door o) ≡ o
door_whole = by_width (λ o s w. option_or s w ≡ o) refl (λ x h. refl) (λ x h. refl)

-- each fits its field
pub doors_fit : (o : Option ℕ) → Fits 4 o → Fits 2 (short_door o) × Fits 4 (wide_door o)
doors_fit = by_width (λ o s w. Fits 4 o → Fits 2 s × Fits 4 w) (λ f. (tt, tt)) (λ x h f. (h, tt)) (λ x h f. (tt, f))

-- what a reader takes from the two fields, by their bits b and c, is written into them again
pub doors_again :
    (b c x y : ℕ) → b < 2 → c < 2 → not (eqb b 1 && eqb c 1) ≡ true → (b ≡ 1 → x < wide_from) →
    let o = option_or (then_some (eqb b 1) x) (then_some (eqb c 1) y) in
    not (eqb c 1 && ltb (unwrap_or o 0) wide_from) ≡ true → (short_door o ≡ then_some (eqb b 1) x) × (wide_door o ≡ then_some (eqb c 1) y)
doors_again zero zero x y hb hc h l w = (refl, refl)
doors_again (suc zero) zero x y hb hc h l w = is_short x (l refl)
doors_again zero (suc zero) x y hb hc h l w = is_wide y (ltb-false y wide_from (not-true (ltb y wide_from) w))
doors_again (suc zero) (suc zero) x y hb hc h l w = absurd (false≢true h)
doors_again (suc (suc b)) c x y hb hc h l w = absurd (omega arith)
doors_again zero (suc (suc c)) x y hb hc h l w = absurd (omega arith)
doors_again (suc zero) (suc (suc c)) x y hb hc h l w = absurd (omega arith)

-- by the upper half: a wide field, whose bit is b, does not hold 65535 or less
pub upper_half : (b x : ℕ) → b < 2 → leb b (x / wide_from) ≡ not (eqb b 1 && ltb x wide_from)
upper_half zero x h = le-leb 0 (x / wide_from) (omega arith)
upper_half (suc zero) x h = go (dec_lt x wide_from)
  where
    go : Dec (x < wide_from) → leb 1 (x / wide_from) ≡ not (ltb x wide_from)
    go (yes l) = rw (lt-ltb x wide_from l, lt-leb 1 (x / wide_from) (omega arith))
    go (no l) = rw (le-ltb x wide_from (omega arith), le-leb 1 (x / wide_from) (omega arith))
upper_half (suc (suc b)) x h = absurd (omega arith)
