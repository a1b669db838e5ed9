-- Laws of the sponge: how long its output is, and that each element is a byte; the padding, and the loops that absorb and squeeze.
use Rattle.std.specs.Prelude.{◌≡◌, ℕ, zero, suc, ◌+◌, ◌-◌, ◌*◌, ◌/◌, ◌%◌, ◌<◌, ◌≤◌, set, replicate}
use Rattle.std.proofs.Math.Path.{refl, ap}
use Rattle.std.proofs.Common.{ap₂, sym, ◌∙◌, add-zero, div-add-mod', mod-eq_of_lt, drop_at}
use mathlib.Core.List.{List, [], ◌∷◌, ◌++◌, append_assoc}
use Rattle.std.proofs.Math.Nat.{add-div_right, mul-add-div_right, div-eq_of_lt, mul-add-mod_self_right}
use Rattle.std.proofs.Math.Numerals.{add-one}
use native.Mathlib.Omega.{arith}
use borrow.Rule.Slice.PartMut.{put_mid, mid_of}
use Rattle.std.proofs.Math.ListN.{length, take, drop, length-append, length-drop}
use Rattle.std.proofs.lemmas.List.{length-replicate, replicate-append-replicate, set_at, drop-append-le}
use Rattle.std.proofs.Math.Seq.{set-append_seam, append_snoc, length-take-le, take_all, take-append-le}
use Rattle.lists.specs.Numbers.{digit, digits, Below}
use Rattle.lists.specs.Strings.{placed}
use Rattle.lists.proofs.Laws.Lists.{length_from, from_at}
use Rattle.lists.proofs.Laws.Fill.{Filled, fill_part}
use Rattle.lists.proofs.Laws.Numbers.{digits_from}
use Rattle.lists.proofs.Laws.Parts.{mid_part, last_part}
use Rattle.lists.proofs.Laws.Strings.{placed_front}
use Rattle.keccak.specs.Keccak.{State, lane, keccak_f}
use Rattle.sponge.specs.Sponge.{mix, byte_at, padding, padded, absorbed, absorb, later, squeezed, sponge}

pub length_sponge : (r d : ℕ) (m : List ℕ) (n : ℕ) → length (sponge r d m n) ≡ n
unfolding sponge
length_sponge r d m n = length_from n _

pub sponge_below : (r d : ℕ) (m : List ℕ) (n : ℕ) → Below 256 (sponge r d m n)
unfolding sponge byte_at
sponge_below r d m n k h = rw (from_at n (squeezed r (absorb r d m)) 0 k (rw (length_sponge r d m n) at h)) (omega arith)

-- a string over zeros
pub over_zeros : (s : List ℕ) (n : ℕ) → length s ≤ n → placed 0 s (replicate n 0) ≡ s ++ replicate (n - length s) 0
over_zeros s n h =
    let k = n - length s in
    let e : n ≡ length s + k = omega arith in
    placed_front s (replicate n 0)
    ∙ ap (λ (z : List ℕ). s ++ drop (length s) z) (ap (λ (i : ℕ). replicate i 0) e ∙ sym (replicate-append-replicate (length s) k 0))
    ∙ ap (λ (z : List ℕ). s ++ z) (drop_at (replicate (length s) 0) (replicate k 0) (length s) (length-replicate (length s) 0))

-- the padding stored over zeros: one byte, and two or more
pub pad_one : (s : List ℕ) (d z : ℕ) → set (s ++ replicate (suc z) 0) (length s) (d + 128) ≡ s ++ (padding 1 d ++ replicate z 0)
unfolding padding
pad_one s d z = set-append_seam s 0 (replicate z 0) (d + 128)

pub pad_more :
    (s : List ℕ) (d k z : ℕ) →
    set (set (s ++ replicate (suc (k + suc z)) 0) (length s) d) (length s + suc k) 128 ≡ s ++ (padding (suc (suc k)) d ++ replicate z 0)
unfolding padding
pad_more s d k z =
    let p : List ℕ = s ++ (d ∷ replicate k 0) in
    let e : length p ≡ length s + suc k = simp (length-append, length-replicate) in
    rw (
      set-append_seam,
      ← replicate-append-replicate {A = ℕ} k (suc z) 0,
      ← append_assoc s (d ∷ replicate k 0),
      set_at p 0 (replicate z 0) 128 (length s + suc k) e,
      append_assoc s,
      append_snoc,
    )

length_padding : (q d : ℕ) → length (padding q d) ≡ q
unfolding padding
length_padding zero d = refl
length_padding (suc zero) d = refl
length_padding (suc (suc k)) d = ap suc (length-append (replicate k 0) (128 ∷ []) ∙ ap (λ (n : ℕ). n + 1) (length-replicate k 0) ∙ add-one k)

-- at is where a block starts
module _ (r at : ℕ) (pos : 0 < r) (starts : at % r ≡ 0) where
  place : at / r * r ≡ at
  place = omega (arith, div-add-mod' at r)

  -- place i of the block
  block_div : (i : ℕ) → i < r → (at + i) / r ≡ at / r
  block_div i h =
      ap (λ (n : ℕ). (n + i) / r) (sym place) ∙ mul-add-div_right pos (at / r) i ∙ ap (λ (n : ℕ). at / r + n) (div-eq_of_lt h) ∙ add-zero (at / r)

  block_mod : (i : ℕ) → i < r → (at + i) % r ≡ i
  block_mod i h = ap (λ (n : ℕ). (n + i) % r) (sym place) ∙ mul-add-mod_self_right (at / r) r i ∙ mod-eq_of_lt h

  absorb_next :
      (p : List ℕ) (a : State) → a ≡ absorbed r p (at / r) →
      keccak_f (mix a (take r (drop at p) ++ replicate (200 - r) 0)) ≡ absorbed r p ((at + r) / r)
  unfolding absorbed
  absorb_next p a e = rw (add-div_right at pos, add-one (at / r), place, e)

  -- the next r bytes of the output come from one state
  pub squeeze_at : (a : State) (i : ℕ) → i < r → byte_at (later (at / r) a) i ≡ squeezed r a (at + i)
  squeeze_at a i h = rw (block_div i h, block_mod i h)

  module _ (d : ℕ) (m b : List ℕ) (a : State) (e : a ≡ absorbed r (padded r d m) (at / r)) where
    -- a whole block of the message
    pub absorb_whole :
        at + r ≤ length m → b ≡ mid_of at (at + r - at) m ++ replicate (200 - length (mid_of at (at + r - at) m)) 0 →
        keccak_f (mix a b) ≡ absorbed r (padded r d m) ((at + r) / r)
    unfolding padded
    absorb_whole h q =
        let pad = padding (r - length m % r) d in
        let l : r ≤ length (drop at m) = omega (arith, length-drop at m) in
        let t : take r (drop at (m ++ pad)) ≡ take r (drop at m) =
        ap (take r) (drop-append-le at m pad (omega arith)) ∙ take-append-le r (drop at m) pad l in
        rw q (rw (mid_part at r m, length-take-le r (drop at m) l, ← t) (absorb_next (m ++ pad) a e))

    -- what is left behind the last whole block, and the padding
    pub absorb_end :
        at ≤ length m → length m - at < r →
        b ≡ mid_of at (length m - at) m ++ (padding (r - length (mid_of at (length m - at) m)) d ++ replicate (200 - r) 0) →
        keccak_f (mix a b) ≡ absorb r d m
    unfolding padded
    absorb_end l h q =
        let x = length m - at in
        let w : at + x ≡ length m = omega arith in
        let y : length m % r ≡ x = ap (λ (n : ℕ). n % r) (sym w) ∙ block_mod x h in
        let pad = padding (r - length m % r) d in
        let lp : length pad ≡ r - length m % r = length_padding (r - length m % r) d in
        let fits : length (drop at m ++ pad) ≤ r = omega (arith, length-append (drop at m) pad, length-drop at m, y, lp) in
        let t : take r (drop at (m ++ pad)) ≡ drop at m ++ pad = ap (take r) (drop-append-le at m pad l) ∙ take_all r (drop at m ++ pad) fits in
        let n : length (m ++ pad) ≡ at + r = length-append m pad ∙ omega (arith, y, lp) in
        rw q
        (rw (last_part at (length m) m refl, length-drop at m, ← y, n, ← append_assoc (drop at m) pad (replicate (200 - r) 0), ← t)
        (absorb_next (m ++ pad) a e))

-- the next bytes of a state, up to 8, come from one lane
pub lane_more :
    (a : State) (k : ℕ) {n e : ℕ} {s y : List ℕ} → 8 * k ≤ e → e ≤ 8 * k + 8 → e ≤ n → Filled n s (8 * k) (byte_at a) →
    y ≡ digits 256 (length (mid_of (8 * k) (e - 8 * k) s)) (lane a (k % 5) (k / 5)) → Filled n (put_mid (8 * k) (e - 8 * k) s y) e (byte_at a)
unfolding byte_at
lane_more a k h m l w q =
    fill_part h l w (q ∙ digits_from 256 _ _)
    (λ i p. ap₂ (λ (x y : ℕ). digit 256 (lane a (x % 5) (x / 5)) y) (omega arith) (omega arith))
