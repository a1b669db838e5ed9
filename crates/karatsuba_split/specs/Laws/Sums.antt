-- The laws of sums that are written behind what is added.
use Rattle.std.specs.Prelude.{◌≡◌, ℕ, ◌+◌, ◌-◌, ◌%◌, ◌<◌, ◌≤◌, List, ◌++◌, length, slice_index}
use Rattle.std.proofs.Common.{sym, ◌∙◌, ap, ap₂, arith, length-append}
use Rattle.std.proofs.lemmas.List.{get_or_append_left, get_or-append_right}
use Rattle.lists.specs.Lists.{from}
use Rattle.lists.proofs.Laws.Lists.{from_at, length_from}
use Rattle.karatsuba_base.specs.Ensures.{Put}
use Rattle.karatsuba_base.specs.Laws.Put.{put_next, put_to}

-- 24 sums more, of places that are not written
pub sums_next :
    (x y : ℕ) {at n : ℕ} {r w w' w'' : List ℕ} → x + n + 24 ≤ at → y + n + 24 ≤ at →
    Put at n (λ (k : ℕ). (slice_index w (x + k) + slice_index w (y + k)) % 65536) w w' →
    r ≡ from 24 (λ (k : ℕ). (slice_index w' (x + n + k) + slice_index w' (y + n + k)) % 65536) →
    Put (at + n) (length r) (λ (k : ℕ). slice_index r k) w' w'' →
    Put at (n + 24) (λ (k : ℕ). (slice_index w (x + k) + slice_index w (y + k)) % 65536) w w''
sums_next x y {at} {n} {r} {w} {w'} hx hy h e s =
    put_next h (put_to (ap length e ∙ length_from 24 _) s) (λ k hk.
    ap (λ (l : List ℕ). slice_index l k) e ∙ from_at 24 _ 0 k hk ∙ ap₂ (λ (u v : ℕ). (u + v) % 65536) (old x k hx hk) (old y k hy hk))
  where
    old : (z k : ℕ) → z + n + 24 ≤ at → k < 24 → slice_index w' (z + n + k) ≡ slice_index w (z + (n + k))
    old z k hz hk =
        let d : z + n + k ≡ z + (n + k) = omega arith in
        h.below (z + n + k) (omega arith) ∙ ap (λ (j : ℕ). slice_index w j) d

-- a place of the first part, and one behind it
front_at : {at : ℕ} (front s : List ℕ) (p : ℕ) → length front ≡ at → p < at → slice_index (front ++ s) p ≡ slice_index front p
front_at front s p l h = get_or_append_left front s 0 p (omega arith)

behind_at : {at : ℕ} (front s : List ℕ) (p k : ℕ) → length front ≡ at → at + k ≡ p → slice_index (front ++ s) p ≡ slice_index s k
behind_at {at} front s p k l h =
    let d : p - at ≡ k = omega arith in
    rw d at (get_or-append_right front s at p 0 l (omega arith))

-- the first m places of what stands behind the first `at` ones are written with sums of those
pub sums_behind :
    (x y : ℕ) {at m : ℕ} (front back sums w : List ℕ) → w ≡ front ++ back → length front ≡ at → x + m ≤ at → y + m ≤ at →
    Put 0 m (λ (k : ℕ). (slice_index front (x + k) + slice_index front (y + k)) % 65536) back sums →
    Put at m (λ (k : ℕ). (slice_index w (x + k) + slice_index w (y + k)) % 65536) w (front ++ sums)
sums_behind x y {at} {m} front back sums w e l hx hy h = record {
  size = omega (arith, length-append front sums, length-append front back, h.size, ap length e);
  value = λ k hk.
      let z : 0 + k ≡ k = omega arith in
      behind_at front sums (at + k) k l (omega arith) ∙ (rw z at (h.value k hk))
      ∙ ap₂ (λ (u v : ℕ). (u + v) % 65536) (sym (was (x + k) (omega arith))) (sym (was (y + k) (omega arith)));
  below = λ p hp. front_at front sums p l hp ∙ sym (was p hp);
  above = λ p hp.
      let d : at + (p - at) ≡ p = omega arith in
      behind_at front sums p (p - at) l d ∙ h.above (p - at) (omega arith)
      ∙ sym (ap (λ (s : List ℕ). slice_index s p) e ∙ behind_at front back p (p - at) l d);
}
  where
    was : (p : ℕ) → p < at → slice_index w p ≡ slice_index front p
    was p hp = ap (λ (s : List ℕ). slice_index s p) e ∙ front_at front back p l hp
