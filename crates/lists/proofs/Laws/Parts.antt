-- The parts of a list: what `&s[a..e]` reads, and what `&mut s[a..e]`, lent to one call after another, leaves of the whole.
use Rattle.std.specs.Prelude.{ℕ, ◌+◌, ◌-◌, ◌≤◌, List, [], ◌++◌, ◌≡◌, refl, length, take, drop}
use Rattle.std.proofs.Common.{append_assoc, sym, ap, ◌∙◌, arith, length-append, length-drop, take_at, take_all, drop-drop, length-take-le}
use Rattle.std.proofs.Math.Nat.{add-sub_cancel_left}
use Rattle.lists.specs.Strings.{placed}
use Rattle.lists.proofs.Laws.Strings.{length_placed, placed_next}
use borrow.Rule.Slice.PartMut.{put_mid, mid_of, post_of, same_len_mid, mid_len}

-- the first e elements, the n from a on, and those from e on
pub first_part : (e : ℕ) (s : List ℕ) → take (e - 0) (drop 0 s) ≡ take e s
first_part e s = let same : e - 0 ≡ e = omega arith in ap (λ (n : ℕ). take n s) same

pub mid_part : (a n : ℕ) (s : List ℕ) → take (a + n - a) (drop a s) ≡ take n (drop a s)
mid_part a n s = rw add-sub_cancel_left

pub last_part : (e n : ℕ) (s : List ℕ) → length s ≡ n → take (n - e) (drop e s) ≡ drop e s
last_part e n s l = take_all (n - e) (drop e s) (simp length-drop (omega arith))

module _ (a e : ℕ) (s y : List ℕ) (h : a ≤ e) (g : e ≤ length s) (k : length y ≡ length (mid_of a (e - a) s)) where
  -- the whole is as long as before
  pub put_long : length (put_mid a (e - a) s y) ≡ length s
  put_long = same_len_mid a (e - a) s y k

  -- where the first a elements were p, the first e are now p and then y
  pub put_next : (p : List ℕ) → take a s ≡ p → take e (put_mid a (e - a) s y) ≡ p ++ y
  put_next p q =
      rw (← q, ← append_assoc (take a s) y (post_of a (e - a) s))
      (take_at (take a s ++ y) (post_of a (e - a) s) e
      (length-append (take a s) y ∙ rw (length-take-le a s (omega arith), k, mid_len a e s g) (omega arith)))

-- what is lent from `at` on and comes back as y, of n elements
pub put_placed : (at n : ℕ) (s y : List ℕ) → length y ≡ n → put_mid at (at + n - at) s y ≡ placed at y s
unfolding placed
put_placed at n s y l = rw (l, add-sub_cancel_left, drop-drop n at s, append_assoc)

-- all of the list is written
pub put_all : (e : ℕ) (s p : List ℕ) → length s ≤ e → take e s ≡ p → s ≡ p
put_all e s p h q = sym (take_all e s h) ∙ q

-- a list of N elements that is written from the front, string by string: its first n elements are p
pub record Prefix (N : ℕ) (s : List ℕ) (n : ℕ) (p : List ℕ) : Type 0 where
  pub size : length s ≡ N
  pub within : n ≤ N
  pub front : take n s ≡ p

pub prefix_none : (s : List ℕ) → Prefix (length s) s 0 []
prefix_none s = record { size = refl; within = omega arith; front = refl }

-- by a call to which the part from a to e was lent
pub prefix_part :
    {N a e : ℕ} {s p : List ℕ} (y : List ℕ) → Prefix N s a p → a ≤ e → e ≤ N → length y ≡ length (mid_of a (e - a) s) →
    Prefix N (put_mid a (e - a) s y) e (p ++ y)
prefix_part {N} {a} {e} {s} {p} y w h l k =
    let g : e ≤ length s = omega (arith, w.size) in
    record { size = put_long a e s y h g k ∙ w.size; within = l; front = put_next a e s y h g k p w.front }

-- by a copy to place a
pub prefix_copy :
    {N a e : ℕ} {s p : List ℕ} (y : List ℕ) → Prefix N s a p → e ≡ a + length y → e ≤ N → Prefix N (placed a y s) e (p ++ y)
prefix_copy {N} {a} {e} {s} {p} y w h l =
    let g : a + length y ≤ length s = omega (arith, w.size) in
    record { size = length_placed a y s g ∙ w.size; within = l; front = placed_next a y s g p e h w.front }

pub prefix_all : {N n : ℕ} {s p : List ℕ} → Prefix N s n p → N ≤ n → s ≡ p
prefix_all {N} {n} {s} {p} w h = put_all n s p (omega (arith, w.size)) w.front
