-- Laws of strings: the comparison says yes of equal strings alone, and it is made byte by byte; what a string written at a place changes.
use Rattle.std.specs.Prelude.{ℕ, zero, suc, ◌+◌, ◌-◌, ◌<◌, ◌≤◌, Bool, true, ◌&&◌, List, [], ◌∷◌, ◌++◌, ◌⊎◌, ◌≡◌, refl, eqb, take, drop, get_or}
use Rattle.std.proofs.lemmas.Bool.{false≢true}
use Rattle.std.proofs.Common.{append_assoc, append-nil, inl, inr, ap, ap₂, sym, ◌∙◌, add_assoc, zero-add, add-one, arith, length-append, drop_of_length-le, take_all, take_at, length-take-le, drop-drop, get_or-take, get_or-drop, ext_get_or, eq-eqb, eqb-true}
use Rattle.std.proofs.Math.Decide.{dec_lt}
use Rattle.std.specs.Int.Bits.{bit_or, bit_xor}
use Rattle.std.proofs.Math.ListN.{length}
use Rattle.std.proofs.Math.Seq.{paste, take-append_seam, take-length, drop_at}
use Rattle.std.proofs.lemmas.List.Edits.{take-paste, drop-paste, length-paste}
use Rattle.lists.specs.Strings.{same, placed}
use Rattle.lists.proofs.Laws.Booleans.{and_left, and_right, and_true, and_assoc}
use Rattle.lists.proofs.Laws.Bits.{gathered}

pub same_refl : (a : List ℕ) → same a a ≡ true
unfolding same
same_refl [] = refl
same_refl (x ∷ xs) = simp (eq-eqb x x refl, same_refl xs)

pub same_true : (a b : List ℕ) → same a b ≡ true → a ≡ b
unfolding same
same_true [] [] h = refl
same_true [] (y ∷ b) h = absurd (false≢true h)
same_true (x ∷ a) [] h = absurd (false≢true h)
same_true (x ∷ a) (y ∷ b) h =
    ap₂ ◌∷◌ (eqb-true x y (and_left (eqb x y) (same a b) h)) (same_true a b (and_right (eqb x y) (same a b) h))

-- the first bytes, and one more
front_more :
    (a b : List ℕ) (i : ℕ) → i < length a → i < length b →
    same (take (suc i) a) (take (suc i) b) ≡ same (take i a) (take i b) && eqb (get_or a i 0) (get_or b i 0)
unfolding same
front_more [] b i h k = absurd (omega arith)
front_more (x ∷ a) [] i h k = absurd (omega arith)
front_more (x ∷ a) (y ∷ b) zero h k = and_true (eqb x y)
front_more (x ∷ a) (y ∷ b) (suc i) h k =
    ap (λ (c : Bool). eqb x y && c) (front_more a b i (omega arith) (omega arith)) ∙ and_assoc (eqb x y) _ _

pub same_more :
    (a b : List ℕ) (i bits : ℕ) → i < length a → length a ≡ length b → eqb bits 0 ≡ same (take i a) (take i b) →
    eqb (bit_or bits (bit_xor (get_or a i 0) (get_or b i 0))) 0 ≡ same (take (i + 1) a) (take (i + 1) b)
same_more a b i bits h l e =
    gathered bits (get_or a i 0) (get_or b i 0) ∙ rw (e, add-one i) (sym (front_more a b i h (omega arith)))

-- all bytes
pub same_all : (a b : List ℕ) (i : ℕ) → length a ≤ i → length a ≡ length b → same (take i a) (take i b) ≡ same a b
same_all a b i h l = rw (take_all i a h, take_all i b (omega arith))

-- a string written at a place: as a copy of all its bytes
pub placed_paste : (at : ℕ) (s out : List ℕ) → paste out at s (length s) ≡ placed at s out
unfolding placed
placed_paste at s out = rw (take-length s)

module _ (at : ℕ) (s out : List ℕ) (h : at + length s ≤ length out) where
  -- the whole is as long as before
  pub length_placed : length (placed at s out) ≡ length out
  length_placed = rw (← placed_paste at s out) (length-paste out at s (length s) h (omega arith))

  -- where the first bytes were p, p and then s are now first
  pub placed_next : (p : List ℕ) (e : ℕ) → e ≡ at + length s → take at out ≡ p → take e (placed at s out) ≡ p ++ s
  placed_next p e k q =
      rw (k, ← placed_paste at s out, ← q)
      (take-paste out at s (length s) (omega arith) (omega arith) ∙ ap (λ (t : List ℕ). take at out ++ t) (take-length s))

  -- before s and behind it all is as it was
  placed_before : take at (placed at s out) ≡ take at out
  unfolding placed
  placed_before =
      rw (append_assoc (take at out) s (drop (at + length s) out)) (take_at (take at out) _ at (length-take-le at out (omega arith)))

  placed_behind : drop (at + length s) (placed at s out) ≡ drop (at + length s) out
  placed_behind = rw (← placed_paste at s out) (drop-paste out at s (length s) (omega arith) (omega arith))

  -- and at its place stands s
  pub placed_there : take (length s) (drop at (placed at s out)) ≡ s
  unfolding placed
  placed_there =
      rw (append_assoc (take at out) s (drop (at + length s) out), drop_at (take at out) _ at (length-take-le at out (omega arith)))
      (take-append_seam s (drop (at + length s) out))

  -- byte by byte
  pub placed_inside : (k : ℕ) → k < length s → get_or (placed at s out) (at + k) 0 ≡ get_or s k 0
  placed_inside k q =
      sym (get_or-drop at (placed at s out) k 0) ∙ sym (get_or-take (length s) _ k 0 q) ∙ ap (λ (t : List ℕ). get_or t k 0) placed_there

  pub placed_outside : (k : ℕ) → (k < at) ⊎ (at + length s ≤ k) → get_or (placed at s out) k 0 ≡ get_or out k 0
  placed_outside k (inl q) = sym (get_or-take at _ k 0 q) ∙ ap (λ (t : List ℕ). get_or t k 0) placed_before ∙ get_or-take at out k 0 q
  placed_outside k (inr q) =
      let e : at + length s + (k - (at + length s)) ≡ k = omega arith in
      rw (← e, ← get_or-drop (at + length s) (placed at s out), ← get_or-drop (at + length s) out, placed_behind)

-- a string right behind another: as one string
pub placed_more :
    (at : ℕ) (a b out : List ℕ) → at + length a + length b ≤ length out →
    placed (at + length a) b (placed at a out) ≡ placed at (a ++ b) out
unfolding placed
placed_more at a b out h =
    let g : at + length a ≤ length out = omega arith in
    rw (
      placed_next at a out g (take at out) (at + length a) refl refl,
      ← drop-drop (length b) (at + length a) (placed at a out),
      placed_behind at a out g,
      drop-drop (length b) (at + length a) out,
      length-append a b,
      append_assoc (take at out) a b,
      add_assoc at (length a) (length b),
    )

-- where two wholes agree, they agree after the same string is written
module _ (at : ℕ) (s x y : List ℕ) (h : at + length s ≤ length x) (l : length y ≡ length x) where
  alike : (k : ℕ) → get_or x k 0 ≡ get_or y k 0 → get_or (placed at s x) k 0 ≡ get_or (placed at s y) k 0
  alike k e = go (dec_lt k at) (dec_lt k (at + length s))
    where
      off : (k < at) ⊎ (at + length s ≤ k) → get_or (placed at s x) k 0 ≡ get_or (placed at s y) k 0
      off o = placed_outside at s x h k o ∙ e ∙ sym (placed_outside at s y (omega arith) k o)

      go : Dec (k < at) → Dec (k < at + length s) → get_or (placed at s x) k 0 ≡ get_or (placed at s y) k 0
      go (yes p) d = off (inl p)
      go (no p) (no q) = off (inr (omega arith))
      go (no p) (yes q) =
          let i : at + (k - at) ≡ k = omega arith in
          rw (← i) (placed_inside at s x h (k - at) (omega arith) ∙ sym (placed_inside at s y (omega arith) (k - at) (omega arith)))

-- two strings that do not meet may be written in either order
pub placed_apart :
    (at at' : ℕ) (a b out : List ℕ) → at + length a ≤ at' → at' + length b ≤ length out →
    placed at a (placed at' b out) ≡ placed at' b (placed at a out)
placed_apart at at' a b out h g =
    ext_get_or 0 _ _ (length_placed at a x fx ∙ lx ∙ sym ly ∙ sym (length_placed at' b y fy)) (λ k hk. go k (dec_lt k at'))
  where
    x : List ℕ
    x = placed at' b out

    y : List ℕ
    y = placed at a out

    f : at + length a ≤ length out
    f = omega arith

    lx : length x ≡ length out
    lx = length_placed at' b out g

    ly : length y ≡ length out
    ly = length_placed at a out f

    fx : at + length a ≤ length x
    fx = omega (arith, lx)

    fy : at' + length b ≤ length y
    fy = omega (arith, ly)

    go : (k : ℕ) → Dec (k < at') → get_or (placed at a x) k 0 ≡ get_or (placed at' b y) k 0
    go k (yes p) = alike at a x out fx (sym lx) k (placed_outside at' b out g k (inl p)) ∙ sym (placed_outside at' b y fy k (inl p))
    go k (no p) =
        let q : at + length a ≤ k = omega arith in
        placed_outside at a x fx k (inr q) ∙ alike at' b out y g ly k (sym (placed_outside at a out f k (inr q)))

-- from the front, and over the whole
pub placed_front : (s out : List ℕ) → placed 0 s out ≡ s ++ drop (length s) out
unfolding placed
placed_front s out = rw (zero-add (length s))

pub placed_whole : (s out : List ℕ) → length out ≡ length s → placed 0 s out ≡ s
placed_whole s out l = placed_front s out ∙ rw (drop_of_length-le out {i = length s} (omega arith)) (append-nil s)

-- one string in front and another behind it, which fill the whole
pub placed_two :
    (n : ℕ) (a b out : List ℕ) {first whole : List ℕ} → length a ≡ n → length out ≡ n + length b → first ≡ placed 0 a out →
    whole ≡ placed n b first → whole ≡ a ++ b
placed_two n a b out la l p q =
    let e : 0 + length a ≡ n = omega arith in
    q ∙ rw p (rw e at (placed_more 0 a b out (omega arith))) ∙ placed_whole (a ++ b) out (rw (length-append a b) (omega arith))
