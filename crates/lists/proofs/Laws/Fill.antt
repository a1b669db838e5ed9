-- A loop that writes a list from the front, one element a turn.
use Rattle.std.specs.Prelude.{ℕ, ◌+◌, ◌-◌, ◌<◌, ◌≤◌, Bool, true, false, cond, List, ◌++◌, ◌≡◌, length, get_or, set, take}
use Rattle.std.proofs.Common.{sym, ◌∙◌, ap, arith, length-set, get_or-set_same, get_or-set_other, ext_get_or, get_or-take, length-take-le}
use Rattle.std.proofs.Math.Decide.{dec_lt}
use borrow.Rule.Slice.PartMut.{put_mid, mid_of, mid_len}
use Rattle.lists.specs.Lists.{from}
use Rattle.lists.proofs.Laws.Lists.{from_at, from_cong, from_add, length_from}
use Rattle.lists.proofs.Laws.Parts.{put_long, put_next}

-- of the n elements of l the first i are f 0, .., f (i - 1)
pub record Filled {A : Type 0} (n : ℕ) (l : List A) (i : ℕ) (f : ℕ → A) : Type 0 where
  pub size : length l ≡ n
  pub within : i ≤ n
  pub at : (d : A) (k : ℕ) → k < i → get_or l k d ≡ f k

pub fill_none : {A : Type 0} {n : ℕ} {l : List A} {f : ℕ → A} → length l ≡ n → Filled n l 0 f
fill_none e = record { size = e; within = omega arith; at = λ d k h. absurd (omega arith) }

pub fill_more :
    {A : Type 0} {n i : ℕ} {v : A} {l : List A} {f : ℕ → A} → i < n → Filled n l i f → v ≡ f i → Filled n (set l i v) (i + 1) f
fill_more {A} {n} {i} {v} {l} {f} hi h e =
    record { size = length-set l i v ∙ h.size; within = omega arith; at = λ d k hk. go d k hk (dec_lt k i) }
  where
    go : (d : A) (k : ℕ) → k < i + 1 → Dec (k < i) → get_or (set l i v) k d ≡ f k
    go d k hk (yes p) = get_or-set_other l i k v d (λ q. omega arith) ∙ h.at d k p
    go d k hk (no q) =
        let s : i ≡ k = omega arith in
        ap (λ (j : ℕ). get_or (set l i v) j d) (sym s) ∙ get_or-set_same l i v d (omega (arith, h.size)) ∙ e ∙ ap f s

pub fill_all : {A : Type 0} {n i : ℕ} {l : List A} {f : ℕ → A} → n ≤ i → Filled n l i f → l ≡ from n f
fill_all {A} {n} {i} {l} {f} hi h =
    ext_get_or (f 0) l (from n f) (h.size ∙ sym (length_from n f))
    (λ k hk. h.at (f 0) k (omega (arith, h.size)) ∙ sym (from_at n f (f 0) k (omega (arith, h.size))))

-- where the elements are those of another list, and where they are those of one of two
fill_list : {n i : ℕ} {l s : List ℕ} → n ≤ i → length s ≡ n → Filled n l i (λ k. get_or s k 0) → l ≡ s
fill_list {l = l} {s} hi e h = ext_get_or 0 l s (h.size ∙ sym e) (λ k hk. h.at 0 k (omega (arith, h.size)))

pub fill_chosen :
    (flag : Bool) (a b : List ℕ) {n i : ℕ} {l : List ℕ} → length a ≡ n → length b ≡ n → n ≤ i →
    Filled n l i (λ k. cond flag (get_or a k 0) (get_or b k 0)) → l ≡ cond flag a b
fill_chosen true a b la lb hi h = fill_list hi la h
fill_chosen false a b la lb hi h = fill_list hi lb h

-- the part that is written already
pub fill_front : {n i : ℕ} {l : List ℕ} {f : ℕ → ℕ} → Filled n l i f → take i l ≡ from i f
fill_front {n} {i} {l} {f} h =
    ext_get_or 0 (take i l) (from i f) (e ∙ sym (length_from i f))
    (λ k hk. let p : k < i = omega (arith, e) in get_or-take i l k 0 p ∙ h.at 0 k p ∙ sym (from_at i f 0 k p))
  where
    e : length (take i l) ≡ i
    e = length-take-le i l (omega (arith, h.size, h.within))

-- a list written from the front by parts: y is put behind the first a elements
pub fill_part :
    {n a e : ℕ} {s y : List ℕ} {f g : ℕ → ℕ} → a ≤ e → e ≤ n → Filled n s a f → y ≡ from (length (mid_of a (e - a) s)) g →
    ((i : ℕ) → i < e - a → g i ≡ f (a + i)) → Filled n (put_mid a (e - a) s y) e f
fill_part {n} {a} {e} {s} {y} {f} {g} h l w q same =
    record {
      size = put_long a e s y h fits long ∙ w.size;
      within = l;
      at = λ d i hi. sym (get_or-take e _ i d hi) ∙ ap (λ (t : List ℕ). get_or t i d) front ∙ from_at e f d i hi;
    }
  where
    fits : e ≤ length s
    fits = omega (arith, w.size)

    long : length y ≡ length (mid_of a (e - a) s)
    long = ap length q ∙ length_from _ g

    whole : a + (e - a) ≡ e
    whole = omega arith

    front : take e (put_mid a (e - a) s y) ≡ from e f
    front =
        put_next a e s y h fits long (from a f) (fill_front w)
        ∙ ap (λ (t : List ℕ). from a f ++ t) (rw (mid_len a e s fits) at q ∙ from_cong (e - a) g (λ i. f (a + i)) same)
        ∙ sym (from_add a (e - a) f)
        ∙ ap (λ (t : ℕ). from t f) whole
