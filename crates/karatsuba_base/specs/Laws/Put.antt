-- Laws of lists that are written place by place.
use Rattle.std.specs.Prelude.{◌≡◌, ℕ, ◌+◌, ◌-◌, ◌<◌, ◌≤◌, ◌⊎◌, List, length, drop, replicate, slice_index, slice_range, slice_set, refl}
use Rattle.std.proofs.Common.{inl, inr, sym, ◌∙◌, ap, arith, length-set, length-take, length-drop, get_or-set_same, get_or-set_other, get_or-take, get_or-drop, ext_get_or}
use Rattle.std.proofs.Math.Decide.{dec_lt}
use Rattle.std.proofs.lemmas.List.{length-replicate, get_or-replicate}
use Rattle.std.proofs.Math.ListN.{get_or-eq_default}
use Rattle.lists.specs.Lists.{from}
use Rattle.lists.proofs.Laws.Lists.{from_at, length_from}
use Rattle.karatsuba_base.specs.Ensures.{Put}

-- the place that is written, and any other
pub here : (w : List ℕ) (i k v : ℕ) → i < length w → k ≡ i → slice_index (slice_set w i v) k ≡ v
here w i k v h e = rw e (get_or-set_same w i v 0 h)

pub else : (w : List ℕ) (i k v : ℕ) → (k < i) ⊎ (i < k) → slice_index (slice_set w i v) k ≡ slice_index w k
else w i k v h = get_or-set_other w i k v 0 (λ e. go e h)
  where
    go : k ≡ i → (k < i) ⊎ (i < k) → ⊥
    go e (inl p) = omega arith
    go e (inr p) = omega arith

abbrev pub zeros : ℕ → List ℕ
zeros n = replicate n 0

pub zeros_at : (n k : ℕ) → slice_index (zeros n) k ≡ 0
zeros_at n k = go (dec_lt k n)
  where
    go : Dec (k < n) → slice_index (zeros n) k ≡ 0
    go (yes h) = get_or-replicate {A = ℕ} n k 0 0 h
    go (no h) = get_or-eq_default (zeros n) 0 (omega (arith, length-replicate {A = ℕ} n 0))

-- place k of a part, which is place j of the whole
pub part_at : (s e : ℕ) (w : List ℕ) {k j : ℕ} → k < e - s → s + k ≡ j → slice_index (slice_range w s e) k ≡ slice_index w j
part_at s e w {k} h d = get_or-take (e - s) (drop s w) k 0 h ∙ get_or-drop s w k 0 ∙ ap (λ (i : ℕ). slice_index w i) d

pub put_none : {at : ℕ} {f : ℕ → ℕ} {w : List ℕ} → Put at 0 f w w
put_none = record { size = refl; value = λ k h. absurd (omega arith); below = λ p h. refl; above = λ p h. refl }

pub put_more :
    {at n v : ℕ} {f : ℕ → ℕ} {w w' : List ℕ} → at + n < length w → Put at n f w w' → v ≡ f n → Put at (n + 1) f w (slice_set w' (at + n) v)
put_more {at} {n} {v} {f} {w} {w'} l h e = record {
  size = length-set w' (at + n) v ∙ h.size;
  value = λ k hk. go k hk (dec_lt k n);
  below = λ p hp. else w' (at + n) p v (inl (omega arith)) ∙ h.below p hp;
  above = λ p hp. else w' (at + n) p v (inr (omega arith)) ∙ h.above p (omega arith);
}
  where
    go : (k : ℕ) → k < n + 1 → Dec (k < n) → slice_index (slice_set w' (at + n) v) (at + k) ≡ f k
    go k hk (yes p) = else w' (at + n) (at + k) v (inl (omega arith)) ∙ h.value k p
    go k hk (no q) =
        let d : n ≡ k = omega arith in
        here w' (at + n) (at + k) v (omega (arith, h.size)) (omega arith) ∙ e ∙ ap f d

-- one part and then the next
pub put_next :
    {at n m : ℕ} {f g : ℕ → ℕ} {w w' w'' : List ℕ} → Put at n f w w' → Put (at + n) m g w' w'' → ((k : ℕ) → k < m → g k ≡ f (n + k)) →
    Put at (n + m) f w w''
put_next {at} {n} {m} {f} {g} {w} {w'} {w''} h s e = record {
  size = s.size ∙ h.size;
  value = λ k hk. go k hk (dec_lt k n);
  below = λ p hp. s.below p (omega arith) ∙ h.below p hp;
  above = λ p hp. s.above p (omega arith) ∙ h.above p (omega arith);
}
  where
    go : (k : ℕ) → k < n + m → Dec (k < n) → slice_index w'' (at + k) ≡ f k
    go k hk (yes p) = s.below (at + k) (omega arith) ∙ h.value k p
    go k hk (no q) =
        let d : at + k ≡ at + n + (k - n) = omega arith in
        let c : n + (k - n) ≡ k = omega arith in
        ap (λ (j : ℕ). slice_index w'' j) d ∙ s.value (k - n) (omega arith) ∙ e (k - n) (omega arith) ∙ ap f c

-- a part of r, written
pub put_part :
    (s e : ℕ) (r : List ℕ) {at n : ℕ} {w w' : List ℕ} → e ≤ length r → e - s ≡ n →
    Put at (length (slice_range r s e)) (λ (k : ℕ). slice_index (slice_range r s e) k) w w' → Put at n (λ (k : ℕ). slice_index r (s + k)) w w'
put_part s e r l d h =
    let long : length (slice_range r s e) ≡ e - s = simp (length-take, length-drop) (omega arith) in
    record {
      size = h.size;
      value = λ k hk. h.value k (omega (arith, long)) ∙ part_at s e r (omega arith) refl;
      below = h.below;
      above = λ p hp. h.above p (omega (arith, long));
    }

pub put_to : {at n m : ℕ} {f : ℕ → ℕ} {w w' : List ℕ} → n ≡ m → Put at n f w w' → Put at m f w w'
put_to e h = rw e at h

-- the whole list
pub put_all : {n : ℕ} {f : ℕ → ℕ} {w w' : List ℕ} → length w ≡ n → Put 0 n f w w' → w' ≡ from n f
put_all {n} {f} {w} {w'} l h =
    ext_get_or 0 w' (from n f) (h.size ∙ l ∙ sym (length_from n f)) (λ k hk.
    let p : k < n = omega (arith, h.size) in
    let e : 0 + k ≡ k = omega arith in
    (rw e at (h.value k p)) ∙ sym (from_at n f 0 k p))
