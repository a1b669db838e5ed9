-- Laws of the operands laid chunk by chunk.
use Rattle.std.specs.Prelude.{◌≡◌, ℕ, ◌+◌, ◌*◌, ◌/◌, ◌%◌, ◌<◌, ◌≤◌, List, length, drop, pos, slice_index, slice_set, refl}
use Rattle.std.proofs.Common.{inl, sym, ◌∙◌, ap, mul-suc, mul-le-mul_left, mod-lt, arith, length-set, get_or-take, get_or-drop, lt-ltb, le-ltb}
use Rattle.std.proofs.Math.Decide.{dec_lt}
use Rattle.std.proofs.Math.Nat.{div-add-mod}
use Rattle.std.proofs.Math.ListN.{get_or-eq_default}
use Rattle.algebra.specs.Ring.{poly}
use Rattle.karatsuba_base.specs.Layout.{reads, offset, operand, Blank}
use Rattle.karatsuba_base.specs.Ensures.{Put}
use Rattle.karatsuba.specs.Ensures.{Chunk, LaidChunk, Laid, source}
use Rattle.karatsuba_base.specs.Laws.Put.{here, else}
use Rattle.karatsuba_base.specs.Laws.Places.{offset_is, operand_at, operand_past}

module _ {f : List ℕ} {s : ℕ} where
  pub chunk_none : {r : List ℕ} → length r ≡ 24 → ((t : ℕ) → slice_index r t ≡ 0) → Chunk f s 0 r
  chunk_none l z = record { size = l; zero = λ t h. z t; value = λ t h. absurd (omega arith) }

  pub chunk_more : {n v : ℕ} {r : List ℕ} → n < 16 → Chunk f s n r → v ≡ slice_index f (s + n) → Chunk f s (n + 1) (slice_set r (n + 8) v)
  chunk_more {n} {v} {r} hn h e = record {
    size = length-set r (n + 8) v ∙ h.size;
    zero = λ t ht. else r (n + 8) t v (inl (omega arith)) ∙ h.zero t ht;
    value = λ t ht. go t (dec_lt t n) ht;
  }
    where
      go : (t : ℕ) → Dec (t < n) → t < n + 1 → slice_index (slice_set r (n + 8) v) (t + 8) ≡ slice_index f (s + t)
      go t (yes p) ht = else r (n + 8) (t + 8) v (inl (omega arith)) ∙ h.value t p
      go t (no q) ht =
          let d : t ≡ n = omega arith in
          rw d (here r (n + 8) (n + 8) v (omega (arith, h.size)) refl ∙ e)

-- ---- chunk g of each operand
pub laid_none : {f : ℕ → List ℕ} {g at : ℕ} {w : List ℕ} → LaidChunk f g 0 at w w
laid_none = record { size = refl; zero = λ i t h. absurd (omega arith); value = λ i t h. absurd (omega arith); below = λ p h. refl }

pub laid_more :
    {f : ℕ → List ℕ} {g n at s : ℕ} {c r w w' w'' : List ℕ} → LaidChunk f g n at w w' → Chunk c s 16 r →
    Put (at + 24 * n) (length r) (λ (k : ℕ). slice_index r k) w' w'' → ((t : ℕ) → t < 16 → slice_index c (s + t) ≡ slice_index (f n) (16 * g + t)) →
    LaidChunk f g (n + 1) at w w''
laid_more {f} {g} {n} {at} {s} {c} {r} {w} {w'} {w''} h l u e = record {
  size = u.size ∙ h.size;
  zero = λ i t hi ht. zero_at i t hi ht (dec_lt i n);
  value = λ i t hi ht. value_at i t hi ht (dec_lt i n);
  below = λ p hp. u.below p (omega arith) ∙ h.below p hp;
}
  where
    zero_at : (i t : ℕ) → i < n + 1 → t < 8 → Dec (i < n) → slice_index w'' (at + 24 * i + t) ≡ 0
    zero_at i t hi ht (yes p) = u.below (at + 24 * i + t) (omega arith) ∙ h.zero i t p ht
    zero_at i t hi ht (no p) =
        let d : i ≡ n = omega arith in
        rw d (u.value t (omega (arith, l.size)) ∙ l.zero t ht)

    value_at : (i t : ℕ) → i < n + 1 → t < 16 → Dec (i < n) → slice_index w'' (at + 24 * i + 8 + t) ≡ slice_index (f i) (16 * g + t)
    value_at i t hi ht (yes p) = u.below (at + 24 * i + 8 + t) (omega arith) ∙ h.value i t p ht
    value_at i t hi ht (no p) =
        let d : i ≡ n = omega arith in
        let q : at + 24 * n + 8 + t ≡ at + 24 * n + (t + 8) = omega arith in
        rw (d, q) (u.value (t + 8) (omega (arith, l.size)) ∙ l.value t ht ∙ e t ht)

-- ---- all chunks
module _ {rows : ℕ} {f : ℕ → List ℕ} {w : List ℕ} where
  pub lay_none : Laid rows f 0 w w
  lay_none = record { size = refl; zero = λ g i t h. absurd (omega arith); value = λ g i t h. absurd (omega arith) }

  pub lay_more :
      {n : ℕ} {w' w'' : List ℕ} → Laid rows f n w w' → LaidChunk f n (rows + 1) (24 * ((rows + 1) * n)) w' w'' → Laid rows f (n + 1) w w''
  lay_more {n} {w'} {w''} h u = record {
    size = u.size ∙ h.size;
    zero = λ g i t hg hi ht. zero_at g i t hg hi ht (dec_lt g n);
    value = λ g i t hg hi ht. value_at g i t hg hi ht (dec_lt g n);
  }
    where
      before : (g i t : ℕ) → g < n → i ≤ rows → t < 24 → 24 * ((rows + 1) * g) + 24 * i + t < 24 * ((rows + 1) * n)
      before g i t hg hi ht = omega (arith, mul-le-mul_left (rows + 1) hg, mul-suc (rows + 1) g)

      zero_at : (g i t : ℕ) → g < n + 1 → i ≤ rows → t < 8 → Dec (g < n) → slice_index w'' (24 * ((rows + 1) * g) + 24 * i + t) ≡ 0
      zero_at g i t hg hi ht (yes p) = u.below _ (before g i t p hi (omega arith)) ∙ h.zero g i t p hi ht
      zero_at g i t hg hi ht (no p) = let d : g ≡ n = omega arith in rw d (u.zero i t (omega arith) ht)

      value_at :
          (g i t : ℕ) → g < n + 1 → i ≤ rows → t < 16 → Dec (g < n) →
          slice_index w'' (24 * ((rows + 1) * g) + 24 * i + 8 + t) ≡ slice_index (f i) (16 * g + t)
      value_at g i t hg hi ht (yes p) =
          u.below _ (omega (arith, before g i (8 + t) p hi (omega arith))) ∙ h.value g i t p hi ht
      value_at g i t hg hi ht (no p) = let d : g ≡ n = omega arith in rw d (u.value i t (omega arith) ht)

  -- so they stand as operands, with their zeros
  module _ {w' : List ℕ} (h : Laid rows f 16 w w') where
    pub laid_blank : Blank (24 * (rows * 16 + 16)) w' 0
    laid_blank p hp hz =
        let x = p / 24 in
        let g = x / (rows + 1) in
        let i = x % (rows + 1) in
        let dx : (rows + 1) * g + i ≡ x = div-add-mod x (rows + 1) in
        let hi : i < rows + 1 = mod-lt x (omega arith) in
        let e : 0 + p ≡ 24 * ((rows + 1) * g) + 24 * i + p % 24 = omega arith in
        rw e (h.zero g i (p % 24) (chunks g i (dec_lt g 16) hi (omega arith)) (omega arith) hz)
      where
        chunks : (g i : ℕ) → Dec (g < 16) → i < rows + 1 → (rows + 1) * g + i < 16 * (rows + 1) → g < 16
        chunks g i (yes l) hi hx = l
        chunks g i (no l) hi hx = absurd (omega (arith, mul-le-mul_left (rows + 1) (let m : 16 ≤ g = omega arith in m)))

    pub laid_operand : (i : ℕ) → i ≤ rows → length (f i) ≡ 256 → (k : ℕ) → operand rows 16 w' 0 i k ≡ reads (f i) k
    laid_operand i hi l k = go (dec_lt k 256)
      where
        go : Dec (k < 256) → operand rows 16 w' 0 i k ≡ reads (f i) k
        go (yes p) =
            let e : 0 + 24 * i + 8 + offset (24 * (rows + 1)) k ≡ 24 * ((rows + 1) * (k / 16)) + 24 * i + 8 + k % 16 =
            omega (arith, offset_is (24 * (rows + 1)) k) in
            let d : 16 * (k / 16) + k % 16 ≡ k = omega arith in
            operand_at rows 16 w' 0 i k p ∙ rw (e, h.value (k / 16) i (k % 16) (omega arith) hi (omega arith), d) refl
        go (no p) = operand_past rows 16 w' 0 i k (omega arith) ∙ sym (ap pos (get_or-eq_default (f i) 0 (omega arith)))

-- ---- the operands: polynomials of a, and behind them b
module _ (rows : ℕ) (a b : List ℕ) where
  pub source_row : (i : ℕ) → i < rows → source rows a b i ≡ poly a i
  unfolding source
  source_row i h = rw (lt-ltb i rows h)

  pub source_last : source rows a b rows ≡ b
  unfolding source
  source_last = rw (le-ltb rows rows (omega arith))

  pub row_chunk : (i g t : ℕ) → i < rows → g < 16 → t < 16 → slice_index a (256 * i + 16 * g + t) ≡ slice_index (source rows a b i) (16 * g + t)
  row_chunk i g t hi hg ht =
      let e : 256 * i + 16 * g + t ≡ 256 * i + (16 * g + t) = omega arith in
      rw (source_row i hi, e) (sym (get_or-take 256 (drop (256 * i) a) (16 * g + t) 0 (omega arith) ∙ get_or-drop (256 * i) a (16 * g + t) 0))
