-- Zeros that are lent, all of them or a part.
use Rattle.std.specs.Prelude.{ℕ, ◌+◌, ◌-◌, ◌≤◌, List, ◌++◌, ◌≡◌, length, take, drop, replicate}
use Rattle.std.proofs.Common.{sym, ◌∙◌, ap, arith, take_at, drop_at, drop-drop}
use borrow.Rule.Slice.PartMut.{put_mid, mid_of, mid_len, drop_put}
use Rattle.std.proofs.lemmas.List.{length-replicate, replicate-append-replicate}
use Rattle.lists.proofs.Laws.Parts.{first_part, mid_part}

pub zeros_long : (n : ℕ) {s : List ℕ} → s ≡ replicate n 0 → length s ≡ n
zeros_long n e = ap length e ∙ length-replicate n 0

-- k of n zeros, and what is behind them
module _ (k n : ℕ) (h : k ≤ n) where
  apart : replicate {A = ℕ} n 0 ≡ replicate k 0 ++ replicate (n - k) 0
  apart =
      let e : n ≡ k + (n - k) = omega arith in
      ap (λ (i : ℕ). replicate {A = ℕ} i 0) e ∙ sym (replicate-append-replicate {A = ℕ} k (n - k) 0)

  taken : take {A = ℕ} k (replicate n 0) ≡ replicate k 0
  taken = ap (take k) apart ∙ take_at (replicate k 0) (replicate (n - k) 0) k (length-replicate k 0)

  pub zeros_first : take {A = ℕ} (k - 0) (drop 0 (replicate n 0)) ≡ replicate k 0
  zeros_first = first_part k (replicate n 0) ∙ taken

  pub zeros_behind : drop {A = ℕ} k (replicate n 0) ≡ replicate (n - k) 0
  zeros_behind = ap (drop k) apart ∙ drop_at (replicate k 0) (replicate (n - k) 0) k (length-replicate k 0)

-- of a list of n numbers those from place a on are zeros, and k of them are lent
module _ (n a k : ℕ) (s : List ℕ) (h : a + k ≤ n) (zeros : drop a s ≡ replicate (n - a) 0) where
  pub zeros_part : take (a + k - a) (drop a s) ≡ replicate k 0
  zeros_part = mid_part a k s ∙ ap (take k) zeros ∙ taken k (n - a) (omega arith)

  -- whatever they become, those behind them are zeros
  pub zeros_left :
      (y : List ℕ) → length s ≡ n → length y ≡ length (mid_of a (a + k - a) s) →
      drop (a + k) (put_mid a (a + k - a) s y) ≡ replicate (n - (a + k)) 0
  zeros_left y l q =
      let g : a + k ≤ length s = omega arith in
      let e : n - a - k ≡ n - (a + k) = omega arith in
      drop_put a (a + k) s y (omega arith) g (q ∙ mid_len a (a + k) s g) ∙ sym (drop-drop k a s) ∙ ap (drop k) zeros
      ∙ zeros_behind k (n - a) (omega arith) ∙ ap (λ (i : ℕ). replicate i 0) e
