-- What the inner functions ensure.
use Rattle.std.specs.Prelude.{◌≡◌, ℕ, ◌+◌, ◌*◌, ◌^◌, ◌<◌, ◌≤◌, ◌⊎◌, List, length, slice_index}
use Rattle.algebra.specs.Integers.{Same}
use Rattle.algebra.specs.Halves.{split}
use Rattle.karatsuba_base.specs.Layout.{reads, operand}
use Rattle.karatsuba_split.specs.Layout.{Product, second, third}

-- n of sixteen places of each of the first three quarters of the join
pub record Quarters (out low q : ℕ) (w : List ℕ) (n : ℕ) (r : List ℕ) : Type 0 where
  pub size : length r ≡ 48
  pub one : (t : ℕ) → t < n → slice_index r t ≡ slice_index w (low + t)
  pub two : (t : ℕ) → t < n → Same 65536 (reads r (t + 16)) (second out low q w t)
  pub three : (t : ℕ) → t < n → Same 65536 (reads r (t + 32)) (third out low q w t)

-- the first n of the q places of each of these quarters, at out; every other holds what it held
pub record Joined (out low q n : ℕ) (w w' : List ℕ) : Type 0 where
  pub size : length w' ≡ length w
  pub one : (t : ℕ) → t < n → slice_index w' (out + t) ≡ slice_index w (low + t)
  pub two : (t : ℕ) → t < n → Same 65536 (reads w' (out + q + t)) (second out low q w t)
  pub three : (t : ℕ) → t < n → Same 65536 (reads w' (out + q + q + t)) (third out low q w t)
  pub left : (c t : ℕ) → n ≤ t → t < q → (c ≡ 0) ⊎ ((c ≡ q) ⊎ (c ≡ q + q)) → slice_index w' (out + c + t) ≡ slice_index w (out + c + t)
  pub below : (p : ℕ) → p < out → slice_index w' p ≡ slice_index w p
  pub above : (p : ℕ) → out + q + q + q ≤ p → slice_index w' p ≡ slice_index w p

-- the products by halves, at out; below `free` nothing else changes
pub record Halved (rows chunks a out free : ℕ) (w w' : List ℕ) : Type 0 where
  pub size : length w' ≡ length w
  pub value : (j : ℕ) → chunks ≡ 2 ^ j → Product rows (2 * chunks) (λ i. split 16 j (operand rows chunks w a rows) (operand rows chunks w a i)) w' out
  pub below : (p : ℕ) → p < out → slice_index w' p ≡ slice_index w p
  pub above : (p : ℕ) → out + 32 * (rows * chunks) ≤ p → p < free → slice_index w' p ≡ slice_index w p
