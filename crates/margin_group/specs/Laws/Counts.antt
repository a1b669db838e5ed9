-- Laws of a total, counted from the front of a list: what is counted so far, and what is left.
use Rattle.std.specs.Prelude.{ℕ, ◌+◌, ◌<◌, ◌≤◌, List, ◌≡◌, length, get_or, drop}
use Rattle.std.proofs.Math.Path.{ap}
use Rattle.std.proofs.Common.{arith, drop_of_length-le}
use Rattle.lists.proofs.Laws.Lists.{drop_next}
use Rattle.margin_group.specs.Margin.{total}

module _ (xs : List ℕ) (i : ℕ) where
  pub total_more : (n : ℕ) → i < length xs → n + total (drop i xs) ≡ total xs → n + get_or xs i 0 + total (drop (i + 1) xs) ≡ total xs
  unfolding total
  total_more n h p = omega (arith, p, ap total (drop_next xs i 0 h))

  pub total_all : {n : ℕ} → length xs ≤ i → n + total (drop i xs) ≡ total xs → n ≡ total xs
  unfolding total
  total_all h p = omega (arith, p, ap total (drop_of_length-le xs h))
