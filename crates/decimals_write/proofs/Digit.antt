-- A number of one digit, as it is written; each number has one.
use Rattle.std.proofs.Common.{ℕ, ◌≡◌, ◌<◌, List, [], ◌∷◌, ap, length, arith}
use Rattle.std.proofs.Math.Decide.{dec_lt}
use Rattle.decimals.specs.Decimals.{digit, decimal}
use Rattle.decimals.specs.Ensures.{Appended}
use Rattle.decimals.specs.Laws.Decimals.{one_digit, one_more}
use Rattle.decimals.specs.Laws.Texts.{appended_as}

module _ (n : ℕ) where
  pub one_long : n < 10 → length (decimal n) ≡ 1
  one_long h = ap length (one_digit n h)

  pub one_written : {old new : List ℕ} {at e : ℕ} → n < 10 → Appended old at (digit n ∷ []) new e → Appended old at (decimal n) new e
  one_written h p = appended_as (one_digit n h) p

  pub some_long : 0 < length (decimal n)
  some_long = go (dec_lt n 10)
    where
      go : Dec (n < 10) → 0 < length (decimal n)
      go (yes l) = omega (arith, one_long l)
      go (no l) = omega (arith, one_more n (omega arith))
