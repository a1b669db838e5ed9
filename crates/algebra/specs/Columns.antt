-- A coefficient of the ring product as one sum of n terms.
use Rattle.std.specs.Prelude.{ℕ, suc, ◌+◌, ◌-◌, cond, List, ltb, ℤ, neg_ℤ, ◌*ℤ◌}
use Rattle.lists.specs.Lists.{from}
use Rattle.algebra.specs.Integers.{sum}
use Rattle.algebra.specs.Ring.{at}

-- f from its coefficient n - 1 down to its coefficient 0, and then the same with the other sign
unfoldable pub doubled : ℕ → (ℕ → ℤ) → ℕ → ℤ
doubled n f j = cond (ltb j n) (f (n - suc j)) (neg_ℤ (f (n + n - suc j)))

unfoldable pub table : ℕ → List ℤ → List ℤ
table n b = from (n + n) (doubled n (at b))

-- a_0 w_0 + .. + a_(n-1) w_(n-1)
unfoldable pub dot : ℕ → List ℤ → List ℤ → ℤ
dot n a w = sum n (λ i. at a i *ℤ at w i)
