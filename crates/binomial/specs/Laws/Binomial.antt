-- Laws of weights.
use Rattle.std.specs.Prelude.{ℕ, ◌+◌, ◌≤◌, ◌≡◌, ℤ, pos, negsuc, neg_ℤ, nat_abs, ◌-ℤ◌}
use Rattle.std.proofs.Common.{arith}
use Rattle.algebra.specs.Integers.{up, dn}
use Rattle.algebra.proofs.Laws.Whole.{add_split, up_neg, dn_neg}

-- the difference of two counts up to h lies in -h .. h
pub sub_bound : (h x y : ℕ) → x ≤ h → y ≤ h → nat_abs (pos x -ℤ pos y) ≤ h
sub_bound h x y p q = go (pos x -ℤ pos y) (omega (arith, add_split (pos x) (neg_ℤ (pos y)), up_neg (pos y), dn_neg (pos y)))
  where
    go : (z : ℤ) → up z + y ≡ dn z + x → nat_abs z ≤ h
    go (pos n) e = omega arith
    go (negsuc n) e = omega arith
