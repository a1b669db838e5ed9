-- Where the smallest margin of all groups is not negative, no bit is wrong.
use Rattle.std.specs.Prelude.{ℕ, Bool, true, false, cond, ◌≡◌, ℤ, pos, negsuc}
use mathlib.Core.List.{List, [], ◌∷◌, map}
use Rattle.std.proofs.Math.Option.{Option, none, some}
use Rattle.std.proofs.Math.Path.{refl}
use Rattle.std.proofs.Common.{arith}
use Rattle.std.specs.Int.Signed.{lt_z}
use Rattle.sets.specs.Sets.{params_of, known}
use Rattle.algebra.specs.Integers.{dn}
use Rattle.margin_group.specs.Margin.{margin, wrong_bits, groups, smaller, smallest, total, least, wrong}
use Rattle.margin_group.specs.Laws.Claim.{no_wrong_bit, Sound}

both : (x : ℤ) (y : Option ℤ) → dn (smaller x y) ≡ 0 → (dn x ≡ 0) × Sound y
both x none h = (h, tt)
both (pos a) (some (pos b)) h = (refl, refl)
both (pos a) (some (negsuc b)) h = absurd (omega (arith, h))
both (negsuc a) (some (pos b)) h = absurd (omega (arith, h))
both (negsuc a) (some (negsuc b)) h = absurd (neither (lt_z (negsuc b) (negsuc a)) h)
  where
    neither : (less : Bool) → dn (cond less (negsuc b) (negsuc a)) ≡ 0 → ⊥
    neither true e = omega (arith, e)
    neither false e = omega (arith, e)

-- where the smallest margin is not negative, no bit is wrong
module _ (set : ℕ) (k : known set ≡ true) where
  all_sound : (gs : List (List ℕ)) → Sound (smallest (map (margin (params_of set)) gs)) → total (map (wrong_bits (params_of set)) gs) ≡ 0
  unfolding smallest total
  all_sound [] h = refl
  all_sound (g ∷ gs) h =
      let q = both (margin (params_of set) g) (smallest (map (margin (params_of set)) gs)) h in
      omega (arith, no_wrong_bit set k g q.0, all_sound gs q.1)

  pub none_wrong : (bytes : List ℕ) → Sound (least (params_of set) bytes) → wrong (params_of set) bytes ≡ 0
  unfolding least wrong
  none_wrong bytes h = all_sound (groups bytes) h
