-- Laws of reconciliation: lengths and bounds, and the recovered bit without a number below zero.
use Rattle.std.specs.Prelude.{ℕ, zero, suc, ◌+◌, ◌-◌, ◌*◌, ◌/◌, ◌%◌, ◌<◌, List, ◌≡◌, refl, pos, neg_ℤ, ◌+ℤ◌, ◌-ℤ◌, length, get_or}
use Rattle.std.proofs.Common.{div-lt_iff_lt-mul, mod-lt, arith}
use Rattle.std.proofs.lemmas.List.{length-map}
use Rattle.lists.specs.Numbers.{Below}
use Rattle.lists.proofs.Laws.Lists.{length_from, from_at, from_map}
use Rattle.algebra.specs.Integers.{modℤ}
use Rattle.algebra.proofs.Laws.Whole.{up_neg, dn_neg, add_split}
use Rattle.algebra.proofs.Laws.Residues.{mod_of, mod_bound}
use Rattle.reconciliation.specs.Reconciliation.{masked, data_of, bit_of, masked_poly, recon_data, recovered}

-- as many numbers of data, and as many bits, as coefficients
pub length_masked : (v m : List ℕ) → length (masked_poly v m) ≡ 256
unfolding masked_poly
length_masked v m = length_from 256 _

pub length_recon : (g : ℕ) (w : List ℕ) → length (recon_data g w) ≡ length w
unfolding recon_data
length_recon g w = length-map w (data_of g)

pub length_recovered : (g added : ℕ) (v d : List ℕ) → length (recovered g added v d) ≡ length v
unfolding recovered
length_recovered g added v d = length_from (length v) _

-- w is below 1024
pub masked_below : (v m : List ℕ) → Below 1024 (masked_poly v m)
unfolding masked_poly
masked_below v m k q =
    rw (from_at 256 (λ j. masked (get_or v j 0) (get_or m j 0)) 0 k (rw length_from at q)) (mod-lt _ (omega arith))

-- data of coefficients below 1024 are below n, which is 1024 / g
pub recon_below : (g n : ℕ) (w : List ℕ) → g * n ≡ 1024 → Below 1024 w → Below n (recon_data g w)
unfolding recon_data
recon_below zero n w e h k q = absurd (omega (arith, e))
recon_below (suc g) n w e h k q =
    let p : k < length w = rw (length_recon (suc g) w) at q in
    rw (← from_map (data_of (suc g)) (length w) w 0 refl, from_at (length w) (λ j. data_of (suc g) (get_or w j 0)) 0 k p)
    ((div-lt_iff_lt-mul {k = suc g} {x = get_or w k 0} {y = n} (omega arith)).1 (omega (arith, h k p, e)))

-- each recovered number is 0 or 1
pub recovered_below : (g added : ℕ) (v d : List ℕ) → Below 2 (recovered g added v d)
unfolding recovered
recovered_below g added v d k q =
    let p : k < length v = rw (length_recovered g added v d) at q in
    rw (from_at (length v) (λ j. bit_of g added (get_or v j 0) (get_or d j 0)) 0 k p)
    (omega (arith, mod_bound (pos (get_or v k 0) -ℤ pos (g * get_or d k 0) +ℤ pos added) 1024 (omega arith)))

-- (v - x + M) modulo 1024, with nothing below zero
pub mod_around : (v x added : ℕ) → modℤ (pos v -ℤ pos x +ℤ pos added) 1024 ≡ (v + added + (1024 - x % 1024)) % 1024
mod_around v x added =
    mod_of 1024 (omega arith) {x = pos v -ℤ pos x +ℤ pos added} {y = pos (v + added + (1024 - x % 1024))}
    (record {
      less = x / 1024 + 1;
      more = 0;
      eq = omega (arith, add_split (pos v -ℤ pos x) (pos added), add_split (pos v) (neg_ℤ (pos x)), up_neg (pos x), dn_neg (pos x));
    })
