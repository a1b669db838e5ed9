-- One coefficient: when the message bit comes back.
use Rattle.std.specs.Prelude.{ℕ, ◌+◌, ◌*◌, ◌/◌, ◌%◌, ◌<◌, ◌↔◌, ◌≡◌, ℤ, pos, ◌+ℤ◌, ◌-ℤ◌}
use Rattle.std.proofs.Math.Nat.{div-add-mod}
use Rattle.std.proofs.Common.{arith}
use Rattle.algebra.specs.Integers.{up, dn, modℤ, quotℤ, Same}
use Rattle.algebra.proofs.Laws.Whole.{add_split}
use Rattle.algebra.proofs.Laws.Residues.{mod_split, mod_bound, mod_of, same_residue, same_refl}
use Rattle.reconciliation.specs.Reconciliation.{data_of, bit_of, masked}
use Rattle.noise.specs.Noise.{around, Lies, bound, Fits, offset, Near}
use Rattle.noise.proofs.Laws.Errors.{one_sign, sub_split, around_is}
use Rattle.noise.proofs.Laws.Agreement.{multiple}

-- the parts of N/8 + r - g/2, where N is a multiple of 8
offset_split :
    (g r : ℕ) (N : ℤ) → modℤ N 8 ≡ 0 →
    8 * up (offset g N r) + dn N + 8 * (g / 2) ≡ 8 * dn (offset g N r) + up N + 8 * r
offset_split g r N h =
    omega (arith, mod_split N 8 (omega arith), add_split (quotℤ N 8) (pos r), sub_split (quotℤ N 8 +ℤ pos r) (pos (g / 2)))

-- noise within its bounds is near zero with every remainder
pub near_within :
    {g margin added : ℕ} → Fits g margin added → (N : ℤ) → modℤ N 8 ≡ 0 → Lies (bound margin) (bound margin) N → (r : ℕ) → r < g →
    Near (offset g N r)
near_within {g} fit N h small r hr =
    let o = offset g N r in
    let p = offset_split g r N h in
    let q = one_sign N in
    let t = one_sign o in
    rw (around_is 1024 (omega arith) o o (same_refl o) (omega arith) (omega arith)) (record { below = omega arith; above = omega arith })

-- v and v' agree but for N, and w carries the bit m on v'
module _
    {g margin added : ℕ} (fit : Fits g margin added) (v v' m w : ℕ) (N : ℤ) (agree : Same 8192 (pos (8 * v)) (pos (8 * v') +ℤ N))
    (bit : m < 2) (carried : w ≡ masked v' m) where
  -- the number whose top bit is read
  read :
      modℤ (pos v -ℤ pos (g * data_of g w) +ℤ pos added) 1024
      ≡ (modℤ (offset g N (w % g) +ℤ pos 512) 1024 + 768 + 512 * m) % 1024
  read =
      let x = pos v -ℤ pos (g * data_of g w) +ℤ pos added in
      let o = offset g N (w % g) in
      let c = same_residue 1024 (omega arith) (o +ℤ pos 512) in
      let adds : added + g / 2 ≡ 256 = fit.adds in
      mod_of 1024 (omega arith) {x = x} {y = pos (modℤ (o +ℤ pos 512) 1024 + 768 + 512 * m)}
      (record {
        less = agree.less + c.less + 1 + m;
        more = agree.more + c.more + (v' + 512 * m) / 1024;
        eq = omega (
          arith,
          offset_split g (w % g) N (multiple v v' N agree),
          add_split (pos (8 * v')) N,
          add_split o (pos 512),
          div-add-mod w g,
          add_split (pos v -ℤ pos (g * data_of g w)) (pos added),
          sub_split (pos v) (pos (g * data_of g w)),
        );
      })

  pub bit_exact : (bit_of g added v (data_of g w) ≡ m) ↔ Near (offset g N (w % g))
  bit_exact =
      let o = offset g N (w % g) in
      let low = mod_bound (o +ℤ pos 512) 1024 (omega arith) in
      let parts = sub_split (pos (modℤ (o +ℤ pos 512) 1024)) (pos 512) in
      let sign = one_sign (around 1024 o) in
      ((λ p. record { below = omega (arith, read); above = omega (arith, read) }), (λ p. omega (arith, read)))
