-- The two sides of an exchange agree but for the noise: 8 × v is 8 × v' and N, modulo 8192, and N is a multiple of 8.
use Rattle.std.specs.Prelude.{ℕ, ◌+◌, ◌*◌, ◌<◌, ◌≤◌, List, map, ◌≡◌, ℤ, pos, ◌+ℤ◌, ◌*ℤ◌, ◌-ℤ◌, length, get_or}
use Rattle.std.proofs.Common.{arith}
use Rattle.std.proofs.Math.ListN.{get_or-map}
use Rattle.lists.proofs.Laws.Lists.{from_at}
use Rattle.algebra.specs.Integers.{modℤ, Same}
use Rattle.algebra.proofs.Laws.Whole.{add_split, up_mul, dn_mul}
use Rattle.algebra.proofs.Laws.Residues.{mod_of, same_residue, same_sym, same_trans}
use Rattle.algebra.specs.Ring.{at, inner, nat, residues}
use Rattle.algebra.proofs.Laws.Product.{inner_adjoint}
use Rattle.algebra.proofs.Laws.Reduced.{at_nat, at_residues, inner_carries}
use Rattle.rounding.specs.Rounding.{round}
use Rattle.noise.specs.Noise.{error, times, rounded, errors, transposed, e, e', v, v', noise}
use Rattle.noise.proofs.Laws.Errors.{sub_split, round_error}

-- 8 × z modulo 8192 is 8 × (z modulo 1024)
eight : (z : ℤ) → Same 8192 (pos 8 *ℤ z) (pos (8 * modℤ z 1024))
eight z =
    let c = same_residue 1024 (omega arith) z in
    record { less = c.less; more = c.more; eq = omega (arith, c.eq, up_mul (pos 8) z, dn_mul (pos 8) z) }

module _ (n l : ℕ) (A : ℕ → ℕ → List ℕ) (s : ℕ → List ℤ) where
  rounded_error :
      (i k : ℕ) → Same 8192 (pos 8 *ℤ at (nat (rounded n l A s i)) k) (at (times n l A s i) k +ℤ at (errors n l A s i) k)
  unfolding rounded errors
  rounded_error i k =
      let t = times n l A s i in
      rw (
        at_nat (map round (residues 8192 t)) k,
        get_or-map round (residues 8192 t) k 0,
        at_residues 8192 t k,
        get_or-map error t k (pos 0),
      )
      (round_error (at t k))

  -- 8 × the inner product of the rounded A s and y is that of the exact one and y, and that of the errors and y
  inner_error :
      (y : ℕ → List ℤ) (k : ℕ) → k < n →
      Same 8192 (pos (8 * get_or (residues 1024 (inner n l (λ i. nat (rounded n l A s i)) y)) k 0))
      (at (inner n l (times n l A s) y) k +ℤ at (inner n l (errors n l A s) y) k)
  inner_error y k h =
      rw (at_residues 1024)
      (same_trans (same_sym (eight (at (inner n l (λ i. nat (rounded n l A s i)) y) k)))
      (inner_carries (pos 8) n l _ _ _ y (λ i j _ _. rounded_error i j) k h))

-- where x is t + d' and y is t + d, x is y + (d' - d)
differ : {m : ℕ} {x y : ℤ} (t d d' : ℤ) → Same m x (t +ℤ d') → Same m y (t +ℤ d) → Same m x (y +ℤ (d' -ℤ d))
differ {x = x} {y = y} t d d' p q = record {
  less = p.less + q.more;
  more = p.more + q.less;
  eq = omega (arith, p.eq, q.eq, add_split t d', add_split t d, add_split y (d' -ℤ d), sub_split d' d);
}

pub multiple : (x y : ℕ) (N : ℤ) → Same 8192 (pos (8 * x)) (pos (8 * y) +ℤ N) → modℤ N 8 ≡ 0
multiple x y N c =
    mod_of 8 (omega arith) {x = N} {y = pos 0}
    (record { less = y + 1024 * c.more; more = x + 1024 * c.less; eq = omega (arith, c.eq, add_split (pos (8 * y)) N) })

module _
    (n l : ℕ) (A : ℕ → ℕ → List ℕ) (s s' : ℕ → List ℤ) (ls : (i : ℕ) → length (s i) ≤ n) (ls' : (i : ℕ) → length (s' i) ≤ n) where
  -- ⟨Aᵀ s, s'⟩ = ⟨A s', s⟩
  exact_same : inner n l (times n l (transposed A) s) s' ≡ inner n l (times n l A s') s
  unfolding times
  exact_same = inner_adjoint n l (λ j i. nat (A j i)) s s' ls ls'

  pub agree :
      (k : ℕ) → k < n →
      Same 8192 (pos (8 * get_or (v n l A s s') k 0)) (pos (8 * get_or (v' n l A s s') k 0) +ℤ at (noise n l A s s') k)
  unfolding v v' noise
  agree k h =
      rw (from_at n _ (pos 0) k h)
      (differ
      (at (inner n l (times n l A s') s) k)
      (at (inner n l (e n l A s s') s') k)
      (at (inner n l (e' n l A s s') s) k)
      (inner_error n l A s' s k h)
      (rw exact_same at (inner_error n l (transposed A) s s' k h)))

  pub noise_multiple : (k : ℕ) → k < n → modℤ (at (noise n l A s s') k) 8 ≡ 0
  noise_multiple k h = multiple (get_or (v n l A s s') k 0) (get_or (v' n l A s s') k 0) (at (noise n l A s s') k) (agree k h)
