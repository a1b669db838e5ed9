-- Demand 3 over the definitions: the exact condition for a miss, and the message that comes back whole where the noise is within its bounds.
use Rattle.std.specs.Prelude.{ℕ, ◌%◌, ◌<◌, ◌≤◌, true, List, map, ◌↔◌, ◌≡◌, refl, ℤ, length}
use Rattle.std.proofs.Common.{sym, ◌∙◌, mod-lt, arith, ext_get_or}
use Rattle.std.proofs.Math.Nat.{zero-div}
use Rattle.std.proofs.Math.ListN.{get_or, get_or-map}
use Rattle.std.proofs.lemmas.List.{length-map}
use Rattle.lists.proofs.Laws.Lists.{from_at, length_from}
use Rattle.algebra.specs.Ring.{at}
use Rattle.algebra.proofs.Laws.Product.{length_inner}
use Rattle.sets.specs.Sets.{params_of, known, added}
use Rattle.sets.specs.Laws.Sets.{is_set_lem}
use Rattle.reconciliation.specs.Reconciliation.{data_of, bit_of, recon_data, recovered}
use Rattle.reconciliation.specs.Laws.Reconciliation.{length_recovered}
use Rattle.noise.specs.Noise.{bound, Within, Fits, Carries, offset, Near, v, v', noise}
use Rattle.noise.proofs.Laws.Agreement.{agree, noise_multiple}
use Rattle.noise.proofs.Laws.Bit.{bit_exact, near_within}

-- the numbers of every set fit
pub fits : (set : ℕ) → known set ≡ true → Fits (params_of set).g (params_of set).margin (added (params_of set))
fits set k = let p = (is_set_lem set k).sums in record { some = p.step_some; even = p.step_even; bounds = omega arith; adds = p.added_is }

-- the bounds of LightSaber, Saber and FireSaber
pub bounds : (bound (params_of 1).margin ≡ 1536) × (bound (params_of 2).margin ≡ 1792) × (bound (params_of 3).margin ≡ 1984)
unfolding params_of
bounds = (refl, refl, refl)

module _ (n l : ℕ) (A : ℕ → ℕ → List ℕ) (s s' : ℕ → List ℤ) where
  pub length_v : length (v n l A s s') ≡ n
  unfolding v
  length_v = simp (length-map, length_inner)

  pub length_noise : length (noise n l A s s') ≡ n
  unfolding noise
  length_noise = simp length_from

  module _
      (ls : (i : ℕ) → length (s i) ≤ n) (ls' : (i : ℕ) → length (s' i) ≤ n) {g margin plus : ℕ} (fit : Fits g margin plus) (m w : List ℕ)
      (carries : Carries n (v' n l A s s') m w) where
    -- message bit k comes back as sent exactly where N/8 + r - g/2 is near zero
    pub exact :
        (k : ℕ) → k < n →
        (get_or (recovered g plus (v n l A s s') (recon_data g w)) k 0 ≡ get_or m k 0)
        ↔ Near (offset g (at (noise n l A s s') k) (get_or w k 0 % g))
    unfolding recovered recon_data
    exact k h =
        let received = v n l A s s' in
        let number : get_or (map (data_of g) w) k 0 ≡ data_of g (get_or w k 0) = rw zero-div at (get_or-map (data_of g) w k 0) in
        rw (
          from_at (length received) (λ j. bit_of g plus (get_or received j 0) (get_or (map (data_of g) w) j 0)) 0 k (omega (arith, length_v)),
          number,
        )
        (bit_exact fit (get_or received k 0) (get_or (v' n l A s s') k 0) (get_or m k 0) (get_or w k 0) (at (noise n l A s s') k)
        (agree n l A s s' ls ls' k h) (carries.bit k h) (carries.carried k h))

    -- and the whole message does where the noise is within the bounds
    pub small_noise : Within margin (noise n l A s s') → recovered g plus (v n l A s s') (recon_data g w) ≡ m
    small_noise small = ext_get_or 0 _ m (long ∙ sym carries.bits) (λ k hk. each k (omega (arith, long)))
      where
        long : length (recovered g plus (v n l A s s') (recon_data g w)) ≡ n
        long = length_recovered g plus (v n l A s s') (recon_data g w) ∙ length_v

        each : (k : ℕ) → k < n → get_or (recovered g plus (v n l A s s') (recon_data g w)) k 0 ≡ get_or m k 0
        each k h =
            (exact k h).1
            (near_within fit (at (noise n l A s s') k) (noise_multiple n l A s s' ls ls' k h)
            (small k (omega (arith, length_noise))) (get_or w k 0 % g) (mod-lt (get_or w k 0) fit.some))
