-- The norm and the wrong bits, by the steps that compute them.
use Rattle.std.specs.Prelude.{ℕ, ◌+◌, ◌*◌, ◌-◌, ◌/◌, ◌<◌, List, ◌≡◌, ℤ, length, take, drop}
use Rattle.std.proofs.Common.{ap, ◌∙◌, arith}
use Rattle.std.proofs.lemmas.List.{length-map}
use Rattle.std.proofs.Math.Path.{refl}
use Rattle.lists.proofs.Laws.Parts.{last_part}
use Rattle.sets.specs.declared.Params.{Params}
use Rattle.sets.specs.Sets.{added}
use Rattle.sets.specs.Requires.{IsSet}
use Rattle.algebra.specs.Ring.{nat, poly}
use Rattle.algebra.proofs.Laws.Product.{length_inner}
use Rattle.packing.specs.Packing.{unpacked}
use Rattle.packing.specs.Laws.Packing.{recut_length}
use Rattle.packing.specs.Laws.Polynomials.{length_packed}
use Rattle.algebra.specs.Vectors.{entry, inner_mod}
use Rattle.sampling.specs.Sampling.{matrix, secret}
use Rattle.sampling.specs.Requires.{Pieces}
use Rattle.sampling.specs.Laws.Sampling.{length_secret, secret_bound}
use Rattle.reconciliation.specs.Reconciliation.{recovered}
use Rattle.reconciliation.specs.Laws.Reconciliation.{length_recovered}
use Rattle.pke.specs.Pke.{encrypted, decrypted}
use Rattle.noise.specs.Noise.{noise}
use Rattle.margin_noise.specs.Norm.{norm}
use Rattle.margin_noise.specs.Requires.{Small, NoiseLengths}
use Rattle.margin_bits.specs.Bits.{differing}
use Rattle.margin_group.specs.Margin.{received}

module _ (p : Params) (pk coins : List ℕ) where
  pub norm_steps :
      (secret_seed : List ℕ) {A : List ℕ} {s t : List ℤ} {r : ℕ} → A ≡ matrix p.l (take (length pk - 320 * p.l) (drop (320 * p.l) pk)) →
      s ≡ secret p.l p.mu secret_seed → t ≡ secret p.l p.mu coins → r ≡ norm (noise 256 p.l (entry p.l A) (poly s) (poly t)) →
      r ≡ norm (noise 256 p.l (entry p.l (matrix p.l (drop (320 * p.l) pk))) (poly (secret p.l p.mu secret_seed))
      (poly (secret p.l p.mu coins)))
  norm_steps secret_seed ea es et e = rw (ea, es, et, last_part (320 * p.l) (length pk) pk refl) at e

  pub wrong_steps :
      (m sk : List ℕ) {ct received : List ℕ} {r : ℕ} → ct ≡ encrypted p pk m coins →
      received ≡ decrypted p (take (416 * p.l) sk) ct → r ≡ differing (unpacked 1 m) (unpacked 1 received) →
      r ≡ differing (unpacked 1 m) (unpacked 1 (decrypted p (take (416 * p.l) sk) (encrypted p pk m coins)))
  wrong_steps m sk ec er e = rw (er, ec) at e

module _ (p : Params) (is_set : IsSet p) where
  -- the norm of the noise of secrets from seeds is less than 32768
  pub few_sums : 2048 * (p.l * (p.mu / 2)) < 32768
  few_sums = let half : p.mu ≡ p.mu / 2 + p.mu / 2 = omega arith in omega (arith, is_set.seed_few, ap (λ (t : ℕ). p.l * t) half)

  small : (seed : List ℕ) {s : List ℤ} → s ≡ secret p.l p.mu seed → Small (p.mu / 2) s
  small seed e k = rw e (secret_bound p.l p.mu seed k)

  pieces : Pieces p.mu
  pieces = record { least = is_set.mu_some; most = is_set.mu_few; even = is_set.mu_even }

  pub norm_lengths :
      (secret_seed coins : List ℕ) {A : ℕ} {s t : List ℤ} → A ≡ 416 * p.l * p.l → s ≡ secret p.l p.mu secret_seed →
      t ≡ secret p.l p.mu coins → NoiseLengths p.l A s t
  norm_lengths secret_seed coins ea es et = record {
    few = is_set.few;
    matrix_long = omega (arith, ea);
    s_long = ap length es ∙ length_secret p.l p.mu secret_seed pieces;
    t_long = ap length et ∙ length_secret p.l p.mu coins pieces;
    most = p.mu / 2;
    s_small = small secret_seed es;
    t_small = small coins et;
    sums = few_sums;
  }

-- both messages have 256 bits, so all of them are compared
module _ (p : Params) where
  inner_long : (a : List ℕ) (s : List ℤ) → length (inner_mod 1024 p.l a s) ≡ 256
  unfolding inner_mod
  inner_long a s = simp (length-map, length_inner)

  pub decrypted_long : (plain ct : List ℕ) → length (decrypted p plain ct) ≡ 32
  unfolding decrypted
  decrypted_long plain ct =
      let v = inner_mod 1024 p.l (unpacked 10 (take (320 * p.l) ct)) (nat (unpacked 13 plain)) in
      let d = unpacked p.bits (drop (320 * p.l) ct) in
      length_packed 1 1 (omega arith) (recovered p.g (added p) v d) (length_recovered p.g (added p) v d ∙ inner_long _ _)

  pub received_bits : (group : List ℕ) → length (unpacked 1 (received p group)) ≡ 256
  unfolding received
  received_bits group = recut_length 8 1 256 (received p group) (omega arith) (rw decrypted_long (omega arith))
