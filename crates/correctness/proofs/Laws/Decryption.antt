-- Decryption undoes encryption where the noise is within its bounds.
use Rattle.std.specs.Prelude.{ℕ, ◌*◌, List, ◌++◌, ◌≡◌, ℤ, length, get_or}
use Rattle.std.proofs.Math.Bool.{true, false}
use Rattle.std.proofs.Common.{arith}
use Rattle.lists.specs.Numbers.{Below}
use Rattle.lists.proofs.Laws.Lists.{from_at}
use Rattle.sets.specs.declared.Params.{Params}
use Rattle.sets.specs.Sets.{added}
use Rattle.sets.specs.Requires.{IsSet}
use Rattle.algebra.specs.Ring.{residues, poly}
use Rattle.algebra.proofs.Laws.Reduced.{residues_below}
use Rattle.algebra.proofs.Laws.Vectors.{length_poly}
use Rattle.packing.specs.Packing.{packed, unpacked}
use Rattle.packing.specs.Laws.Packing.{recut_length, recut_below, packed_unpacked}
use Rattle.packing.specs.Laws.Polynomials.{first_back, rest_back, whole_back}
use Rattle.algebra.specs.Vectors.{entry, inner_mod}
use Rattle.algebra.proofs.Laws.Matrices.{inner_secret}
use Rattle.sampling.specs.Sampling.{matrix, secret}
use Rattle.reconciliation.specs.Reconciliation.{masked, masked_poly, recovered}
use Rattle.lwr.specs.Lwr.{rounded_vector}
use Rattle.lwr.specs.Laws.Lwr.{length_vector, vector_below}
use Rattle.pke.specs.Pke.{data_poly, encrypted, decrypted}
use Rattle.pke.specs.Laws.Lengths.{length_data, data_below}
use Rattle.keys.specs.Laws.Parts.{length_residues}
use Rattle.noise.specs.Noise.{Fits, Carries, Within, v', noise}
use Rattle.noise.proofs.Laws.Theorem.{small_noise}
use Rattle.noise.proofs.Laws.Flat.{v_flat, v'_flat}

module _ (p : Params) (is_set : IsSet p) (fit : Fits p.g p.margin (added p)) (stored secret_seed coins m : List ℕ) where
  abbrev s : List ℤ
  s = secret p.l p.mu secret_seed

  abbrev s' : List ℤ
  s' = secret p.l p.mu coins

  abbrev b : List ℕ
  b = rounded_vector true p.l stored s

  abbrev b' : List ℕ
  b' = rounded_vector false p.l stored s'

  -- the ciphertext under the public key of b
  cipher : encrypted p (packed 10 b ++ stored) m coins ≡ packed 10 b' ++ packed p.bits (data_poly p b s' m)
  unfolding encrypted
  cipher =
      let long = length_vector true p.l stored s in
      rw (
        first_back 10 p.l (omega arith) b long stored (320 * p.l) (omega arith) (vector_below true p.l stored s),
        rest_back 10 p.l (omega arith) b long stored (320 * p.l) (omega arith),
      )

  -- what decryption recovers from it
  abbrev plain : List ℕ
  plain = packed 13 (residues 8192 s)

  recovers :
      decrypted p plain (packed 10 b' ++ packed p.bits (data_poly p b s' m)) ≡
      packed 1 (recovered p.g (added p) (inner_mod 1024 p.l b' s) (data_poly p b s' m))
  unfolding decrypted
  recovers =
      let long = length_vector false p.l stored s' in
      rw (
        first_back 10 p.l (omega arith) b' long _ (320 * p.l) (omega arith) (vector_below false p.l stored s'),
        rest_back 10 p.l (omega arith) b' long _ (320 * p.l) (omega arith),
        whole_back p.bits 1 is_set.bits_some (data_poly p b s' m) (length_data p is_set b s' m) (data_below p is_set b s' m),
        whole_back 13 p.l (omega arith) (residues 8192 s) (length_residues p is_set stored secret_seed stored)
            (λ k h. residues_below 8192 (omega arith) s k),
        inner_secret,
      )

  -- the message's bits, added to v'
  abbrev A : List ℕ
  A = matrix p.l stored

  abbrev bits : List ℕ
  bits = unpacked 1 m

  abbrev w : List ℕ
  w = masked_poly (inner_mod 1024 p.l b s') bits

  module _ (long : length m ≡ 32) (bytes : Below 256 m) where
    length_bits : length bits ≡ 256
    length_bits = recut_length 8 1 256 m (omega arith) (omega arith)

    carries : Carries 256 (v' 256 p.l (entry p.l A) (poly s) (poly s')) bits w
    unfolding masked_poly rounded_vector
    carries = record {
      bits = length_bits;
      bit = λ k h. recut_below 8 1 m k (rw length_bits h);
      carried = λ k h. rw (← v'_flat p.l A s s') (from_at 256 (λ j. masked (get_or (inner_mod 1024 p.l b s') j 0) (get_or bits j 0)) 0 k h);
    }

    -- within the bounds decryption gives the message back
    pub decrypts :
        Within p.margin (noise 256 p.l (entry p.l A) (poly s) (poly s')) →
        decrypted p plain (encrypted p (packed 10 b ++ stored) m coins) ≡ m
    unfolding data_poly rounded_vector
    decrypts within =
        rw (
          cipher,
          recovers,
          v_flat p.l A s s',
          small_noise 256 p.l (entry p.l A) (poly s) (poly s') (length_poly s) (length_poly s') fit bits w carries within,
        )
        (packed_unpacked 1 256 m (omega arith) (omega arith) bytes)
