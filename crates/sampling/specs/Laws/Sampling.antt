-- Laws of the matrix and the secret: how many numbers there are, their bounds, and the two lists as the code makes them.
use Rattle.std.specs.Prelude.{ℕ, zero, suc, ◌*◌, ◌/◌, ◌^◌, ◌≤◌, List, [], ◌∷◌, ◌≡◌, nat_abs, length}
use Rattle.std.proofs.Common.{ap, ◌∙◌, arith}
use Rattle.std.specs.Int.Count.{ones}
use Rattle.std.proofs.lemmas.Nat.{ones-le}
use Rattle.std.proofs.lemmas.List.{length-map}
use Rattle.lists.specs.Numbers.{Below}
use Rattle.packing.specs.Packing.{unpacked}
use Rattle.packing.specs.Laws.Packing.{recut_length, recut_below}
use Rattle.algebra.specs.Ring.{at}
use Rattle.binomial.specs.Binomial.{weighed}
use Rattle.binomial.specs.Laws.Binomial.{sub_bound}
use Rattle.sponge.specs.Laws.Sponge.{length_sponge}
use Rattle.sha3.specs.Hashes.{shake128}
use Rattle.sampling.specs.Sampling.{matrix, differences, secret_of, secret}
use Rattle.sampling.specs.Requires.{Pieces}
use Rattle.sampling.specs.Laws.Halves.{secret_weighed}

-- the matrix: 256 l l numbers, each below 8192
module _ (l : ℕ) (seed : List ℕ) where
  pub length_matrix : length (matrix l seed) ≡ 256 * l * l
  unfolding matrix
  length_matrix =
      recut_length 8 13 (256 * l * l) (shake128 seed (416 * l * l)) (omega arith) (rw length_sponge (omega arith))

  pub matrix_below : Below 8192 (matrix l seed)
  unfolding matrix
  matrix_below = recut_below 8 13 (shake128 seed (416 * l * l))

-- it is cut from n bytes
pub matrix_cut : (l : ℕ) (seed : List ℕ) (n : ℕ) → n ≡ 416 * l * l → unpacked 13 (shake128 seed n) ≡ matrix l seed
unfolding matrix
matrix_cut l seed n e = rw e

-- the secret: 256 l numbers, cut from n bytes
pub secret_cut : (l mu : ℕ) (seed : List ℕ) (n : ℕ) → n ≡ 32 * l * mu → secret_of mu (shake128 seed n) ≡ secret l mu seed
unfolding secret
secret_cut l mu seed n e = rw e

pub length_secret : (l mu : ℕ) (seed : List ℕ) → Pieces mu → length (secret l mu seed) ≡ 256 * l
unfolding secret
length_secret l mu seed p =
    let bytes = shake128 seed (32 * l * mu) in
    let filled : 8 * length bytes ≡ mu * (256 * l) = rw length_sponge (omega arith) in
    ap length (secret_weighed mu (256 * l) bytes p.least p.even filled) ∙ length-map (unpacked mu bytes) (weighed (mu / 2))
    ∙ recut_length 8 mu (256 * l) bytes p.least filled

-- each coefficient lies in -mu/2 .. mu/2
differences_bound : (h : ℕ) (ps : List ℕ) → Below (2 ^ h) ps → (k : ℕ) → nat_abs (at (differences ps) k) ≤ h
unfolding differences
differences_bound h [] b k = omega arith
differences_bound h (x ∷ []) b k = omega arith
differences_bound h (x ∷ y ∷ ps) b zero = sub_bound h (ones x) (ones y) (ones-le h x (b 0 (omega arith))) (ones-le h y (b 1 (omega arith)))
differences_bound h (x ∷ y ∷ ps) b (suc k) = differences_bound h ps (λ j q. b (suc (suc j)) (omega arith)) k

pub secret_bound : (l mu : ℕ) (seed : List ℕ) (k : ℕ) → nat_abs (at (secret l mu seed) k) ≤ mu / 2
unfolding secret secret_of
secret_bound l mu seed k =
    let bytes = shake128 seed (32 * l * mu) in
    differences_bound (mu / 2) (unpacked (mu / 2) bytes) (recut_below 8 (mu / 2) bytes) k
