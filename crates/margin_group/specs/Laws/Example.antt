-- The definitions in figures.
use Rattle.std.specs.Prelude.{◌+◌, [], ◌∷◌, ◌≡◌, refl, pos, negsuc, length}
use Rattle.std.proofs.Math.Option.{none, some}
use Rattle.lists.specs.Lists.{from}
use Rattle.margin_noise.specs.Norm.{norm}
use Rattle.margin_bits.specs.Bits.{differing}
use Rattle.margin_group.specs.Margin.{matrix_seed, secret_seed, encaps_seed, groups, rest, smallest, total}

-- the norm of -5, 3 and 4 is 5; the smallest of them is -5, and an empty list has none
pub norms : norm (negsuc 4 ∷ pos 3 ∷ pos 4 ∷ []) ≡ 5
unfolding norm
norms = refl

pub smallests : (smallest (pos 3 ∷ negsuc 4 ∷ pos 4 ∷ []) ≡ some (negsuc 4)) × (smallest [] ≡ none)
unfolding smallest
smallests = (refl, refl)

-- two of four places differ; 1 + 2 + 3
pub counts : (differing (1 ∷ 0 ∷ 1 ∷ 1 ∷ []) (1 ∷ 1 ∷ 1 ∷ 0 ∷ []) ≡ 2) × (total (1 ∷ 2 ∷ 3 ∷ []) ≡ 6)
unfolding differing total
counts = (refl, refl)

-- 200 bytes are two groups and 8 bytes over
pub cut : (length (groups (from 200 (λ i. i))) ≡ 2) × (rest (from 200 (λ i. i)) ≡ 8)
unfolding groups from
cut = (refl, refl)

-- the three seeds of a group
pub seeds :
    (matrix_seed (from 96 (λ i. i)) ≡ from 32 (λ i. i)) × (secret_seed (from 96 (λ i. i)) ≡ from 32 (λ i. 32 + i))
    × (encaps_seed (from 96 (λ i. i)) ≡ from 32 (λ i. 64 + i))
unfolding from
seeds = (refl, refl, refl)
