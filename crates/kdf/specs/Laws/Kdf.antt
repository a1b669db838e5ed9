-- A law of the hashes: the coins are the second half.
use Rattle.std.specs.Prelude.{ℕ, List, ◌≡◌, length, take, drop}
use Rattle.std.proofs.Common.{ap, ◌∙◌}
use Rattle.lists.proofs.Laws.Parts.{last_part}
use Rattle.sponge.specs.Laws.Sponge.{length_sponge}
use Rattle.sha3.specs.Hashes.{sha3_512}

-- r, the part from 32 to 64
pub coins_part : (input : List ℕ) {kr : List ℕ} → kr ≡ sha3_512 input → take 32 (drop 32 kr) ≡ drop 32 kr
coins_part input {kr} e = last_part 32 64 kr (ap length e ∙ length_sponge 72 6 input 64)
