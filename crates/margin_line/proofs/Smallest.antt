-- The smallest margin of a number of groups, as it is written.
use Rattle.std.proofs.Common.{ℕ, ◌*◌, ◌≡◌, List, [], ◌∷◌, pos, ◌-ℤ◌, ap, length}
use Rattle.lists.specs.Lists.{from}
use Rattle.sets.specs.declared.Params.{Params}
use Rattle.decimals.specs.Signed.{number_text}
use Rattle.decimals.specs.Ensures.{Appended}
use Rattle.decimals.specs.Laws.Texts.{appended_as}
use Rattle.margin_noise.specs.Ensures.{least_of}
use Rattle.margin_line.specs.Line.{ascii, least_text}
use Rattle.margin_line.specs.Laws.Texts.{none_text, some_text}

module _ (p : Params) (cases norm : ℕ) where
  pub none_long : cases ≡ 0 → length (least_text (least_of p cases norm)) ≡ 4
  unfolding ascii from
  none_long h = ap length (none_text p cases norm h)

  pub none_written :
      {old new : List ℕ} {at e : ℕ} → cases ≡ 0 → Appended old at (110 ∷ 111 ∷ 110 ∷ 101 ∷ []) new e →
      Appended old at (least_text (least_of p cases norm)) new e
  unfolding ascii from
  none_written h q = appended_as (none_text p cases norm h) q

  pub some_long :
      (cases ≡ 0 → ⊥) → length (least_text (least_of p cases norm)) ≡ length (number_text (pos (8 * p.margin) -ℤ pos norm))
  some_long h = ap length (some_text p cases norm h)

  pub some_written :
      {old new : List ℕ} {at e : ℕ} → (cases ≡ 0 → ⊥) → Appended old at (number_text (pos (8 * p.margin) -ℤ pos norm)) new e →
      Appended old at (least_text (least_of p cases norm)) new e
  some_written h q = appended_as (some_text p cases norm h) q
