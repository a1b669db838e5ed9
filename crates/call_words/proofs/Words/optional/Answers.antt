-- `call_words::Words::optional`: a word of just `-` is no number.
use Rattle.std.proofs.Common.{sym, refl, ◌∙◌, rules}
use Rattle.std.specs.Cmp.Lexicographic.{same_text, other_text}
use Rattle.decimals.specs.Laws.Pieces.{none_no}
use Rattle.call_words.proofs.Dash.{dash}
use Rattle.call_words.proofs.Words.optional.Goals as goal

pub returns-then-eq-clause-number : goal.returns-then-eq-clause-number
returns-then-eq-clause-number c =
    rw (c.in_ok-word.ensures, dash _ (same_text _ _ c.if-eq.ensures ∙ c.as_slice.ensures)) refl

pub returns-clause-number : goal.returns-clause-number
returns-clause-number c =
    rw (c.in_ok-word.ensures, none_no _ (λ e. other_text _ _ c.if-eq.ensures (e ∙ sym c.as_slice.ensures)), ← c.in_ok-decimal_of.ensures.number) refl

pub returns-in_err-decimal_of-clause-number : goal.returns-in_err-decimal_of-clause-number
returns-in_err-decimal_of-clause-number c =
    rw (c.in_ok-word.ensures, none_no _ (λ e. other_text _ _ c.if-eq.ensures (e ∙ sym c.as_slice.ensures)), ← c.in_err-decimal_of.ensures.number) (search rules)
