-- `call_words::Words::bytes`: what the next word reads as.
use Rattle.std.proofs.Common.{◌≡◌, ◌≤◌, ◌/◌, length, arith, inl, inr, refl, sym, ◌∙◌, Err, rules}
use Rattle.std.specs.Cmp.Lexicographic.{same_text, other_text}
use Rattle.call_words.specs.Reads.{wrong_hex}
use Rattle.call_words.proofs.Dash.{dash_bytes, empty_bytes, odd_bytes, even_bytes}
use Rattle.call_words.proofs.Digits.{digits_ok, digits_err}
use Rattle.call_words.proofs.Words.bytes.Goals as goal

pub returns-then-eq-clause-ok : goal.returns-then-eq-clause-ok
returns-then-eq-clause-ok c =
    rw (c.in_ok-word.ensures) (dash_bytes c.args.digits _ (same_text _ _ c.if-eq.ensures ∙ c.as_slice.ensures))

pub returns-then-is_empty-clause-err : goal.returns-then-is_empty-clause-err
returns-then-is_empty-clause-err c =
    inr (rw (c.in_ok-word.ensures) (empty_bytes _ _ (λ e. other_text _ _ c.if-eq.ensures (e ∙ sym c.as_slice.ensures)) c.if-is_empty.ensures))

pub returns-then-word-digits-ne0-clause-err : goal.returns-then-word-digits-ne0-clause-err
returns-then-word-digits-ne0-clause-err c =
    inr (rw (c.in_ok-word.ensures) (
    odd_bytes _ _ (λ e. other_text _ _ c.if-eq.ensures (e ∙ sym c.as_slice.ensures)) c.if-is_empty.ensures c.if-word-digits-ne0.true
    ))

pub returns-then-buffer-count-clause-err : goal.returns-then-buffer-count-clause-err
returns-then-buffer-count-clause-err c = rw (c.in_ok-word.ensures) (inl (refl, omega (arith, c.if-buffer-count.true)))

pub returns-in_err-decode_to_slice-clause-err : goal.returns-in_err-decode_to_slice-clause-err
returns-in_err-decode_to_slice-clause-err c =
    let fault : c.from_residual-in_err-decode_to_slice.result ≡ Err (wrong_hex c.in_err-decode_to_slice.field-0.0) = search rules in
    let read =
    even_bytes c.args.digits _ (λ e. other_text _ _ c.if-eq.ensures (e ∙ sym c.as_slice.ensures)) c.if-is_empty.ensures c.if-word-digits-ne0.false in
    let fits : length c.in_ok-word.word.now / 2 ≤ length c.args.buffer.now = omega (arith, c.if-buffer-count.false) in
    rw fault (inr (rw (c.in_ok-word.ensures, read) (digits_err _ _ c.decode_to_slice.new.out _ _ fits c.decode_to_slice.ensures.value _ c.in_err-decode_to_slice.was)))

pub returns-clause-ok : goal.returns-clause-ok
returns-clause-ok c =
    let read =
    even_bytes c.args.digits _ (λ e. other_text _ _ c.if-eq.ensures (e ∙ sym c.as_slice.ensures)) c.if-is_empty.ensures c.if-word-digits-ne0.false in
    let fits : length c.in_ok-word.word.now / 2 ≤ length c.args.buffer.now = omega (arith, c.if-buffer-count.false) in
    let long : length c.decode_to_slice.new.out ≡ length c.in_ok-word.word.now / 2 = search rules in
    rw (c.in_ok-word.ensures, read) (digits_ok _ _ c.decode_to_slice.new.out _ _ fits c.decode_to_slice.ensures.value c.in_ok-decode_to_slice.was long)
