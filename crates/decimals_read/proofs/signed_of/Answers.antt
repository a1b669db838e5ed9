-- A piece that is read has a byte, so that the list has a place for its number.
use Rattle.std.proofs.Common.{◌≡◌, [], ◌∷◌, sym, ◌∙◌, arith, rules, tests, length, drop, eqb, to_z, of_z, to_z-of_z, w8, drop_of_length-le}
use Rattle.std.specs.Cmp.Lexicographic.{same_text, other_text}
use Rattle.std.proofs.lemmas.List.{length_push}
use Rattle.std.proofs.lemmas.Iterator.Splits.{YieldsList-from_slice_split}
use Rattle.std.proofs.lemmas.Iterator.Consumers.{YieldsList-at, YieldsList-turn, YieldsList-end}
use Rattle.decimals.specs.Signed.{minus, comma, pieces}
use Rattle.decimals.specs.Laws.Pieces.{gathered_none, bad_read, large_read, still_large, place_left, one_read, none_read, bad_list, all_read}
use Rattle.decimals_read.proofs.signed_of.Goals as goal

pub returns-then-eq-clause-numbers : goal.returns-then-eq-clause-numbers
returns-then-eq-clause-numbers c = none_read c.args.word.now (same_text _ _ c.if-eq.ensures ∙ c.as_slice.ensures)

pub loop-piece-init : goal.loop-piece-init
loop-piece-init c = gathered_none c.args.word.now c.args.list.now

pub bounds-list-count : goal.bounds-list-count
unfolding pieces
bounds-list-count c =
    let t = YieldsList-turn (YieldsList-at c.into_iter-piece-iterator.ensures.into_iter_gives (
    YieldsList-from_slice_split _ (λ b. eqb b comma) c.args.word.now c.split-piece-items.ensures.rest c.split-piece-items.ensures.done
    c.split-piece-items.ensures.closure (λ x b q k. search (rules, tests))
    ))
    c.loop-piece.yielded _ c.loop-piece.yielded_by _ _ c.in-Some.piece c.in-Some.is c.next.ensures.steps in
    let left = place_left c.args.word.now (length c.loop-piece.yielded) c.in-Some.piece.now t.0 t.1 c.in-Ok.ensures (rw c.in-Ok-read.is at c.loop-piece.invariant) in
    omega (arith, left)

pub loop-piece-preserved-in-Ok-read : goal.loop-piece-preserved-in-Ok-read
unfolding pieces
loop-piece-preserved-in-Ok-read c =
    let t = YieldsList-turn (YieldsList-at c.into_iter-piece-iterator.ensures.into_iter_gives (
    YieldsList-from_slice_split _ (λ b. eqb b comma) c.args.word.now c.split-piece-items.ensures.rest c.split-piece-items.ensures.done
    c.split-piece-items.ensures.closure (λ x b q k. search (rules, tests))
    ))
    c.loop-piece.yielded _ c.loop-piece.yielded_by _ _ c.in-Some.piece c.in-Some.is c.next.ensures.steps in
    let left = place_left c.args.word.now (length c.loop-piece.yielded) c.in-Some.piece.now t.0 t.1 c.in-Ok.ensures (rw c.in-Ok-read.is at c.loop-piece.invariant) in
    let same : to_z w8 (of_z w8 c.in-Ok.number) ≡ c.in-Ok.number = to_z-of_z {w = w8} (search rules) in
    rw (length_push c.loop-piece.yielded c.in-Some.piece, same)
    (one_read c.args.word.now (length c.loop-piece.yielded) c.in-Some.piece.now t.0 t.1 c.in-Ok.ensures (omega (arith, left)) (rw c.in-Ok-read.is at c.loop-piece.invariant))

pub loop-piece-preserved-in_default : goal.loop-piece-preserved-in_default
unfolding pieces
loop-piece-preserved-in_default c =
    let t = YieldsList-turn (YieldsList-at c.into_iter-piece-iterator.ensures.into_iter_gives (
    YieldsList-from_slice_split _ (λ b. eqb b comma) c.args.word.now c.split-piece-items.ensures.rest c.split-piece-items.ensures.done
    c.split-piece-items.ensures.closure (λ x b q k. search (rules, tests))
    ))
    c.loop-piece.yielded _ c.loop-piece.yielded_by _ _ c.in-Some.piece c.in-Some.is c.next.ensures.steps in
    rw (length_push c.loop-piece.yielded c.in-Some.piece, c.in_default.is)
    (still_large c.args.word.now (length c.loop-piece.yielded) c.in-Some.piece.now t.0 t.1 c.in-Ok.ensures (rw c.in_default.is at c.loop-piece.invariant))

pub returns-in-Err-BadDigit-clause-numbers : goal.returns-in-Err-BadDigit-clause-numbers
unfolding pieces
returns-in-Err-BadDigit-clause-numbers c =
    let t = YieldsList-turn (YieldsList-at c.into_iter-piece-iterator.ensures.into_iter_gives (
    YieldsList-from_slice_split _ (λ b. eqb b comma) c.args.word.now c.split-piece-items.ensures.rest c.split-piece-items.ensures.done
    c.split-piece-items.ensures.closure (λ x b q k. search (rules, tests))
    ))
    c.loop-piece.yielded _ c.loop-piece.yielded_by _ _ c.in-Some.piece c.in-Some.is c.next.ensures.steps in
    bad_list (λ (e : c.args.word.now ≡ minus ∷ []). other_text _ _ c.if-eq.ensures (e ∙ sym c.as_slice.ensures))
    (bad_read c.args.word.now (length c.loop-piece.yielded) c.in-Some.piece.now t.0 t.1 (rw c.in-Err-BadDigit.field-0-is at c.in-Err-BadDigit.ensures) c.loop-piece.invariant)

pub loop-piece-preserved : goal.loop-piece-preserved
unfolding pieces
loop-piece-preserved c =
    let t = YieldsList-turn (YieldsList-at c.into_iter-piece-iterator.ensures.into_iter_gives (
    YieldsList-from_slice_split _ (λ b. eqb b comma) c.args.word.now c.split-piece-items.ensures.rest c.split-piece-items.ensures.done
    c.split-piece-items.ensures.closure (λ x b q k. search (rules, tests))
    ))
    c.loop-piece.yielded _ c.loop-piece.yielded_by _ _ c.in-Some.piece c.in-Some.is c.next.ensures.steps in
    rw (length_push c.loop-piece.yielded c.in-Some.piece)
    (large_read c.args.word.now (length c.loop-piece.yielded) c.in-Some.piece.now t.0 t.1 (rw c.in-Err-TooLarge.field-0-is at c.in-Err-TooLarge.ensures) c.loop-piece.invariant)

pub returns-clause-numbers : goal.returns-clause-numbers
unfolding pieces
returns-clause-numbers c =
    let t = YieldsList-end (YieldsList-at c.into_iter-piece-iterator.ensures.into_iter_gives (
    YieldsList-from_slice_split _ (λ b. eqb b comma) c.args.word.now c.split-piece-items.ensures.rest c.split-piece-items.ensures.done
    c.split-piece-items.ensures.closure (λ x b q k. search (rules, tests))
    ))
    c.loop-piece.yielded _ c.loop-piece.yielded_by _ _ c.in-None.is c.next.ensures.steps in
    let none : drop (length c.loop-piece.yielded) (pieces c.args.word.now) ≡ [] = drop_of_length-le (pieces c.args.word.now) (omega (arith, t.1)) in
    all_read (λ (e : c.args.word.now ≡ minus ∷ []). other_text _ _ c.if-eq.ensures (e ∙ sym c.as_slice.ensures)) (rw none at c.loop-piece.invariant)
