-- `decimals_read::piece_of` meets its contract: the digits behind a minus, or all.
use Rattle.std.proofs.Common.{◌≡◌, Ok, ap, ◌∙◌, arith, rules, length, get_or, pos, neg_ℤ, to_z, w8}
use Rattle.std.proofs.lemmas.Int.{ints, to_z-of_z}
use Rattle.std.proofs.lemmas.Bool.Decides.{nat_tests}
use Rattle.std.proofs.lemmas.Result.{err_from_is_err_and}
use Rattle.std.proofs.lemmas.Slice.{between_to_end}
use Rattle.std.specs.Result.{result_map_both}
use Rattle.decimals.specs.Laws.Pieces.{negative_piece, plain_piece, minus_some}
use Rattle.decimals_read.proofs.piece_of.Goals.{in_default-via-then-piece-lt1, in_default-via-else-piece-lt1+in_default-1}
use Rattle.decimals_read.proofs.piece_of.Goals as goal

pub returns-in_err-magnitude-in-45 : goal.returns-in_err-magnitude-in-45
returns-in_err-magnitude-in-45 c =
    let p = err_from_is_err_and c.from_residual.result c.from_residual.ensures.1 in
    let piece = c.args.piece.now in
    let minus : get_or piece 0 0 ≡ 45 = search rules in
    rw (p.1, p.2) (ap (result_map_both (λ n. neg_ℤ (pos n)) (λ e. e)) c.in_err-magnitude-in-45.ensures.number ∙ negative_piece piece _ (between_to_end piece 1 (length piece) (omega arith)) minus)

pub returns-in_ok-magnitude-in-45 : goal.returns-in_ok-magnitude-in-45
returns-in_ok-magnitude-in-45 c =
    let piece = c.args.piece.now in
    let minus : get_or piece 0 0 ≡ 45 = search rules in
    ap Ok (grind (arith, ints, to_z-of_z)) ∙ ap (result_map_both (λ n. neg_ℤ (pos n)) (λ e. e)) c.in_ok-magnitude-in-45.ensures.number ∙ negative_piece piece _ (between_to_end piece 1 (length piece) (omega arith)) minus

pub returns-in_err-number-in_default : goal.returns-in_err-number-in_default
returns-in_err-number-in_default c =
    let p = err_from_is_err_and c.from_residual-in_err-number-in_default.result c.from_residual-in_err-number-in_default.ensures.1 in
    let none : get_or c.args.piece.now 0 0 ≡ 45 → ⊥ = elim c.in_default.branch [ in_default-via-then-piece-lt1 w ↦ λ (h : get_or c.args.piece.now 0 0 ≡ 45). absurd (grind (arith, nat_tests, minus_some c.args.piece.now h)) | in_default-via-else-piece-lt1+in_default-1 w ↦ search rules ] in
    rw (p.1, p.2) (ap (result_map_both pos (λ e. e)) c.in_err-number-in_default.ensures.number ∙ plain_piece c.args.piece.now none)

pub returns-in_ok-number-in_default : goal.returns-in_ok-number-in_default
returns-in_ok-number-in_default c =
    let none : get_or c.args.piece.now 0 0 ≡ 45 → ⊥ = elim c.in_default.branch [ in_default-via-then-piece-lt1 w ↦ λ (h : get_or c.args.piece.now 0 0 ≡ 45). absurd (grind (arith, nat_tests, minus_some c.args.piece.now h)) | in_default-via-else-piece-lt1+in_default-1 w ↦ search rules ] in
    let same : to_z w8 c.in_ok-number-in_default.number ≡ pos c.in_ok-number-in_default.number = grind (arith, ints) in
    ap Ok same ∙ ap (result_map_both pos (λ e. e)) c.in_ok-number-in_default.ensures.number ∙ plain_piece c.args.piece.now none
