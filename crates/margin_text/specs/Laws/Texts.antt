-- Laws of the report's texts: what is written one behind the other is the report.
use Rattle.std.specs.Prelude.{ℕ, ◌%◌, ◌≤◌, true, false, cond, List, [], ◌∷◌, ◌≡◌, refl, ltb, length, get_or, take, drop}
use Rattle.std.proofs.lemmas.Bool.{false≢true}
use Rattle.std.proofs.Common.{ap, arith, length-take}
use Rattle.sets.specs.declared.Params.{Params}
use Rattle.sets.specs.Sets.{params_of}
use Rattle.decimals.specs.Decimals.{decimal}
use Rattle.decimals.specs.Ensures.{Appended}
use Rattle.decimals.specs.Laws.Texts.{appended_as, appended_two}
use Rattle.margin_noise.specs.Ensures.{least_of}
use Rattle.margin_line.specs.Line.{ascii, least_text, line}
use Rattle.margin_total.specs.declared.Totals.{Totals}
use Rattle.margin_total.specs.Ensures.{Totalled}
use Rattle.margin_text.specs.Report.{header, is_set, figures, refusal, report_of}

-- ---- the whole

pub figures_appended :
    {old mid new bytes : List ℕ} {r a e : ℕ} {p : Params} {t : Totals} (set : ℕ) → p ≡ params_of set → Totalled p bytes t →
    r ≡ cond (ltb t.cases 4096) (length bytes % 96) 0 → Appended old 0 (ascii "set cases least wrong rest\n") mid a →
    Appended mid a
    (line (decimal set ∷ decimal t.cases ∷ least_text (least_of p t.cases t.norm) ∷ decimal t.wrong ∷ decimal r ∷ [])) new e →
    Appended old 0 (figures set bytes) new e
unfolding figures header
figures_appended set is f q head body = appended_as (rw (q, f.wrong, f.least, f.cases, is)) (appended_two head body)

-- ---- by the first byte

pub report_none : (input : List ℕ) → length input ≡ 0 → report_of input ≡ refusal
unfolding report_of
report_none [] h = refl
report_none (set ∷ bytes) h = absurd (omega arith)

pub report_other : (input : List ℕ) → is_set (get_or input 0 0) ≡ false → report_of input ≡ refusal
unfolding report_of
report_other [] h = refl
report_other (set ∷ bytes) h = rw h

pub report_set :
    (input : List ℕ) {bytes : List ℕ} → is_set (get_or input 0 0) ≡ true → bytes ≡ drop 1 input → report_of input ≡ figures (get_or input 0 0) bytes
unfolding report_of
report_set [] h e = absurd (false≢true h)
report_set (set ∷ _) h e = rw (h, e)

-- from the front
pub whole : {old new s : List ℕ} {e : ℕ} → Appended old 0 s new e → (e ≤ length new) × (take e new ≡ s)
whole {new = new} {e = e} p = (omega (arith, p.place, length-take e new, ap length p.front), p.front)
