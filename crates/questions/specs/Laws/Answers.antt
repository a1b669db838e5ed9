-- Laws of answers and of outputs at exit.
use Rattle.std.specs.Prelude.{ℕ, zero, suc, ◌<◌, Bool, true, false, ◌&&◌, List, [], ◌∷◌, ◌≡◌, refl, eqb, ltb, take, drop}
use Rattle.std.proofs.Common.{sym, ◌∙◌, arith, ltb-true}
use Rattle.lists.proofs.Laws.Booleans.{and_left, and_right}
use Rattle.questions.specs.Answers.{ask, Question, earliest, written, Wrote}
use Rattle.questions.specs.Ensures.{Asks}
use Rattle.questions.specs.declared.Refusal.{Refusal}
use Rattle.questions.specs.declared.Refusal.TheVariants.{UnknownSet, UnknownNumber, SeedLength, PublicKeyLength, SecretKeyLength, CiphertextLength, InputLength, CoefficientRange, OutputLength, RecordMap, RecordLength, RecordDoor}
use Rattle.questions.specs.Refusals.{number_of}

-- each question is answered yes
abbrev pub AllYes : List Question → Type 0
AllYes [] = Unit {0}
AllYes (q ∷ qs) = (q.0 ≡ true) × AllYes qs

-- the yes of one question, and those of the later ones
infixr 5 ◌and◌
pub ◌and◌ : {A B : Type 0} → A → B → A × B
x and y = (x, y)

-- no question has the number 0
abbrev pub numbered : List Question → Bool
numbered [] = true
numbered (q ∷ qs) = ltb 0 q.1 && numbered qs

-- what an answer of 0 says of the first question, and of the later ones
yes_first : (yes : Bool) (number rest : ℕ) → 0 < number → ask yes number rest ≡ 0 → (yes ≡ true) × (rest ≡ 0)
yes_first true number rest h e = (refl, e)
yes_first false number rest h e = absurd (omega arith)

-- an answer of 0 means every yes
pub all_yes : (qs : List Question) {r : ℕ} → numbered qs ≡ true → r ≡ earliest qs → r ≡ 0 → AllYes qs
unfolding earliest
all_yes [] n a z = tt
all_yes (q ∷ qs) n a z =
    let y = yes_first q.0 q.1 (earliest qs) (ltb-true 0 q.1 (and_left (ltb 0 q.1) (numbered qs) n)) (sym a ∙ z) in
    (y.0, all_yes qs (and_right (ltb 0 q.1) (numbered qs) n) refl y.1)

-- and every yes means an answer of 0
pub none_no : (qs : List Question) → AllYes qs → earliest qs ≡ 0
unfolding earliest
none_no [] y = refl
none_no (q ∷ qs) y = rw y.0 (none_no qs y.1)

-- how code comes to r: it asks a list of questions from the last to the first. rest is what the later questions give
pub data Asked : List Question → ℕ → Type 0 where
  none : Asked [] 0
  asks : {yes : Bool} {number rest r : ℕ} {qs : List Question} → Asks yes number rest r → Asked qs rest → Asked ((yes, number) ∷ qs) r

-- then r is the earliest no
pub asked : (qs : List Question) {r : ℕ} → Asked qs r → r ≡ earliest qs
unfolding earliest
asked [] none = refl
asked (q ∷ qs) (asks a later) = rw (a.is, asked qs later)

-- a question whose test t was made of p, where the definition has q
pub made_of :
    {A : Type 0} (test : A → Bool) {p q : A} {t : Bool} {number rest r : ℕ} → p ≡ q → Asks t number rest r → t ≡ test p →
    Asks (test q) number rest r
made_of test e a t = record { is = a.is ∙ rw (t, e) }

-- where the first n questions are asked by themselves, a no among them is the answer, and otherwise the later ones give it
pub stops : (n : ℕ) (qs : List Question) {r : ℕ} → r ≡ earliest (take n qs) → (r ≡ 0 → ⊥) → r ≡ earliest qs
unfolding earliest
stops zero qs a h = absurd (h a)
stops (suc n) [] a h = a
stops (suc n) ((true, number) ∷ qs) a h = stops n qs a h
stops (suc n) ((false, number) ∷ qs) a h = a

pub goes_on :
    (n : ℕ) (qs : List Question) {r s : ℕ} → numbered qs ≡ true → r ≡ earliest (take n qs) → r ≡ 0 → Asked (drop n qs) s → s ≡ earliest qs
unfolding earliest
goes_on zero qs h a z later = asked qs later
goes_on (suc n) [] h a z later = asked [] later
goes_on (suc n) ((true, number) ∷ qs) h a z later = goes_on n qs (and_right (ltb 0 number) (numbered qs) h) a z later
goes_on (suc n) ((false, number) ∷ qs) h a z later = absurd (omega (arith, ltb-true 0 number (and_left (ltb 0 number) (numbered qs) h)))

-- an answer of 0 writes an output, a refusal leaves it as it was
pub accepted : {A : Type 0} (r : ℕ) (result old : A) → r ≡ 0 → result ≡ written r result old
accepted zero result old e = refl
accepted (suc r) result old e = absurd (omega arith)

pub refused : {A : Type 0} (r : ℕ) (result old : A) → (r ≡ 0 → ⊥) → old ≡ written r result old
refused zero result old h = absurd (h refl)
refused (suc r) result old h = refl

-- a call with one output that works, and one that refuses
pub wrote : {A : Type 0} {a r : ℕ} {result old new : A} → r ≡ a → r ≡ 0 → new ≡ result → Wrote a result old 0 new
wrote e z w = record { answers = sym z ∙ e; writes = w }

pub wrote_none : {A : Type 0} {a r : ℕ} {result old : A} → r ≡ a → (r ≡ 0 → ⊥) → Wrote a result old r old
wrote_none {A} {a} {r} {result} {old} e h = record { answers = e; writes = refused r result old h }

-- no refusal has the number 0
pub numbered_refusal : (refusal : Refusal) → eqb (number_of refusal) 0 ≡ false
numbered_refusal UnknownSet = refl
numbered_refusal UnknownNumber = refl
numbered_refusal SeedLength = refl
numbered_refusal PublicKeyLength = refl
numbered_refusal SecretKeyLength = refl
numbered_refusal CiphertextLength = refl
numbered_refusal InputLength = refl
numbered_refusal CoefficientRange = refl
numbered_refusal OutputLength = refl
numbered_refusal RecordMap = refl
numbered_refusal RecordLength = refl
numbered_refusal RecordDoor = refl
