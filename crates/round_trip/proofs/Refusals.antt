-- Four results taken together: the first refusal of them is the earliest no of their answers.
use Rattle.std.specs.Prelude.{◌≡◌, Result, Ok, Err}
use Rattle.std.proofs.Common.{refl}
use Rattle.std.specs.Result.{result_and}
use Rattle.questions.specs.declared.Refusal.{Refusal}
use Rattle.questions.specs.Answers.{earliest}
use Rattle.questions.specs.Refusals.{answer_of}
use Rattle.questions.specs.Laws.Answers.{numbered_refusal}
use Rattle.correctness.specs.Promises.{refusals}

pub first_refusal :
    {A : Type 0} (r1 r2 r3 r4 : Result A Refusal) →
    answer_of (result_and (result_and (result_and r1 r2) r3) r4) ≡ earliest (refusals (answer_of r1) (answer_of r2) (answer_of r3) (answer_of r4))
unfolding earliest
first_refusal (Err e) r2 r3 r4 = rw (numbered_refusal e) refl
first_refusal (Ok a) (Err e) r3 r4 = rw (numbered_refusal e) refl
first_refusal (Ok a) (Ok b) (Err e) r4 = rw (numbered_refusal e) refl
first_refusal (Ok a) (Ok b) (Ok c) (Err e) = rw (numbered_refusal e) refl
first_refusal (Ok a) (Ok b) (Ok c) (Ok d) = refl
