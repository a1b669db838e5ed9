-- What writing and reading a record promise: r is what the call gives, a primed list an output at exit.
use Rattle.std.specs.Prelude.{ℕ, Option, None, Some, Result, List, ◌≡◌, length}
use Rattle.std.specs.Result.{result_ok}
use Rattle.questions.specs.declared.Refusal.{Refusal}
use Rattle.questions.specs.Answers.{earliest, written, Wrote}
use Rattle.questions.specs.Refusals.{answer_of}
use Rattle.record_format.specs.declared.Head.{Head}
use Rattle.record_format.specs.Records.{head_length, map_of, headed, record_of, write_questions, head_in, ciphertext_in, read_answer}

abbrev pub Recorded : Option ℕ → Option ℕ → ℕ → List ℕ → List ℕ → ℕ → List ℕ → Type 0
Recorded door time set ciphertext old =
    let h : Head = headed door time set in
    Wrote (earliest (write_questions (head_length (map_of h)) set (length ciphertext) (length old))) (record_of h ciphertext) old

-- Document 01: "If an answer is an enum, a definition states this paper's number and values for each of its cases". `answer_of` states the
-- number, and `result_ok` the values: the head of an entry, and none for a refusal
pub record Retrieved (s ciphertext : List ℕ) (r : Result Head Refusal) (ciphertext' : List ℕ) : Type 0 where
  pub answers : answer_of r ≡ read_answer s (length ciphertext)
  pub gives : result_ok r ≡ written (answer_of r) (Some (head_in s)) None
  pub writes : ciphertext' ≡ written (answer_of r) (ciphertext_in s) ciphertext
