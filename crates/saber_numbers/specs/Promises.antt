-- What reading a record promises a caller who lends a variable for each number: r is the answer, a primed name a value at exit.
use Rattle.std.specs.Prelude.{ℕ, List, ◌≡◌, length}
use Rattle.questions.specs.Answers.{written}
use Rattle.record_format.specs.Records.{head_in, ciphertext_in, read_answer}
use Rattle.saber_numbers.specs.Numbers.{flag_of, or_old}

pub record ReadInto (s : List ℕ) (has_door door has_time time set : ℕ) (ciphertext : List ℕ) (r : ℕ)
    (has_door' door' has_time' time' set' : ℕ) (ciphertext' : List ℕ) : Type 0 where
  pub answers : r ≡ read_answer s (length ciphertext)
  pub door_flag : has_door' ≡ written r (flag_of (head_in s).door) has_door
  pub door_is : door' ≡ written r (or_old (head_in s).door door) door
  pub time_flag : has_time' ≡ written r (flag_of (head_in s).time) has_time
  pub time_is : time' ≡ written r (or_old (head_in s).time time) time
  pub set_is : set' ≡ written r (head_in s).set set
  pub writes : ciphertext' ≡ written r (ciphertext_in s) ciphertext
