-- The number of each refusal, and the answer of a call in a number.
use Rattle.std.specs.Prelude.{ℕ, Result, Ok, Err}
use Rattle.questions.specs.declared.Refusal.{Refusal}
use Rattle.questions.specs.declared.Refusal.TheVariants.{UnknownSet, UnknownNumber, SeedLength, PublicKeyLength, SecretKeyLength, CiphertextLength, InputLength, CoefficientRange, OutputLength, RecordMap, RecordLength, RecordDoor}

-- the number of a refusal
abbrev pub number_of : Refusal → ℕ
number_of UnknownSet = 1
number_of UnknownNumber = 2
number_of SeedLength = 3
number_of PublicKeyLength = 4
number_of SecretKeyLength = 5
number_of CiphertextLength = 6
number_of InputLength = 7
number_of CoefficientRange = 8
number_of OutputLength = 9
number_of RecordMap = 10
number_of RecordLength = 11
number_of RecordDoor = 12

-- the answer of a call: 0, or the number of its refusal
abbrev pub answer_of : {A : Type 0} → Result A Refusal → ℕ
answer_of (Ok a) = 0
answer_of (Err refusal) = number_of refusal
