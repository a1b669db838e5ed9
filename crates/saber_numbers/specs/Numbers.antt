-- Numbers that may be missing, for callers who cannot pass or be handed an enum: a flag, which is 0 where the number is missing, and the number.
use Rattle.std.specs.Prelude.{ℕ, zero, suc, Option, None, Some}

-- the number that a caller passes: any flag but 0 says that it is there
abbrev pub flagged : {A : Type 0} → ℕ → A → Option A
flagged zero x = None
flagged (suc f) x = Some x

-- the flag that a caller is handed, and the number, which stays as it was where it is missing
abbrev pub flag_of : {A : Type 0} → Option A → ℕ
flag_of None = 0
flag_of (Some x) = 1

abbrev pub or_old : {A : Type 0} → Option A → A → A
or_old None old = old
or_old (Some x) old = x
