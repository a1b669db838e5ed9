-- Document 01, "Steps": w, its reconciliation data and the recovery of the message, and what the two calls ask.
use Rattle.std.specs.Prelude.{ℕ, ◌+◌, ◌*◌, ◌/◌, ◌%◌, List, [], ◌∷◌, map, eqb, pos, ◌+ℤ◌, ◌-ℤ◌, length, get_or}
use Rattle.lists.specs.Lists.{from}
use Rattle.questions.specs.Answers.{Question, all_below}
use Rattle.sets.specs.Sets.{params_of, known}
use Rattle.algebra.specs.Integers.{modℤ}

-- w of a coefficient: v' + 512 × message bit, modulo 1024
abbrev pub masked : ℕ → ℕ → ℕ
masked v m = (v + 512 * m) % 1024

-- data of a coefficient w: w / g, fraction dropped
abbrev pub data_of : ℕ → ℕ → ℕ
data_of g w = w / g

-- the recovered bit: the top one of the ten bits of (v - g × data + M) modulo 1024; M is what recovery adds
abbrev pub bit_of : ℕ → ℕ → ℕ → ℕ → ℕ
bit_of g added v d = modℤ (pos v -ℤ pos (g * d) +ℤ pos added) 1024 / 512

-- of a polynomial, coefficient by coefficient: w from v' and the 256 bits of a message, its data, and the recovered bits
unfoldable pub masked_poly : List ℕ → List ℕ → List ℕ
masked_poly v m = from 256 (λ k. masked (get_or v k 0) (get_or m k 0))

unfoldable pub recon_data : ℕ → List ℕ → List ℕ
recon_data g w = map (data_of g) w

unfoldable pub recovered : ℕ → ℕ → List ℕ → List ℕ → List ℕ
recovered g added v d = from (length v) (λ k. bit_of g added (get_or v k 0) (get_or d k 0))

-- what reconciliation data and recovery ask: Q1, Q7, Q8, Q9
abbrev pub recon_data_questions : ℕ → List ℕ → ℕ → List Question
recon_data_questions set w out = (known set, 1) ∷ (eqb (length w) 256, 7) ∷ (all_below 1024 w, 8) ∷ (eqb out 256, 9) ∷ []

abbrev pub recover_questions : ℕ → List ℕ → List ℕ → ℕ → List Question
recover_questions set v d out =
    (known set, 1)
    ∷ (eqb (length v) 256, 7)
    ∷ (eqb (length d) 256, 7)
    ∷ (all_below 1024 v, 8)
    ∷ (all_below (1024 / (params_of set).g) d, 8)
    ∷ (eqb out 256, 9)
    ∷ []
