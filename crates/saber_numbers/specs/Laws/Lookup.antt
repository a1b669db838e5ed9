-- Laws of the lookup in two numbers.
use Rattle.std.specs.Prelude.{ℕ, zero, suc, ◌*◌, List, [], ◌≡◌, refl, length, take, drop}
use Rattle.std.proofs.Common.{◌∙◌}
use Rattle.questions.specs.Answers.{earliest, written}
use Rattle.sets.specs.Sets.{params_of}
use Rattle.keys.specs.Keys.{lookup_questions, public_key_of}
use Rattle.saber_numbers.specs.Lookup.{key_offset, key_length}

cut : (r a n : ℕ) (s : List ℕ) → take (written r n 0) (drop (written r a 0) s) ≡ written r (take n (drop a s)) []
cut zero a n s = refl
cut (suc r) a n s = refl

-- the two numbers cut out of a secret key the part that the lookup hands back
pub key_part_lem : (set : ℕ) (sk : List ℕ) → take (key_length set (length sk)) (drop (key_offset set (length sk)) sk) ≡ public_key_of set sk
key_part_lem set sk = cut (earliest (lookup_questions set (length sk))) (416 * (params_of set).l) (params_of set).pk sk

-- a number x that is given where the answer is 0, y by the definition
pub found :
    (set sk x : ℕ) {y answer r : ℕ} → answer ≡ earliest (lookup_questions set sk) → r ≡ written answer x 0 → x ≡ y →
    r ≡ written (earliest (lookup_questions set sk)) y 0
found set sk x e w is = w ∙ rw (e, is)
