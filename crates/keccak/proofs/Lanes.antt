-- A lane that std rotates is rotated as defined, by each of the offsets.
use Rattle.std.specs.Prelude.{ℕ, zero, suc, ◌-◌, ◌*◌, ◌/◌, ◌%◌, ◌^◌, ◌<◌, [], ◌∷◌, ◌≡◌, get_or}
use Rattle.std.proofs.Common.{sym, ap₂, ◌∙◌, arith, div-one, mod-eq_of_lt, mul-one, w64}
use Rattle.std.proofs.Math.Nat.{div-eq_of_lt}
use Rattle.std.proofs.lemmas.Nat.{le_or_r}
use Rattle.std.specs.Int.{rotate_left}
use Rattle.std.specs.Int.Bits.{bit_or, or_self, or_zero_r}
use Rattle.keccak.specs.Keccak.{lane, offsets, rot}

-- by none, std's two shifts give the lane twice, and the definition's once
pub turned : (v n r : ℕ) → n < 64 → r < 2 ^ 64 → r ≡ rotate_left w64 v n → r ≡ rot v n
unfolding rot
turned v zero r h b e =
    let small : v < 2 ^ 64 = omega (arith, le_or_r (v * 1 % 2 ^ 64) (v / 1), e, div-one v) in
    let x : v * 1 % 2 ^ 64 ≡ v = rw mul-one (mod-eq_of_lt small) in
    e ∙ ap₂ bit_or x (div-one v) ∙ or_self v ∙ sym (ap₂ bit_or x (div-eq_of_lt small) ∙ or_zero_r v)
turned v (suc n) r h b e =
    let p : suc n % 64 ≡ suc n = mod-eq_of_lt h in
    let q : (64 - suc n) % 64 ≡ 64 - suc n = mod-eq_of_lt (omega arith) in
    e ∙ rw (p, q)

-- what holds of each of five values holds of that at a place
at_five :
    {A : Type 0} (z : A) (P : A → Type 0) {a b c d e : A} → P a → P b → P c → P d → P e →
    (x : ℕ) → x < 5 → P (get_or (a ∷ b ∷ c ∷ d ∷ e ∷ []) x z)
at_five z P p q r s t zero h = p
at_five z P p q r s t (suc zero) h = q
at_five z P p q r s t (suc (suc zero)) h = r
at_five z P p q r s t (suc (suc (suc zero))) h = s
at_five z P p q r s t (suc (suc (suc (suc zero)))) h = t
at_five z P p q r s t (suc (suc (suc (suc (suc x))))) h = absurd (omega arith)

pub offset_small : (x y : ℕ) → x < 5 → y < 5 → lane offsets x y < 64
offset_small x y p q =
    let small : ℕ → Type 0 = λ n. n < 64 in
    at_five [] (λ row. get_or row y 0 < 64)
    (at_five 0 small (omega arith) (omega arith) (omega arith) (omega arith) (omega arith) y q)
    (at_five 0 small (omega arith) (omega arith) (omega arith) (omega arith) (omega arith) y q)
    (at_five 0 small (omega arith) (omega arith) (omega arith) (omega arith) (omega arith) y q)
    (at_five 0 small (omega arith) (omega arith) (omega arith) (omega arith) (omega arith) y q)
    (at_five 0 small (omega arith) (omega arith) (omega arith) (omega arith) (omega arith) y q)
    x p
