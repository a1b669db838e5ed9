-- A law of the head of a record: the numbers that are read one after another, each from its own place on, are those of the definition.
use Rattle.std.specs.Prelude.{ℕ, zero, suc, ◌+◌, ◌*◌, ◌<◌, Option, unwrap_or, List, ◌≡◌, refl, eqb, get_or, take, drop}
use Rattle.std.specs.Bool.{then_some}
use Rattle.std.specs.Option.{option_or}
use Rattle.std.proofs.Common.{mod-lt, arith, drop-drop}
use Rattle.lists.specs.Numbers.{number, digit}
use Rattle.record_format.specs.Records.{fields, stands, numbers_in, head_in}

-- where no short door stands, the wide one starts where it would
wide_start :
    (b x : ℕ) (f : List ℕ → Option ℕ) (s : List ℕ) → b < 2 →
    option_or (then_some (eqb b 1) x) (f s) ≡ option_or (then_some (eqb b 1) x) (f (drop (b * 2) s))
wide_start zero x f s h = refl
wide_start (suc zero) x f s h = refl
wide_start (suc (suc b)) x f s h = absurd (omega arith)

-- the numbers one after another are those of the definition
pub head_steps :
    (s : List ℕ) {m b c b' n : ℕ} {d t : Option ℕ} → m ≡ get_or s 0 0 → b ≡ digit 2 m 0 → c ≡ digit 2 m 4 → b' ≡ digit 2 m 1 →
    d ≡ option_or (then_some (stands m 0) (number 256 (take 2 (drop 1 s)))) (then_some (stands m 4) (number 256 (take 4 (drop 1 s)))) →
    t ≡ then_some (stands m 1) (number 256 (take 8 (drop (1 + b * 2 + c * 4) s))) →
    n ≡ unwrap_or (then_some (stands m 2) (number 256 (take 1 (drop (1 + b * 2 + c * 4 + b' * 8) s)))) 0 →
    record { door = d; time = t; set = n } ≡ head_in s
unfolding head_in numbers_in fields
head_steps s em eb ec eb' ed et en =
    let m = get_or s 0 0 in
    rw (
      ed,
      et,
      en,
      eb,
      ec,
      eb',
      em,
      wide_start (digit 2 m 0) _ (λ u. then_some (stands m 4) (number 256 (take 4 u))) (drop 1 s) (mod-lt _ (omega arith)),
      drop-drop (digit 2 m 0 * 2) 1 s,
      drop-drop (digit 2 m 4 * 4) (1 + digit 2 m 0 * 2) s,
      drop-drop (digit 2 m 1 * 8) (1 + digit 2 m 0 * 2 + digit 2 m 4 * 4) s,
    )
