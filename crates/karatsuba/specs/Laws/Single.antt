-- One row added to zeros is the ring product; so both calls of the ring product agree.
use Rattle.std.specs.Prelude.{◌≡◌, ℕ, ◌<◌, List, length, pos, refl}
use Rattle.std.proofs.Common.{sym, ◌∙◌, ap, arith, take_all}
use Rattle.std.proofs.Math.IntN.{+ℤ_idl}
use Rattle.lists.specs.Lists.{from}
use Rattle.lists.proofs.Laws.Lists.{from_at, from_cong, length_from, map_from}
use Rattle.algebra.specs.Integers.{modℤ}
use Rattle.algebra.specs.Ring.{at, coef, mul, nat, poly, blocks}
use Rattle.algebra.proofs.Laws.Reduced.{at_nat}
use Rattle.questions.specs.Answers.{written}
use Rattle.ring.specs.Products.{product}
use Rattle.ring.specs.Promises.{Multiplied}
use Rattle.karatsuba.specs.Ensures.{rows_added}

abbrev none : List ℕ
none = from 256 (λ (k : ℕ). 0)

zero_at : (k : ℕ) → k < 256 → at (nat (poly none 0)) k ≡ pos 0
zero_at k h =
    rw (take_all 256 none (omega (arith, length_from {A = ℕ} 256 (λ k. 0)))) (at_nat none k ∙ ap pos (from_at 256 (λ (k : ℕ). 0) 0 k h))

pub single :
    (a b : List ℕ) {zeros new : List ℕ} → length a ≡ 256 → zeros ≡ none → new ≡ rows_added 1 a b zeros → new ≡ product 65536 a b
unfolding rows_added product mul blocks
single a b la z e =
    (rw z at e)
    ∙ from_cong 256 _ (λ k. modℤ (coef 256 (nat a) (nat b) k) 65536) (λ k hk.
    rw (zero_at k hk, take_all 256 a (omega arith), +ℤ_idl (coef 256 (nat a) (nat b) k)) refl)
    ∙ sym (map_from (λ y. modℤ y 65536) 256 (coef 256 (nat a) (nat b)))

-- both products answer alike and write the same, whatever they are given
pub agree :
    (m : ℕ) (a b old : List ℕ) {r r' : ℕ} {new new' : List ℕ} → Multiplied m a b old r new → Multiplied m a b old r' new' → (r ≡ r') × (new ≡ new')
agree m a b old p q =
    let e = p.answers ∙ sym q.answers in
    (e, p.writes ∙ ap (λ (x : ℕ). written x (product m a b) old) e ∙ sym q.writes)
