-- What stands behind 4096 groups does not count.
use Rattle.std.specs.Prelude.{ℕ, ◌*◌, ◌%◌, ◌<◌, ◌≤◌, Bool, cond, List, ◌++◌, ◌≡◌, length, take, drop}
use Rattle.std.proofs.Common.{sym, ap, ◌∙◌, arith, le-ltb, length-append, length-drop}
use Rattle.std.proofs.lemmas.List.{take-append-le, drop-append-le}
use Rattle.lists.proofs.Laws.Lists.{from_cong}
use Rattle.sets.specs.declared.Params.{Params}
use Rattle.margin_group.specs.Margin.{cases, groups, rest, least, wrong}

-- "the rest is 0"
pub rest_none : (bytes : List ℕ) → 96 * 4096 ≤ length bytes → rest bytes ≡ 0
rest_none bytes h = ap (λ (few : Bool). cond few (length bytes % 96) 0) (le-ltb (cases bytes) 4096 (omega arith))

module _ (p q : List ℕ) (whole : length p ≡ 96 * 4096) where
  pub cases_enough : cases (p ++ q) ≡ cases p
  cases_enough = rw (length-append p q) (omega arith)

  group_enough : (i : ℕ) → i < cases p → take 96 (drop (96 * i) (p ++ q)) ≡ take 96 (drop (96 * i) p)
  group_enough i h =
      rw (drop-append-le (96 * i) p q (omega arith))
      (take-append-le 96 (drop (96 * i) p) q (rw (length-drop (96 * i) p) (omega arith)))

  pub groups_enough : groups (p ++ q) ≡ groups p
  unfolding groups
  groups_enough = rw cases_enough (from_cong (cases p) _ _ group_enough)

  pub rest_enough : rest (p ++ q) ≡ rest p
  rest_enough = rest_none (p ++ q) (rw (length-append p q) (omega arith)) ∙ sym (rest_none p (omega arith))

  pub least_enough : (params : Params) → least params (p ++ q) ≡ least params p
  unfolding least
  least_enough params = rw groups_enough

  pub wrong_enough : (params : Params) → wrong params (p ++ q) ≡ wrong params p
  unfolding wrong
  wrong_enough params = rw groups_enough
