-- `karatsuba_split::split` meets its contract, by one argument over the number of chunks, which falls at each call.
use Rattle.std.proofs.Common.{◌≢◌, ℕ, ◌/◌, List, refl, ◌∙◌, arith}
use Rattle.karatsuba_split.specs.Requires.{SplitScratch}
use Rattle.karatsuba_split.specs.Laws.Level.{blank_high, blank_mid, blank_low, level}
use Rattle.karatsuba_split.specs.Laws.Scratch.{Half, half, plain_halved, least, fields, blank_both}
use Rattle.karatsuba_split.specs.Laws.Scratch.{scratch_high, scratch_mid, scratch_low, sum_scratch, join_scratch}
use Rattle.karatsuba_split.proofs.+split.Goals as goal

-- with more than one chunk
halved :
    {rows chunks a out free : ℕ} {w : List ℕ} → SplitScratch rows chunks a out free w → (chunks ≢ 1) → Half chunks (chunks / 2)
halved {chunks = chunks} r n = half chunks r.depth r.sized n

pub returns-then-chunks-eq1 : goal.returns-then-chunks-eq1
returns-then-chunks-eq1 t c = plain_halved c.requires c.if-chunks-eq1.true c.plain.ensures

pub add-requires : goal.add-requires
add-requires t c = sum_scratch c.requires (halved c.requires c.if-chunks-eq1.false) refl

-- each step of a level stands on what the one before it left
pub split-requires : goal.split-requires
split-requires t c =
    let s = c.args in
    let r = c.requires in
    let x = halved r c.if-chunks-eq1.false in (
      omega (arith, c.decreases, x.even, least r x),
      scratch_high r x c.add.ensures.size
          (blank_high s.rows (s.chunks / 2) _ _ s.a s.out s.free _ refl refl (fields r x) (blank_both r x) c.add.ensures),
    )

pub split-requires-2 : goal.split-requires-2
split-requires-2 t c =
    let s = c.args in
    let r = c.requires in
    let x = halved r c.if-chunks-eq1.false in (
      omega (arith, c.decreases, x.even, least r x),
      scratch_mid r x (c.split.ensures.size ∙ c.add.ensures.size)
          (blank_mid s.rows (s.chunks / 2) _ _ s.a s.out s.free _ refl refl (fields r x) (blank_both r x) c.add.ensures c.split.ensures),
    )

pub split-requires-3 : goal.split-requires-3
split-requires-3 t c =
    let s = c.args in
    let r = c.requires in
    let x = halved r c.if-chunks-eq1.false in (
      omega (arith, c.decreases, x.even, least r x),
      scratch_low r x (c.split-2.ensures.size ∙ c.split.ensures.size ∙ c.add.ensures.size)
          (blank_low s.rows (s.chunks / 2) _ _ s.a s.out s.free _ refl refl (fields r x) (blank_both r x) c.add.ensures c.split.ensures
          c.split-2.ensures),
    )

pub join-requires : goal.join-requires
join-requires t c =
    join_scratch c.requires (halved c.requires c.if-chunks-eq1.false)
    (c.split-3.ensures.size ∙ c.split-2.ensures.size ∙ c.split.ensures.size ∙ c.add.ensures.size)

pub returns : goal.returns
returns t c =
    let s = c.args in
    let r = c.requires in
    let x = halved r c.if-chunks-eq1.false in
    rw (← x.even) at (level s.rows (s.chunks / 2) _ _ s.a s.out s.free _ refl refl (fields r x) (blank_both r x) c.add.ensures c.split.ensures
    c.split-2.ensures c.split-3.ensures c.join.ensures)
