-- `streams::write_all`: what a write took stands behind what was written.
use Rattle.std.proofs.Common.{◌≡◌, ℕ, ◌+◌, ◌-◌, List, ◌++◌, length, take, drop, take-add, refl, arith, length-take, length-drop}
use Rattle.std.proofs.lemmas.List.{take_rest}
use Rattle.std.proofs.KnownBytes.{Appends-trans, Appends-kept}
use Rattle.streams.proofs.write_all.Goals.{in-Ok, in-Err}
use Rattle.streams.proofs.write_all.Goals as goal

longer : (text : List ℕ) (at taken : ℕ) → take (at + taken) text ≡ take at text ++ take taken (take (length text - at) (drop at text))
longer text at taken = rw (take_rest text at, take-add at taken text) refl

pub loop-preserved : goal.loop-preserved
loop-preserved g c =
    let text = c.args.text.now in
    let at = c.loop.at in
    elim c.match-write.branch [
      | in-Ok w ↦ rw w.at-is (record {
        within = omega (arith, w.in-Ok.ensures.bound, length-take (length text - at) (drop at text), length-drop at text);
        written = rw (longer text at w.in-Ok.taken) (Appends-trans _ _ _ _ _ c.loop.invariant.written w.in-Ok.ensures.bytes);
      })
      | in-Err w ↦ rw w.at-is (record { within = omega arith; written = Appends-kept _ _ _ _ c.loop.invariant.written w.in-Err.ensures.bytes })
    ]
