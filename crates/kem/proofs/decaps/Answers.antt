-- `kem::decaps` meets its contract: the secret is chosen by the ciphertext made again, and written.
use Prim.Native.Nat.{◌+◌, ◌*◌}
use mathlib.Core.Path.{refl}
use Rattle.lists.proofs.Laws.Parts.{last_part}
use Rattle.kem.specs.Laws.Kem.{decaps_steps, decaps_done}
use Rattle.kem.proofs.decaps.Goals as goal

pub returns : goal.returns
returns c =
    let a = c.args in
    let p = c.in_ok-p.p in
    let of_set = c.in_ok-p.ensures in
    decaps_done a.set of_set.params refl _ _ _ of_set.answer
    (decaps_steps _ _ _ _ of_set.fits.ss_long c.again_with-kr.ensures
    (last_part (416 * p.l + p.pk + 32) _ a.secret_key.now refl) refl
    c.chosen_secret-chosen.ensures c.copy_at.ensures)
