-- `kem::encaps` meets its contract: the steps of the definition, one after another.
use mathlib.Core.Path.{refl}
use Rattle.kdf.specs.Laws.Kdf.{coins_part}
use Rattle.kem.specs.Laws.Kem.{encaps_steps, encaps_done}
use Rattle.kem.proofs.encaps.Goals as goal

pub returns : goal.returns
returns c =
    let of_set = c.in_ok-p.ensures in
    encaps_done c.args.set of_set.params refl _ _ _ _ of_set.answer
    (encaps_steps _ _ _ _ of_set.fits.ss_long c.hash256-message.ensures c.hash256-hash.ensures c.key_and_coins-kr.ensures
    (coins_part _ c.key_and_coins-kr.ensures) refl c.encrypt_with.ensures c.secret_under-shared.ensures
    c.copy_at.ensures)
