-- `pke::encrypt_with` meets its contract: the two parts of the ciphertext, each written at its place, are those of the definition.
use Prim.Native.Nat.{◌*◌}
use Rattle.lists.proofs.Laws.Parts.{first_part, last_part}
use Rattle.pke.specs.Laws.Pke.{encrypt_steps}
use Rattle.pke.proofs.encrypt_with.Goals as goal

pub returns : goal.returns
returns c =
    let a = c.args in
    let lengths = c.requires.fits in
    let both = c.both_into-v.ensures in
    let pk = a.public_key.now in
    let e = 320 * a.p.l in
    encrypt_steps a.p pk a.message.now a.seed.now a.ciphertext.now lengths.is_set lengths.ct_long
    c.secret_residues_into.ensures both.0 both.1 c.data_at.ensures (first_part e pk)
    (last_part e _ pk lengths.pk_long)
