-- `kem::again_with` meets its contract: the steps of the definition, one after another, on the parts of the secret key.
use borrow.Author.Rules.{rules}
use Rattle.lists.proofs.Laws.Parts.{first_part, mid_part}
use Rattle.kdf.specs.Laws.Kdf.{coins_part}
use Rattle.kem.specs.Laws.Kem.{again_steps}
use Rattle.kem.proofs.again_with.Goals as goal

pub encrypt_with-requires : goal.encrypt_with-requires
encrypt_with-requires c =
    record {
      fits = record { is_set = c.requires.is_set; pk_long = search rules; message_long = search rules; ct_long = c.requires.again_long };
      secret_long = search rules;
    }

pub returns : goal.returns
returns c =
    again_steps _ _ _ (search first_part) (search mid_part) (search mid_part) c.decrypt_with.ensures c.key_and_coins-kr.ensures
    (coins_part _ c.key_and_coins-kr.ensures) c.encrypt_with.ensures
