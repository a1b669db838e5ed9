-- `keys::keygen_with` meets its contract: the steps of the definition, one after another.
use borrow.Author.Rules.{rules}
use Rattle.keys.specs.Laws.Keys.{secret_below_lem, keygen_steps}
use Rattle.keys.proofs.keygen_with.Goals as goal

pub secret_key_into-requires : goal.secret_key_into-requires
secret_key_into-requires c =
    record {
      secret_long = search rules;
      secret_below = secret_below_lem _ _ _ c.secret_residues_into.ensures;
      z_long = search rules;
      sk_long = search rules;
    }

pub returns : goal.returns
returns c = search keygen_steps
