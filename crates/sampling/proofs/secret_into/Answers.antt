-- `sampling::secret_into` meets its contract: the part of the buffer has the bytes of l polynomials.
use Rattle.std.proofs.Common.{◌∙◌, rules}
use Rattle.sampling.specs.Laws.Lengths.{sample_lengths}
use Rattle.sampling.specs.Laws.Sampling.{secret_cut}
use Rattle.sampling.proofs.secret_into.Goals as goal

pub sample_into-requires : goal.sample_into-requires
sample_into-requires c = sample_lengths _ _ _ _ c.requires (search rules)

pub returns : goal.returns
returns c = c.sample_into.ensures ∙ rw c.shake128.ensures (secret_cut _ _ _ _ (search rules))
