-- `karatsuba_split::split` ends: the number of chunks falls at each call.
use Rattle.karatsuba_split.proofs.+split.Given as goal

abbrev pub decreases-split : goal.decreases-split
decreases-split l = l.chunks
