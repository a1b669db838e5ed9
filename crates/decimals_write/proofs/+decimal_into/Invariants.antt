use Rattle.decimals_write.proofs.+decimal_into.Given as goal

abbrev pub decreases-decimal_into : goal.decreases-decimal_into
decreases-decimal_into l = l.n
