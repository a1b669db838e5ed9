-- Every starred case holds of the library's definitions, by computing.
use Rattle.std.specs.Prelude.{refl}
use Rattle.std.specs.Int.Count.{ones, ones_in}
use Rattle.lists.specs.Lists.{from}
use Rattle.lists.specs.Numbers.{number, digits}
use Rattle.sets.specs.Sets.{params_of}
use Rattle.packing.specs.Packing.{recut}
use Rattle.algebra.specs.Integers.{sum}
use Rattle.algebra.specs.Ring.{coef, mul}
use Rattle.ring.specs.Products.{product}
use Rattle.sampling.specs.Sampling.{differences, secret_of}
use Rattle.cases.specs.Cases.{AllHold, cases}

pub starred : AllHold cases
unfolding params_of secret_of differences ones ones_in recut number digits product mul coef sum from
starred = (refl, (refl, (refl, (refl, (refl, (refl, (refl, (refl, (refl, (refl, (refl, (refl, (refl, tt)))))))))))))
