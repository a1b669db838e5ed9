-- Document 01, "The three sets".
use Rattle.std.specs.Prelude.{ℕ, Bool, cond, ◌||◌, eqb, ltb}
use Rattle.sets.specs.declared.Params.{Params}

-- the parameters of each set, with its number; `bits` is the width of a number of reconciliation data, from "Bytes"
abbrev pub light_saber : Params
light_saber = record { number = 1; l = 2; mu = 10; t = 4; g = 128; bits = 3; pk = 672; sk = 1568; ct = 736; margin = 192 }

abbrev pub saber : Params
saber = record { number = 2; l = 3; mu = 8; t = 8; g = 64; bits = 4; pk = 992; sk = 2304; ct = 1088; margin = 224 }

abbrev pub fire_saber : Params
fire_saber = record { number = 3; l = 4; mu = 6; t = 32; g = 16; bits = 6; pk = 1312; sk = 3040; ct = 1472; margin = 248 }

-- no set: every number is 0
abbrev pub no_set : Params
no_set = record { number = 0; l = 0; mu = 0; t = 0; g = 0; bits = 0; pk = 0; sk = 0; ct = 0; margin = 0 }

-- the set that a number means; 0 means Saber, the default
unfoldable pub params_of : ℕ → Params
params_of set =
    cond (eqb set 1) light_saber
    (cond (eqb set 0 || eqb set 2) saber
    (cond (eqb set 3) fire_saber
    no_set))

-- Q1: the number means a set
abbrev pub known : ℕ → Bool
known set = ltb 0 (params_of set).l

-- what recovery adds before it reads a bit: M
abbrev pub added : Params → ℕ
added p = p.margin
