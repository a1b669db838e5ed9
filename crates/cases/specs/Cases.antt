-- Document 01, "Cases": each starred case is an entry of one list.
use Rattle.std.specs.Prelude.{ℕ, ◌-◌, List, [], ◌∷◌, ◌++◌, map, ◌≡◌, ℤ, pos, neg_ℤ, take, replicate}
use Rattle.sets.specs.declared.Params.{Params}
use Rattle.sets.specs.Sets.{params_of, added}
use Rattle.packing.specs.Packing.{packed}
use Rattle.ring.specs.Products.{product}
use Rattle.rounding.specs.Rounding.{round}
use Rattle.sampling.specs.Sampling.{secret_of}
use Rattle.reconciliation.specs.Reconciliation.{masked, data_of, bit_of}

-- a case: what the definitions compute gives what the document states, in natural numbers, or in signed ones
infix 70 ◌gives◌ ◌samples◌
pub data Case : Type 0 where
  ◌gives◌ : List ℕ → List ℕ → Case
  ◌samples◌ : List ℤ → List ℤ → Case

-- it holds where the two are equal; and each case of a list does
abbrev pub Holds : Case → Type 0
Holds (result gives value) = result ≡ value
Holds (result samples value) = result ≡ value

abbrev pub AllHold : List Case → Type 0
AllHold [] = Unit {0}
AllHold (c ∷ cs) = Holds c × AllHold cs

-- the coefficients that the bytes of a secret give
abbrev pub sampled : (set : ℕ) (bytes : List ℕ) → List ℤ
sampled set bytes = secret_of (params_of set).mu bytes

-- minus n is -n
abbrev pub minus : ℕ → ℤ
minus n = neg_ℤ (pos n)

-- the first two bytes of a packed polynomial that begins with two given coefficients and has 0 in the others
abbrev pub start : (width : ℕ) (coefficients : List ℕ) → List ℕ
start width coefficients = take 2 (packed width (coefficients ++ replicate 254 0))

-- the polynomial X^k
abbrev pub X^ : ℕ → List ℕ
X^ k = replicate k 0 ++ (1 ∷ replicate (255 - k) 0)

-- the bit that recovery reads from v and the data of w, which a bit and v' make
abbrev pub read : (set bit v' v : ℕ) → List ℕ
read set bit v' v =
    let p : Params = params_of set in
    bit_of p.g (added p) v (data_of p.g (masked v' bit)) ∷ []

-- the stars of the document, in its order
abbrev pub cases : List Case
cases =
    map round (3 ∷ 4 ∷ []) gives (0 ∷ 1 ∷ [])
    ∷ map round (8187 ∷ 8188 ∷ []) gives (1023 ∷ 0 ∷ [])
    ∷ sampled 2 (0xF0 ∷ []) samples (minus 4 ∷ [])
    ∷ sampled 2 (0x0F ∷ []) samples (pos 4 ∷ [])
    ∷ sampled 2 (0x31 ∷ []) samples (minus 1 ∷ [])
    ∷ start 13 (8191 ∷ 0 ∷ []) gives (0xFF ∷ 0x1F ∷ [])
    ∷ start 13 (0 ∷ 1 ∷ []) gives (0x00 ∷ 0x20 ∷ [])
    ∷ start 10 (0 ∷ 1 ∷ []) gives (0x00 ∷ 0x04 ∷ [])
    ∷ product 8192 (X^ 255) (X^ 1) gives (8191 ∷ replicate 255 0)
    ∷ read 2 1 63 287 gives (1 ∷ [])
    ∷ read 2 1 63 288 gives (0 ∷ [])
    ∷ read 2 1 0 800 gives (1 ∷ [])
    ∷ read 2 1 0 799 gives (0 ∷ [])
    ∷ []
