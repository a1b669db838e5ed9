-- What the functions require: `..Lengths` of arguments and outputs, `..Scratch` of lent scratch too.
use Rattle.std.specs.Prelude.{ℕ, ◌*◌, ◌≤◌, ◌≡◌}
use Rattle.matrix.specs.Requires.{RowsScratch, three_rows, three_rows_work}

-- `rows_into`: rows of a product, and a place for all of the l in the output
pub record RoundedRowsScratch (l secret first rows cut work out : ℕ) : Type 0 where
  pub fits : RowsScratch l secret first rows cut work (256 * rows)
  pub out_long : 320 * l ≤ out

-- a rounded product of l polynomials, packed at the front of the output: `rounded_into` of any number, the others of no more than 4
pub record RoundedScratch (l secret cut work out : ℕ) : Type 0 where
  pub secret_long : secret ≡ 256 * l
  pub cut_long : three_rows ≤ cut
  pub work_long : three_rows_work ≤ work
  pub out_long : 320 * l ≤ out

pub record VectorLengths (l secret out : ℕ) : Type 0 where
  pub few : l ≤ 4
  pub secret_long : secret ≡ 256 * l
  pub out_long : 320 * l ≤ out

pub record VectorScratch (l secret cut work out : ℕ) : Type 0 where
  pub fits : VectorLengths l secret out
  pub cut_long : three_rows ≤ cut
  pub work_long : three_rows_work ≤ work

-- an inner product of a packed vector and a secret
pub record InnerLengths (l vector secret : ℕ) : Type 0 where
  pub few : l ≤ 4
  pub vector_long : vector ≡ 320 * l
  pub secret_long : secret ≡ 256 * l
