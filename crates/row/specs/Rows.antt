-- Rows of an answer: a name, numbers behind one space each, and the end of the line.
-- Assumes nothing.
use Rattle.std.specs.Prelude.{ℕ, ◌+◌, List, [], ◌∷◌, ◌++◌, ◌≡◌, length}
use Rattle.std.proofs.lemmas.List.Edits.{sets}
use Rattle.digits.specs.Digits.{digits_of}

-- the numbers and the end of the line
unfoldable pub fields_of : List ℕ → List ℕ
fields_of [] = 10 ∷ []
fields_of (n ∷ ns) = 32 ∷ digits_of n ++ fields_of ns

unfoldable pub row_of : List ℕ → List ℕ → List ℕ
row_of name ns = name ++ fields_of ns

-- all of these bytes are put, and this is the place after them
pub record Whole (out : List ℕ) (at : ℕ) (bytes : List ℕ) (r : ℕ) (left : List ℕ) : Type 0 where
  pub next_is : r ≡ at + length bytes
  pub text_is : left ≡ sets out at bytes
