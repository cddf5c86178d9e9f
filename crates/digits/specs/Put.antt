-- Bytes put at a place of a text: all of them where they fit, else none.
-- Assumes nothing.
use Rattle.std.specs.Prelude.{ℕ, ◌+◌, Bool, cond, List, ◌≡◌, leb, length}
use Rattle.std.proofs.lemmas.List.Edits.{sets}

-- so many bytes fit a text so long from this place on
abbrev pub fits_at : ℕ → ℕ → ℕ → Bool
fits_at long at size = leb (at + size) long

-- the text after it
abbrev pub put_of : List ℕ → ℕ → List ℕ → List ℕ
put_of out at bytes = cond (fits_at (length out) at (length bytes)) (sets out at bytes) out

-- the place after what was put
abbrev pub next_of : List ℕ → ℕ → List ℕ → ℕ
next_of out at bytes = cond (fits_at (length out) at (length bytes)) (at + length bytes) at

-- what a call that puts these bytes answers and leaves
pub record Put (out : List ℕ) (at : ℕ) (bytes : List ℕ) (r : ℕ) (left : List ℕ) : Type 0 where
  pub next_is : r ≡ next_of out at bytes
  pub text_is : left ≡ put_of out at bytes
