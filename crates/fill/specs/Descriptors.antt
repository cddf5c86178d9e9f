-- The descriptors of a send (01, "Sending"): one data descriptor a piece, one context descriptor before them if segmented.
-- Assumes nothing.
use Rattle.std.specs.Prelude.{ℕ, ◌+◌, ◌-◌, Bool, cond, List, [], ◌∷◌, eqb, length, get_or}
use Rattle.descriptor.specs.Words.{data_word, context_word}
use Rattle.request.specs.declared.Request.{Request}
use Rattle.request.specs.Request.{data_of, context_of}

-- EOP and RS stand on the last data descriptor only
abbrev pub is_last : List ℕ → ℕ → Bool
is_last lengths i = eqb (i + 1) (length lengths)

-- piece i: word 0 the address
abbrev pub piece_numbers : Request → List ℕ → List ℕ → ℕ → List ℕ
piece_numbers request addresses lengths i = get_or addresses i 0 ∷ data_word (data_of request (get_or lengths i 0) (is_last lengths i)) ∷ []

-- the context descriptor: word 0 is 0
abbrev pub context_numbers : Request → List ℕ
context_numbers request = 0 ∷ context_word (context_of request) ∷ []

-- one context descriptor before the pieces if segmented
abbrev pub descriptor : Request → List ℕ → List ℕ → ℕ → List ℕ
descriptor request addresses lengths k =
    cond request.segmented (cond (eqb k 0) (context_numbers request) (piece_numbers request addresses lengths (k - 1))) (piece_numbers request addresses lengths k)
