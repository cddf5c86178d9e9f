-- What it is for a statement to leave no outcome open (01, "How far the statements must bind").
-- Assumes nothing.
use Rattle.std.specs.Prelude.{◌≡◌}

-- whatever meets the statement is this one outcome
abbrev pub Fixes : {A : Type 0} → (A → Type 0) → A → Type 0
Fixes {A} Says x = (a : A) → Says a → a ≡ x
