-- Any two outcomes that meet a call's statement are equal, whatever the shape of the statement, if it says what the outcome is.
-- Assumes nothing.
use Rattle.std.proofs.Common.{◌≡◌, sym, ◌∙◌}
use Rattle.rules.specs.Outcomes.{Fixes}

pub alike : {A : Type 0} {Says : A → Type 0} {x : A} → Fixes Says x → (a b : A) → Says a → Says b → a ≡ b
alike f a b p q = f a p ∙ sym (f b q)

-- a statement that is one equation
pub equation : {A : Type 0} (x : A) → Fixes (λ (a : A). a ≡ x) x
equation x a e = e
