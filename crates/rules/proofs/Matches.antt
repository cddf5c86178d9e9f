-- What the last arm of a match knows: the number is none of those before it. And values that go by their numbers.
-- Assumes nothing.
use Rattle.std.proofs.Common.{ℕ, ◌≡◌, refl, sym, ap, ◌∙◌, true, List, [], ◌∷◌, eqb-true, ne_eqb, eqb}
use Rattle.rules.specs.Rules.{Line, listed_at}

-- a number that is none of these
abbrev pub Others : ℕ → List ℕ → Type 0
Others n [] = Unit {0}
Others n (k ∷ ks) = (n ≡ k → ⊥) × Others n ks

-- the same, as a match leaves it: the last one outermost
abbrev pub Rest : ℕ → List ℕ → Type 0 → Type 0
Rest n [] A = A
Rest n (k ∷ ks) A = Rest n ks (A × (n ≡ k → ⊥))

pub others : (n : ℕ) (ks : List ℕ) (A : Type 0) → Rest n ks A → A × Others n ks
others n [] A r = (r, tt)
others n (k ∷ ks) A r = let p = others n ks (A × (n ≡ k → ⊥)) r in (p.0.0, (p.0.1, p.1))

-- ---- values by their numbers

abbrev pub numbers : {A : Type 0} → List (Line A) → List ℕ
numbers [] = []
numbers (l ∷ ls) = l.number ∷ numbers ls

module _ {A : Type 0} (other : A) (n : ℕ) where
  none_of : (ls : List (Line A)) → Others n (numbers ls) → listed_at ls other n ≡ other
  none_of [] o = refl
  none_of (l ∷ ls) o = rw (ne_eqb n l.number o.0) (none_of ls o.1)

  -- a number that no arm of a match has, where each line has an arm
  pub no_line : (ls : List (Line A)) → Rest n (numbers ls) (Unit {0}) → listed_at ls other n ≡ other
  no_line ls r = none_of ls (others n (numbers ls) (Unit {0}) r).1

-- values that come back from their numbers are the same where these are
pub same_number : {A : Type 0} (number : A → ℕ) (from : ℕ → A) → ((a : A) → from (number a) ≡ a) → (a b : A) → eqb (number a) (number b) ≡ true → a ≡ b
same_number number from back a b t = sym (back a) ∙ ap from (eqb-true (number a) (number b) t) ∙ back b
