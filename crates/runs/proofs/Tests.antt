-- What tests say, besides the laws that every crate shares: from facts to tests that pass.
-- Assumes nothing.
use Rattle.std.proofs.Common.{ℕ, zero, suc, ◌≤◌, ◌<◌, ◌≡◌, refl, Bool, true, false, arith, le-leb}
use Rattle.rules.specs.Rules.{within, all_below}
use Rattle.rules.proofs.Tests.{and_both}

pub not_so : (b : Bool) → (b ≡ true → ⊥) → b ≡ false
not_so true f = absurd (f refl)
not_so false f = refl

pub within_yes : (low high x : ℕ) → low ≤ x → x ≤ high → within low high x ≡ true
within_yes low high x p q = and_both (le-leb low x p) (le-leb x high q)

-- all of the numbers below n pass a test if each does
pub all_yes : (t : ℕ → Bool) (n : ℕ) → ((k : ℕ) → k < n → t k ≡ true) → all_below n t ≡ true
unfolding all_below
all_yes t zero f = refl
all_yes t (suc n) f = and_both (f n (omega arith)) (all_yes t n (λ k h. f k (omega arith)))
