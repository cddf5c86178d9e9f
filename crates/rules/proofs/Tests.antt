-- What tests say: laws that every crate's proofs share.
-- Assumes nothing.
use Rattle.std.proofs.Common.{ℕ, zero, suc, ◌+◌, ◌%◌, ◌≤◌, ◌<◌, ◌≡◌, refl, sym, ◌∙◌, Bool, true, false, ◌&&◌, ◌||◌, cond, true≢false, List, [], ◌∷◌, add-one, le-leb, leb-true, leb-false, lt-ltb, le-ltb, ltb-true, ltb-false, eq-eqb, ne_eqb, eqb-true, leb, ltb, eqb, get_or}
use mathlib.Core.Bool.{and-false, false≢true}
use native.Mathlib.Decide.{le_ind}
use borrow.Author.Tests.{lt-leb, eqb-false}
use Rattle.rules.specs.Rules.{within, in_steps, any_from, any_of, all_below}

-- both of two tests
pub both : (a b : Bool) → a && b ≡ true → (a ≡ true) × (b ≡ true)
both true b e = (refl, e)
both false b e = absurd (false≢true e)

-- neither of two tests
pub neither : (a b : Bool) → a || b ≡ false → (a ≡ false) × (b ≡ false)
neither true b e = absurd (true≢false e)
neither false b e = (refl, e)

pub and_both : {a b : Bool} → a ≡ true → b ≡ true → a && b ≡ true
and_both p q = rw (p, q)

-- one of two things, by a test
pub by_test : {P : Type 0} (b x y : Bool) → cond b x y ≡ true → (b ≡ true → x ≡ true → P) → (b ≡ false → y ≡ true → P) → P
by_test true x y e f g = f refl e
by_test false x y e f g = g refl e

-- two tests with the same outcome
pub same : (s t : Bool) → (s ≡ true → t ≡ true) → (s ≡ false → t ≡ false) → s ≡ t
same true t f g = sym (f refl)
same false t f g = sym (g refl)

pub ltb_same : (a b c d : ℕ) → (a < b → c < d) → (b ≤ a → d ≤ c) → ltb a b ≡ ltb c d
ltb_same a b c d f g = same (ltb a b) (ltb c d) (λ e. lt-ltb c d (f (ltb-true a b e))) (λ e. le-ltb c d (g (ltb-false a b e)))

pub within_is : (low high x : ℕ) → within low high x ≡ true → (low ≤ x) × (x ≤ high)
within_is low high x e = let h = both (leb low x) (leb x high) e in (leb-true low x h.0, leb-true x high h.1)

-- what a number in steps keeps
pub record Stepped (low high step n : ℕ) : Type 0 where
  pub least : low ≤ n
  pub most : n ≤ high
  pub steps : n % step ≡ 0

pub steps_is : (low high step n : ℕ) → in_steps low high step n ≡ true → Stepped low high step n
steps_is low high step n e =
    let b = both (within low high n) (eqb (n % step) 0) e in
    let w = within_is low high n b.0 in
    record { least = w.0; most = w.1; steps = eqb-true _ _ b.1 }

-- ---- lists of causes: where none holds, each is false

from_true : (bs : List Bool) → any_from true bs ≡ true
from_true [] = refl
from_true (b ∷ bs) = from_true bs

clash : (bs : List Bool) {x : Bool} → any_from true bs ≡ false → x ≡ false
clash bs e = absurd (true≢false (sym (from_true bs) ∙ e))

none_from : (b : Bool) (bs : List Bool) → any_from b bs ≡ false → (i : ℕ) → get_or bs i false ≡ false
none_from b [] e i = refl
none_from true (c ∷ bs) e i = clash bs e
none_from false (true ∷ bs) e i = clash bs e
none_from false (false ∷ bs) e zero = refl
none_from false (false ∷ bs) e (suc i) = none_from false bs e i

pub none : (bs : List Bool) → any_of bs ≡ false → (i : ℕ) → get_or bs i false ≡ false
none bs e i = none_from false bs e i

-- ---- all of the numbers below n

module _ (t : ℕ → Bool) where
  pub all_none : true ≡ all_below 0 t
  unfolding all_below
  all_none = refl

  pub all_more : {b : Bool} (i : ℕ) → b ≡ all_below i t → t i && b ≡ all_below (i + 1) t
  unfolding all_below
  all_more i e = rw (add-one, e)

  pub all_no : (n k : ℕ) → k < n → t k ≡ false → all_below n t ≡ false
  unfolding all_below
  all_no n k l e = le_ind {n = suc k} (λ m. all_below m t ≡ false) (rw e) (λ m _ r. rw r (and-false (t m))) n l

  pub all_each : (n : ℕ) → all_below n t ≡ true → (k : ℕ) → k < n → t k ≡ true
  all_each n e k l = by (t k) refl
    where
      by : (b : Bool) → t k ≡ b → t k ≡ true
      by true p = p
      by false p = absurd (true≢false (sym e ∙ all_no n k l p))
