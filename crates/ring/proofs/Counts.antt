-- The counts of a queue record: the code's tests are those of the definitions; the room that they leave; and how they move.
-- Assumes nothing.
use Rattle.std.proofs.Common.{◌≡◌, ℕ, ◌+◌, ◌-◌, ◌%◌, ◌^◌, ◌≤◌, false, ◌&&◌, ◌||◌, eqb, ltb, leb, sym, refl, ap, ◌∙◌, add-zero, arith, ltb-false, ltb-true, le-ltb, eq-eqb, ne_eqb, eqb-true, le-leb, leb-true}
use mathlib.Core.Bool.{false≢true}
use Rattle.rules.proofs.Tests.{both, neither, and_both, same, ltb_same}
use Rattle.ring.specs.declared.Queue.{Queue}
use Rattle.ring.specs.Sizes.{most_count}
use Rattle.ring.specs.Queue.{ever_posted, Shared, free_slots, no_room, advanced, grown}
use Rattle.ring.specs.Steps.{Grow}
use Rattle.ring.specs.Counts.{Figures, figures_of, Moved}

-- ---- the tests

-- a sum that may wrap, beside the test that it did not, for a sum
pub by_wrapped : (n all part : ℕ) → n ≤ most_count → all ≤ most_count → part ≤ most_count → leb part all && eqb ((n + part) % 2 ^ 64) all ≡ eqb (n + part) all
by_wrapped n all part f g h =
    same (leb part all && eqb ((n + part) % 2 ^ 64) all) (eqb (n + part) all)
    (λ e.
    let b = both (leb part all) (eqb ((n + part) % 2 ^ 64) all) e in
    eq-eqb (n + part) all (omega (arith, leb-true part all b.0, eqb-true ((n + part) % 2 ^ 64) all b.1)))
    (λ e. ne_eqb (n + part) all (λ s. false≢true (sym e ∙ and_both (le-leb part all (omega arith)) (eq-eqb ((n + part) % 2 ^ 64) all (omega arith)))))

-- and what is left up to a most, for a sum that might pass it
pub by_rest : (n most part : ℕ) → part ≤ most → ltb (most - part) n ≡ ltb most (part + n)
by_rest n most part h = ltb_same (most - part) n most (part + n) (λ l. omega arith) (λ l. omega arith)

-- one more is too many exactly if the most is reached
at_most : (n most : ℕ) → n ≤ most → ltb most (n + 1) ≡ eqb n most
at_most n most h =
    same (ltb most (n + 1)) (eqb n most)
    (λ e. eq-eqb n most (omega (arith, ltb-true most (n + 1) e)))
    (λ e. ne_eqb n most (λ s. omega (arith, ltb-false most (n + 1) e)))

-- ---- the room

-- where there is room, on the ring and in the count
pub grows : (q : Queue) (n : ℕ) → Shared q → no_room q n ≡ false → Grow q n
grows q n s e =
    let f = neither (ltb (free_slots q) n) (ltb most_count (ever_posted q + n)) e in
    record { is = s; room = omega (arith, ltb-false (free_slots q) n f.0, s.posted_below); count_room = ltb-false most_count (ever_posted q + n) f.1 }

pub has_room : (q : Queue) (n : ℕ) → n ≤ free_slots q → ever_posted q + n ≤ most_count → no_room q n ≡ false
has_room q n r c = rw (le-ltb (free_slots q) n r, le-ltb most_count (ever_posted q + n) c)

-- there is no room for one slot more exactly if posted = size - 1, or slots ever posted = 2^64 - 1
pub no_room_one : (q : Queue) → Shared q → ever_posted q ≤ most_count → no_room q 1 ≡ eqb q.posted (q.size - 1) || eqb (ever_posted q) most_count
no_room_one q s h =
    let p : q.posted ≤ q.size - 1 = omega (arith, s.posted_below) in
    rw (by_rest 1 (q.size - 1) q.posted p, at_most q.posted (q.size - 1) p, at_most (ever_posted q) most_count h)

-- ---- how the figures move

pub stay : (q : Queue) → Moved q q 0 0
stay q = record { posted_more = sym (add-zero _); returned_more = sym (add-zero _) }

pub by_grown : (q : Queue) (n : ℕ) → Moved q (grown q n) n 0
by_grown q n = record { posted_more = refl; returned_more = sym (add-zero _) }

pub by_advanced : (q : Queue) (n : ℕ) → Moved q (advanced q n) 0 n
by_advanced q n = record { posted_more = sym (add-zero _); returned_more = refl }

pub moved_both : {a b c : Queue} {n m n' m' : ℕ} → Moved a b n m → Moved b c n' m' → Moved a c (n + n') (m + m')
moved_both f g = record { posted_more = omega (arith, f.posted_more, g.posted_more); returned_more = omega (arith, f.returned_more, g.returned_more) }

-- figures that stand moved by nothing
pub none_moved : {a b : Queue} {n m : ℕ} → Moved a b n m → figures_of b ≡ figures_of a → (n ≡ 0) × (m ≡ 0)
none_moved f e =
    (omega (arith, f.posted_more, ap (λ (x : Figures). x.posted) e), omega (arith, f.returned_more, ap (λ (x : Figures). x.returned) e))
