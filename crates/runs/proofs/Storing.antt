-- What the loops of `covered`, `join_lengths`, `join_addresses` and `place_copies` know at their heads.
-- Assumes nothing.
use Rattle.std.proofs.Common.{ℕ, suc, ◌+◌, ◌-◌, ◌≤◌, ◌<◌, min, ◌≡◌, refl, sym, ap, ◌∙◌, Bool, true, false, cond, true≢false, List, arith, add-one, below_none, below_more, le-leb, eqb-true, eq-eqb, leb, eqb, length, get_or, set, length-set, ext_get_or, get_or-set_same, get_or-set_other}
use borrow.Author.Tests.{eqb-false}
use Rattle.rules.specs.Rules.{within, all_below}
use Rattle.rules.proofs.Tests.{and_both, same, within_is, all_none, all_more}
use Rattle.request.specs.Sound.{most_length}
use Rattle.segments.specs.Touch.{start_of, total}
use Rattle.segments.proofs.Starts.{start_zero, start_next, start_step, start_whole}
use Rattle.runs.specs.Runs.{joined, covers, noted}
use Rattle.runs.specs.Steps.{Covered, Placed}
use Rattle.runs.proofs.Tests.{not_so, within_yes}
use Rattle.runs.proofs.Joined.{joined_start, noted_at, covers_total, covers_each}

-- ---- covered

abbrev some_at : List ℕ → ℕ → Bool
some_at plan r = leb 1 (get_or plan r 0)

-- `left` of n pieces are left after r runs, none of which is 0
pub record Counting (n : ℕ) (plan : List ℕ) (left r : ℕ) : Type 0 where
  pub upto : r ≤ length plan
  pub whole : start_of plan r + left ≡ n
  pub some : true ≡ all_below r (some_at plan)

pub counting_first : (n : ℕ) (plan : List ℕ) → Counting n plan n 0
counting_first n plan = record { upto = omega arith; whole = omega (arith, start_zero plan); some = all_none (some_at plan) }

module _ {n : ℕ} {plan : List ℕ} {left r : ℕ} (w : Counting n plan left r) where
  module _ (more : r < length plan) where
    pub counting_next : within 1 left (get_or plan r 0) ≡ true → Counting n plan (left - get_or plan r 0) (r + 1)
    counting_next e =
        let h = within_is 1 left (get_or plan r 0) e in
        record {
          upto = omega arith;
          whole = rw add-one (omega (arith, start_next plan r));
          some = sym (and_both (le-leb 1 (get_or plan r 0) h.0) refl) ∙ all_more (some_at plan) r w.some;
        }

    pub counting_no : within 1 left (get_or plan r 0) ≡ false → false ≡ covers plan n
    counting_no e =
        sym
        (not_so (covers plan n)
        (λ c. true≢false (sym (within_yes 1 left (get_or plan r 0) (covers_each n plan c r more) (omega (arith, start_whole plan r more, covers_total n plan c))) ∙ e)))

  pub counting_done : length plan ≤ r → eqb left 0 ≡ covers plan n
  unfolding covers
  counting_done l =
      let e : r ≡ length plan = omega arith in
      let t : start_of plan r ≡ total plan = ap (start_of plan) e in
      same (eqb left 0) (covers plan n)
      (λ p. and_both (eq-eqb (total plan) n (omega (arith, eqb-true left 0 p))) (rw e at (sym w.some)))
      (λ p. not_so (covers plan n) (λ c. eqb-false left 0 p (omega (arith, covers_total n plan c))))

-- ---- the stores

-- the first r places of `out` hold those of `js`, and piece `at` is the next
pub record Storing (n : ℕ) (plan js out : List ℕ) (at r : ℕ) : Type 0 where
  pub cover : covers plan n ≡ true
  pub room : length out ≡ length plan
  pub upto : r ≤ length plan
  pub at_is : at ≡ start_of plan r
  pub done : (k : ℕ) → k < r → get_or out k 0 ≡ get_or js k 0

pub storing_first : (n : ℕ) (plan js out : List ℕ) → Covered n plan out → Storing n plan js out 0 0
storing_first n plan js out c = record { cover = c.cover; room = c.room; upto = omega arith; at_is = sym (start_zero plan); done = below_none _ }

module _ {n : ℕ} {plan js out : List ℕ} {at r : ℕ} (w : Storing n plan js out at r) where
  -- the run at hand has pieces, and all of them are there
  pub storing_run : r < length plan → (1 ≤ get_or plan r 0) × (at + get_or plan r 0 ≤ n)
  storing_run l = (covers_each n plan w.cover r l, omega (arith, w.at_is, start_whole plan r l, covers_total n plan w.cover))

  pub storing_next : (v : ℕ) → r < length plan → v ≡ get_or js r 0 → Storing n plan js (set out r v) (at + get_or plan r 0) (r + 1)
  storing_next v l e =
      record {
        cover = w.cover;
        room = length-set out r v ∙ w.room;
        upto = omega arith;
        at_is = start_step plan at r w.at_is;
        done = below_more _ r (λ k h. get_or-set_other out r k v 0 (λ q. omega arith) ∙ w.done k h) (get_or-set_same out r v 0 (omega arith) ∙ e);
      }

  pub storing_done : length js ≡ length plan → length plan ≤ r → out ≡ js
  storing_done e l = ext_get_or 0 out js (omega arith) (λ k h. w.done k (omega arith))

-- the bytes of the run at hand, as they are noted
pub storing_bytes : (ls : List ℕ) {plan js out : List ℕ} {at r b : ℕ} → Storing (length ls) plan js out at r
    → b ≡ min (start_of ls (at + get_or plan r 0) - start_of ls at) (most_length + 1) → b ≡ get_or (noted (joined ls plan)) r 0
storing_bytes ls {plan} {js} {out} {at} {r} {b} w e =
    let next : at + get_or plan r 0 ≡ start_of plan (suc r) = omega (arith, start_next plan r, w.at_is) in
    omega (arith, ap (start_of ls) next, ap (start_of ls) w.at_is, start_next (joined ls plan) r, joined_start ls plan r, joined_start ls plan (suc r), noted_at (joined ls plan) r)

-- ---- the addresses of copied runs

-- the address at place r
abbrev placed : List ℕ → List ℕ → List ℕ → ℕ → ℕ
placed plan copies old r = cond (eqb (get_or plan r 0) 1) (get_or old r 0) (get_or copies r 0)

-- the first r places are done, the others are as they were
pub record Placing (plan copies old new : List ℕ) (r : ℕ) : Type 0 where
  pub room : length new ≡ length old
  pub upto : r ≤ length plan
  pub done : (k : ℕ) → k < r → get_or new k 0 ≡ placed plan copies old k
  pub left : (k : ℕ) → r ≤ k → get_or new k 0 ≡ get_or old k 0

pub placing_first : (plan copies old : List ℕ) → Placing plan copies old old 0
placing_first plan copies old = record { room = refl; upto = omega arith; done = below_none _; left = λ k h. refl }

module _ {plan copies old new : List ℕ} {r : ℕ} (w : Placing plan copies old new r) where
  pub placing_next : (v : ℕ) → r < length plan → length old ≡ length plan → v ≡ cond (eqb (get_or plan r 0) 1) (get_or new r 0) (get_or copies r 0) → Placing plan copies old (set new r v) (r + 1)
  placing_next v l p e =
      record {
        room = length-set new r v ∙ w.room;
        upto = omega arith;
        done = below_more _ r (λ k h. get_or-set_other new r k v 0 (λ q. omega arith) ∙ w.done k h) (get_or-set_same new r v 0 (omega (arith, w.room)) ∙ rw (w.left r (omega arith)) at e);
        left = λ k h. get_or-set_other new r k v 0 (λ q. omega arith) ∙ w.left k (omega arith);
      }

  pub placing_done : length plan ≤ r → Placed plan copies old new
  placing_done l = record { room = w.room; each = λ k h. w.done k (omega arith) }
