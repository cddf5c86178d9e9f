-- What the loop of `fill` knows at its head, from its first turn to its end.
-- Assumes nothing.
use Rattle.std.proofs.Common.{ℕ, suc, ◌+◌, ◌-◌, ◌≤◌, ◌<◌, ◌≡◌, refl, sym, ap, ◌∙◌, true, false, cond, List, [], ◌∷◌, ◌++◌, arith, add-one, le-leb, leb, length, get_or, take, drop, set, length-set, length-append, drop_of_length-le, drop-cons, take-suc-set, drop-set-lt, drop-drop, length-take-le}
use native.Mathlib.Decide.{dec_lt}
use borrow.Author.Tests.{lt-leb}
use lib.Seq.{append_snoc, set_split}
use Rattle.segments.specs.Touch.{start_of, total}
use Rattle.segments.proofs.Starts.{start_zero, start_next}
use Rattle.runs.specs.Runs.{joined, grow, runs_of, laid}
use Rattle.runs.specs.declared.RunsBy.{RunsBy}
use Rattle.runs.specs.declared.RunsBy.TheVariants.{Pieces, Bytes}
use Rattle.runs.specs.Steps.{told_by, told_in, plan_for, Filled}
use Rattle.runs.proofs.Joined.{start_cons, part_total, joined_length}

-- a run of n pieces from a up to i with so many bytes, and the runs after it
told_run : (by : RunsBy) (ls : List ℕ) (a n i bytes : ℕ) (plan : List ℕ) → a + n ≡ i → start_of ls a + bytes ≡ start_of ls i
    → told_in by (drop a ls) (n ∷ plan) ≡ told_by by n bytes ∷ told_in by (drop i ls) plan
unfolding joined
told_run Bytes ls a n i bytes plan e s =
    let t : total (take n (drop a ls)) ≡ bytes = omega (arith, part_total ls a n, ap (start_of ls) e) in
    rw (t, drop-drop n a ls, e)
told_run Pieces ls a n i bytes plan e s = refl

told_length : (by : RunsBy) (ls plan : List ℕ) → length (told_in by ls plan) ≡ length plan
told_length Bytes ls plan = joined_length ls plan
told_length Pieces ls plan = refl

told_none : (by : RunsBy) (ls : List ℕ) → told_in by ls [] ≡ []
unfolding joined
told_none Bytes ls = refl
told_none Pieces ls = refl

-- The first `count` places hold the closed runs, and the pieces from i on make the rest of the plan. The open run has the `held` pieces before
-- them.
pub record Filling (by : RunsBy) (ls : List ℕ) (cap : ℕ) (old runs : List ℕ) (count held bytes i : ℕ) : Type 0 where
  pub room : length ls ≤ length runs
  pub same : length runs ≡ length old
  pub upto : i ≤ length ls
  pub below : count < i
  pub holds : held ≤ i
  pub opened : start_of ls (i - held) + bytes ≡ start_of ls i
  pub front : take count runs ++ told_in by (drop (i - held) ls) (grow cap held bytes (drop i ls)) ≡ told_in by ls (runs_of ls cap)
  pub back : drop count runs ≡ drop count old

pub filling_first : (by : RunsBy) (ls : List ℕ) (cap : ℕ) (old : List ℕ) → 1 ≤ length ls → length ls ≤ length old → Filling by ls cap old old 0 1 (get_or ls 0 0) 1
unfolding runs_of
filling_first by [] cap old s r = absurd (omega arith)
filling_first by (l ∷ ls) cap old s r =
    record {
      room = r;
      same = refl;
      upto = s;
      below = omega arith;
      holds = omega arith;
      opened = omega (arith, start_zero (l ∷ ls), start_cons l ls 0, start_zero ls);
      front = refl;
      back = refl;
    }

-- no piece, or too few places
no_plan : (ls : List ℕ) (cap : ℕ) (old : List ℕ) → (1 ≤ length ls → length ls ≤ length old → ⊥) → plan_for ls cap old ≡ []
unfolding plan_for runs_of
no_plan [] cap old h = rw (le-leb 0 (length old) (omega arith))
no_plan (l ∷ ls) cap old h = rw (lt-leb (suc (length ls)) (length old) short)
  where
    short : length old < suc (length ls)
    short = elim (dec_lt (length old) (suc (length ls))) [ yes l ↦ l | no n ↦ absurd (h (omega arith) (omega arith)) ]

pub filling_none : (by : RunsBy) (ls : List ℕ) (cap : ℕ) (old : List ℕ) → (1 ≤ length ls → length ls ≤ length old → ⊥) → Filled by ls cap old old 0
filling_none by ls cap old h =
    let e = sym (no_plan ls cap old h) in
    record { count_is = ap length e; runs_are = ap (λ (x : List ℕ). laid x old) (sym (told_none by ls) ∙ ap (told_in by ls) e) }

module _ {by : RunsBy} {ls : List ℕ} {cap : ℕ} {old runs : List ℕ} {count held bytes i : ℕ} (w : Filling by ls cap old runs count held bytes i) where
  -- the places behind the next run
  past : drop (suc count) runs ≡ drop (suc count) old
  past = rw add-one at (sym (drop-drop 1 count runs) ∙ ap (drop 1) w.back ∙ drop-drop 1 count old)

  abbrev rest : List ℕ → List ℕ
  rest plan = told_in by (drop (i - held) ls) plan

  closed : (plan : List ℕ) → rest (held ∷ plan) ≡ told_by by held bytes ∷ told_in by (drop i ls) plan
  closed plan = told_run by ls (i - held) held i bytes plan (omega arith) w.opened

  module _ (more : i < length ls) where
    grown : grow cap held bytes (drop i ls) ≡ cond (leb (bytes + get_or ls i 0) cap) (grow cap (suc held) (bytes + get_or ls i 0) (drop (suc i) ls)) (held ∷ grow cap 1 (get_or ls i 0) (drop (suc i) ls))
    unfolding grow
    grown = rw (drop-cons ls i 0 more)

    pub filling_join : leb (bytes + get_or ls i 0) cap ≡ true → Filling by ls cap old runs count (held + 1) (bytes + get_or ls i 0) (i + 1)
    filling_join e =
        let from : i + 1 - (held + 1) ≡ i - held = omega arith in
        record {
          room = w.room;
          same = w.same;
          upto = omega arith;
          below = omega arith;
          holds = omega arith;
          opened = rw (from, add-one i) (omega (arith, start_next ls i, w.opened));
          front = rw (from, add-one held, add-one i) (rw (grown, e) at w.front);
          back = w.back;
        }

    pub filling_cut : {v : ℕ} → leb (bytes + get_or ls i 0) cap ≡ false → v ≡ told_by by held bytes → Filling by ls cap old (set runs count v) (count + 1) 1 (get_or ls i 0) (i + 1)
    filling_cut {v} e t =
        let from : i + 1 - 1 ≡ i = omega arith in
        record {
          room = rw (length-set runs count v) w.room;
          same = rw (length-set runs count v) w.same;
          upto = omega arith;
          below = omega arith;
          holds = omega arith;
          opened = rw (from, add-one i) (sym (start_next ls i));
          front = rw (from, add-one count, add-one i, take-suc-set runs count v (omega arith), append_snoc, t) (rw (grown, e, closed (grow cap 1 (get_or ls i 0) (drop (suc i) ls))) at w.front);
          back = rw (add-one count, drop-set-lt (suc count) runs count v (omega arith)) past;
        }

  pub filling_done : {v : ℕ} → length ls ≤ i → v ≡ told_by by held bytes → Filled by ls cap old (set runs count v) (count + 1)
  unfolding plan_for grow
  filling_done {v} l t =
      let fit = le-leb (length ls) (length old) (omega arith) in
      let plan : take count runs ++ (v ∷ []) ≡ told_in by ls (runs_of ls cap) = rw t (rw (drop_of_length-le ls {i = i} l, closed [], told_none by (drop i ls)) at w.front) in
      let many : length (take count runs ++ (v ∷ [])) ≡ suc count = rw length-append (omega (arith, length-take-le count runs (omega arith))) in
      record {
        count_is = rw (fit, add-one count) (sym many ∙ ap length plan ∙ told_length by ls (runs_of ls cap));
        runs_are = rw (fit, ← plan, many, set_split runs count v (omega arith), append_snoc, past);
      }
