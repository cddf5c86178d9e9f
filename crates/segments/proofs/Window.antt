-- Some segment touches over 8 pieces exactly if a run of payload pieces that makes 9 with the header's has the test of the code.
-- Assumes nothing.
use Rattle.std.proofs.Common.{ℕ, suc, ◌+◌, ◌-◌, ◌*◌, ◌/◌, ◌≤◌, ◌<◌, suc-le-suc, max, ◌≡◌, true, false, List, ◌↔◌, inl, inr, ⊎_elim, arith, mul-le-mul_right, div-lt_iff_lt-mul, length}
use native.Mathlib.Nat.{lt-div-mul-add}
use Rattle.segments.specs.Touch.{most_touched, start_of, covers_from, covers_upto, touches, is_crowded}
use Rattle.segments.specs.Steps.{Checked, Headed}
use Rattle.segments.proofs.Count.{Band, Run, run_counted, counted_run}
use Rattle.segments.proofs.Starts.{start_up, start_next, start_before}
use Rattle.segments.proofs.Meaning.{touches_is, crowded_is, not_crowded}

module _ (ls : List ℕ) (header mss : ℕ) where
  -- the segment that holds the first byte of piece j begins before piece i ends
  abbrev pub Window : ℕ → ℕ → Type 0
  Window i j = (start_of ls j - header) / mss * mss < start_of ls (suc i) - header

  -- the same of the payload's bytes before piece j and up to the end of piece i
  pub window_is : (i j e s : ℕ) → header + e ≡ start_of ls (suc i) → header + s ≡ start_of ls j → Window i j ↔ (s / mss * mss < e)
  window_is i j e s p q =
      let u : start_of ls (suc i) - header ≡ e = omega arith in
      let v : start_of ls j - header ≡ s = omega arith in
      rw (u, v) (λ w. w, λ w. w)

module _ (ls : List ℕ) (header mss tlen head : ℕ) (ok : Checked ls header mss tlen) (hd : Headed ls header head) (long : most_touched ≤ length ls) where
  -- a piece is not empty
  longer : (i : ℕ) → i < length ls → start_of ls i < start_of ls (suc i)
  longer i l = omega (arith, ok.each i l, start_next ls i)

  module _ (k : ℕ) (begins : k * mss < tlen) where
    abbrev Low : ℕ → Type 0
    Low i = covers_from header mss k < start_of ls (suc i)

    abbrev High : ℕ → Type 0
    High i = start_of ls i < covers_upto header mss tlen k

    band : Band (touches ls header mss tlen k) Low High head
    band =
        record {
          head = λ i l. (touches_is ls header mss tlen k i).1 (start_of ls i, (omega arith, longer i (omega (arith, hd.few))), inl (hd.inside i l));
          apart =
              λ i g e. let (b, p, o) = (touches_is ls header mss tlen k i).0 e in
              ⊎_elim (λ u. absurd (omega (arith, start_up ls i g, hd.past))) (λ u. (omega arith, omega arith)) o;
          join =
              λ i g l u. let inside = longer i (start_before ls i (length ls) (omega (arith, ok.whole))) in
              (touches_is ls header mss tlen k i).1 (max (start_of ls i) (covers_from header mss k), (omega arith, omega arith), inr (omega arith, omega (arith, ok.spaced)));
          upward = λ i j g l. omega (arith, start_up ls (suc j) (suc-le-suc g));
          downward = λ i j g u. omega (arith, start_up ls j g);
        }

  pub yes_window : (i : ℕ) → head ≤ i → i + (most_touched - head) < length ls → Window ls header mss i (i + (most_touched - head)) → is_crowded ls header mss tlen ≡ true
  yes_window i g l w =
      let j = i + (most_touched - head) in
      let k = (start_of ls j - header) / mss in
      let next = longer j l in
      let last = start_up ls (length ls) l in
      let there = lt-div-mul-add {a = start_of ls j - header} ok.spaced in
      let begins : k * mss < tlen = omega (arith, start_up ls {i = suc i} (length ls) (omega (arith, hd.few)), ok.whole) in
      let r : Run (Low k begins) (High k begins) head (most_touched - head) (length ls) = record { i = i; from = g; to = l; low = omega arith; high = omega (arith, ok.whole) } in
      (crowded_is ls header mss tlen).1 (k, begins, omega (arith, hd.few, run_counted _ _ _ head (length ls) (most_touched - head) (band k begins) r))

  pub no_window : ((i : ℕ) → head ≤ i → i + (most_touched - head) < length ls → Window ls header mss i (i + (most_touched - head)) → ⊥) → is_crowded ls header mss tlen ≡ false
  no_window none =
      not_crowded ls header mss tlen (λ k begins many. by k begins (counted_run _ _ _ head (length ls) (most_touched - head) (band k begins) (omega (arith, hd.few))))
    where
      by : (k : ℕ) (begins : k * mss < tlen) → Run (Low k begins) (High k begins) head (most_touched - head) (length ls) → ⊥
      by k begins r =
          let j = r.i + (most_touched - head) in
          let below = (div-lt_iff_lt-mul {k = mss} {x = start_of ls j - header} {y = k + 1} ok.spaced).1 (omega (arith, r.high, ok.spaced)) in
          none r.i r.from r.to (omega (arith, r.low, mul-le-mul_right {m = (start_of ls j - header) / mss} {n = k} mss (omega arith)))
