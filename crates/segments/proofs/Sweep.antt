-- What the loop of `crowded` knows at its head, from its first turn to its answer. Assumes nothing.
use Rattle.std.proofs.Common.{ℕ, suc, ◌+◌, ◌-◌, ◌*◌, ◌/◌, ◌≤◌, ◌<◌, min, ◌≡◌, ◌∙◌, true, false, List, arith, add-one, zero-mul, below_more, length, get_or}
use native.Mathlib.Nat.{div-eq_of_lt}
use native.Mathlib.Decide.{dec_lt}
use Rattle.segments.specs.Touch.{most_touched, header_pieces, start_of, is_crowded}
use Rattle.segments.specs.Steps.{sum_limit, Checked, Headed}
use Rattle.segments.proofs.Starts.{start_next, start_up, start_whole}
use Rattle.segments.proofs.Window.{Window, window_is, yes_window, no_window}

-- a byte of the payload begins the same segment, whether a segment goes on past the payload or not
same_start : (mss tlen s : ℕ) {r : ℕ} → s < tlen → r ≡ min mss tlen → s / r * r ≡ s / mss * mss
same_start mss tlen s {r} l e = elim (dec_lt mss tlen) [ yes m ↦ (let p : r ≡ mss = omega arith in rw p) | no n ↦ (let p : r ≡ tlen = omega arith in rw (p, div-eq_of_lt l, div-eq_of_lt {n = s} {m = mss} (omega arith), zero-mul, zero-mul)) ]

-- `end` and `start` are the payload's bytes up to the end of piece i and before piece i + (most_touched - head); no run before i has the window's test
pub record Swept (ls : List ℕ) (header mss tlen head i end start : ℕ) : Type 0 where
  pub ok : Checked ls header mss tlen
  pub hd : Headed ls header head
  pub long : most_touched ≤ length ls
  pub from : head ≤ i
  pub to : i + (most_touched - head) ≤ length ls
  pub ends : header + end ≡ start_of ls (suc i)
  pub starts : header + start ≡ start_of ls (i + (most_touched - head))
  pub none : (k : ℕ) → k < i → head ≤ k → Window ls header mss k (k + (most_touched - head)) → ⊥

module _ {ls : List ℕ} {header mss tlen head : ℕ} where
  pub sweep_first : {e s : ℕ} → Checked ls header mss tlen → Headed ls header head → most_touched ≤ length ls → e ≡ start_of ls (head + 1) → s ≡ start_of ls most_touched
      → Swept ls header mss tlen head head (e - header) (s - header)
  sweep_first ok hd long p q =
      let eight : head + (most_touched - head) ≡ most_touched = omega (arith, hd.few) in
      record {
        ok = ok;
        hd = hd;
        long = long;
        from = omega arith;
        to = omega arith;
        ends = omega (arith, rw add-one at p, start_up ls {i = head} (suc head) (omega arith), hd.past);
        starts = rw eight (omega (arith, start_up ls {i = header_pieces} most_touched (omega arith), ok.within));
        none = λ k l g w. omega arith;
      }

  module _ {i e s : ℕ} (w : Swept ls header mss tlen head i e s) where
    pub sweep_no : length ls ≤ i + (most_touched - head) → is_crowded ls header mss tlen ≡ false
    sweep_no l = no_window ls header mss tlen head w.ok w.hd w.long (λ k g m. w.none k (omega arith) g)

    module _ (more : i + (most_touched - head) < length ls) where
      pub sweep_yes : s / mss * mss < e → is_crowded ls header mss tlen ≡ true
      sweep_yes t =
          yes_window ls header mss tlen head w.ok w.hd w.long i w.from more
          ((window_is ls header mss i (i + (most_touched - head)) e s w.ends w.starts).1 t)

      -- the sums stay within the frame
      pub sweep_room : (e + get_or ls (i + 1) 0 ≤ tlen) × (s + get_or ls (i + (most_touched - head)) 0 ≤ tlen)
      sweep_room =
          (rw add-one (omega (arith, start_whole ls (suc i) (omega arith))), omega (arith, start_whole ls (i + (most_touched - head)) more))

      -- the payload goes on past piece i + (most_touched - head)
      sweep_inside : s < tlen
      sweep_inside = omega (arith, sweep_room, w.ok.each (i + (most_touched - head)) more)

      -- it begins in the segment that the code finds
      pub sweep_fits : {step : ℕ} → step ≡ min mss tlen → (s < sum_limit) × (1 ≤ step)
      sweep_fits p = (omega (arith, sweep_inside, w.ok), omega (arith, sweep_inside, w.ok))

      pub sweep_start : {step b : ℕ} → step ≡ min mss tlen → b ≡ s / step * step → b ≡ s / mss * mss
      sweep_start p q = q ∙ same_start mss tlen s sweep_inside p

      pub sweep_next : e ≤ s / mss * mss → Swept ls header mss tlen head (i + 1) (e + get_or ls (i + 1) 0) (s + get_or ls (i + (most_touched - head)) 0)
      sweep_next t =
          let over : i + 1 + (most_touched - head) ≡ suc (i + (most_touched - head)) = omega arith in
          record {
            ok = w.ok;
            hd = w.hd;
            long = w.long;
            from = omega arith;
            to = omega arith;
            ends = rw add-one (omega (arith, start_next ls (suc i)));
            starts = rw over (omega (arith, start_next ls (i + (most_touched - head))));
            none = below_more _ i w.none (λ g v. omega (arith, (window_is ls header mss i (i + (most_touched - head)) e s w.ends w.starts).0 v));
          }
