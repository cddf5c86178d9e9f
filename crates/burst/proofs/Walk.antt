-- The walk over one packet's slots, from slot to slot: what is known after k of them, and what each way out finds. It is scan's walk, whatever the
-- companion list. Assumes nothing.
use Rattle.std.proofs.Common.{ℕ, ◌+◌, ◌≤◌, ◌<◌, ◌≡◌, ◌∙◌, Bool, true, false, List, arith}
use Rattle.rules.specs.declared.Refusal.TheVariants.{NotYet, Contradiction}
use Rattle.rules.specs.Rules.{done}
use Rattle.ring.specs.declared.Queue.{Queue}
use Rattle.ring.specs.Queue.{Shared, advanced}
use Rattle.slots.specs.Memory.{numbers_at}
use Rattle.slots.specs.Steps.{SlotIs}
use Rattle.slots.proofs.Steps.{here_is, on_is}
use Rattle.slots.proofs.Runs.{length_run}
use Rattle.places.specs.Words.{Words, dd, eop, length_of}
use Rattle.scan.specs.Slots.{words_of}
use Rattle.scan.specs.Scan.{allowed, Look, refuse}
use Rattle.scan.proofs.Walk.{Walked, scanned, slots_read, first, at_end, read_at_end, at_clear, read_at_clear, at_wrong, read_at_wrong, next, complete, read_complete, total_more}
use Rattle.burst.specs.declared.Found.{Found}
use Rattle.burst.specs.Polls.{found_by}
use Rattle.burst.specs.Steps.{FoundAs}

module _ (q : Queue) (buffer : ℕ) (ring : List ℕ) where
  -- k slots of the packet are passed, none of which is its last, the total is theirs, and `at` is the slot behind them
  pub record Walking (at total k : ℕ) : Type 0 where
    pub behind : SlotIs q.head q.size k at
    pub walked : (list : List ℕ) → Walked q buffer ring list total k

  pub begins : Shared q → Walking q.head 0 0
  begins s = record { behind = here_is s.head_below (omega (arith, s.size_high)); walked = λ list. first q buffer ring list }

  module _ (at total k : ℕ) (w : Walking at total k) where
    found : (l : Look) (e : ℕ) (r : Found) → r ≡ found_by l q e → ((list : List ℕ) → scanned q buffer ring list ≡ l) → ((list : List ℕ) → slots_read q buffer ring list ≡ e)
        → FoundAs q buffer ring r
    found l e r h s x list = h ∙ rw (s list, x list)

    -- past the posted ones
    pub end_found : q.posted ≤ k → (r : Found) → r ≡ found_by (refuse NotYet) q k → FoundAs q buffer ring r
    end_found h r e = found (refuse NotYet) k r e (λ list. at_end q buffer ring list total k (w.walked list) h) (λ list. read_at_end q buffer ring list total k (w.walked list) h)

    module _ (h : k < q.posted) where
      abbrev here : Words
      here = words_of (numbers_at 2 ring at)

      abbrev ok : Bool
      ok = allowed buffer k (record { word0 = 0; word1 = here.word1 })

      pub clear_found : dd here ≡ false → (r : Found) → r ≡ found_by (refuse NotYet) q (k + 1) → FoundAs q buffer ring r
      clear_found d r e =
          found (refuse NotYet) (k + 1) r e
          (λ list. at_clear q buffer ring list total k (w.walked list) h at w.behind.is d)
          (λ list. read_at_clear q buffer ring list total k (w.walked list) h at w.behind.is d)

      pub wrong_found : dd here ≡ true → ok ≡ false → (r : Found) → r ≡ found_by (refuse Contradiction) q (k + 1) → FoundAs q buffer ring r
      wrong_found d a r e =
          found (refuse Contradiction) (k + 1) r e
          (λ list. at_wrong q buffer ring list total k (w.walked list) h at w.behind.is d a)
          (λ list. read_at_wrong q buffer ring list total k (w.walked list) h at w.behind.is d a)

      -- the packet is complete
      pub whole_found : dd here ≡ true → ok ≡ true → eop here ≡ true
          → FoundAs q buffer ring (record { answer = done; queue = advanced q (k + 1); count = k + 1; total = total + length_of here; examined = k + 1 })
      unfolding found_by
      whole_found d a e list =
          rw (complete q buffer ring list total k (w.walked list) h at w.behind.is d a e, read_complete q buffer ring list total k (w.walked list) h at w.behind.is d a e)
          (rw (length_run, total_more q buffer ring list total k (w.walked list) h at w.behind.is))

      -- the packet goes on
      pub goes_on : dd here ≡ true → ok ≡ true → eop here ≡ false → {at' : ℕ} → SlotIs at q.size 1 at' → Walking at' (total + length_of here) (k + 1)
      goes_on d a e s = record { behind = on_is w.behind s; walked = λ list. next q buffer ring list total k (w.walked list) h at w.behind.is d a e }
