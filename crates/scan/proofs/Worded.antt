-- The rule slot by slot and 02's sentence on a packet say the same: what is a packet by the one is one by the other.
-- Assumes nothing.
use Rattle.std.proofs.Common.{ℕ, suc, ◌+◌, ◌≤◌, ◌<◌, ◌≡◌, refl, ap, ⊎_elim, true, false, List, [], ◌∷◌, ◌++◌, arith, le-leb, lt-ltb, length}
use Rattle.rules.proofs.Tests.{within_is}
use Rattle.places.specs.Words.{eop, length_of}
use Rattle.scan.specs.Slots.{Slot}
use Rattle.scan.specs.Scan.{data_slots, writable, Complete, ends, goes}
use Rattle.scan.specs.Packet.{HasData, IsEmpty, IsWritten, Each, LastEnds, DataThenEmpty}
use Rattle.scan.proofs.Rule.{of_empty, of_data, one_of, goes_on_lem, parts, joined}

ends_more : (s : Slot) (p : List Slot) → eop s.words ≡ false → LastEnds p → LastEnds (s ∷ p)
ends_more s [] e l = absurd l
ends_more s (t ∷ r) e l = (e, l)

module _ (buffer : ℕ) where
  -- a packet by the rule is one in 02's words
  pub as_worded : (k : ℕ) (p : List Slot) → k ≤ data_slots → Complete buffer k p → DataThenEmpty buffer k p
  as_worded k [] h c = elim c [ ]
  as_worded k (s ∷ []) h (ends w e) =
      let b = parts buffer k s.words w in
      ⊎_elim
      (λ z.
      record {
        full = [];
        empty = s ∷ [];
        are = refl;
        one_or_more = omega (arith, z.2);
        up_to_five = omega arith;
        at_most_one = omega arith;
        with_data = tt;
        without = (z.0, tt);
        written = (b.0, tt);
        last_ends = e;
      })
      (λ d.
      record {
        full = s ∷ [];
        empty = [];
        are = refl;
        one_or_more = omega arith;
        up_to_five = omega (arith, d.1);
        at_most_one = omega arith;
        with_data = (d.0, tt);
        without = tt;
        written = (b.0, tt);
        last_ends = e;
      })
      (one_of buffer k s.words b.1)
  as_worded k (s ∷ p) h (goes w e c) =
      let b = parts buffer k s.words w in
      let d = goes_on_lem buffer k s.words b.1 e in
      let r = as_worded (suc k) p (omega (arith, d.1)) c in
      record {
        full = s ∷ r.full;
        empty = r.empty;
        are = ap (λ (l : List Slot). s ∷ l) r.are;
        one_or_more = omega arith;
        up_to_five = omega (arith, r.up_to_five);
        at_most_one = r.at_most_one;
        with_data = (d.0, r.with_data);
        without = r.without;
        written = (b.0, r.written);
        last_ends = ends_more s p e r.last_ends;
      }

  module _ (k : ℕ) (s : Slot) (d : IsWritten s) where
    data_writable : HasData buffer s → k < data_slots → writable buffer k s.words ≡ true
    data_writable w h =
        let b = within_is 1 buffer (length_of s.words) w in
        joined buffer k s.words d (rw (of_data buffer k s.words (λ z. omega arith), le-leb (length_of s.words) buffer b.1, lt-ltb k data_slots h))

    empty_writable : IsEmpty s → eop s.words ≡ true → 1 ≤ k → writable buffer k s.words ≡ true
    empty_writable z e h = joined buffer k s.words d (rw (of_empty buffer k s.words z, e, le-leb 1 k h))

  -- and what is one in 02's words is one by the rule
  by_words : (k : ℕ) (full empty : List Slot) → 1 ≤ k + length full → k + length full ≤ data_slots → length empty ≤ 1
      → Each (HasData buffer) full → Each IsEmpty empty → Each IsWritten (full ++ empty) → LastEnds (full ++ empty) → Complete buffer k (full ++ empty)
  by_words k [] [] one few most filled none done last = absurd last
  by_words k [] (s ∷ []) one few most filled none done last = ends (empty_writable k s done.0 none.0 last (omega arith)) last
  by_words k [] (s ∷ (t ∷ r)) one few most filled none done last = absurd (omega arith)
  by_words k (s ∷ []) [] one few most filled none done last = ends (data_writable k s done.0 filled.0 (omega arith)) last
  by_words k (s ∷ []) (t ∷ r) one few most filled none done last =
      goes (data_writable k s done.0 filled.0 (omega arith)) last.0
      (by_words (suc k) [] (t ∷ r) (omega arith) (omega arith) most tt none done.1 last.1)
  by_words k (s ∷ (t ∷ f)) empty one few most filled none done last =
      goes (data_writable k s done.0 filled.0 (omega arith)) last.0
      (by_words (suc k) (t ∷ f) empty (omega arith) (omega arith) most filled.1 none done.1 last.1)

  pub worded_as : (k : ℕ) (p : List Slot) → DataThenEmpty buffer k p → Complete buffer k p
  worded_as k p d =
      rw d.are
      (by_words k d.full d.empty d.one_or_more d.up_to_five d.at_most_one d.with_data d.without
      (rw d.are at d.written) (rw d.are at d.last_ends))
