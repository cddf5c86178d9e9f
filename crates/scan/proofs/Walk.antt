-- The scan slot by slot, as the code walks the posted slots: what is known after k of them, and what the next one makes of it.
-- Assumes nothing.
use Rattle.std.proofs.Common.{ℕ, suc, ◌+◌, ◌-◌, ◌*◌, ◌/◌, ◌^◌, ◌≤◌, ◌<◌, ◌≡◌, refl, sym, ap, ◌∙◌, Bool, true, false, cond, List, [], ◌∷◌, ◌++◌, map, zero-add, add-zero, add-suc, mod-lt, add-one, arith, length, set}
use native.Mathlib.Nat.{sub-zero}
use lib.ListN.{length-map}
use Rattle.rules.specs.declared.Refusal.TheVariants.{NotYet, Contradiction}
use Rattle.rules.specs.Rules.{done}
use Rattle.ring.specs.declared.Queue.{Queue}
use Rattle.slots.specs.Slots.{run}
use Rattle.ring.specs.Queue.{slot_of, advanced}
use Rattle.slots.proofs.Runs.{length_run, run_snoc}
use Rattle.places.specs.Places.{length_place}
use Rattle.places.specs.Words.{Words, dd, eop, length_of}
use Rattle.scan.specs.Slots.{Slot, slot_in, posted_slots}
use Rattle.scan.specs.Scan.{packet_slots, allowed, goes_on, examined, writable, Look, refuse, whole, and_then, scan}
use Rattle.scan.specs.Told.{sum, padded, addresses_of, lengths_of, seen_of, seen_by}
use Rattle.scan.proofs.Rule.{goes_on_lem}
use Rattle.scan.proofs.Packets.{padded_more, sum_more, map_more, last_more, after, after_more, after_refuse, after_whole}

-- ---- one slot of a scan

module _ (buffer k : ℕ) (s : Slot) (rest : List Slot) where
  pub not_done : dd s.words ≡ false → scan buffer k (s ∷ rest) ≡ refuse NotYet
  unfolding scan
  not_done d = rw d

  pub not_allowed : dd s.words ≡ true → allowed buffer k s.words ≡ false → scan buffer k (s ∷ rest) ≡ refuse Contradiction
  unfolding scan
  not_allowed d a = rw (d, a)

  pub allowed_last : dd s.words ≡ true → allowed buffer k s.words ≡ true → eop s.words ≡ true → scan buffer k (s ∷ rest) ≡ whole (s ∷ [])
  unfolding scan
  allowed_last d a e = rw (d, a, e)

  pub allowed_on : dd s.words ≡ true → allowed buffer k s.words ≡ true → eop s.words ≡ false → scan buffer k (s ∷ rest) ≡ and_then s (scan buffer (suc k) rest)
  unfolding scan
  allowed_on d a e = rw (d, a, e)

module _ (q : Queue) (ring list : List ℕ) where
  -- the slot at distance k from head; the first k slots, and those after them
  abbrev pub slot_no : ℕ → Slot
  slot_no k = slot_in ring list (slot_of q k)

  abbrev pub seen : ℕ → List Slot
  seen k = run (slot_in ring list) q.size q.head k

  abbrev pub rest : ℕ → List Slot
  rest k = run (slot_in ring list) q.size (q.head + k) (q.posted - k)

  rest_more : (k : ℕ) → k < q.posted → rest k ≡ slot_no k ∷ rest (suc k)
  unfolding run
  rest_more k h = let e : q.posted - k ≡ suc (q.posted - suc k) = omega arith in rw (e, add-suc q.head k)

  rest_none : (k : ℕ) → q.posted ≤ k → rest k ≡ []
  unfolding run
  rest_none k h = let e : q.posted - k ≡ 0 = omega arith in rw e

module _ (q : Queue) (buffer : ℕ) (ring list : List ℕ) where
  abbrev pub scanned : Look
  scanned = scan buffer 0 (posted_slots q ring list)

  abbrev pub slots_read : ℕ
  slots_read = examined buffer 0 (posted_slots q ring list)

  -- k slots of the packet are seen, none of which is its last, and the total is theirs
  pub record Walked (total k : ℕ) : Type 0 where
    pub few : k < packet_slots
    pub within : k ≤ q.posted
    pub so_far : scanned ≡ after (seen q ring list k) (scan buffer k (rest q ring list k))
    pub read : slots_read ≡ k + examined buffer k (rest q ring list k)
    pub total_is : total ≡ sum (lengths_of (seen q ring list k))
    pub total_small : total ≤ 16383 * k

  -- and the places have what is told of each
  pub record Placed (addresses lengths : List ℕ) (k : ℕ) : Type 0 where
    pub addresses_are : addresses ≡ padded (addresses_of (seen q ring list k))
    pub lengths_are : lengths ≡ padded (lengths_of (seen q ring list k))

  pub first : Walked 0 0
  unfolding run posted_slots after sum
  first = record { few = omega arith; within = omega arith; so_far = rw (add-zero, sub-zero); read = rw (add-zero, sub-zero, zero-add); total_is = refl; total_small = omega arith }

  pub none_placed : Placed (padded []) (padded []) 0
  unfolding run
  none_placed = record { addresses_are = refl; lengths_are = refl }

-- the rule of a slot looks at its word 1 alone
word1_only : (buffer k : ℕ) (x : Words) → allowed buffer k (record { word0 = 0; word1 = x.word1 }) ≡ allowed buffer k x
unfolding allowed
word1_only buffer k x = refl

module _ (q : Queue) (buffer : ℕ) (ring list : List ℕ) (total k : ℕ) (w : Walked q buffer ring list total k) where
  -- past the posted ones
  module _ (h : q.posted ≤ k) where
    pub at_end : scanned q buffer ring list ≡ refuse NotYet
    unfolding scan
    at_end = w.so_far ∙ rw (rest_none q ring list k h) (after_refuse _ _)

    pub read_at_end : slots_read q buffer ring list ≡ k
    unfolding examined
    read_at_end = w.read ∙ rw (rest_none q ring list k h, add-zero)

  -- the slot at distance k, which the code reads at its number
  module _ (h : k < q.posted) (at : ℕ) (is : at ≡ slot_of q k) where
    abbrev here : Slot
    here = slot_in ring list at

    abbrev size : ℕ
    size = length_of here.words

    abbrev ok : Bool
    ok = allowed buffer k (record { word0 = 0; word1 = here.words.word1 })

    allow : {b : Bool} → ok ≡ b → allowed buffer k here.words ≡ b
    allow e = sym (word1_only buffer k here.words) ∙ e

    rest_here : rest q ring list k ≡ here ∷ rest q ring list (suc k)
    rest_here = rest_more q ring list k h ∙ ap (λ (j : ℕ). slot_in ring list j ∷ rest q ring list (suc k)) (sym is)

    from_here : (l : Look) → scan buffer k (here ∷ rest q ring list (suc k)) ≡ l → scanned q buffer ring list ≡ after (seen q ring list k) l
    from_here l e = w.so_far ∙ rw rest_here (ap (after (seen q ring list k)) e)

    -- the scan reads this slot, and goes on behind it or not
    reads : (b : Bool) → goes_on buffer k here.words ≡ b → slots_read q buffer ring list ≡ k + suc (cond b (examined buffer (suc k) (rest q ring list (suc k))) 0)
    unfolding examined
    reads b g = w.read ∙ rw (rest_here, g)

    read_here : goes_on buffer k here.words ≡ false → slots_read q buffer ring list ≡ k + 1
    read_here g = reads false g

    pub at_clear : dd here.words ≡ false → scanned q buffer ring list ≡ refuse NotYet
    at_clear d = from_here _ (not_done _ _ here _ d) ∙ after_refuse _ _

    pub read_at_clear : dd here.words ≡ false → slots_read q buffer ring list ≡ k + 1
    unfolding goes_on writable
    read_at_clear d = read_here (rw d)

    pub at_wrong : dd here.words ≡ true → ok ≡ false → scanned q buffer ring list ≡ refuse Contradiction
    at_wrong d a = from_here _ (not_allowed _ _ here _ d (allow a)) ∙ after_refuse _ _

    pub read_at_wrong : dd here.words ≡ true → ok ≡ false → slots_read q buffer ring list ≡ k + 1
    unfolding goes_on writable
    read_at_wrong d a = read_here (rw (d, allow a))

    more : seen q ring list (k + 1) ≡ seen q ring list k ++ here ∷ []
    more =
        rw (add-one k)
        (run_snoc (slot_in ring list) q.size q.head k
        ∙ ap (λ (j : ℕ). seen q ring list k ++ slot_in ring list j ∷ []) (sym is))

    pub total_more : total + size ≡ sum (lengths_of (seen q ring list (k + 1)))
    total_more = rw (w.total_is, more, map_more) (sym (sum_more _ _))

    -- the packet goes on
    pub next : dd here.words ≡ true → ok ≡ true → eop here.words ≡ false → Walked q buffer ring list (total + size) (k + 1)
    unfolding goes_on writable
    next d a e =
        record {
          few = omega (arith, (goes_on_lem buffer k here.words (allow a) e).1);
          within = omega arith;
          so_far = from_here _ (allowed_on _ _ here _ d (allow a) e) ∙ rw (more, add-one k) (sym (after_more _ _ _));
          read = reads true (rw (d, allow a, e)) ∙ rw (add-one k) (omega arith);
          total_is = total_more;
          total_small = omega (arith, w.total_small, mod-lt (here.words.word1 / 2 ^ (length_place 0).at) {m = 2 ^ (length_place 0).width} (omega arith));
        }

    -- the packet is complete
    module _ (d : dd here.words ≡ true) (a : ok ≡ true) (e : eop here.words ≡ true) where
      pub complete : scanned q buffer ring list ≡ whole (seen q ring list (k + 1))
      complete = from_here _ (allowed_last _ _ here _ d (allow a) e) ∙ after_whole _ _ ∙ ap whole (sym more)

      pub read_complete : slots_read q buffer ring list ≡ k + 1
      unfolding goes_on writable
      read_complete = read_here (rw (d, allow a, e))

    -- what is told of a slot, put at its place
    module _ (addresses lengths : List ℕ) (p : Placed q buffer ring list addresses lengths k) where
      places_more : (f : Slot → ℕ) (ns : List ℕ) → ns ≡ padded (map f (seen q ring list k)) → set ns k (f here) ≡ padded (map f (seen q ring list (k + 1)))
      places_more f ns e =
          let n : length (map f (seen q ring list k)) ≡ k = length-map (seen q ring list k) f ∙ length_run (slot_in ring list) q.size q.head k in
          rw (e, more, map_more)
          (ap (λ (i : ℕ). set (padded (map f (seen q ring list k))) i (f here)) (sym n)
          ∙ padded_more (map f (seen q ring list k)) (f here) (rw n w.few))

      pub next_placed : Placed q buffer ring list (set addresses k here.address) (set lengths k size) (k + 1)
      next_placed =
          record {
            addresses_are = places_more (λ (s : Slot). s.address) addresses p.addresses_are;
            lengths_are = places_more (λ (s : Slot). length_of s.words) lengths p.lengths_are;
          }

      pub told : dd here.words ≡ true → ok ≡ true → eop here.words ≡ true
          → seen_by (scanned q buffer ring list) q
          ≡ record {
            answer = done;
            queue = advanced q (k + 1);
            count = k + 1;
            total = total + size;
            addresses = set addresses k here.address;
            lengths = set lengths k size;
            word0 = here.words.word0;
            word1 = here.words.word1;
          }
      unfolding seen_by seen_of
      told d a e = rw (complete d a e) (rw (next_placed.addresses_are, next_placed.lengths_are, total_more, length_run) (rw (more, last_more)))
