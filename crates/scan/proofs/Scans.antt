-- What a scan sees: whole, exactly the first of the slots that make a packet as the device's rules have it; and what is told of each of them.
-- Assumes nothing.
use Rattle.std.proofs.Common.{ℕ, suc, ◌+◌, ◌-◌, ◌≤◌, ◌<◌, ◌≡◌, refl, sym, ap, ◌∙◌, ◌⊎◌, inl, inr, Bool, true, false, not, ◌&&◌, cond, true≢false, List, [], ◌∷◌, ◌++◌, map, arith, length, get_or, take, length-append, Err}
use borrow.Author.Tests.{not-true}
use lib.ListN.{length-map, get_or-eq_default}
use Rattle.rules.specs.declared.Refusal.{Refusal}
use Rattle.rules.specs.declared.Refusal.TheVariants.{NotYet, Contradiction}
use Rattle.rules.specs.Rules.{Answer, done, answer_of}
use Rattle.rules.proofs.Tests.{both}
use Rattle.ring.specs.declared.Queue.{Queue}
use Rattle.slots.specs.Slots.{run}
use Rattle.ring.specs.Queue.{slot_of}
use Rattle.slots.proofs.Runs.{length_run, get_or_run, run_take}
use Rattle.places.specs.Words.{dd, eop}
use Rattle.scan.specs.Slots.{Slot, slot_in, posted_slots}
use Rattle.scan.specs.Scan.{packet_slots, allowed, writable, Complete, ends, goes, goes_on, examined, Look, refuse, whole, and_then, scan, slot_checks}
use Rattle.scan.specs.Told.{padded}
use Rattle.scan.proofs.Packets.{padded_at, map_at}
use Rattle.scan.proofs.Rule.{goes_on_lem, parts, joined}
use Rattle.scan.proofs.Walk.{not_done, not_allowed, allowed_last, allowed_on}

module _ (buffer : ℕ) where
  -- a packet has a slot, and at most six
  pub has_some : (k : ℕ) (p : List Slot) → Complete buffer k p → 1 ≤ length p
  has_some k [] c = elim c [ ]
  has_some k (s ∷ []) (ends w e) = omega arith
  has_some k (s ∷ p) (goes w e c) = omega arith

  pub has_few : (k : ℕ) (p : List Slot) → k < packet_slots → Complete buffer k p → k + length p ≤ packet_slots
  has_few k [] h c = elim c [ ]
  has_few k (s ∷ []) h (ends w e) = omega arith
  has_few k (s ∷ p) h (goes w e c) =
      omega (arith, has_few (suc k) p (omega (arith, (goes_on_lem buffer k s.words (parts buffer k s.words w).1 e).1)) c)

  -- a scan of slots that begin with a packet sees it whole
  pub is_seen : (k : ℕ) (p rest : List Slot) → Complete buffer k p → scan buffer k (p ++ rest) ≡ whole p
  unfolding and_then
  is_seen k [] rest c = elim c [ ]
  is_seen k (s ∷ []) rest (ends w e) = let b = parts buffer k s.words w in allowed_last buffer k s rest b.0 b.1 e
  is_seen k (s ∷ p) rest (goes w e c) =
      let b = parts buffer k s.words w in
      allowed_on buffer k s (p ++ rest) b.0 b.1 e ∙ rw (is_seen (suc k) p rest c)

-- a packet, and the slots after it
pub record Begins (buffer k : ℕ) (slots p : List Slot) : Type 0 where
  pub complete : Complete buffer k p
  pub rest : List Slot
  pub are : slots ≡ p ++ rest

-- and what a scan sees whole is a packet that the slots begin with
pub seen_is : (buffer k : ℕ) (slots p : List Slot) → scan buffer k slots ≡ whole p → Begins buffer k slots p
unfolding scan and_then
seen_is buffer k [] p h = let z : ◌≡◌ {A = ℕ} 0 1 = cc in absurd (omega arith)
seen_is buffer k (s ∷ rest) p h =
    go (dd s.words) (allowed buffer k s.words) (eop s.words) (scan buffer (suc k) rest) refl refl refl h (λ p'. seen_is buffer (suc k) rest p')
  where
    onward : (l : Look) → and_then s l ≡ whole p → writable buffer k s.words ≡ true → eop s.words ≡ false
        → ((p' : List Slot) → l ≡ whole p' → Begins buffer (suc k) rest p') → Begins buffer k (s ∷ rest) p
    onward (refuse n) h w e r = let z : ◌≡◌ {A = ℕ} 0 1 = cc in absurd (omega arith)
    onward (whole p') h w e r =
        let b = r p' refl in
        let q : s ∷ p' ≡ p = cc in
        rw (← q) (record { complete = goes w e b.complete; rest = b.rest; are = ap (λ (x : List Slot). s ∷ x) b.are })

    go : (d a e : Bool) (f : Look) → dd s.words ≡ d → allowed buffer k s.words ≡ a → eop s.words ≡ e
        → cond (not d) (refuse NotYet) (cond (not a) (refuse Contradiction) (cond e (whole (s ∷ [])) (and_then s f))) ≡ whole p
        → ((p' : List Slot) → f ≡ whole p' → Begins buffer (suc k) rest p') → Begins buffer k (s ∷ rest) p
    go false a e f hd ha he h r = let z : ◌≡◌ {A = ℕ} 0 1 = cc in absurd (omega arith)
    go true false e f hd ha he h r = let z : ◌≡◌ {A = ℕ} 0 1 = cc in absurd (omega arith)
    go true true true f hd ha he h r =
        let q : s ∷ [] ≡ p = cc in
        rw (← q) (record { complete = ends (joined buffer k s.words hd ha) he; rest = rest; are = refl })
    go true true false f hd ha he h r = onward f h (joined buffer k s.words hd ha) he r

-- a scan refuses with 4 or 5
pub refused_with : (buffer k : ℕ) (slots : List Slot) (n : Refusal) → scan buffer k slots ≡ refuse n → (n ≡ NotYet) ⊎ (n ≡ Contradiction)
unfolding scan and_then
refused_with buffer k [] n h = inl (cc)
refused_with buffer k (s ∷ rest) n h =
    go (dd s.words) (allowed buffer k s.words) (eop s.words) (scan buffer (suc k) rest) h (λ m. refused_with buffer (suc k) rest m)
  where
    go : (d a e : Bool) (f : Look) → cond (not d) (refuse NotYet) (cond (not a) (refuse Contradiction) (cond e (whole (s ∷ [])) (and_then s f))) ≡ refuse n
        → ((m : Refusal) → f ≡ refuse m → (m ≡ NotYet) ⊎ (m ≡ Contradiction)) → (n ≡ NotYet) ⊎ (n ≡ Contradiction)
    go false a e f h r = inl (cc)
    go true false e f h r = inr (cc)
    go true true true f h r = let z : ◌≡◌ {A = ℕ} 0 1 = cc in absurd (omega arith)
    go true true false (refuse m) h r = let e : m ≡ n = cc in rw (← e) (r m refl)
    go true true false (whole p) h r = let z : ◌≡◌ {A = ℕ} 0 1 = cc in absurd (omega arith)

-- ---- the slots that a scan examines

module _ (buffer k : ℕ) (s : Slot) (g : goes_on buffer k s.words ≡ true) where
  -- it goes on behind a slot that is written, as the rules allow it there, without EOP
  going : (dd s.words ≡ true) × (allowed buffer k s.words ≡ true) × (eop s.words ≡ false)
  unfolding goes_on
  going =
      let b = both (writable buffer k s.words) (not (eop s.words)) g in
      let p = parts buffer k s.words b.0 in
      (p.0, p.1, not-true _ b.1)

  -- so never behind the sixth
  goes_within : suc k < packet_slots
  goes_within = omega (arith, (goes_on_lem buffer k s.words going.1 going.2).1)

  -- and what it sees is the slot before what it sees behind it
  goes_alike : (r r' : List Slot) → scan buffer (suc k) r ≡ scan buffer (suc k) r' → scan buffer k (s ∷ r) ≡ scan buffer k (s ∷ r')
  goes_alike r r' e =
      allowed_on buffer k s r going.0 going.1 going.2 ∙ rw e (sym (allowed_on buffer k s r' going.0 going.1 going.2))

module _ (buffer : ℕ) where
  -- none past the posted
  pub reads_posted : (k : ℕ) (slots : List Slot) → examined buffer k slots ≤ length slots
  unfolding examined
  reads_posted k [] = omega arith
  reads_posted k (s ∷ rest) = go (goes_on buffer k s.words) (reads_posted (suc k) rest)
    where
      go : (b : Bool) → examined buffer (suc k) rest ≤ length rest → suc (cond b (examined buffer (suc k) rest) 0) ≤ suc (length rest)
      go true r = omega arith
      go false r = omega arith

  -- at most six
  pub reads_few : (k : ℕ) (slots : List Slot) → k < packet_slots → k + examined buffer k slots ≤ packet_slots
  unfolding examined
  reads_few k [] h = omega arith
  reads_few k (s ∷ rest) h = go (goes_on buffer k s.words) refl (λ l. reads_few (suc k) rest l)
    where
      go : (b : Bool) → goes_on buffer k s.words ≡ b → (suc k < packet_slots → suc k + examined buffer (suc k) rest ≤ packet_slots)
          → k + suc (cond b (examined buffer (suc k) rest) 0) ≤ packet_slots
      go true e r = omega (arith, r (goes_within buffer k s e))
      go false e r = omega arith

  -- of a whole packet its slots
  reads_packet : (k : ℕ) (p rest : List Slot) → Complete buffer k p → examined buffer k (p ++ rest) ≡ length p
  unfolding examined goes_on
  reads_packet k [] rest c = elim c [ ]
  reads_packet k (s ∷ []) rest (ends w e) = rw (w, e)
  reads_packet k (s ∷ p) rest (goes w e c) = rw (w, e) (ap suc (reads_packet (suc k) p rest c))

  pub reads_whole : (k : ℕ) (slots p : List Slot) → scan buffer k slots ≡ whole p → examined buffer k slots ≡ length p
  reads_whole k slots p h =
      let b = seen_is buffer k slots p h in
      ap (examined buffer k) b.are ∙ reads_packet k p b.rest b.complete

-- what stands behind a slot that it does not go on behind makes no difference
stops_alike : (buffer k : ℕ) (s : Slot) (r r' : List Slot) → goes_on buffer k s.words ≡ false → scan buffer k (s ∷ r) ≡ scan buffer k (s ∷ r')
unfolding goes_on writable
stops_alike buffer k s r r' g = go (dd s.words) (allowed buffer k s.words) (eop s.words) refl refl refl g
  where
    go : (d a e : Bool) → dd s.words ≡ d → allowed buffer k s.words ≡ a → eop s.words ≡ e → (d && a) && not e ≡ false → scan buffer k (s ∷ r) ≡ scan buffer k (s ∷ r')
    go false a e hd ha he g = not_done buffer k s r hd ∙ sym (not_done buffer k s r' hd)
    go true false e hd ha he g = not_allowed buffer k s r hd ha ∙ sym (not_allowed buffer k s r' hd ha)
    go true true true hd ha he g = allowed_last buffer k s r hd ha he ∙ sym (allowed_last buffer k s r' hd ha he)
    go true true false hd ha he g = absurd (true≢false g)

none_left : (xs : List Slot) → length xs ≡ 0 → xs ≡ []
none_left [] e = refl
none_left (x ∷ xs) e = absurd (omega arith)

-- so the slots that are not examined make none, as long as they are as many
pub unread : (buffer k : ℕ) (slots others : List Slot) → length others ≡ length slots - examined buffer k slots
    → scan buffer k (take (examined buffer k slots) slots ++ others) ≡ scan buffer k slots
unfolding examined
unread buffer k [] others h = rw (none_left others h)
unread buffer k (s ∷ rest) others h = go (goes_on buffer k s.words) refl h (λ l. unread buffer (suc k) rest others l)
  where
    go : (b : Bool) → goes_on buffer k s.words ≡ b → length others ≡ suc (length rest) - suc (cond b (examined buffer (suc k) rest) 0)
        → (length others ≡ length rest - examined buffer (suc k) rest → scan buffer (suc k) (take (examined buffer (suc k) rest) rest ++ others) ≡ scan buffer (suc k) rest)
        → scan buffer k (take (suc (cond b (examined buffer (suc k) rest) 0)) (s ∷ rest) ++ others) ≡ scan buffer k (s ∷ rest)
    go true g l r = goes_alike buffer k s g _ rest (r (omega arith))
    go false g l r = stops_alike buffer k s others rest g

-- the answer to what a scan sees
abbrev pub answer_to : Look → Answer
answer_to (refuse r) = Err r
answer_to (whole p) = done

answer_then : (s : Slot) (l : Look) → answer_to (and_then s l) ≡ answer_to l
unfolding and_then
answer_then s (refuse r) = refl
answer_then s (whole p) = refl

pub scan_answer : (buffer k : ℕ) (slots : List Slot) → answer_to (scan buffer k slots) ≡ answer_of (slot_checks buffer k slots)
unfolding scan slot_checks
scan_answer buffer k [] = refl
scan_answer buffer k (s ∷ rest) =
    go (not (dd s.words)) (not (allowed buffer k s.words)) (eop s.words) (scan_answer buffer (suc k) rest)
  where
    go : (d a e : Bool) → answer_to (scan buffer (suc k) rest) ≡ answer_of (slot_checks buffer (suc k) rest)
        → answer_to (cond d (refuse NotYet) (cond a (refuse Contradiction) (cond e (whole (s ∷ [])) (and_then s (scan buffer (suc k) rest)))))
        ≡ cond d (Err NotYet) (cond a (Err Contradiction) (cond e done (answer_of (slot_checks buffer (suc k) rest))))
    go true a e r = refl
    go false true e r = refl
    go false false true r = refl
    go false false false r = answer_then s (scan buffer (suc k) rest) ∙ r

module _ (q : Queue) (ring list : List ℕ) where
  abbrev slots : List Slot
  slots = posted_slots q ring list

  pub slots_long : length slots ≡ q.posted
  unfolding posted_slots
  slots_long = length_run (slot_in ring list) q.size q.head q.posted

  -- the slots of a packet that is seen are posted
  pub seen_posted : (buffer k : ℕ) (p : List Slot) → scan buffer k slots ≡ whole p → length p ≤ q.posted
  seen_posted buffer k p h =
      let b = seen_is buffer k slots p h in
      omega (arith, slots_long, ap length b.are, length-append p b.rest)

  module _ (f : Slot → ℕ) (n : ℕ) (few : n ≤ packet_slots) (within : n ≤ q.posted) (i : ℕ) where
    abbrev told : List ℕ
    told = map f (take n slots)

    told_long : length told ≡ n
    unfolding posted_slots
    told_long =
        length-map (take n slots) f
        ∙ ap length (run_take (slot_in ring list) q.size q.head n q.posted within)
        ∙ length_run (slot_in ring list) q.size q.head n

    padded_told : get_or (padded told) i 0 ≡ get_or told i 0
    padded_told = padded_at told i (rw told_long few)

    pub place_at : i < n → get_or (padded told) i 0 ≡ f (slot_in ring list (slot_of q i))
    unfolding posted_slots
    place_at h =
        let at : ℕ → Slot = slot_in ring list in
        padded_told
        ∙ ap (λ (p : List Slot). get_or (map f p) i 0) (run_take at q.size q.head n q.posted within)
        ∙ map_at f (run at q.size q.head n) i (at 0) (rw length_run h)
        ∙ ap f (get_or_run at q.size q.head n i (at 0) h)

    pub place_past : n ≤ i → get_or (padded told) i 0 ≡ 0
    place_past h = padded_told ∙ get_or-eq_default told 0 {n = i} (rw told_long h)
