-- What take gives back: zeros beside a refusal, and else exactly the first of the posted slots that make a packet as the device's rules have it.
-- Assumes nothing.
use Rattle.rules.specs.declared.Refusal.TheVariants.{WrongRecord}
use Rattle.std.proofs.Common.{Err, ℕ, ◌≤◌, ◌≡◌, refl, ap, ◌∙◌, ◌≢◌, Bool, true, false, not, cond, List, [], ◌++◌, arith, length, take}
use Rattle.rules.specs.Rules.{done}
use Rattle.rules.proofs.Answers.{refused_is}
use lib.Seq.{take-append_seam}
use Rattle.family.specs.Types.{family_of}
use Rattle.places.specs.Words.{length_of}
use Rattle.verdict.specs.Verdict.{l3_of, l4_of}
use Rattle.writeback.specs.WriteBack.{write_back_of}
use Rattle.scan.specs.Slots.{Slot, posted_slots}
use Rattle.scan.specs.Scan.{Complete, Look, refuse, whole, scan}
use Rattle.scan.specs.Told.{sum, padded, addresses_of, lengths_of, last_words, seen_of, seen_by}
use Rattle.scan.proofs.Scans.{has_some, has_few, is_seen, seen_is, seen_posted, place_at, place_past}
use Rattle.receive.specs.declared.RxQueue.{RxQueue}
use Rattle.receive.specs.declared.Taken.{Taken}
use Rattle.receive.specs.Queue.{lent_ok}
use Rattle.receive.specs.Take.{look, packet_of, no_packet, advanced, take_by, take_of}
use Rattle.receive.specs.Steps.{taken_as}
use Rattle.receive.specs.Packets.{HandedUp, Told}

-- what a scan gives, as take gives it
pub as_taken : (l : Look) (q : RxQueue) → taken_as q (seen_by l q.shared) ≡ take_by l q
unfolding take_by packet_of seen_by seen_of
as_taken (refuse n) q = refl
as_taken (whole p) q = refl

-- the packet of no slots is zeros throughout
pub no_slots : packet_of [] ≡ no_packet
unfolding packet_of padded sum last_words write_back_of family_of l3_of l4_of
no_slots = refl

module _ (q : RxQueue) (ring list : List ℕ) where
  -- a take that refuses returns the record as it came, and zeros
  pub take_refused : (take_of q ring list).answer ≢ done → take_of q ring list ≡ record { answer = (take_of q ring list).answer; queue = q; packet = no_packet }
  unfolding take_of take_by
  take_refused ne = go (look q ring list) ne
    where
      go : (l : Look) → (take_by l q).answer ≢ done → take_by l q ≡ record { answer = (take_by l q).answer; queue = q; packet = no_packet }
      go (refuse n) ne = rw no_slots
      go (whole p) ne = absurd (ne refl)

  abbrev slots : List Slot
  slots = posted_slots q.shared ring list

  -- the slots of a packet that a take sees are posted
  pub look_posted : (p : List Slot) → look q ring list ≡ whole p → length p ≤ q.shared.posted
  unfolding look
  look_posted p = go (not (lent_ok q (length ring) (length list)))
    where
      go : (b : Bool) → cond b (refuse WrongRecord) (scan q.buffer 0 slots) ≡ whole p → length p ≤ q.shared.posted
      go true e = let z : ◌≡◌ {A = ℕ} 0 1 = cc in absurd (omega arith)
      go false e = seen_posted q.shared ring list q.buffer 0 p e

  by_scan : (p : List Slot) → lent_ok q (length ring) (length list) ≡ true → scan q.buffer 0 slots ≡ whole p → HandedUp q ring list (take_by (whole p) q)
  unfolding take_by packet_of
  by_scan p a h =
      let b = seen_is q.buffer 0 slots p h in
      let few = has_few q.buffer 0 p (omega arith) b.complete in
      let e : take (length p) slots ≡ p = ap (λ (x : List Slot). take (length p) x) b.are ∙ take-append_seam p b.rest in
      record {
        some = has_some q.buffer 0 p b.complete;
        few = omega arith;
        within = seen_posted q.shared ring list q.buffer 0 p h;
        accepted = a;
        complete = rw e b.complete;
        is = rw e;
      }

  by_look : (a : Bool) (l : Look) → lent_ok q (length ring) (length list) ≡ a → scan q.buffer 0 slots ≡ l → (take_by (cond (not a) (refuse WrongRecord) l) q).answer ≡ done
      → HandedUp q ring list (take_by (cond (not a) (refuse WrongRecord) l) q)
  unfolding take_by
  by_look false l e h z = absurd (refused_is (Err WrongRecord) refl z)
  by_look true (refuse n) e h z = absurd (refused_is (Err n) refl z)
  by_look true (whole p) e h z = by_scan p e h

  -- what take hands up are exactly the slots that it scanned
  pub hands_up : (take_of q ring list).answer ≡ done → HandedUp q ring list (take_of q ring list)
  unfolding take_of look
  hands_up z = by_look (lent_ok q (length ring) (length list)) (scan q.buffer 0 slots) refl refl z

  -- and it hands up whenever the posted slots begin with a packet
  pub hands_up_if : (p rest : List Slot) → lent_ok q (length ring) (length list) ≡ true → Complete q.buffer 0 p → posted_slots q.shared ring list ≡ p ++ rest
      → take_of q ring list ≡ record { answer = done; queue = advanced q (length p); packet = packet_of p }
  unfolding take_of look take_by
  hands_up_if p rest a c e = rw (a, e, is_seen q.buffer 0 p rest c)

  pub tells : (t : Taken) → HandedUp q ring list t → Told q ring list t
  unfolding packet_of
  tells t u =
      let n : ℕ = t.packet.count in
      let a : t.packet.addresses ≡ padded (addresses_of (take n slots)) = ap (λ (x : Taken). x.packet.addresses) u.is in
      let l : t.packet.lengths ≡ padded (lengths_of (take n slots)) = ap (λ (x : Taken). x.packet.lengths) u.is in
      record {
        slot_address = λ i h. rw a (place_at q.shared ring list (λ (s : Slot). s.address) n u.few u.within i h);
        slot_length = λ i h. rw l (place_at q.shared ring list (λ (s : Slot). length_of s.words) n u.few u.within i h);
        address_past = λ i h. rw a (place_past q.shared ring list (λ (s : Slot). s.address) n u.few u.within i h);
        length_past = λ i h. rw l (place_past q.shared ring list (λ (s : Slot). length_of s.words) n u.few u.within i h);
        total_is = ap (λ (x : Taken). x.packet.total) u.is;
      }
