-- Demand 3, sentence by sentence. The events are any history that the device's rules allow, from a fresh receive queue; every
-- front part of such a history is one too. Assumes nothing.
use Rattle.std.specs.Prelude.{ℕ, ◌-◌, ◌≡◌, ◌≢◌, Bool, true, false, ◌&&◌, ◌||◌, List, [], ◌∷◌, ◌++◌, map, eqb, length, drop, Err}
use Rattle.rules.specs.declared.Refusal.TheVariants.{NotYet}
use Rattle.rules.specs.Rules.{done, number_of}
use Rattle.ring.specs.Queue.{slot_of, is_devices}
use Rattle.receive.specs.declared.RxQueue.{RxQueue}
use Rattle.receive.specs.declared.Packet.{Packet}
use Rattle.receive.specs.declared.Taken.{Taken}
use Rattle.scan.specs.Slots.{Slot, slot_in}
use Rattle.receive.specs.Take.{packet_of, advanced}
use Rattle.history.specs.World.{World, Event, post, poll, Reply, posted, taken, slots_in, post_at, take_at, after, end, replies, AllAllowed}
use Rattle.history.specs.History.{accepted_at, accepted, writes, written, unwritten, completed, handed_up, returned, waiting}
use Rattle.history.specs.Late.{late, calls, JustBefore}

-- what a take gives back where these packets are completed and not yet handed up
unfoldable pub next_of : RxQueue → List Packet → Taken
next_of q [] = record { answer = Err NotYet; queue = q; packet = packet_of [] }
next_of q (p ∷ ps) = record { answer = done; queue = advanced q p.count; packet = p }

-- the numbers that come back in a history: of a post 0, 2 or 3, of a take 0 or 4
unfoldable pub one_of : List ℕ → ℕ → Bool
one_of [] n = false
one_of (m ∷ ms) n = eqb n m || one_of ms n

unfoldable pub usual : Reply → Bool
usual (posted r) = one_of (0 ∷ 2 ∷ 3 ∷ []) (number_of r.answer)
usual (taken r) = one_of (0 ∷ 4 ∷ []) (number_of r.answer)

unfoldable pub all_usual : List Reply → Bool
all_usual [] = true
all_usual (r ∷ rs) = usual r && all_usual rs

-- slot s is the device's: posted, and not handed back
abbrev pub Unreturned : World → ℕ → Type 0
Unreturned w s = is_devices w.queue.shared s ≡ true

abbrev pub slot_no : World → ℕ → Slot
slot_no w s = slot_in w.ring w.list s

pub record Demand3 (w : World) (es : List Event) : Type 0 where
  -- "the packets handed up are the first ones completed, each once, in order, with their buffers": `waiting` are the others.
  -- Every write went into a posted buffer, the first into the first; the next one goes to the oldest posted slot not yet written.
  pub first_completed : completed w es ≡ handed_up w es ++ waiting w es
  pub every_write : map (λ (s : Slot). s.words) (written w es) ≡ writes es
  pub oldest_next : (end w es).place ≡ slot_of (end w es).queue.shared (length (writes es) - returned w es)
  -- "moving each packet's writes to just before its take, and the rest to the end": it is a history that the device's rules allow,
  -- of the same calls and the same writes in their order, with all that the device has written handed back after each call.
  pub late_allowed : AllAllowed w (late w es)
  pub late_calls : calls (late w es) ≡ calls es
  pub late_writes : writes (late w es) ≡ writes es
  pub late_just_before : JustBefore w (late w es)
  -- "changes no answer and no end state": all that each call gives back; the record with its counts, all of ring and list, the device's place.
  pub late_replies : replies w (late w es) ≡ replies w es
  pub late_end : end w (late w es) ≡ end w es
  -- "'not yet' only when everything completed has been handed up": and else a take hands up the next one, so 1 and 5 never come.
  pub not_yet : (take_at (end w es)).answer ≡ Err NotYet → completed w es ≡ handed_up w es
  pub all_up : completed w es ≡ handed_up w es → (take_at (end w es)).answer ≡ Err NotYet
  pub next_take : take_at (end w es) ≡ next_of (end w es).queue (waiting w es)
  pub every_take : (before later : List Event) → es ≡ before ++ poll ∷ later
      → take_at (end w before) ≡ next_of (end w before).queue (waiting w before)
  pub answers : all_usual (replies w es) ≡ true
  -- "no post overwrites a slot still unreturned": the slots still unreturned are, of all accepted posts, those not handed back, as
  -- the device wrote them so far. A post that comes next leaves each of them; accepted, it adds its own; refused, it changes nothing.
  pub unreturned : slots_in (end w es) ≡ drop (returned w es) (written w es) ++ map unwritten (drop (length (writes es)) (accepted w es))
  pub post_keeps : (a s : ℕ) → Unreturned (end w es) s → slot_no (after (end w es) (post a)) s ≡ slot_no (end w es) s
  pub post_adds : (a : ℕ) → slots_in (after (end w es) (post a)) ≡ slots_in (end w es) ++ map unwritten (accepted_at (end w es) (post a))
  pub refused_keeps : (a : ℕ) → (post_at (end w es) a).answer ≢ done → after (end w es) (post a) ≡ end w es
