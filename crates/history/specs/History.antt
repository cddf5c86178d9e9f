-- What happened in a history of events: the buffers posted, the device's writes, the packets completed and those handed up.
-- Assumes nothing.
use Rattle.std.specs.Prelude.{ℕ, cond, List, [], ◌∷◌, ◌++◌, map, is_ok, length, drop}
use Rattle.rules.specs.Rules.{Answer}
use Rattle.places.specs.Words.{Words, eop}
use Rattle.receive.specs.declared.Packet.{Packet}
use Rattle.scan.specs.Slots.{Slot}
use Rattle.receive.specs.Post.{blank}
use Rattle.scan.specs.Told.{sum}
use Rattle.receive.specs.Take.{packet_of}
use Rattle.history.specs.World.{World, Event, post, poll, write, Reply, posted, taken, post_at, after, replies}

-- what goes with a call that is done
unfoldable pub if_done {ℓ} : {A : Type ℓ} → Answer → A → List A
if_done r a = cond (is_ok r) (a ∷ []) []

-- ---- the addresses of the accepted posts, in order

unfoldable pub accepted_at : World → Event → List ℕ
accepted_at w (post a) = if_done (post_at w a).answer a
accepted_at w poll = []
accepted_at w (write x) = []

unfoldable pub accepted : World → List Event → List ℕ
accepted w [] = []
accepted w (e ∷ es) = accepted_at w e ++ accepted (after w e) es

-- ---- the device's writes, in order

unfoldable pub write_at : Event → List Words
write_at (post a) = []
write_at poll = []
write_at (write x) = x ∷ []

unfoldable pub writes : List Event → List Words
writes [] = []
writes (e ∷ es) = write_at e ++ writes es

-- each with the address of the buffer posted for it: the first write fills the first buffer posted
unfoldable pub filled : List ℕ → List Words → List Slot
filled bs [] = []
filled [] (x ∷ xs) = []
filled (b ∷ bs) (x ∷ xs) = record { address = b; words = x } ∷ filled bs xs

unfoldable pub written : World → List Event → List Slot
written w es = filled (accepted w es) (writes es)

-- a slot as it is posted, and not yet written by the device
unfoldable pub unwritten : ℕ → Slot
unwritten a = record { address = a; words = blank a }

-- ---- the packets that the device completed, in order, with the buffers posted for them

-- the whole packets in a run of written slots: each ends at its EOP; what is left at the end is not complete
unfoldable pub joined : Slot → List (List Slot) → List (List Slot)
joined s [] = []
joined s (p ∷ ps) = (s ∷ p) ∷ ps

unfoldable pub packets : List Slot → List (List Slot)
packets [] = []
packets (s ∷ r) = cond (eop s.words) ((s ∷ []) ∷ packets r) (joined s (packets r))

unfoldable pub completed : World → List Event → List Packet
completed w es = map packet_of (packets (written w es))

-- ---- the packets handed up, in order: those of the takes that answer 0

unfoldable pub packets_in : List Reply → List Packet
packets_in [] = []
packets_in (posted r ∷ rs) = packets_in rs
packets_in (taken r ∷ rs) = if_done r.answer r.packet ++ packets_in rs

unfoldable pub handed_up : World → List Event → List Packet
handed_up w es = packets_in (replies w es)

-- slots handed back with them
unfoldable pub returned : World → List Event → ℕ
returned w es = sum (map (λ (p : Packet). p.count) (handed_up w es))

-- the packets completed behind so many as are handed up
unfoldable pub waiting : World → List Event → List Packet
waiting w es = drop (length (handed_up w es)) (completed w es)
