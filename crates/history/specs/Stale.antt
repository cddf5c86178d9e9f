-- No stale write-back is believed: what is left in a slot from an earlier lap, or from before the queue was fresh, is never handed
-- up as a packet and changes no answer. Assumes nothing.
use Rattle.std.specs.Prelude.{◌≤◌, ◌<◌, ◌≡◌, List, [], ◌∷◌, ◌++◌, map, length, take, Err}
use Rattle.rules.specs.declared.Refusal.TheVariants.{NotYet}
use Rattle.rules.specs.Rules.{done}
use Rattle.scan.specs.Slots.{Slot}
use Rattle.receive.specs.Take.{packet_of}
use Rattle.history.specs.World.{World, Event, slots_in, take_at, end, replies, AllAllowed}
use Rattle.history.specs.History.{accepted, writes, written, packets, completed, handed_up, returned}

-- v is w but for what stands in the slots that are not posted
pub record SamePosted (w v : World) : Type 0 where
  pub queue_same : v.queue ≡ w.queue
  pub place_same : v.place ≡ w.place
  pub part_same : v.part ≡ w.part
  pub ring_long : length v.ring ≡ length w.ring
  pub list_long : length v.list ≡ length w.list
  pub slots_same : slots_in v ≡ slots_in w

-- the same events from both: allowed from v too, with the same answers, and again the same but for slots that are not posted
pub record Alike (w v : World) (es : List Event) : Type 0 where
  pub allowed : AllAllowed v es
  pub replies_same : replies v es ≡ replies w es
  pub end_same : SamePosted (end w es) (end v es)

-- the slots of the packets handed up: of the packets in what the device wrote, so many from the first on
unfoldable pub slots_up : World → List Event → List (List Slot)
slots_up w es = take (length (handed_up w es)) (packets (written w es))

-- slots of packets in a row
abbrev pub row : List (List Slot) → List Slot
row [] = []
row (p ∷ ps) = p ++ row ps

pub record NoStale (w : World) (es : List Event) : Type 0 where
  -- Whatever is left over in the slots that are not posted makes no difference to any later answer.
  pub left_over : (v : World) (later : List Event) → SamePosted (end w es) v → AllAllowed (end w es) later → Alike (end w es) v later
  -- The packets handed up are made of the device's writes of this history: in order, from the first on, each once.
  pub own_writes : handed_up w es ≡ map packet_of (slots_up w es)
  pub each_once : row (slots_up w es) ≡ take (returned w es) (written w es)
  pub no_more : returned w es ≤ length (writes es)
  -- Write n came after accepted post n, whose buffer it fills: at no time are there more writes than accepted posts.
  pub after_post : length (writes es) ≤ length (accepted w es)
  -- A take hands up a packet only if the device completed one that was not handed up; after a 4, without a write, it is 4 again.
  pub only_new : (take_at (end w es)).answer ≡ done → length (handed_up w es) < length (completed w es)
  pub quiet : (later : List Event) → (take_at (end w es)).answer ≡ Err NotYet → writes later ≡ [] → (take_at (end w (es ++ later))).answer ≡ Err NotYet
