-- The late schedule: the calls of a history in their order, with the device as late as can be.
-- Assumes nothing.
use Rattle.std.specs.Prelude.{◌≡◌, List, [], ◌∷◌, ◌++◌, map, take, drop}
use Rattle.places.specs.Words.{Words}
use Rattle.history.specs.World.{World, Event, post, poll, write, take_at, after}

-- `held` is what the device has not yet written of what it wrote in the history. It writes a packet that is handed up just before
-- the take that hands it up, and the rest at the end.
unfoldable pub late_from : World → List Words → List Event → List Event
late_from w held [] = map write held
late_from w held (post a ∷ es) = post a ∷ late_from (after w (post a)) held es
late_from w held (poll ∷ es) =
    let n = (take_at w).packet.count in
    map write (take n held) ++ poll ∷ late_from (after w poll) (drop n held) es
late_from w held (write x ∷ es) = late_from (after w (write x)) (held ++ x ∷ []) es

unfoldable pub late : World → List Event → List Event
late w es = late_from w [] es

-- the calls of a history
unfoldable pub call_at : Event → List Event
call_at (post a) = post a ∷ []
call_at poll = poll ∷ []
call_at (write x) = []

unfoldable pub calls : List Event → List Event
calls [] = []
calls (e ∷ es) = call_at e ++ calls es

-- every slot that the device has written is handed back: its place is the oldest posted slot
abbrev pub NoneLeft : World → Type 0
NoneLeft w = w.place ≡ w.queue.shared.head

-- so it is after every call of a history: then each packet's writes come just before the take that hands it up, and no others do
abbrev pub JustBefore : World → List Event → Type 0
JustBefore w [] = Unit {0}
JustBefore w (post a ∷ es) = NoneLeft (after w (post a)) × JustBefore (after w (post a)) es
JustBefore w (poll ∷ es) = NoneLeft (after w poll) × JustBefore (after w poll) es
JustBefore w (write x ∷ es) = JustBefore (after w (write x)) es
