-- The posted slots of a receive queue as a list, the oldest first. The ring has two numbers a slot, the companion list one address.
-- Assumes nothing.
use Rattle.std.specs.Prelude.{ℕ, List, [], ◌∷◌, get_or}
use Rattle.slots.specs.Slots.{run}
use Rattle.slots.specs.Memory.{store, numbers_at}
use Rattle.places.specs.Words.{Words}
use Rattle.ring.specs.declared.Queue.{Queue}

-- a posted slot: the address that the companion list keeps for it, and its words
pub record Slot : Type 0 where
  pub address : ℕ
  pub words : Words

-- two numbers as words
abbrev pub words_of : List ℕ → Words
words_of ns = record { word0 = get_or ns 0 0; word1 = get_or ns 1 0 }

-- slot j of a ring and a companion list
abbrev pub slot_in : List ℕ → List ℕ → ℕ → Slot
slot_in ring list j = record { address = get_or list j 0; words = words_of (numbers_at 2 ring j) }

-- both words of slot j stored
abbrev pub store_words : List ℕ → ℕ → Words → List ℕ
store_words ring j x = store 2 ring j (x.word0 ∷ x.word1 ∷ [])

-- the slots that are the device's: from head upward, as many as are posted
unfoldable pub posted_slots : Queue → List ℕ → List ℕ → List Slot
posted_slots q ring list = run (slot_in ring list) q.size q.head q.posted
