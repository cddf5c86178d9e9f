-- The slots of a ring (01, "The queue record"): the slot at a distance, how far a slot is, runs of slots.
-- Assumes nothing.
use Rattle.std.specs.Prelude.{ℕ, zero, suc, ◌+◌, ◌-◌, ◌%◌, List, [], ◌∷◌}

-- the slot at a distance from head, going upward round a ring of a size
abbrev pub slot_at : ℕ → ℕ → ℕ → ℕ
slot_at head size k = (head + k) % size

-- how far slot s is from head, going upward round the ring
abbrev pub distance : ℕ → ℕ → ℕ → ℕ
distance head size s = (s + (size - head)) % size

-- no ring has more slots than this: what keeps the step within a machine's number, whatever the size that a queue allows
abbrev pub most_slots : ℕ
most_slots = 65536

-- n slots from number i upward, round a ring of a size: what `at` reads of each, the oldest first
unfoldable pub run {ℓ} : {A : Type ℓ} → (ℕ → A) → ℕ → ℕ → ℕ → List A
run at size i zero = []
run at size i (suc n) = at (i % size) ∷ run at size (suc i) n
