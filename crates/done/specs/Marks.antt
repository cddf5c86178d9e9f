-- The packet at head and whether it is done (01, "Sending"): reclaim's checks behind those of the record and the slices.
-- Assumes nothing.
use Rattle.std.specs.Prelude.{ℕ, ◌+◌, ◌-◌, ◌*◌, Bool, not, ◌||◌, List, [], ◌∷◌, ltb, eqb, get_or}
use Rattle.rules.specs.Rules.{Answer, Check, ◌when◌, answer_of}
use Rattle.field.specs.Field.{field_of}
use Rattle.ring.specs.declared.Queue.{Queue}
use Rattle.ring.specs.Queue.{slot_of}

-- bits 3:0 of word 1 of a slot are 15: the device has marked it done
abbrev pub is_marked : List ℕ → ℕ → Bool
is_marked ring s = eqb (field_of 0 4 (get_or ring (2 * s + 1) 0)) 15

-- the slot count at head, and the packet's last slot
abbrev pub count_at : Queue → List ℕ → ℕ
count_at q counts = get_or counts q.head 0

abbrev pub last_slot : Queue → List ℕ → ℕ
last_slot q counts = slot_of q (count_at q counts - 1)

-- 4 nothing posted; 5 a count of 0 or above posted; 4 the packet's last slot not marked
abbrev pub done_checks : Queue → List ℕ → List ℕ → List Check
done_checks q ring counts =
    (4 when eqb q.posted 0)
    ∷ (5 when (eqb (count_at q counts) 0 || ltb q.posted (count_at q counts)))
    ∷ (4 when not (is_marked ring (last_slot q counts)))
    ∷ []

unfoldable pub done_answer : Queue → List ℕ → List ℕ → Answer
done_answer q ring counts = answer_of (done_checks q ring counts)
