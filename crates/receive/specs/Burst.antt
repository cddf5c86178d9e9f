-- A burst (02, "Many packets in one poll"): takes one after another on the record carried on, what they come to, and the checks before them.
-- Assumes nothing.
use Rattle.std.specs.Prelude.{ℕ, zero, suc, ◌≡◌, true, not, ◌&&◌, cond, List, [], ◌∷◌, ◌++◌, map, eqb, length, is_ok}
use Rattle.rules.specs.Rules.{within, Answer, done, Check, ◌when◌, answer_of}
use Rattle.scan.specs.Slots.{posted_slots}
use Rattle.scan.specs.Scan.{examined}
use Rattle.scan.specs.Told.{sum}
use Rattle.burst.specs.Out.{most_packets, burst_numbers, written_to}
use Rattle.receive.specs.declared.RxQueue.{RxQueue}
use Rattle.receive.specs.declared.Taken.{Taken}
use Rattle.receive.specs.declared.Burst.{Burst}
use Rattle.receive.specs.Queue.{lent_ok}
use Rattle.receive.specs.Take.{take_of}

-- ---- takes one after another

-- a take that is made: the record that it is made on, and what it gives
pub record Made : Type 0 where
  pub on : RxQueue
  pub taken : Taken

-- at most n takes on the record carried on, up to one that refuses
unfoldable pub takes_from : List ℕ → List ℕ → ℕ → RxQueue → List Made
takes_from ring list zero q = []
takes_from ring list (suc n) q =
    let t = take_of q ring list in
    record { on = q; taken = t } ∷ cond (is_ok t.answer) (takes_from ring list n t.queue) []

-- the answer that stops them, that of the take which refuses; done if the limit does
unfoldable pub stopped_by : List Made → Answer
stopped_by [] = done
stopped_by (m ∷ ms) = cond (is_ok m.taken.answer) (stopped_by ms) m.taken.answer

-- the record carried on
unfoldable pub carried : RxQueue → List Made → RxQueue
carried q [] = q
carried q (m ∷ ms) = carried m.taken.queue ms

-- those that hand up a packet
unfoldable pub handing : List Made → List Made
handing [] = []
handing (m ∷ ms) = cond (is_ok m.taken.answer) (m ∷ handing ms) (handing ms)

-- a packet is told by its first slot, which is head before its take, its slot count and its total length
unfoldable pub told : List Made → List ℕ
told [] = []
told (m ∷ ms) = m.on.shared.head ∷ m.taken.packet.count ∷ m.taken.packet.total ∷ told ms

-- the slots that they hand back; a take that refuses hands back none
abbrev pub handed_back : List Made → ℕ
handed_back ms = sum (map (λ (m : Made). m.taken.packet.count) ms)

-- how many slots a take reads word 1 of; with nothing posted it reads none
abbrev pub examined_by : List ℕ → List ℕ → Made → ℕ
examined_by ring list m = examined m.on.buffer 0 (posted_slots m.on.shared ring list)

-- ---- the checks before any take: 1, the record or the length of something lent; 10, the limit

abbrev pub refusals : RxQueue → ℕ → ℕ → ℕ → ℕ → List Check
refusals q ring_length list_length out_length limit =
    1 when not (lent_ok q ring_length list_length && eqb out_length burst_numbers)
    ∷ 10 when not (within 1 most_packets limit)
    ∷ []

unfoldable pub refusal_of : RxQueue → ℕ → ℕ → ℕ → ℕ → Answer
refusal_of q ring_length list_length out_length limit = answer_of (refusals q ring_length list_length out_length limit)

-- ---- the burst

module _ (q : RxQueue) (ring list out : List ℕ) (limit : ℕ) where
  abbrev pub refusal : Answer
  refusal = refusal_of q (length ring) (length list) (length out) limit

  -- the takes that it makes: none where it is refused
  unfoldable pub made : List Made
  made = cond (is_ok refusal) (takes_from ring list limit q) []

  -- the checks in their order, for the exact cause of each number: 1 and 10, then what stops the takes
  abbrev pub burst_checks : List Check
  burst_checks = refusals q (length ring) (length list) (length out) limit ++ record { answer = stopped_by made; cause = true } ∷ []

  unfoldable pub burst_of : Burst
  burst_of = record { answer = answer_of burst_checks; queue = carried q made; packets = length (handing made); examined = sum (map (examined_by ring list) made) }

  -- three numbers a packet, one packet after another from the first place on; the places past them stay
  unfoldable pub out_after : List ℕ
  out_after = written_to out (told (handing made))

  -- all that a burst returns and leaves
  pub record BurstAs (r : Burst) (out' : List ℕ) : Type 0 where
    pub result_is : r ≡ burst_of
    pub out_is : out' ≡ out_after

  -- a burst refused with 1 or 10 changes nothing, and tells nothing
  pub record BurstUnchanged : Type 0 where
    pub result_is : burst_of ≡ record { answer = refusal; queue = q; packets = 0; examined = 0 }
    pub out_same : out_after ≡ out

-- an outcome of a burst, and that it meets the statement
pub record BurstOutcome : Type 0 where
  pub result : Burst
  pub out : List ℕ

abbrev pub BurstMeets : RxQueue → List ℕ → List ℕ → List ℕ → ℕ → BurstOutcome → Type 0
BurstMeets q ring list out limit o = BurstAs q ring list out limit o.result o.out
