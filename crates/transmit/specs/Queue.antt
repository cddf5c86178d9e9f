-- The transmit queue record (01, "The queue record"): the shared part and the maximum frame, the lines that they keep, a fresh queue,
-- the tail.
-- Assumes nothing.
use Rattle.std.specs.Prelude.{ℕ, ◌*◌, Bool, ◌&&◌, cond, eqb, Result, Err}
use Rattle.rules.specs.Rules.{within, done}
use Rattle.rules.specs.declared.Refusal.{Refusal}
use Rattle.rules.specs.declared.Refusal.TheVariants.{WrongRecord}
use Rattle.ring.specs.declared.Queue.{Queue}
use Rattle.ring.specs.Queue as Ring
use Rattle.ring.specs.Queue.{shared_ok, tail_of, asked_of, register_at}
use Rattle.transmit.specs.declared.TxQueue.{TxQueue}
use Rattle.transmit.specs.declared.Fresh.{Fresh}

-- the maximum frame, without CRC
abbrev pub least_frame : ℕ
least_frame = 1518

abbrev pub most_frame : ℕ
most_frame = 9728

abbrev pub frame_ok : ℕ → Bool
frame_ok n = within least_frame most_frame n

-- an accepted record
unfoldable pub record_ok : TxQueue → Bool
record_ok q = shared_ok q.shared && frame_ok q.frame

-- and lent slices of exactly the size's lengths
unfoldable pub lent_ok : TxQueue → ℕ → ℕ → ℕ → Bool
lent_ok q ring_length tokens_length counts_length =
    record_ok q && (eqb ring_length (2 * q.shared.size) && (eqb tokens_length q.shared.size && eqb counts_length q.shared.size))

-- the record with another shared part
abbrev pub moved_to : TxQueue → Queue → TxQueue
moved_to q s = record { shared = s; frame = q.frame }

abbrev pub empty_queue : ℕ → ℕ → ℕ → TxQueue
empty_queue queue size frame = record { shared = Ring.empty_queue queue size; frame = frame }

-- a fresh queue: head 0, posted 0 and both counts 0; outside the lines, 1 and an all-zero record
unfoldable pub fresh_of : ℕ → ℕ → ℕ → Fresh
fresh_of queue size frame =
    cond (record_ok (empty_queue queue size frame))
    (record { answer = done; queue = empty_queue queue size frame })
    (record { answer = Err WrongRecord; queue = empty_queue 0 0 0 })

-- the tail value, and the tail register at 4 x queue
abbrev pub tail_value_of : TxQueue → Result ℕ Refusal
tail_value_of q = asked_of (record_ok q) (tail_of q.shared)

abbrev pub tail_register_of : TxQueue → Result ℕ Refusal
tail_register_of q = asked_of (record_ok q) (register_at 0 q.shared.queue)
