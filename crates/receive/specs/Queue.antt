-- The receive queue record (01, "The queue record"): the lines that it keeps, a fresh queue, the tail.
-- Assumes nothing.
use Rattle.rules.specs.declared.Refusal.TheVariants.{WrongRecord}
use Rattle.std.specs.Prelude.{ℕ, ◌*◌, Bool, ◌&&◌, cond, eqb, Result, Err}
use Rattle.rules.specs.Rules.{in_steps, done}
use Rattle.ring.specs.declared.Queue.{Queue}
use Rattle.rules.specs.declared.Refusal.{Refusal}
use Rattle.ring.specs.Queue as Ring
use Rattle.ring.specs.Queue.{shared_ok, tail_of, asked_of, register_at}
use Rattle.receive.specs.declared.RxQueue.{RxQueue}
use Rattle.receive.specs.declared.Fresh.{Fresh}

-- buffer size 1,024 to 16,256 in steps of 128
abbrev pub least_buffer : ℕ
least_buffer = 1024

abbrev pub most_buffer : ℕ
most_buffer = 16256

abbrev pub buffer_step : ℕ
buffer_step = 128

abbrev pub buffer_ok : ℕ → Bool
buffer_ok buffer = in_steps least_buffer most_buffer buffer_step buffer

-- an accepted record: the lines that both queues share, and that of the buffer size
unfoldable pub record_ok : RxQueue → Bool
record_ok q = shared_ok q.shared && buffer_ok q.buffer

-- and lent slices whose lengths are exactly those of the size
unfoldable pub lent_ok : RxQueue → ℕ → ℕ → Bool
lent_ok q ring_length list_length = record_ok q && (eqb ring_length (2 * q.shared.size) && eqb list_length q.shared.size)

-- the record with another shared part
abbrev pub moved_to : RxQueue → Queue → RxQueue
moved_to q shared = record { shared = shared; buffer = q.buffer }

abbrev pub empty_queue : ℕ → ℕ → ℕ → RxQueue
empty_queue queue size buffer = record { shared = Ring.empty_queue queue size; buffer = buffer }

-- a fresh queue: head 0, posted 0 and both counts 0; outside the lines, 1 and an all-zero record
unfoldable pub fresh_of : ℕ → ℕ → ℕ → Fresh
fresh_of queue size buffer =
    cond (record_ok (empty_queue queue size buffer))
    (record { answer = done; queue = empty_queue queue size buffer })
    (record { answer = Err WrongRecord; queue = empty_queue 0 0 0 })

-- the tail value, and the tail register at 0x2000 + 4 x queue
abbrev pub tail_value_of : RxQueue → Result ℕ Refusal
tail_value_of q = asked_of (record_ok q) (tail_of q.shared)

abbrev pub tail_register_of : RxQueue → Result ℕ Refusal
tail_register_of q = asked_of (record_ok q) (register_at 0x2000 q.shared.queue)
