-- Send (01, "Sending"): its checks in their order, the record and the lent memory after it.
-- Assumes nothing.
use Rattle.std.specs.Prelude.{ℕ, ◌≡◌, not, cond, List, [], ◌∷◌, ◌++◌, length, get_or, set, is_ok}
use Rattle.rules.specs.Rules.{Answer, done, Check, ◌when◌, answer_of}
use Rattle.slots.specs.Memory.{numbers_at, store_run}
use Rattle.ring.specs.Queue.{slot_of, tail_of, no_room, grown}
use Rattle.request.specs.declared.Request.{Request}
use Rattle.request.specs.Request.{slots_of}
use Rattle.packet.specs.Packet.{packet_checks}
use Rattle.fill.specs.Descriptors.{descriptor}
use Rattle.transmit.specs.declared.TxQueue.{TxQueue}
use Rattle.transmit.specs.declared.Sent.{Sent}
use Rattle.transmit.specs.Queue.{lent_ok, moved_to}

-- the slots that a send of such pieces needs, and takes
abbrev pub slots_taken : Request → List ℕ → ℕ
slots_taken request lengths = slots_of request (length lengths)

-- 1 the record or a slice's length is wrong; 6, 2, 7, 8 of the pieces and the request; 3 there is no room for the slots needed: they exceed
-- size - 1 - posted, or slots ever posted would pass 2^64 - 1
abbrev pub send_checks : TxQueue → ℕ → ℕ → ℕ → List ℕ → List ℕ → Request → List Check
send_checks q ring_length tokens_length counts_length addresses lengths request =
    (1 when not (lent_ok q ring_length tokens_length counts_length))
    ∷ (packet_checks addresses lengths q.frame request ++ (3 when no_room q.shared (slots_taken request lengths) ∷ []))

unfoldable pub send_answer : TxQueue → ℕ → ℕ → ℕ → List ℕ → List ℕ → Request → Answer
send_answer q ring_length tokens_length counts_length addresses lengths request =
    answer_of (send_checks q ring_length tokens_length counts_length addresses lengths request)

-- done: posted and the slots ever posted grow by the slots, a context descriptor's among them
abbrev pub send_done : TxQueue → ℕ → Sent
send_done q slots = record { answer = done; queue = moved_to q (grown q.shared slots); slots = slots }

-- refused: the record as it came, and no slots
abbrev pub send_refused : TxQueue → Answer → Sent
send_refused q n = record { answer = n; queue = q; slots = 0 }

module _ (q : TxQueue) (ring tokens counts addresses lengths : List ℕ) (request : Request) where
  -- the answer, with these slices lent
  abbrev pub answer_to : Answer
  answer_to = send_answer q (length ring) (length tokens) (length counts) addresses lengths request

  abbrev pub send_of : Sent
  send_of = cond (is_ok answer_to) (send_done q (slots_taken request lengths)) (send_refused q answer_to)

  -- the descriptors from the tail upward, the token and the slot count at the packet's first slot; all other places stay
  abbrev pub ring_after : List ℕ
  ring_after =
      cond (is_ok answer_to) (store_run 2 q.shared.size (descriptor request addresses lengths) ring (tail_of q.shared) (slots_taken request lengths)) ring

  abbrev pub tokens_after : ℕ → List ℕ
  tokens_after token = cond (is_ok answer_to) (set tokens (tail_of q.shared) token) tokens

  abbrev pub counts_after : List ℕ
  counts_after = cond (is_ok answer_to) (set counts (tail_of q.shared) (slots_taken request lengths)) counts

  -- all that send returns and leaves
  pub record SentAs (token : ℕ) (r : Sent) (ring' tokens' counts' : List ℕ) : Type 0 where
    pub result_is : r ≡ send_of
    pub ring_is : ring' ≡ ring_after
    pub tokens_is : tokens' ≡ tokens_after token
    pub counts_is : counts' ≡ counts_after

  -- a refused send: the record as it came, no slots, and no change in lent memory
  pub record Unchanged (token : ℕ) : Type 0 where
    pub result_is : send_of ≡ send_refused q answer_to
    pub ring_same : ring_after ≡ ring
    pub tokens_same : tokens_after token ≡ tokens
    pub counts_same : counts_after ≡ counts

  -- the slot at distance k from head reads as it did, and so do its token and its count
  pub record Stays (token k : ℕ) : Type 0 where
    pub words_same : numbers_at 2 ring_after (slot_of q.shared k) ≡ numbers_at 2 ring (slot_of q.shared k)
    pub token_same : get_or (tokens_after token) (slot_of q.shared k) 0 ≡ get_or tokens (slot_of q.shared k) 0
    pub count_same : get_or counts_after (slot_of q.shared k) 0 ≡ get_or counts (slot_of q.shared k) 0

-- what a send returns and leaves, as one
pub record Outcome : Type 0 where
  pub result : Sent
  pub ring : List ℕ
  pub tokens : List ℕ
  pub counts : List ℕ

-- an outcome that meets the statement of send
abbrev pub Meets : TxQueue → List ℕ → List ℕ → List ℕ → List ℕ → List ℕ → Request → ℕ → Outcome → Type 0
Meets q ring tokens counts addresses lengths request token o =
    SentAs q ring tokens counts addresses lengths request token o.result o.ring o.tokens o.counts
