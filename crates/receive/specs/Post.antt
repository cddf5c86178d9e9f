-- Post (01, "Receiving"): its checks in their order, the record and the lent memory after it.
-- Assumes nothing.
use Rattle.std.specs.Prelude.{ℕ, ◌≡◌, not, cond, List, [], ◌∷◌, length, set, is_ok}
use Rattle.rules.specs.Rules.{Answer, Check, ◌when◌, answer_of}
use Rattle.rules.specs.Address.{address_wrong}
use Rattle.ring.specs.Queue.{tail_of, no_room, grown}
use Rattle.places.specs.Words.{Words}
use Rattle.scan.specs.Slots.{store_words}
use Rattle.receive.specs.declared.RxQueue.{RxQueue}
use Rattle.receive.specs.declared.Posted.{Posted}
use Rattle.receive.specs.Queue.{lent_ok, moved_to}

-- 1 the record or a slice's length is wrong, 2 the address is wrong, 3 there is no room for one slot more: posted = size - 1, or slots ever posted = 2^64 - 1
abbrev pub post_checks : RxQueue → ℕ → ℕ → ℕ → List Check
post_checks q ring_length list_length address =
    1 when not (lent_ok q ring_length list_length)
    ∷ 2 when address_wrong address q.buffer
    ∷ 3 when no_room q.shared 1
    ∷ []

unfoldable pub post_answer : RxQueue → ℕ → ℕ → ℕ → Answer
post_answer q ring_length list_length address = answer_of (post_checks q ring_length list_length address)

-- a slot as it is posted: word 0 = address, word 1 = 0
abbrev pub blank : ℕ → Words
blank address = record { word0 = address; word1 = 0 }

-- one to posted, and to the slots ever posted
abbrev pub one_more : RxQueue → RxQueue
one_more q = moved_to q (grown q.shared 1)

module _ (q : RxQueue) (ring list : List ℕ) (address : ℕ) where
  abbrev pub answer_to : Answer
  answer_to = post_answer q (length ring) (length list) address

  -- the answer, and the record with one slot more where it is done
  abbrev pub post_of : Posted
  post_of = record { answer = answer_to; queue = cond (is_ok answer_to) (one_more q) q }

  -- the slot at the tail, in the ring and in the companion list
  abbrev pub ring_after : List ℕ
  ring_after = cond (is_ok answer_to) (store_words ring (tail_of q.shared) (blank address)) ring

  abbrev pub list_after : List ℕ
  list_after = cond (is_ok answer_to) (set list (tail_of q.shared) address) list

  -- all that post returns and leaves
  pub record PostedAs (r : Posted) (ring' list' : List ℕ) : Type 0 where
    pub result_is : r ≡ post_of
    pub ring_is : ring' ≡ ring_after
    pub list_is : list' ≡ list_after

  -- a refused post changes nothing
  pub record Unchanged : Type 0 where
    pub queue_same : post_of.queue ≡ q
    pub ring_same : ring_after ≡ ring
    pub list_same : list_after ≡ list

-- an outcome of a post, and that it meets the statement
pub record Outcome : Type 0 where
  pub result : Posted
  pub ring : List ℕ
  pub list : List ℕ

abbrev pub Meets : RxQueue → List ℕ → List ℕ → ℕ → Outcome → Type 0
Meets q ring list address o = PostedAs q ring list address o.result o.ring o.list
