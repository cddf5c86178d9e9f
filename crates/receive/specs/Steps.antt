-- What the contracts of private functions say, between the code and the definitions of post and take. No public contract cites these.
-- Assumes nothing.
use Rattle.std.specs.Prelude.{ℕ, ◌≡◌, List, set}
use Rattle.ring.specs.Queue.{tail_of}
use Rattle.rules.specs.declared.Refusal.{Refusal}
use Rattle.writeback.specs.WriteBack.{write_back_of}
use Rattle.scan.specs.declared.Seen.{Seen}
use Rattle.scan.specs.Slots.{store_words}
use Rattle.receive.specs.declared.RxQueue.{RxQueue}
use Rattle.receive.specs.declared.Taken.{Taken}
use Rattle.receive.specs.Queue.{moved_to}
use Rattle.receive.specs.Post.{blank}

-- a post's slot stands at the tail, in the ring and in the list
pub record PutAs (q : RxQueue) (ring list : List ℕ) (address : ℕ) (ring' list' : List ℕ) : Type 0 where
  pub ring_is : ring' ≡ store_words ring (tail_of q.shared) (blank address)
  pub list_is : list' ≡ set list (tail_of q.shared) address

-- what a scan gives, with the buffer size beside the record's shared part and the last slot's words read
abbrev pub taken_as : RxQueue → Seen Refusal → Taken
taken_as q s =
    record {
      answer = s.answer;
      queue = moved_to q s.queue;
      packet = record {
        count = s.count;
        total = s.total;
        addresses = s.addresses;
        lengths = s.lengths;
        last = write_back_of (record { word0 = s.word0; word1 = s.word1 });
      };
    }
