-- Worked examples of the counts (02, "A figure that moves on the console page"), a table of their own: 01 has none of it.
-- Assumes nothing.
use Rattle.std.specs.Prelude.{ℕ, ◌-◌, ◌^◌, ◌≡◌, true, false, [], ◌∷◌}
use Rattle.rules.specs.Rules.{number_of}
use Rattle.receive.specs.declared.RxQueue.{RxQueue}
use Rattle.receive.specs.Queue as rx
use Rattle.receive.specs.Post.{post_answer}
use Rattle.request.specs.declared.Request.{Request}
use Rattle.transmit.specs.Send.{send_answer}
use Rattle.ring.specs.declared.Queue.{Queue}
use Rattle.paper.specs.Paper.{plain, tcp, took}

-- a record of 32 slots with these three numbers
abbrev pub counted : ℕ → ℕ → ℕ → Queue
counted posted ever_posted ever_returned = record { queue = 0; size = 32; head = 0; posted = posted; ever_posted = ever_posted; ever_returned = ever_returned }

abbrev pub received : ℕ → ℕ → ℕ → RxQueue
received posted ever_posted ever_returned = record { shared = counted posted ever_posted ever_returned; buffer = 2048 }

-- what a post and a send of one piece are answered where nothing is posted, and so many slots were
abbrev pub posted_at : ℕ → ℕ
posted_at n = number_of (post_answer (received 0 n n) 64 32 4096)

abbrev pub sent_at : ℕ → ℕ → Request → ℕ
sent_at n length request = number_of (send_answer (record { shared = counted 0 n n; frame = 1518 }) 64 32 32 (4096 ∷ []) (length ∷ []) request)

pub record Counts : Type 0 where
  -- a fresh queue asked for with a wrong number is all zero, its counts too
  pub refused_zero : (rx.fresh_of 4 32 2048).queue ≡ record { shared = record { queue = 0; size = 0; head = 0; posted = 0; ever_posted = 0; ever_returned = 0 }; buffer = 0 }
  -- 31 posts and a packet of two slots
  pub two_back : took.queue.shared ≡ record { queue = 0; size = 32; head = 2; posted = 29; ever_posted = 31; ever_returned = 2 }
  -- posted is the difference, and one more or less is wrong
  pub agrees : rx.record_ok (received 3 10 7) ≡ true
  pub one_more : rx.record_ok (received 4 10 7) ≡ false
  pub one_less : rx.record_ok (received 2 10 7) ≡ false
  -- more handed back than ever posted is wrong, whatever posted says: on 64 bits this difference would be 1
  pub more_back : rx.record_ok (received 1 0 (2 ^ 64 - 1)) ≡ false
  -- the last slot that the count has room for, and one past it
  pub last_post : posted_at (2 ^ 64 - 2) ≡ 0
  pub past_post : posted_at (2 ^ 64 - 1) ≡ 3
  -- a context descriptor is a slot of the send: one piece plain needs room for one, segmented for two
  pub last_plain : sent_at (2 ^ 64 - 2) 60 plain ≡ 0
  pub past_segmented : sent_at (2 ^ 64 - 2) 3054 (tcp true 1460 3000) ≡ 3
  pub last_segmented : sent_at (2 ^ 64 - 3) 3054 (tcp true 1460 3000) ≡ 0
