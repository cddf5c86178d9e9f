-- What the functions of this crate ask and say. No public contract cites these. The companion list tells where a packet's buffers are, and a burst does
-- not say that: so what they say holds whatever the list.
-- Assumes nothing.
use Rattle.std.specs.Prelude.{ℕ, ◌≤◌, ◌≡◌, List}
use Rattle.ring.specs.declared.Queue.{Queue}
use Rattle.ring.specs.Steps.{Reads}
use Rattle.burst.specs.declared.Found.{Found}
use Rattle.burst.specs.declared.Polled.{Polled}
use Rattle.burst.specs.Out.{most_packets, burst_numbers, written_to}
use Rattle.burst.specs.Polls.{found_in, polls}

-- what a burst reads, and its list and its limit
pub record Polls (q : Queue) (ring_length out_length limit : ℕ) : Type 0 where
  pub reads : Reads q ring_length
  pub out_long : out_length ≡ burst_numbers
  pub limit_high : limit ≤ most_packets

abbrev pub FoundAs : Queue → ℕ → List ℕ → Found → Type 0
FoundAs q buffer ring r = (list : List ℕ) → r ≡ found_in buffer ring list q

pub record PolledAs (q : Queue) (buffer : ℕ) (ring out : List ℕ) (limit : ℕ) (r : Polled) (out' : List ℕ) : Type 0 where
  pub result_is : (list : List ℕ) → r ≡ (polls buffer ring list limit q).result
  pub out_is : (list : List ℕ) → out' ≡ written_to out (polls buffer ring list limit q).numbers
