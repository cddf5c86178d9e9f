-- Worked examples of a burst (02, "Many packets in one poll"), a table of their own: 01 has none of it.
-- Assumes nothing.
use Rattle.std.specs.Prelude.{ℕ, ◌*◌, ◌+◌, ◌^◌, ◌≡◌, List, ◌∷◌, set, replicate}
use Rattle.rules.specs.Rules.{done, number_of, answer_at}
use Rattle.receive.specs.declared.Burst.{Burst}
use Rattle.receive.specs.Queue as rx
use Rattle.receive.specs.Take.{advanced}
use Rattle.receive.specs.Burst.{burst_of, out_after}
use Rattle.paper.specs.Paper.{State, posts}

-- size 32, buffer size 2,048, and 31 posts on a ring that is full of old write-backs of whole packets; posting clears their word 1
unfoldable pub lapped : State
lapped = posts 31 (record { queue = (rx.fresh_of 0 32 2048).queue; ring = replicate 64 (60 * 2 ^ 38 + 3); list = replicate 32 0 })

-- the device writes a packet of 60 bytes and one of 2,048 and 100; the fourth slot is stale
unfoldable pub two : List ℕ
two = set (set (set lapped.ring 1 (60 * 2 ^ 38 + 3)) 3 (2048 * 2 ^ 38 + 1)) 5 (100 * 2 ^ 38 + 3)

abbrev pub polled : List ℕ → ℕ → Burst
polled out limit = burst_of lapped.queue two lapped.list out limit

pub record Bursts : Type 0 where
  -- two packets, then the stale slot: 4 with packets 2, and four slots examined
  pub two_then_stale : polled (replicate 96 7) 32 ≡ record { answer = answer_at 4; queue = advanced lapped.queue 3; packets = 2; examined = 4 }
  pub two_told : out_after lapped.queue two lapped.list (replicate 96 7) 32 ≡ (0 ∷ 1 ∷ 60 ∷ 1 ∷ 2 ∷ 2148 ∷ replicate 90 7)
  -- the limit stops it: no take is made behind the second packet
  pub limit_2 : polled (replicate 96 7) 2 ≡ record { answer = done; queue = advanced lapped.queue 3; packets = 2; examined = 3 }
  -- another limit is 10, and a list of another length is 1, first
  pub limit_33 : polled (replicate 96 7) 33 ≡ record { answer = answer_at 10; queue = lapped.queue; packets = 0; examined = 0 }
  pub limit_0 : number_of (polled (replicate 96 7) 0).answer ≡ 10
  pub list_95 : number_of (polled (replicate 95 7) 33).answer ≡ 1
