-- A history with bursts, computed over the ring of history's examples, whose slots are full of old write-backs. Assumes nothing.
use Rattle.std.specs.Prelude.{ℕ, ◌≡◌, List, [], ◌∷◌, ◌++◌, map, replicate}
use Rattle.rules.specs.Rules.{number_of}
use Rattle.burst.specs.Out.{burst_numbers}
use Rattle.receive.specs.Take.{packet_of}
use Rattle.history.specs.World.{World, Event, poll}
use Rattle.laps.specs.Examples.{start, part_in, last_in, post_for, write_to}
use Rattle.bursts.specs.Acts.{Act, event, burst, burst_at, after_act, all_up, spread, ActsAllowed}

-- a burst with a limit
abbrev pub up_to : ℕ → Act
up_to limit = burst (replicate burst_numbers 7) limit

-- three buffers, a packet of two slots and one of one slot
abbrev pub acts : List Act
acts =
    up_to 32
    ∷ event (post_for (part_in 1))
    ∷ event (post_for (last_in 2))
    ∷ event (post_for (last_in 3))
    ∷ up_to 32
    ∷ event (write_to (part_in 1))
    ∷ up_to 32
    ∷ event (write_to (last_in 2))
    ∷ event (write_to (last_in 3))
    ∷ up_to 1
    ∷ up_to 33
    ∷ up_to 32
    ∷ []

-- the same with takes in their place: none for the one that is refused, two for the last one
abbrev pub takes : List Event
takes =
    poll
    ∷ post_for (part_in 1)
    ∷ post_for (last_in 2)
    ∷ post_for (last_in 3)
    ∷ poll
    ∷ write_to (part_in 1)
    ∷ poll
    ∷ write_to (last_in 2)
    ∷ write_to (last_in 3)
    ∷ poll
    ∷ poll
    ∷ poll
    ∷ []

-- of each burst the answer, the packets and the slots examined
unfoldable pub says_at : World → Act → List (List ℕ)
says_at w (event e) = []
says_at w (burst out limit) = (number_of (burst_at w out limit).answer ∷ (burst_at w out limit).packets ∷ (burst_at w out limit).examined ∷ []) ∷ []

unfoldable pub bursts_say : World → List Act → List (List ℕ)
bursts_say w [] = []
bursts_say w (a ∷ rest) = says_at w a ++ bursts_say (after_act w a) rest

pub record Polled : Type 0 where
  pub allowed : ActsAllowed start acts
  -- nothing posted; nothing written, the oldest slot examined; half a packet, its slot and the next examined; the limit; 10; one packet, and nothing left posted
  pub says : bursts_say start acts
      ≡ ((4 ∷ 0 ∷ 0 ∷ []) ∷ (4 ∷ 0 ∷ 1 ∷ []) ∷ (4 ∷ 0 ∷ 2 ∷ []) ∷ (0 ∷ 1 ∷ 2 ∷ []) ∷ (10 ∷ 0 ∷ 0 ∷ []) ∷ (4 ∷ 1 ∷ 1 ∷ []) ∷ [])
  pub packets_are : all_up start acts ≡ map packet_of ((part_in 1 ∷ last_in 2 ∷ []) ∷ (last_in 3 ∷ []) ∷ [])
  pub takes_are : spread start acts ≡ takes
