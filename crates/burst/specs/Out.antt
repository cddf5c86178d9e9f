-- The list that a burst writes to (02, "Many packets in one poll"): how long it is, and what stands in it.
-- Assumes nothing.
use Rattle.std.specs.Prelude.{ℕ, ◌*◌, List, ◌++◌, length, drop}

-- 1 to 32 packets
abbrev pub most_packets : ℕ
most_packets = 32

-- three numbers tell a packet: its first slot, its slot count, its total length
abbrev pub packet_numbers : ℕ
packet_numbers = 3

-- so the lent list has 96 numbers
abbrev pub burst_numbers : ℕ
burst_numbers = packet_numbers * most_packets

-- numbers written from the first place on: the places past them stay
abbrev pub written_to : List ℕ → List ℕ → List ℕ
written_to out numbers = numbers ++ drop (length numbers) out
