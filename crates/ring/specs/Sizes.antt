-- The lines of a queue record that the receive and the transmit queue share (01, "The queue record"; of the counts 02, "A figure that moves on the
-- console page").
-- Assumes nothing.
use Rattle.std.specs.Prelude.{ℕ, ◌+◌, ◌-◌, ◌^◌, Bool, ◌&&◌, ◌==◌, nat_le, nat_lt}
use Rattle.rules.specs.Rules.{in_steps}

-- queue number 0 to 3; size 32 to 4,096 in steps of 32
abbrev pub most_queue : ℕ
most_queue = 3

abbrev pub least_size : ℕ
least_size = 32

abbrev pub most_size : ℕ
most_size = 4096

abbrev pub size_step : ℕ
size_step = 32

abbrev pub queue_ok : ℕ → ℕ → Bool
queue_ok queue size = nat_le queue most_queue && in_steps least_size most_size size_step size

-- head below size, posted at most size - 1
abbrev pub place_ok : ℕ → ℕ → ℕ → Bool
place_ok size head posted = nat_lt head size && nat_lt posted size

-- posted is what was ever posted less what was ever handed back: said of the sum, so that no difference can wrap
abbrev pub counts_ok : ℕ → ℕ → ℕ → Bool
counts_ok posted ever_posted ever_returned = posted + ever_returned == ever_posted

-- the counts are 64-bit numbers
abbrev pub most_count : ℕ
most_count = 2 ^ 64 - 1

-- the tail field is 13 bits
abbrev pub tail_bits : ℕ
tail_bits = 13
