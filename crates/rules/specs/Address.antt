-- A buffer's address (01, answer 2).
-- Assumes nothing.
use Rattle.std.specs.Prelude.{ℕ, ◌+◌, ◌^◌, Bool, ◌||◌, ltb, eqb}

-- a buffer address is 0, or address + length passes 2^64: a buffer may end at the last byte
abbrev pub address_wrong : ℕ → ℕ → Bool
address_wrong address length = eqb address 0 || ltb (2 ^ 64) (address + length)
