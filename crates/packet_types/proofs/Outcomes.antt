-- The calls' statements fix their outcomes: any two that meet one are equal. The first is of the look-up and of the match alike: they give the same entry.
-- Assumes nothing.
use Rattle.std.proofs.Common.{ℕ, ◌≡◌}
use Rattle.rules.proofs.Outcomes.{alike, equation}
use Rattle.packet_types.specs.declared.L4.{L4}
use Rattle.packet_types.specs.declared.Entry.{Entry}
use Rattle.packet_types.specs.Table.{entry_of, l4_number}

pub entry_alike : (n : ℕ) (a b : Entry) → a ≡ entry_of n → b ≡ entry_of n → a ≡ b
entry_alike n = alike (equation (entry_of n))

pub l4_number_alike : (k : L4) (a b : ℕ) → a ≡ l4_number k → b ≡ l4_number k → a ≡ b
l4_number_alike k = alike (equation (l4_number k))
