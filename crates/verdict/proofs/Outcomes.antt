-- The calls' statements fix their outcomes: any two that meet one are equal.
-- Assumes nothing.
use Rattle.std.proofs.Common.{ℕ, ◌≡◌}
use Rattle.rules.proofs.Outcomes.{alike, equation}
use Rattle.packet_types.specs.declared.Entry.{Entry}
use Rattle.verdict.specs.declared.Verdict.{Verdict}
use Rattle.verdict.specs.declared.Marks.{Marks}
use Rattle.verdict.specs.Verdict.{verdict_number, l3_of, l4_of}

pub l3_alike : (e : Entry) (m : Marks) (a b : Verdict) → a ≡ l3_of e m → b ≡ l3_of e m → a ≡ b
l3_alike e m = alike (equation (l3_of e m))

pub l4_alike : (e : Entry) (m : Marks) (a b : Verdict) → a ≡ l4_of e m → b ≡ l4_of e m → a ≡ b
l4_alike e m = alike (equation (l4_of e m))

pub verdict_number_alike : (v : Verdict) (a b : ℕ) → a ≡ verdict_number v → b ≡ verdict_number v → a ≡ b
verdict_number_alike v = alike (equation (verdict_number v))
