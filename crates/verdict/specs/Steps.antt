-- What is left of L4's rules where the L4 kind is known, for inner contracts.
-- Assumes nothing.
use Rattle.std.specs.Prelude.{ℕ, not, List, [], ◌∷◌, eqb}
use Rattle.verdict.specs.declared.Verdict.TheVariants.{NotChecked, Bad}
use Rattle.verdict.specs.declared.Marks.{Marks}
use Rattle.verdict.specs.Verdict.{Rule, ◌if◌}

-- of TCP and SCTP, and of UDP with a checksum
abbrev pub summed_rules : Marks → List Rule
summed_rules m = NotChecked if not m.l3l4p ∷ NotChecked if m.ipv6exadd ∷ Bad if m.l4e ∷ []

-- of UDP without one, of this IP version
abbrev pub unsummed_rules : ℕ → Marks → List Rule
unsummed_rules v m =
    NotChecked if not m.l3l4p
    ∷ NotChecked if eqb v 4
    ∷ Bad if eqb v 6
    ∷ NotChecked if m.ipv6exadd
    ∷ Bad if m.l4e
    ∷ []
