-- `family_from` meets its contract: each arm of the match is a line of the definition.
-- Assumes nothing.
use Rattle.std.proofs.Common.{sym, arith, [], ◌∷◌}
use Rattle.rules.specs.Rules.{◌is◌}
use Rattle.rules.proofs.Matches.{no_line}
use Rattle.family.specs.declared.Family.TheVariants.{Unknown, Mac, Arp, Ipv4, Ipv6}
use Rattle.packet_types.proofs.family_from.Goals as goal

pub returns-in_default : goal.returns-in_default
returns-in_default c = sym (no_line Unknown c.args.digit (1 is Mac ∷ 2 is Arp ∷ 3 is Ipv4 ∷ 4 is Ipv6 ∷ []) ((((tt, λ h. omega arith), λ h. omega arith), λ h. omega arith), λ h. omega arith))
