-- `l4_from` meets its contract: each arm of the match is a line of the definition.
-- Assumes nothing.
use Rattle.std.proofs.Common.{sym, arith, [], ◌∷◌}
use Rattle.rules.specs.Rules.{◌is◌}
use Rattle.rules.proofs.Matches.{no_line}
use Rattle.packet_types.specs.declared.L4.TheVariants.{None, Tcp, Sctp, Udp, Icmp}
use Rattle.packet_types.proofs.l4_from.Goals as goal

pub returns-in_default : goal.returns-in_default
returns-in_default c = sym (no_line None c.args.digit (1 is Tcp ∷ 2 is Sctp ∷ 3 is Udp ∷ 4 is Icmp ∷ []) ((((tt, λ h. omega arith), λ h. omega arith), λ h. omega arith), λ h. omega arith))
