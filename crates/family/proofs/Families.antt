-- Families of the same number are the same, so that a test of numbers tells them apart.
-- Assumes nothing.
use Rattle.std.proofs.Common.{◌≡◌, true, eqb, refl}
use Rattle.rules.proofs.Matches.{same_number}
use Rattle.family.specs.declared.Family.{Family}
use Rattle.family.specs.declared.Family.TheVariants.{Mac, Arp, Ipv4, Ipv6, Unknown}
use Rattle.family.specs.Types.{family_number, family_from}

back : (f : Family) → family_from (family_number f) ≡ f
back Unknown = refl
back Mac = refl
back Arp = refl
back Ipv4 = refl
back Ipv6 = refl

pub same_family : (f g : Family) → eqb (family_number f) (family_number g) ≡ true → f ≡ g
same_family = same_number family_number family_from back
