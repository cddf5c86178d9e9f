-- Entries, compared by tests that antt computes.
-- Assumes nothing.
use Rattle.std.proofs.Common.{ℕ, ◌≡◌, refl, sym, Bool, true, false, not, ◌&&◌, cond, eqb-true, eqb}
use mathlib.Core.Bool.{false≢true}
use Rattle.rules.proofs.Tests.{both}
use Rattle.rules.proofs.Matches.{same_number}
use Rattle.family.specs.declared.Family.{Family}
use Rattle.family.specs.Types.{family_number}
use Rattle.family.proofs.Families.{same_family}
use Rattle.packet_types.specs.declared.L4.{L4}
use Rattle.packet_types.specs.declared.L4.TheVariants.{None, Tcp, Sctp, Udp, Icmp}
use Rattle.packet_types.specs.declared.Entry.{Entry}
use Rattle.packet_types.specs.Table.{told, l4_number}
use Rattle.packet_types.specs.Steps.{l4_from}

back : (k : L4) → l4_from (l4_number k) ≡ k
back None = refl
back Tcp = refl
back Sctp = refl
back Udp = refl
back Icmp = refl

pub same_l4 : (k l : L4) → eqb (l4_number k) (l4_number l) ≡ true → k ≡ l
same_l4 = same_number l4_number l4_from back

same_bit : (a b : Bool) → cond a b (not b) ≡ true → a ≡ b
same_bit true b t = sym t
same_bit false true t = absurd (false≢true t)
same_bit false false t = refl

same_parts : {f g : Family} {v w : ℕ} {b c : Bool} {k l : L4} → f ≡ g → v ≡ w → b ≡ c → k ≡ l → told f v b k ≡ told g w c l
same_parts o p q r = rw (o, p, q, r)

module _ (d e : Entry) where
  -- alike in all but family and version
  abbrev pub alike : Bool
  alike = cond d.fragment e.fragment (not e.fragment) && eqb (l4_number d.l4) (l4_number e.l4)

  pub alike_is : alike ≡ true → (d.fragment ≡ e.fragment) × (d.l4 ≡ e.l4)
  alike_is t =
      let p = both (cond d.fragment e.fragment (not e.fragment)) (eqb (l4_number d.l4) (l4_number e.l4)) t in
      (same_bit d.fragment e.fragment p.0, same_l4 d.l4 e.l4 p.1)

  abbrev pub same : Bool
  same = (eqb (family_number d.family) (family_number e.family) && eqb d.version e.version) && alike

  pub same_is : same ≡ true → d ≡ e
  same_is t =
      let p = both (eqb (family_number d.family) (family_number e.family) && eqb d.version e.version) alike t in
      let q = both (eqb (family_number d.family) (family_number e.family)) (eqb d.version e.version) p.0 in
      let r = alike_is p.1 in
      same_parts (same_family d.family e.family q.0) (eqb-true d.version e.version q.1) r.0 r.1
