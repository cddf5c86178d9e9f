-- The table of the code: one test that antt computes over all of its 256 entries, and what is read off it.
-- Assumes nothing.
use Rattle.std.proofs.Common.{ℕ, ◌+◌, ◌<◌, ◌≡◌, refl, sym, ap, ◌∙◌, Bool, true, ◌&&◌, cond, arith, le-leb, eqb}
use Rattle.rules.specs.Rules.{within, all_below}
use Rattle.rules.proofs.Tests.{both, and_both, all_each}
use Rattle.family.specs.Types.{family_of, family_number}
use Rattle.family.proofs.Families.{same_family}
use Rattle.packet_types.specs.declared.L4.TheVariants.{None}
use Rattle.packet_types.specs.declared.Entry.{Entry}
use Rattle.packet_types.specs.Table.{entry_of, l4_number, AsFamilies, Ipv6AsIpv4, NoFragmentL4}
use Rattle.packet_types.specs.Steps.{table, entry_at}
use Rattle.packet_types.proofs.Compared.{same_l4, alike, alike_is, same, same_is}

-- ---- the one test

-- Table 2-4 tells the same
abbrev as_listed : ℕ → Bool
as_listed n = same (entry_at n) (entry_of n)

-- and 02's three statements
abbrev as_family : ℕ → Bool
as_family n = eqb (family_number (entry_at n).family) (family_number (family_of n))

abbrev as_ipv4 : ℕ → Bool
as_ipv4 n = cond (within 22 28 n) (alike (entry_at (n + 66)) (entry_at n)) true

abbrev no_l4 : ℕ → Bool
no_l4 n = cond (entry_at n).fragment (eqb (l4_number (entry_at n).l4) 0) true

abbrev right : ℕ → Bool
right n = (as_listed n && as_family n) && (as_ipv4 n && no_l4 n)

checked : all_below 256 right ≡ true
unfolding table all_below family_of entry_of
checked = refl

-- ---- what it tells of each number

record Right (n : ℕ) : Type 0 where
  listed : as_listed n ≡ true
  family : as_family n ≡ true
  ipv6 : as_ipv4 n ≡ true
  fragment : no_l4 n ≡ true

holds : (n : ℕ) → n < 256 → Right n
holds n h =
    let p = both (as_listed n && as_family n) (as_ipv4 n && no_l4 n) (all_each right 256 checked n h) in
    let q = both (as_listed n) (as_family n) p.0 in
    let r = both (as_ipv4 n) (no_l4 n) p.1 in
    record { listed = q.0; family = q.1; ipv6 = r.0; fragment = r.1 }

implied : {b t : Bool} → cond b t true ≡ true → b ≡ true → t ≡ true
implied e h = rw h at e

pub looked_up : (n : ℕ) → n < 256 → entry_at n ≡ entry_of n
looked_up n h = same_is (entry_at n) (entry_of n) (holds n h).listed

pub as_families : AsFamilies
as_families n h = ap (λ (e : Entry). e.family) (sym (looked_up n h)) ∙ same_family (entry_at n).family (family_of n) (holds n h).family

pub ipv6_as_ipv4 : Ipv6AsIpv4
ipv6_as_ipv4 n a b =
    rw (sym (looked_up (n + 66) (omega arith)), sym (looked_up n (omega arith)))
    (alike_is (entry_at (n + 66)) (entry_at n) (implied (holds n (omega arith)).ipv6 (and_both (le-leb 22 n a) (le-leb n 28 b))))

pub no_fragment_l4 : NoFragmentL4
no_fragment_l4 n h f =
    rw (sym (looked_up n h))
    (same_l4 (entry_at n).l4 None (implied (holds n h).fragment (rw (sym (looked_up n h)) at f)))
