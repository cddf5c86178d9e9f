-- Laws of rules in their order, whatever their causes.
-- Assumes nothing.
use Rattle.std.proofs.Common.{ℕ, ◌≡◌, refl, sym, ap, ◌∙◌, ◌≢◌, Bool, true, false, not, ◌||◌, cond, true≢false, List, [], ◌∷◌, ◌++◌, arith, eqb}
use borrow.Author.Tests.{not-false}
use Rattle.rules.proofs.Tests.{neither}
use Rattle.family.specs.declared.Family.TheVariants.{Unknown, Ipv4, Ipv6}
use Rattle.family.specs.Types.{family_number}
use Rattle.packet_types.specs.declared.L4.{L4}
use Rattle.packet_types.specs.declared.Entry.{Entry}
use Rattle.verdict.specs.declared.Verdict.{Verdict}
use Rattle.verdict.specs.declared.Verdict.TheVariants.{NotChecked, Bad}
use Rattle.verdict.specs.declared.Marks.{Marks}
use Rattle.verdict.specs.Verdict.{Rule, ◌if◌, decided, verdict_number, is_unknown, none_checked, typed}

-- ---- tests in another order

or_false : (b : Bool) → b || false ≡ b
or_false true = refl
or_false false = refl

ip_known : (b : Bool) → eqb (family_number (cond b Ipv4 Ipv6)) 0 ≡ false
ip_known true = refl
ip_known false = refl

-- of a known type the first rule asks for L3L4P alone
pub known : (v : ℕ) (k : L4) (m : Marks) → none_checked (typed v k) m ≡ not m.l3l4p
known v k m = rw (ip_known (eqb v 4)) (or_false (not m.l3l4p))

-- a first test that decides nothing, since the second gives the same
pub either_way : {v : Verdict} (b : Bool) → v ≡ cond b v v
either_way true = refl
either_way false = refl

-- ---- rules

-- a first rule that nothing is checked: its cause does not hold where the verdict is another
pub first_fails : (b : Bool) (rs : List Rule) → decided (NotChecked if b ∷ rs) ≢ NotChecked → b ≡ false
first_fails true rs ne = absurd (ne refl)
first_fails false rs ne = refl

later : (b : Bool) (v : Verdict) {x y : Verdict} → (x ≡ NotChecked → y ≡ x) → cond b v x ≡ NotChecked → cond b v y ≡ cond b v x
later true v f e = refl
later false v f e = f e

-- a last rule, by an error bit: the bit is not seen where the verdict is that nothing was checked
pub last_unseen : (rs : List Rule) (b c : Bool) → decided (rs ++ Bad if b ∷ []) ≡ NotChecked → decided (rs ++ Bad if c ∷ []) ≡ decided (rs ++ Bad if b ∷ [])
last_unseen [] true c e = absurd (let n = ap verdict_number e in omega arith)
last_unseen [] false c e = absurd (let n = ap verdict_number e in omega arith)
last_unseen (r ∷ rs) b c e = later r.cause r.verdict (last_unseen rs b c) e

-- the first rule of both lists, where it does not hold
pub processed : (e : Entry) (m : Marks) → none_checked e m ≡ false → (m.l3l4p ≡ true) × (e.family ≢ Unknown)
processed e m n =
    let p = neither (not m.l3l4p) (is_unknown e) n in
    (not-false m.l3l4p p.0, λ u. true≢false (sym (rw u) ∙ p.1))
