-- The verdicts of a write-back: given only where L3L4P is set and the type known, and all that is seen of the two error bits.
-- Assumes nothing.
use Rattle.std.proofs.Common.{ℕ, ◌/◌, ◌%◌, ◌^◌, ◌≡◌, sym, ap, ◌∙◌, ◌≢◌, ⊎_elim, Bool, true, false, mod-lt, eqb, pow_pos, take, drop}
use Rattle.field.specs.Field.{read_at}
use Rattle.family.specs.declared.Family.TheVariants.{Unknown}
use Rattle.family.specs.Types.{family_of}
use Rattle.places.specs.Places.{ptype_place}
use Rattle.places.specs.Words.{Words}
use Rattle.packet_types.specs.Table.{entry_of}
use Rattle.packet_types.proofs.Entries.{as_families}
use Rattle.verdict.specs.Verdict.{none_checked, l3_rules, l4_rules, l3_of, l4_of}
use Rattle.verdict.proofs.Rules.{first_fails, last_unseen, processed}
use Rattle.writeback.specs.declared.WriteBack.{WriteBack}
use Rattle.writeback.specs.WriteBack.{write_back_of, type_of, marks_of}
use Rattle.writeback.specs.Bits.{made}
use Rattle.writeback.specs.Verdicts.{OnlyProcessed, IpeThroughL3, L4eThroughL4, IpeUnseen, L4eUnseen}
use Rattle.writeback.proofs.Bits.{own1}

-- ---- the error bits

-- a bit of a value, as the read of its place sees it
abbrev low_bit : ℕ → Bool
low_bit v = eqb (v % 2 ^ 1) 1

pub ipe_through_l3 : IpeThroughL3
unfolding write_back_of made l3_of l4_of
ipe_through_l3 x v e =
    let o = own1 x 10 v tt in
    o ∙ rw (ap (λ (w : WriteBack). w.l3) (sym o) ∙ e)

pub l4e_through_l4 : L4eThroughL4
unfolding write_back_of made l3_of l4_of
l4e_through_l4 x v e =
    let o = own1 x 11 v tt in
    o ∙ rw (ap (λ (w : WriteBack). w.l4) (sym o) ∙ e)

pub ipe_unseen : IpeUnseen
unfolding write_back_of made l3_of l4_of
ipe_unseen x v e =
    let m = marks_of x.word1 in
    ipe_through_l3 x v (ap (λ (w : WriteBack). w.l3) (own1 x 10 v tt) ∙ last_unseen (take 2 (l3_rules (type_of x) m)) m.ipe (low_bit v) e)

pub l4e_unseen : L4eUnseen
unfolding write_back_of made l3_of l4_of
l4e_unseen x v e =
    let m = marks_of x.word1 in
    l4e_through_l4 x v (ap (λ (w : WriteBack). w.l4) (own1 x 11 v tt) ∙ last_unseen (take 5 (l4_rules (type_of x) m)) m.l4e (low_bit v) e)

-- ---- where L3L4P is set, and the type known

-- the table's family of a type is 01's
pub same_family : (word1 : ℕ) → (entry_of (read_at ptype_place word1)).family ≡ family_of (read_at ptype_place word1)
same_family word1 = as_families (read_at ptype_place word1) (mod-lt (word1 / 2 ^ 30) (pow_pos 8))

known : (x : Words) → none_checked (type_of x) (marks_of x.word1) ≡ false → ((write_back_of x).l3l4p ≡ true) × ((write_back_of x).family ≢ Unknown)
unfolding write_back_of
known x e =
    let p = processed (type_of x) (marks_of x.word1) e in
    (p.0, λ u. p.1 (same_family x.word1 ∙ u))

pub only_processed : OnlyProcessed
unfolding write_back_of l3_of l4_of
only_processed x c =
    let m = marks_of x.word1 in
    let first = none_checked (type_of x) m in
    known x (⊎_elim (first_fails first (drop 1 (l3_rules (type_of x) m))) (first_fails first (drop 1 (l4_rules (type_of x) m))) c)
