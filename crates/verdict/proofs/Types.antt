-- A type of Table 2-4 is judged by its IP version and its L4 kind alone: an unknown one has neither, and a fragment has no L4 kind.
-- Assumes nothing.
use Rattle.std.proofs.Common.{ℕ, ◌≡◌, refl, sym, ◌∙◌, Bool, true, false, not, ◌||◌, cond, List, [], ◌∷◌, eqb}
use Rattle.rules.specs.Rules.{Line, listed_at}
use Rattle.packet_types.specs.declared.L4.TheVariants.{None}
use Rattle.packet_types.specs.declared.Entry.{Entry}
use Rattle.packet_types.specs.Table.{lines, unknown, entry_of}
use Rattle.verdict.specs.declared.Verdict.TheVariants.{NotChecked}
use Rattle.verdict.specs.declared.Marks.{Marks}
use Rattle.verdict.specs.Verdict.{typed, l3_of, l4_of}
use Rattle.verdict.proofs.Rules.{either_way}

-- what holds of each line, and of a type without one, holds of every type
module _ (P : Entry → Type 0) where
  abbrev Each : List (Line Entry) → Type 0
  Each [] = P unknown
  Each (l ∷ ls) = P l.value × Each ls

  by_line : (b : Bool) (d e : Entry) → P d → P e → P (cond b d e)
  by_line true d e p q = p
  by_line false d e p q = q

  listed : (n : ℕ) (ls : List (Line Entry)) → Each ls → P (listed_at ls unknown n)
  listed n [] p = p
  listed n (l ∷ ls) p = by_line (eqb n l.number) l.value (listed_at ls unknown n) p.0 (listed n ls p.1)

module _ (m : Marks) where
  -- nothing is checked of an unknown type by either
  nothing : cond (not m.l3l4p || false) NotChecked NotChecked ≡ cond (not m.l3l4p || true) NotChecked NotChecked
  nothing = sym (either_way (not m.l3l4p || false)) ∙ either_way (not m.l3l4p || true)

  abbrev L3Typed : Entry → Type 0
  L3Typed e = l3_of (typed e.version None) m ≡ l3_of e m

  abbrev L4Typed : Entry → Type 0
  L4Typed e = l4_of (typed e.version e.l4) m ≡ l4_of e m

  pub l3_typed : (n : ℕ) → L3Typed (entry_of n)
  unfolding l3_of entry_of
  l3_typed n =
      listed L3Typed n lines
      (refl, (refl, (refl, (refl, (refl, (refl, (refl, (refl, (refl, (refl, (refl, (refl, (refl, (refl, nothing))))))))))))))

  pub l4_typed : (n : ℕ) → L4Typed (entry_of n)
  unfolding l4_of entry_of
  l4_typed n =
      listed L4Typed n lines
      (refl, (refl, (refl, (refl, (refl, (refl, (refl, (refl, (refl, (refl, (refl, (refl, (refl, (refl, nothing))))))))))))))
