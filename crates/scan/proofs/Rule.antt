-- The rule of a slot, by what the slot holds.
-- Assumes nothing.
use Rattle.std.proofs.Common.{ℕ, ◌≤◌, ◌<◌, ◌≡◌, refl, sym, ◌∙◌, ◌≢◌, ◌⊎◌, inl, inr, Bool, true, false, ◌&&◌, cond, true≢false, arith, leb-true, ltb-true, ltb-false, le-leb, ne_eqb, leb, ltb}
use mathlib.Core.Bool.{and-true, and-false}
use native.Mathlib.Decide.{ℕ_discrete}
use lib.Dec.{leb-zero}
use Rattle.rules.specs.Rules.{within}
use Rattle.rules.proofs.Tests.{both}
use Rattle.places.specs.Words.{Words, dd, eop, length_of}
use Rattle.scan.specs.Scan.{data_slots, allowed, writable}

module _ (buffer k : ℕ) (x : Words) where
  -- an empty slot is the last of its packet, and not the first
  pub of_empty : length_of x ≡ 0 → allowed buffer k x ≡ eop x && leb 1 k
  unfolding allowed
  of_empty z = rw (z, leb-zero buffer) (go (ltb k data_slots) refl)
    where
      go : (b : Bool) → ltb k data_slots ≡ b → cond b (eop x && leb 1 k) (eop x) ≡ eop x && leb 1 k
      go true h = refl
      go false h = rw (le-leb 1 k (omega (arith, ltb-false k data_slots h)), and-true)

  -- one with data has at most the buffer size, and fewer than five slots before it
  pub of_data : length_of x ≢ 0 → allowed buffer k x ≡ leb (length_of x) buffer && ltb k data_slots
  unfolding allowed
  of_data n = rw (le-leb 1 (length_of x) (omega arith), ne_eqb (length_of x) 0 n) (go (ltb k data_slots))
    where
      go : (b : Bool) → cond b (leb (length_of x) buffer && true) false ≡ leb (length_of x) buffer && b
      go true = refl
      go false = sym (and-false (leb (length_of x) buffer))

  -- so an allowed slot is one of the two
  abbrev Empty : Type 0
  Empty = (length_of x ≡ 0) × (eop x ≡ true) × (1 ≤ k)

  abbrev Data : Type 0
  Data = (within 1 buffer (length_of x) ≡ true) × (k < data_slots)

  pub one_of : allowed buffer k x ≡ true → Empty ⊎ Data
  one_of a = go (ℕ_discrete (length_of x) 0)
    where
      go : Dec (length_of x ≡ 0) → Empty ⊎ Data
      go (yes z) = let b = both (eop x) (leb 1 k) (sym (of_empty z) ∙ a) in inl (z, b.0, leb-true 1 k b.1)
      go (no n) =
          let b = both (leb (length_of x) buffer) (ltb k data_slots) (sym (of_data n) ∙ a) in
          inr (rw (le-leb 1 (length_of x) (omega arith)) b.0, ltb-true k data_slots b.1)

  -- and one that is not the last has data
  pub goes_on_lem : allowed buffer k x ≡ true → eop x ≡ false → Data
  goes_on_lem a e = go (one_of a)
    where
      go : Empty ⊎ Data → Data
      go (inl z) = absurd (true≢false (sym z.1 ∙ e))
      go (inr d) = d

  -- what the device may write: DD, and what is allowed
  pub parts : writable buffer k x ≡ true → (dd x ≡ true) × (allowed buffer k x ≡ true)
  unfolding writable
  parts w = both (dd x) (allowed buffer k x) w

  pub joined : dd x ≡ true → allowed buffer k x ≡ true → writable buffer k x ≡ true
  unfolding writable
  joined d a = rw (d, a)
