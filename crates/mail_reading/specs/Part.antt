-- A part of a lent slice: which bytes, and where they lie.
-- Assumes nothing.
use Rattle.std.specs.Prelude.{ℕ, ◌+◌, ◌*◌, ◌≡◌, Bool, cond, List, length, take, drop, leb}
use Rattle.std.specs.Borrow.{Bor}
use Rattle.mail_reading.specs.declared.Reading.{Reading}

-- p is the n bytes of s from place i on: their values, and the very place (a block, and an offset in it)
pub record PartOf (s p : Bor (List ℕ)) (i n : ℕ) : Type 0 where
  pub bytes : p.now ≡ take n (drop i s.now)
  pub block : p.ref_ptr.0 ≡ s.ref_ptr.0
  pub place : p.ref_ptr.1 ≡ s.ref_ptr.1 + i

-- so many bytes from a place on are in it
abbrev pub reaches : Bor (List ℕ) → ℕ → ℕ → Bool
reaches s from n = leb (from + n) (length s.now)

-- these bytes, or none where there are not so many
abbrev pub Within : Bor (List ℕ) → ℕ → ℕ → Bor (List ℕ) → Type 0
Within s from n p = PartOf s p (cond (reaches s from n) from 0) (cond (reaches s from n) n 0)

-- the message of a reading, in the slice that has it
abbrev pub holder : Bor (List ℕ) → Bor (List ℕ) → Reading → Bor (List ℕ)
holder ring buffer r = cond r.buf buffer ring

abbrev pub PartIs : Bor (List ℕ) → Bor (List ℕ) → Reading → Bor (List ℕ) → Type 0
PartIs ring buffer r p = Within (holder ring buffer r) r.from r.length p

-- the first n bytes of the buffer, and the cookie of an element: what these parts come to
abbrev pub InBuffer : Bor (List ℕ) → ℕ → Bor (List ℕ) → Type 0
InBuffer buffer n p = PartOf buffer p 0 n

abbrev pub InElement : Bor (List ℕ) → ℕ → Bor (List ℕ) → Type 0
InElement ring head p = PartOf ring p (32 * head + 8) 8
