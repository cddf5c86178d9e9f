-- The registers at both ends: vector 0 at 0x5C00, 1 at 0x3800, 64 at 0x38FC, and 65 is refused whatever else is asked.
-- Assumes nothing.
use Rattle.rules.specs.declared.Refusal.TheVariants.{WrongInterrupt}
use Rattle.std.proofs.Common.{◌≡◌, refl, Err}
use Rattle.interrupt.specs.declared.Request.{Request}
use Rattle.interrupt.specs.Interrupt.{offset_of, interrupt_of}

pub vectors : (offset_of 0 ≡ 0x5C00) × (offset_of 1 ≡ 0x3800) × (offset_of 64 ≡ 0x38FC)
vectors = (refl, refl, refl)

pub vector_65 : (q : Request) → q.vector ≡ 65 → interrupt_of q ≡ record { answer = Err WrongInterrupt; offset = 0; word = 0 }
unfolding interrupt_of
vector_65 q e = rw e
