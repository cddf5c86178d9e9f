-- One number over results, in their order.
-- Assumes nothing.
use Rattle.std.specs.Prelude.{ℕ, ◌+◌, ◌^◌, ◌%◌, List, [], ◌∷◌}
use Rattle.std.specs.Int.{w64, rotate_left}
use Rattle.std.specs.List.{fold}
use Rattle.ring.specs.declared.Queue.{Queue}
use Rattle.measure.specs.declared.checksum.Sum.{Sum}

-- the sum rotated left by 7, and the number added, modulo 2^64
abbrev pub with_number : Sum → ℕ → Sum
with_number sum n = record { 0 = (rotate_left w64 sum.0 7 + n) % 2 ^ 64 }

-- one after another, each by its number
abbrev pub with_numbers : {A : Type 0} → (A → ℕ) → Sum → List A → Sum
with_numbers number sum xs = fold (λ s x. with_number s (number x)) sum xs

-- the numbers of a queue's record, in its order
abbrev pub with_record : Sum → Queue → Sum
with_record sum q = with_numbers (λ n. n) sum (q.queue ∷ q.size ∷ q.head ∷ q.posted ∷ q.ever_posted ∷ q.ever_returned ∷ [])
