-- Rows of slots, seen from another side: two rows with the same numbers, and a row by its first slots and the rest.
-- Assumes nothing.
use Rattle.std.proofs.Common.{ℕ, zero, suc, ◌+◌, ◌<◌, ◌≡◌, refl, ap, ◌∙◌, List, add-zero, arith}
use Rattle.slots.specs.Slots.{slot_at}
use Rattle.slots.specs.Memory.{store, store_run}
use Rattle.slots.proofs.Steps.{slot_on}

module _ (width size : ℕ) where
  pub row_agree : (f g : ℕ → List ℕ) (memory : List ℕ) (i n : ℕ) → ((k : ℕ) → k < n → f k ≡ g k) → store_run width size f memory i n ≡ store_run width size g memory i n
  unfolding store_run
  row_agree f g memory i zero h = refl
  row_agree f g memory i (suc n) h =
      rw (h n (omega arith), row_agree f g memory i n (λ k l. h k (omega arith)))

  pub row_join : (f : ℕ → List ℕ) (memory : List ℕ) (i a n : ℕ)
      → store_run width size f memory i (a + n) ≡ store_run width size (λ k. f (a + k)) (store_run width size f memory i a) (slot_at i size a) n
  unfolding store_run
  row_join f memory i a zero = rw (add-zero a)
  row_join f memory i a (suc n) =
      ap (store_run width size f memory i) {x = a + suc n} {y = suc (a + n)} (omega arith)
      ∙ rw (slot_on i size a n) (ap (λ (m : List ℕ). store width m (slot_at i size (a + n)) (f (a + n))) (row_join f memory i a n))
