-- A row of slots stored round a ring: each reads back, and every slot outside the row reads as before.
-- Assumes nothing.
use Rattle.std.proofs.Common.{ℕ, zero, suc, ◌+◌, ◌*◌, ◌≤◌, ◌<◌, ◌≡◌, refl, ◌∙◌, ◌≢◌, ⊎_elim, List, mod-lt, eq-or-lt_of_le, add-one, arith, length}
use Rattle.slots.specs.Slots.{slot_at}
use Rattle.slots.specs.Memory.{store, numbers_at, store_run}
use Rattle.slots.proofs.Steps.{apart}
use Rattle.slots.proofs.Stores.{length_store, read_same, read_other}

module _ (width size : ℕ) (numbers : ℕ → List ℕ) (memory : List ℕ) (i : ℕ) where
  -- one slot more, as a loop goes on
  pub row_none : store_run width size numbers memory i 0 ≡ memory
  unfolding store_run
  row_none = refl

  pub row_more : (n : ℕ) → store_run width size numbers memory i (n + 1) ≡ store width (store_run width size numbers memory i n) (slot_at i size n) (numbers n)
  unfolding store_run
  row_more n = rw add-one

  pub row_length : (n : ℕ) → length (store_run width size numbers memory i n) ≡ length memory
  unfolding store_run
  row_length zero = refl
  row_length (suc n) = length_store width (store_run width size numbers memory i n) (slot_at i size n) (numbers n) ∙ row_length n

  -- a slot that is none of the row
  pub row_other : ((k : ℕ) → length (numbers k) ≡ width) → (n s : ℕ) → ((k : ℕ) → k < n → s ≢ slot_at i size k) → numbers_at width (store_run width size numbers memory i n) s ≡ numbers_at width memory s
  unfolding store_run
  row_other w zero s h = refl
  row_other w (suc n) s h =
      read_other width (store_run width size numbers memory i n) (slot_at i size n) (numbers n) s (w n) (h n (omega arith))
      ∙ row_other w n s (λ k l. h k (omega arith))

  -- a slot of the row, which is less than a lap
  pub row_reads : ((k : ℕ) → length (numbers k) ≡ width) → length memory ≡ width * size → (n k : ℕ) → n ≤ size → k < n → numbers_at width (store_run width size numbers memory i n) (slot_at i size k) ≡ numbers k
  unfolding store_run
  row_reads w e zero k h l = absurd (omega arith)
  row_reads w e (suc n) k h l = ⊎_elim (λ p. here (omega arith)) (λ p. before (omega arith) (row_reads w e n k (omega arith) (omega arith))) (eq-or-lt_of_le l)
    where
      inner : List ℕ
      inner = store_run width size numbers memory i n

      here : k ≡ n → numbers_at width (store width inner (slot_at i size n) (numbers n)) (slot_at i size k) ≡ numbers k
      here p = rw p (read_same width inner (slot_at i size n) (numbers n) size (w n) (mod-lt (i + n) (omega arith)) (row_length n ∙ e))

      before : k < n → numbers_at width inner (slot_at i size k) ≡ numbers k → numbers_at width (store width inner (slot_at i size n) (numbers n)) (slot_at i size k) ≡ numbers k
      before p r =
          read_other width inner (slot_at i size n) (numbers n) (slot_at i size k) (w n) (apart i size k n (omega arith) (omega arith) (λ q. omega arith))
          ∙ r
