-- A ring in memory: slot s of a ring with `width` numbers a slot is the numbers from width * s on.
-- Assumes nothing.
use Rattle.std.specs.Prelude.{ℕ, zero, suc, ◌+◌, ◌*◌, List, [], ◌∷◌, get_or, set}
use Rattle.slots.specs.Slots.{slot_at}

-- numbers stored one after another, from place i on
abbrev pub store_from : List ℕ → ℕ → List ℕ → List ℕ
store_from memory i [] = memory
store_from memory i (x ∷ xs) = store_from (set memory i x) (i + 1) xs

-- n numbers read one after another, from place i on
abbrev pub read_from : List ℕ → ℕ → ℕ → List ℕ
read_from memory i zero = []
read_from memory i (suc n) = get_or memory i 0 ∷ read_from memory (i + 1) n

-- the numbers of slot s stored, and read
abbrev pub store : ℕ → List ℕ → ℕ → List ℕ → List ℕ
store width memory s xs = store_from memory (width * s) xs

abbrev pub numbers_at : ℕ → List ℕ → ℕ → List ℕ
numbers_at width memory s = read_from memory (width * s) width

-- the first n of a row of slots stored from number i upward, round a ring of a size: `numbers k` are those of the k-th
unfoldable pub store_run : ℕ → ℕ → (ℕ → List ℕ) → List ℕ → ℕ → ℕ → List ℕ
store_run width size numbers memory i zero = memory
store_run width size numbers memory i (suc n) = store width (store_run width size numbers memory i n) (slot_at i size n) (numbers n)
