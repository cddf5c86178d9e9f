-- Slots in memory, over the width: reading after storing, the same slot and another; stores of two slots change places.
-- Assumes nothing.
use Rattle.std.proofs.Common.{ℕ, zero, suc, ◌+◌, ◌*◌, ◌≤◌, ◌<◌, ◌≡◌, refl, sym, ap, ◌∙◌, ◌≢◌, ◌⊎◌, inl, inr, ⊎_elim, List, [], ◌∷◌, add-zero, mul-suc, mul-le-mul_left, arith, length, get_or, set, length-set, get_or-set_same, get_or-set_other, ext_get_or}
use native.Mathlib.Decide.{dec_lt}
use lib.Seq.{set_comm}
use Rattle.slots.specs.Memory.{store_from, read_from, store, numbers_at}

-- ---- numbers one after another

pub length_from : (m : List ℕ) (i : ℕ) (xs : List ℕ) → length (store_from m i xs) ≡ length m
length_from m i [] = refl
length_from m i (x ∷ xs) = length_from (set m i x) (i + 1) xs ∙ length-set m i x

-- place j is none of the n places from i on
abbrev pub Clear : ℕ → ℕ → ℕ → Type 0
Clear i n j = (j < i) ⊎ (i + n ≤ j)

-- one place less, and the first
clear_next : (i n j : ℕ) → Clear i (suc n) j → Clear (i + 1) n j
clear_next i n j = ⊎_elim (λ h. inl (omega arith)) (λ h. inr (omega arith))

clear_first : (i n j : ℕ) → Clear i (suc n) j → j ≢ i
clear_first i n j c e = ⊎_elim (λ h. omega arith) (λ h. omega arith) c

-- a place that is not stored to stays
pub store_other : (m : List ℕ) (i : ℕ) (xs : List ℕ) (j : ℕ) → Clear i (length xs) j → get_or (store_from m i xs) j 0 ≡ get_or m j 0
store_other m i [] j c = refl
store_other m i (x ∷ xs) j c =
    store_other (set m i x) (i + 1) xs j (clear_next i (length xs) j c) ∙ get_or-set_other m i j x 0 (clear_first i (length xs) j c)

-- one that is has what was stored
pub store_here : (m : List ℕ) (i : ℕ) (xs : List ℕ) (k : ℕ) → k < length xs → i + length xs ≤ length m → get_or (store_from m i xs) (i + k) 0 ≡ get_or xs k 0
store_here m i [] k h l = absurd (omega arith)
store_here m i (x ∷ xs) zero h l =
    rw add-zero (store_other (set m i x) (i + 1) xs i (inl (omega arith)) ∙ get_or-set_same m i x 0 (omega arith))
store_here m i (x ∷ xs) (suc k) h l =
    ap (λ (j : ℕ). get_or (store_from (set m i x) (i + 1) xs) j 0) {x = i + suc k} {y = i + 1 + k} (omega arith)
    ∙ store_here (set m i x) (i + 1) xs k (omega arith) (rw length-set (omega arith))

pub length_read : (m : List ℕ) (i n : ℕ) → length (read_from m i n) ≡ n
length_read m i zero = refl
length_read m i (suc n) = ap suc (length_read m (i + 1) n)

pub get_d_read : (m : List ℕ) (i n k : ℕ) → k < n → get_or (read_from m i n) k 0 ≡ get_or m (i + k) 0
get_d_read m i zero k h = absurd (omega arith)
get_d_read m i (suc n) zero h = rw add-zero
get_d_read m i (suc n) (suc k) h =
    get_d_read m (i + 1) n k (omega arith) ∙ ap (λ (j : ℕ). get_or m j 0) {x = i + 1 + k} {y = i + suc k} (omega arith)

-- two memories that agree on the places read
pub read_agree : (m m' : List ℕ) (i n : ℕ) → ((k : ℕ) → k < n → get_or m (i + k) 0 ≡ get_or m' (i + k) 0) → read_from m i n ≡ read_from m' i n
read_agree m m' i n h =
    ext_get_or 0 _ _ (length_read m i n ∙ sym (length_read m' i n))
    (λ k l. let b : k < n = rw length_read at l in get_d_read m i n k b ∙ h k b ∙ sym (get_d_read m' i n k b))

set_from : (m : List ℕ) (i : ℕ) (xs : List ℕ) (j v : ℕ) → Clear i (length xs) j → set (store_from m i xs) j v ≡ store_from (set m j v) i xs
set_from m i [] j v c = refl
set_from m i (x ∷ xs) j v c =
    set_from (set m i x) (i + 1) xs j v (clear_next i (length xs) j c)
    ∙ ap (λ (r : List ℕ). store_from r (i + 1) xs) (set_comm m i j x v (λ e. clear_first i (length xs) j c (sym e)))

from_comm : (m : List ℕ) (i : ℕ) (xs : List ℕ) (j : ℕ) (ys : List ℕ) → (i + length xs ≤ j) ⊎ (j + length ys ≤ i)
    → store_from (store_from m i xs) j ys ≡ store_from (store_from m j ys) i xs
from_comm m i xs j [] c = refl
from_comm m i xs j (y ∷ ys) c =
    ap (λ (r : List ℕ). store_from r (j + 1) ys) (set_from m i xs j y (⊎_elim (λ h. inr h) (λ h. inl (omega arith)) c))
    ∙ from_comm (set m j y) i xs (j + 1) ys (⊎_elim (λ h. inl (omega arith)) (λ h. inr (omega arith)) c)

-- ---- slots

-- a slot's numbers end before those of any later slot
step_up : (width s t : ℕ) → s < t → width * s + width ≤ width * t
step_up width s t h = rw (← mul-suc) (mul-le-mul_left width h)

beside : (width s t : ℕ) → s ≢ t → (width * s + width ≤ width * t) ⊎ (width * t + width ≤ width * s)
beside width s t ne = go (dec_lt s t)
  where
    go : Dec (s < t) → (width * s + width ≤ width * t) ⊎ (width * t + width ≤ width * s)
    go (yes l) = inl (step_up width s t l)
    go (no l) = inr (step_up width t s (omega arith))

-- slot s of a ring of size slots lies in its memory
inside : (width size s : ℕ) (m : List ℕ) → s < size → length m ≡ width * size → width * s + width ≤ length m
inside width size s m h e = rw e (step_up width s size h)

module _ (width : ℕ) (m : List ℕ) (s : ℕ) (xs : List ℕ) where
  pub length_store : length (store width m s xs) ≡ length m
  length_store = length_from m (width * s) xs

  -- the stored slot reads as what was stored
  pub read_same : (size : ℕ) → length xs ≡ width → s < size → length m ≡ width * size → numbers_at width (store width m s xs) s ≡ xs
  read_same size e h l =
      let room : width * s + length xs ≤ length m = rw e (inside width size s m h l) in
      ext_get_or 0 _ _ (length_read _ (width * s) width ∙ sym e)
      (λ k b. let c : k < width = rw length_read at b in
      get_d_read _ (width * s) width k c ∙ store_here m (width * s) xs k (rw e c) room)

  -- every other slot reads as before
  pub read_other : (t : ℕ) → length xs ≡ width → t ≢ s → numbers_at width (store width m s xs) t ≡ numbers_at width m t
  read_other t e ne =
      read_agree _ m (width * t) width
      (λ k b. store_other m (width * s) xs (width * t + k)
      (rw e (⊎_elim (λ h. inl (omega arith)) (λ h. inr (omega arith)) (beside width t s ne))))

  -- stores of two slots change places
  pub store_comm : (t : ℕ) (ys : List ℕ) → length xs ≡ width → length ys ≡ width → s ≢ t
      → store width (store width m s xs) t ys ≡ store width (store width m t ys) s xs
  store_comm t ys e e' ne = from_comm m (width * s) xs (width * t) ys (rw (e, e') (beside width s t ne))
