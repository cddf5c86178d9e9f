-- Numbers stored and read in pieces: stores one right after another are one store, and a part of what was stored reads as that part.
-- Assumes nothing.
use Rattle.std.proofs.Common.{ℕ, zero, suc, ◌+◌, ◌≤◌, ◌<◌, ◌≡◌, refl, sym, ap, ◌∙◌, List, [], ◌∷◌, ◌++◌, append_assoc, add-zero, zero-add, add-one, arith, length, get_or, set, take, drop, length-append, length-set, take-append-drop, ext_get_or, drop-cons, drop-set-lt}
use Rattle.std.proofs.lemmas.List.{take_more_set}
use Rattle.slots.specs.Memory.{store_from, read_from}
use Rattle.slots.proofs.Stores.{store_here, length_read, get_d_read}

-- ---- stored

-- a row of numbers stored in two runs
pub store_append : (m : List ℕ) (i : ℕ) (xs ys : List ℕ) → store_from m i (xs ++ ys) ≡ store_from (store_from m i xs) (i + length xs) ys
store_append m i [] ys = rw add-zero
store_append m i (x ∷ xs) ys =
    store_append (set m i x) (i + 1) xs ys
    ∙ ap (λ (j : ℕ). store_from (store_from (set m i x) (i + 1) xs) j ys) {x = i + 1 + length xs} {y = i + suc (length xs)} (omega arith)

-- m is m₀ with xs, n numbers, stored from place i on
pub record Stored (m₀ m : List ℕ) (i : ℕ) (xs : List ℕ) (n : ℕ) : Type 0 where
  pub is : m ≡ store_from m₀ i xs
  pub count : length xs ≡ n

pub begin : {m : List ℕ} (m₀ : List ℕ) (i : ℕ) (xs : List ℕ) (n : ℕ) → m ≡ store_from m₀ i xs → length xs ≡ n → Stored m₀ m i xs n
begin m₀ i xs n e l = record { is = e; count = l }

-- and then ys, right after
pub then : {m₀ m m' xs : List ℕ} {i n : ℕ} (ys : List ℕ) (k : ℕ) → Stored m₀ m i xs n → m' ≡ store_from m (i + n) ys → length ys ≡ k → Stored m₀ m' i (xs ++ ys) (n + k)
then {m₀} {m} {m'} {xs} {i} {n} ys k s e l = record {
  is = e ∙ ap (λ (r : List ℕ). store_from r (i + n) ys) s.is ∙ ap (λ (j : ℕ). store_from (store_from m₀ i xs) (i + j) ys) (sym s.count) ∙ sym (store_append m₀ i xs ys);
  count = length-append xs ys ∙ ap (λ (j : ℕ). j + length ys) s.count ∙ ap (λ (j : ℕ). n + j) l;
}

-- a row stored whole: what stood before it, the row, and what stands behind it
pub store_whole : (m : List ℕ) (i : ℕ) (xs : List ℕ) → i + length xs ≤ length m → store_from m i xs ≡ take i m ++ (xs ++ drop (i + length xs) m)
store_whole m i [] h = rw add-zero (sym (take-append-drop i m))
store_whole m i (x ∷ xs) h =
    let next : i + suc (length xs) ≡ i + 1 + length xs = omega arith in
    store_whole (set m i x) (i + 1) xs (rw length-set (omega arith))
    ∙ rw (take_more_set m i x (omega arith), append_assoc, next, drop-set-lt (i + 1 + length xs) m i x (omega arith))

-- the first of what is left is stored, and the others are left
pub store_one : (m : List ℕ) (at : ℕ) (xs : List ℕ) (i : ℕ) (end : List ℕ) → i < length xs → store_from m (at + i) (drop i xs) ≡ end
    → store_from (set m (at + i) (get_or xs i 0)) (at + (i + 1)) (drop (i + 1) xs) ≡ end
store_one m at xs i end h e =
    let place : at + (i + 1) ≡ at + i + 1 = omega arith in
    rw (place, add-one i) (sym (ap (λ (r : List ℕ). store_from m (at + i) r) (drop-cons xs i 0 h)) ∙ e)

-- ---- read

-- a part of what was stored reads as that part of the row
pub read_stored : (m : List ℕ) (i : ℕ) (xs : List ℕ) (k n : ℕ) → k + n ≤ length xs → i + length xs ≤ length m → read_from (store_from m i xs) (i + k) n ≡ read_from xs k n
read_stored m i xs k n h l =
    ext_get_or 0 _ _ (length_read _ (i + k) n ∙ sym (length_read xs k n))
    (λ j b. let c : j < n = rw length_read at b in
    get_d_read (store_from m i xs) (i + k) n j c
    ∙ ap (λ (p : ℕ). get_or (store_from m i xs) p 0) {x = i + k + j} {y = i + (k + j)} (omega arith)
    ∙ store_here m i xs (k + j) (omega arith) l ∙ sym (get_d_read xs k n j c))

-- a place past the first is one of the rest
pub read_past : (x : ℕ) (xs : List ℕ) (k n : ℕ) → read_from (x ∷ xs) (suc k) n ≡ read_from xs k n
read_past x xs k zero = refl
read_past x xs k (suc n) =
    ap (λ (r : List ℕ). get_or xs k 0 ∷ r)
    (ap (λ (j : ℕ). read_from (x ∷ xs) j n) {x = suc k + 1} {y = suc (k + 1)} (omega arith) ∙ read_past x xs (k + 1) n)

-- a row reads as itself, whatever stands behind it
pub read_first : (xs ys : List ℕ) → read_from (xs ++ ys) 0 (length xs) ≡ xs
read_first [] ys = refl
read_first (x ∷ xs) ys = ap (λ (r : List ℕ). x ∷ r) (read_past x (xs ++ ys) 0 (length xs) ∙ read_first xs ys)

-- and what stands behind it as if it were not there
pub read_behind : (xs ys : List ℕ) (k n : ℕ) → read_from (xs ++ ys) (length xs + k) n ≡ read_from ys k n
read_behind [] ys k n = rw zero-add
read_behind (x ∷ xs) ys k n =
    ap (λ (j : ℕ). read_from (x ∷ xs ++ ys) j n) {x = suc (length xs) + k} {y = suc (length xs + k)} (omega arith)
    ∙ read_past x (xs ++ ys) (length xs + k) n ∙ read_behind xs ys k n

-- numbers read one after another are a part of the memory, where it has so many
pub read_part : (m : List ℕ) (i n : ℕ) → i + n ≤ length m → take n (drop i m) ≡ read_from m i n
read_part m i zero h = refl
read_part m i (suc n) h =
    let e = drop-cons m i 0 (omega arith) in
    ap (λ (r : List ℕ). take (suc n) r) e ∙ ap (λ (r : List ℕ). get_or m i 0 ∷ r) (read_part m (suc i) n (omega arith) ∙ ap (λ (j : ℕ). read_from m j n) (sym (add-one i)))
