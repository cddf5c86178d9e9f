-- A turn of the loop that writes, and eight bytes with zeros above the bytes of a number.
-- Assumes nothing.
use Rattle.std.proofs.Common.{ℕ, zero, suc, ◌+◌, ◌-◌, ◌*◌, ◌/◌, ◌%◌, ◌≤◌, ◌<◌, ◌≡◌, refl, sym, ap, ◌∙◌, List, [], ◌∷◌, ◌++◌, append-nil, arith, length, set, drop, replicate, length-append, w64}
use Rattle.std.specs.Int.{from_le_bytes}
use Rattle.std.proofs.lemmas.List.{drop-replicate, length-replicate}
use Rattle.slots.specs.Memory.{store_from, read_from}
use Rattle.slots.proofs.Pieces.{read_first}
use Rattle.little.specs.Little.{value_of, bytes_of}

-- the lowest byte of what is left is stored, and the others are left
pub put_one : (m : List ℕ) (at n i rest : ℕ) (end : List ℕ) → i < n → store_from m (at + i) (bytes_of (n - i) rest) ≡ end
    → store_from (set m (at + i) (rest % 256)) (at + (i + 1)) (bytes_of (n - (i + 1)) (rest / 256)) ≡ end
put_one m at n i rest end h e =
    let count : n - i ≡ suc (n - (i + 1)) = omega arith in
    let place : at + (i + 1) ≡ at + i + 1 = omega arith in
    ap (λ (p : ℕ). store_from (set m (at + i) (rest % 256)) p (bytes_of (n - (i + 1)) (rest / 256))) place
    ∙ sym (ap (λ (k : ℕ). store_from m (at + i) (bytes_of k rest)) count) ∙ e

-- zeros above the bytes of a number add nothing
zeros : (n : ℕ) → value_of (replicate n 0) ≡ 0
zeros zero = refl
zeros (suc n) = rw (zeros n)

value_above : (xs : List ℕ) (n : ℕ) → value_of (xs ++ replicate n 0) ≡ value_of xs
value_above [] n = zeros n
value_above (x ∷ xs) n = ap (λ (v : ℕ). x + 256 * v) (value_above xs n)

-- eight bytes as the library reads them
eight_read : (bs : List ℕ) → from_le_bytes w64 bs ≡ value_of (read_from bs 0 8)
eight_read bs = omega arith

pub eight : (bs : List ℕ) → length bs ≡ 8 → from_le_bytes w64 bs ≡ value_of bs
eight bs e = eight_read bs ∙ ap value_of (sym (ap (λ (n : ℕ). read_from bs 0 n) e) ∙ ap (λ (xs : List ℕ). read_from xs 0 (length bs)) (sym (append-nil bs)) ∙ read_first bs [])

pub low : (xs : List ℕ) (n : ℕ) → length xs ≡ n → n ≤ 8 → from_le_bytes w64 (xs ++ drop n (replicate {A = ℕ} 8 0)) ≡ value_of xs
low xs n e h =
    rw drop-replicate (eight (xs ++ replicate (8 - n) 0) (rw (length-append, e, length-replicate) (omega arith)) ∙ value_above xs (8 - n))
