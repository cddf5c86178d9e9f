-- Bytes and the number they say, over the width: each way round, and how large the number is.
-- Assumes nothing.
use Rattle.std.proofs.Common.{ℕ, zero, suc, ◌+◌, ◌/◌, ◌^◌, ◌<◌, ◌≡◌, subst, List, [], ◌∷◌, arith, lit<, length, get_or, pow-suc}
use Rattle.slots.specs.Memory.{read_from}
use Rattle.slots.proofs.Stores.{length_read}
use Rattle.little.specs.Little.{value_of, bytes_of}
use Rattle.little.specs.Steps.{Says}

-- the bytes of a number that fits say it
pub value_bytes : (n x : ℕ) → x < 256 ^ n → value_of (bytes_of n x) ≡ x
value_bytes zero x h = omega arith
value_bytes (suc n) x h =
    let small : x / 256 < 256 ^ n = omega (arith, pow-suc 256 n) in
    rw (value_bytes n (x / 256) small) (omega arith)

-- every number of a list is a byte
abbrev pub Bytes : List ℕ → Type 0
Bytes [] = Unit {0}
Bytes (b ∷ bs) = (b < 256) × Bytes bs

pub value_below : (bs : List ℕ) → Bytes bs → value_of bs < 256 ^ length bs
value_below [] h = lit< tt
value_below (b ∷ bs) h = omega (arith, h.0, value_below bs h.1, pow-suc 256 (length bs))

pub read_bytes : (m : List ℕ) (i n : ℕ) → ((k : ℕ) → get_or m k 0 < 256) → Bytes (read_from m i n)
read_bytes m i zero h = tt
read_bytes m i (suc n) h = (h i, read_bytes m (i + 1) n h)

-- the number that a slice of bytes says somewhere
pub says : (m : List ℕ) (i n r : ℕ) → ((k : ℕ) → get_or m k 0 < 256) → r ≡ value_of (read_from m i n) → Says m i n r
says m i n r h e =
    record {
      is = e;
      small = rw e (subst (λ (k : ℕ). value_of (read_from m i n) < 256 ^ k) (length_read m i n) (value_below (read_from m i n) (read_bytes m i n h)));
    }
