-- Every byte of the joined packet comes from the same piece and offset as before.
-- Assumes nothing.
use Rattle.std.proofs.Common.{ℕ, zero, suc, ◌+◌, ◌-◌, ◌≤◌, ◌<◌, ◌≡◌, ap, true, List, arith, length, get_or, take, drop, length-take, length-drop, get_or-take, get_or-drop}
use native.Mathlib.Decide.{dec_lt}
use Rattle.segments.specs.Touch.{start_of, total}
use Rattle.segments.proofs.Starts.{start_zero, start_next, start_before}
use Rattle.runs.specs.Runs.{joined, covers, run_of, At}
use Rattle.runs.proofs.Joined.{joined_length, joined_start, joined_at, joined_total}

-- a byte is in one piece at one offset
pub at_one : (ls : List ℕ) (b : ℕ) {i j o p : ℕ} → At ls b i o → At ls b j p → (i ≡ j) × (o ≡ p)
at_one ls b {i} {j} {o} {p} s t =
    let u = start_before ls i (suc j) (omega (arith, start_next ls j, s.byte, t.byte, t.inside)) in
    let v = start_before ls j (suc i) (omega (arith, start_next ls i, s.byte, t.byte, s.inside)) in
    let e : i ≡ j = omega arith in
    (e, omega (arith, ap (start_of ls) e, s.byte, t.byte))

-- and every byte of the packet is in one
pub at_some : (ls : List ℕ) (b : ℕ) → b < total ls → (i : ℕ) × (o : ℕ) × At ls b i o
at_some ls b l = go (length ls) (omega arith) l
  where
    go : (n : ℕ) → n ≤ length ls → b < start_of ls n → (i : ℕ) × (o : ℕ) × At ls b i o
    go zero m h = absurd (omega (arith, start_zero ls))
    go (suc n) m h = elim (dec_lt b (start_of ls n)) [ yes k ↦ go n (omega arith) k | no k ↦ (n, b - start_of ls n, record { piece = m; inside = omega (arith, start_next ls n); byte = omega arith }) ]

-- the bytes of the first i pieces of a part of the list
part_start : (ls : List ℕ) (a n i : ℕ) → i ≤ n → start_of ls a + start_of (take n (drop a ls)) i ≡ start_of ls (a + i)
part_start ls a n zero h = let e : a + 0 ≡ a = omega arith in rw e (omega (arith, start_zero (take n (drop a ls))))
part_start ls a n (suc i) h =
    let e : a + suc i ≡ suc (a + i) = omega arith in
    rw e (omega (arith, start_next ls (a + i), start_next (take n (drop a ls)) i, part_start ls a n i (omega arith), get_or-take n (drop a ls) i 0 h, get_or-drop a ls i 0))

-- Byte b of the joined packet is byte o of run r, and byte o of that run, its pieces copied one after the other, is byte p of its piece i.
-- Then byte b of the old packet is byte p of that piece.
pub origin : (ls plan : List ℕ) {b r o i p : ℕ} → At (joined ls plan) b r o → At (run_of ls plan r) o i p → At ls b (start_of plan r + i) p
origin ls plan {b} {r} {o} {i} {p} s t =
    let n = get_or plan r 0 in
    let a = start_of plan r in
    let few : i < n = omega (arith, t.piece, length-take n (drop a ls)) in
    record {
      piece = omega (arith, t.piece, length-take n (drop a ls), length-drop a ls);
      inside = omega (arith, t.inside, get_or-take n (drop a ls) i 0 few, get_or-drop a ls i 0);
      byte = omega (arith, s.byte, t.byte, joined_start ls plan r, part_start ls a n i (omega arith));
    }

-- There are such a run and piece for every byte of the packet.
pub origin_some : (ls plan : List ℕ) (b : ℕ) → covers plan (length ls) ≡ true → b < total ls
    → (r : ℕ) × (o : ℕ) × (i : ℕ) × (p : ℕ) × At (joined ls plan) b r o × At (run_of ls plan r) o i p
origin_some ls plan b c l =
    let (r, o, s) = at_some (joined ls plan) b (omega (arith, joined_total ls plan c)) in
    let (i, p, t) = at_some (run_of ls plan r) o (omega (arith, s.inside, joined_at ls plan r (omega (arith, s.piece, joined_length ls plan)))) in
    (r, o, i, p, s, t)
