-- The step round a ring: a slot number is below the size, steps add up, two distances below a lap give two slots, and distance and slot undo each other.
-- Assumes nothing.
use Rattle.std.proofs.Common.{ℕ, ◌+◌, ◌-◌, ◌%◌, ◌≤◌, ◌<◌, ◌≡◌, sym, ap, ◌∙◌, ◌≢◌, ◌⊎◌, inl, inr, ⊎_elim, add-zero, mod-lt, mod-eq_of_lt, arith}
use native.Mathlib.Nat.{mod-add-mod, mod-eq-sub-mod}
use native.Mathlib.Decide.{dec_lt}
use Rattle.slots.specs.Slots.{slot_at, distance, most_slots}
use Rattle.slots.specs.Steps.{Step, SlotIs}

pub slot_below : (head size k : ℕ) → 0 < size → slot_at head size k < size
slot_below head size k h = mod-lt (head + k) h

-- no slot on, and n slots on and then m
pub slot_here : (head size : ℕ) → head < size → slot_at head size 0 ≡ head
slot_here head size h = ap (λ (x : ℕ). x % size) (add-zero head) ∙ mod-eq_of_lt h

pub slot_on : (head size n m : ℕ) → slot_at (slot_at head size n) size m ≡ slot_at head size (n + m)
slot_on head size n m = mod-add-mod (head + n) size m ∙ ap (λ (x : ℕ). x % size) (omega arith)

pub here_is : {head size : ℕ} → head < size → size ≤ most_slots → SlotIs head size 0 head
here_is l h = record { is = sym (slot_here _ _ l); below = l; small = h }

pub on_is : {head size n m at r : ℕ} → SlotIs head size n at → SlotIs at size m r → SlotIs head size (n + m) r
on_is {head} {size} {n} {m} a b = record { is = b.is ∙ ap (λ (s : ℕ). slot_at s size m) a.is ∙ slot_on head size n m; below = b.below; small = b.small }

-- a sum of less than two laps is itself, or itself less a lap
less_lap : {x size : ℕ} → size ≤ x → x < size + size → x % size ≡ x - size
less_lap g h = mod-eq-sub-mod g ∙ mod-eq_of_lt (omega arith)

pub wrap : (x size : ℕ) → x < size + size → ((x % size ≡ x) × (x < size)) ⊎ ((x % size + size ≡ x) × (size ≤ x))
wrap x size h = go (dec_lt x size)
  where
    go : Dec (x < size) → ((x % size ≡ x) × (x < size)) ⊎ ((x % size + size ≡ x) × (size ≤ x))
    go (yes l) = inl (mod-eq_of_lt l, l)
    go (no l) = let g : size ≤ x = omega arith in inr (omega (arith, less_lap g h), g)

-- so the code may add and compare
pub sum_is : {head size k : ℕ} → Step head size k → head + k < size → SlotIs head size k (head + k)
sum_is s l = record { is = sym (mod-eq_of_lt l); below = l; small = s.size_high }

pub lap_is : {head size k : ℕ} → Step head size k → size ≤ head + k → SlotIs head size k (head + k - size)
lap_is {head} {size} {k} s g =
    let two : head + k < size + size = omega (arith, s.head_below, s.near) in
    record { is = sym (less_lap g two); below = omega (arith, two); small = s.size_high }

-- a slot number and a lap
lap : (s size : ℕ) → s < size → (s + size) % size ≡ s
lap s size h = ⊎_elim (λ w. omega arith) (λ w. omega arith) (wrap (s + size) size (omega arith))

-- two places less than a lap apart differ
between : (size m e : ℕ) → 0 < e → e < size → m % size ≢ (m + e) % size
between size m e pos less q =
    let low : m % size < size = mod-lt m (omega arith) in
    let same : (m % size + e) % size ≡ m % size = mod-add-mod m size e ∙ sym q in
    ⊎_elim (λ w. omega (arith, same)) (λ w. omega (arith, same)) (wrap (m % size + e) size (omega arith))

further : (head size k d : ℕ) → k < d → d < size → slot_at head size k ≢ slot_at head size d
further head size k d less l e =
    between size (head + k) (d - k) (omega arith) (omega arith) (e ∙ ap (λ (n : ℕ). n % size) (omega arith))

-- two distances below the size give two slots
pub apart : (head size k d : ℕ) → k < size → d < size → k ≢ d → slot_at head size k ≢ slot_at head size d
apart head size k d hk hd ne e = go (dec_lt k d)
  where
    go : Dec (k < d) → ⊥
    go (yes l) = further head size k d l hd e
    go (no l) = further head size d k (omega arith) hk (sym e)

-- the slot at a distance is that far from head, and the slot at a slot's distance is that slot
pub distance_slot : (head size k : ℕ) → head < size → k < size → distance head size (slot_at head size k) ≡ k
distance_slot head size k h l =
    let e : head + (k + (size - head)) ≡ k + size = omega arith in
    slot_on head size k (size - head) ∙ rw e (lap k size l)

pub slot_distance : (head size s : ℕ) → head < size → s < size → slot_at head size (distance head size s) ≡ s
slot_distance head size s h l =
    let up : s + (size - head) < size + size = omega arith in
    ⊎_elim (λ w. one (omega arith)) (λ w. two (omega arith)) (wrap (s + (size - head)) size up)
  where
    d : ℕ
    d = distance head size s

    one : head + d ≡ s + size → (head + d) % size ≡ s
    one e = rw e (lap s size l)

    two : head + d ≡ s → (head + d) % size ≡ s
    two e = rw e (mod-eq_of_lt l)
