-- A packet's slots one at a time: what one slot more adds to the padded places, to the sum and to what is seen.
-- Assumes nothing.
use Rattle.std.proofs.Common.{ℕ, zero, suc, ◌+◌, ◌≤◌, ◌<◌, ◌≡◌, refl, ap, ◌∙◌, List, [], ◌∷◌, ◌++◌, map, zero-add, add-zero, add_assoc, arith, length, get_or, set, take, replicate}
use Rattle.rules.specs.declared.Refusal.{Refusal}
use Rattle.scan.specs.Slots.{Slot}
use Rattle.scan.specs.Scan.{packet_slots, Look, refuse, whole, and_then}
use Rattle.scan.specs.Told.{sum, padded, last_words}

-- ---- the places, those past the slots 0

zeros : (n m : ℕ) → n ≤ m → take {A = ℕ} n (replicate m 0) ≡ take n (replicate (suc m) 0)
zeros zero m h = refl
zeros (suc n) zero h = absurd (omega arith)
zeros (suc n) (suc m) h = ap (λ (r : List ℕ). 0 ∷ r) (zeros n m (omega arith))

put_next : (n m : ℕ) (ns : List ℕ) (v : ℕ) → length ns < n → n ≤ m
    → set (take n (ns ++ replicate m 0)) (length ns) v ≡ take n ((ns ++ v ∷ []) ++ replicate m 0)
put_next zero m ns v h l = absurd (omega arith)
put_next (suc n) zero [] v h l = absurd (omega arith)
put_next (suc n) (suc m) [] v h l = ap (λ (r : List ℕ). v ∷ r) (zeros n m (omega arith))
put_next (suc n) m (x ∷ ns) v h l = ap (λ (r : List ℕ). x ∷ r) (put_next n m ns v (omega arith) (omega arith))

-- a number put at the first free place
pub padded_more : (ns : List ℕ) (v : ℕ) → length ns < packet_slots → set (padded ns) (length ns) v ≡ padded (ns ++ v ∷ [])
unfolding padded
padded_more ns v h = put_next packet_slots packet_slots ns v h (omega arith)

pub sum_more : (ns : List ℕ) (n : ℕ) → sum (ns ++ n ∷ []) ≡ sum ns + n
unfolding sum
sum_more [] n = add-zero n ∙ rw zero-add
sum_more (m ∷ ns) n = rw (sum_more ns n) (rw add_assoc)

pub map_more : {A B : Type 0} (f : A → B) (p : List A) (s : A) → map f (p ++ s ∷ []) ≡ map f p ++ f s ∷ []
map_more f [] s = refl
map_more {B} f (t ∷ p) s = ap (λ (r : List B). f t ∷ r) (map_more f p s)

pub last_more : (p : List Slot) (s : Slot) → last_words (p ++ s ∷ []) ≡ s.words
unfolding last_words
last_more [] s = refl
last_more (t ∷ []) s = refl
last_more (t ∷ (u ∷ p)) s = last_more (u ∷ p) s

-- ---- slots before what is seen

unfoldable pub after : List Slot → Look → Look
after [] l = l
after (s ∷ p) l = and_then s (after p l)

pub after_more : (p : List Slot) (s : Slot) (l : Look) → after (p ++ s ∷ []) l ≡ after p (and_then s l)
unfolding after
after_more [] s l = refl
after_more (t ∷ p) s l = ap (and_then t) (after_more p s l)

pub after_refuse : (p : List Slot) (n : Refusal) → after p (refuse n) ≡ refuse n
unfolding after and_then
after_refuse [] n = refl
after_refuse (t ∷ p) n = rw (after_refuse p n)

pub after_whole : (p r : List Slot) → after p (whole r) ≡ whole (p ++ r)
unfolding after and_then
after_whole [] r = refl
after_whole (t ∷ p) r = rw (after_whole p r)

-- ---- a place of a packet's numbers

zeros_at : (n m i : ℕ) → ◌≡◌ {A = ℕ} (get_or (take n (replicate m 0)) i 0) 0
zeros_at zero m i = refl
zeros_at (suc n) zero i = refl
zeros_at (suc n) (suc m) zero = refl
zeros_at (suc n) (suc m) (suc i) = zeros_at n m i

pad_at : (n m : ℕ) (ns : List ℕ) (i : ℕ) → length ns ≤ n → get_or (take n (ns ++ replicate m 0)) i 0 ≡ get_or ns i 0
pad_at n m [] i h = zeros_at n m i
pad_at zero m (x ∷ ns) i h = absurd (omega arith)
pad_at (suc n) m (x ∷ ns) zero h = refl
pad_at (suc n) m (x ∷ ns) (suc i) h = pad_at n m ns i (omega arith)

-- what stands at a place: the slot's number, and 0 past the slots
pub padded_at : (ns : List ℕ) (i : ℕ) → length ns ≤ packet_slots → get_or (padded ns) i 0 ≡ get_or ns i 0
unfolding padded
padded_at ns i h = pad_at packet_slots packet_slots ns i h

pub map_at : {A : Type 0} (f : A → ℕ) (p : List A) (i : ℕ) (z : A) → i < length p → get_or (map f p) i 0 ≡ f (get_or p i z)
map_at f [] i z h = absurd (omega arith)
map_at f (s ∷ p) zero z h = refl
map_at f (s ∷ p) (suc i) z h = map_at f p i z (omega arith)
