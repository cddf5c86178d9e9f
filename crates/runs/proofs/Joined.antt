-- Where the pieces of a joined list begin.
-- Assumes nothing.
use Rattle.std.proofs.Common.{ℕ, zero, suc, ◌+◌, ◌≤◌, ◌<◌, min, ◌≡◌, refl, ap, ◌∙◌, true, cond, List, [], ◌∷◌, arith, add-zero, eqb-true, leb-true, leb, eqb, length, get_or, take, drop, drop-drop, get_or-drop, ext_get_or}
use Rattle.rules.specs.Rules.{all_below}
use Rattle.rules.proofs.Tests.{both, all_each}
use Rattle.request.specs.Sound.{most_length}
use Rattle.segments.specs.Touch.{start_of, total}
use Rattle.segments.proofs.Starts.{start_zero}
use Rattle.runs.specs.Runs.{joined, joined_addresses, covers, noted, run_of}

pub start_cons : (x : ℕ) (xs : List ℕ) (r : ℕ) → start_of (x ∷ xs) (suc r) ≡ x + start_of xs r
unfolding start_of
start_cons x xs zero = omega arith
start_cons x xs (suc r) = omega (arith, start_cons x xs r)

-- no piece, no byte
pub start_nil : (i : ℕ) → start_of [] i ≡ 0
unfolding start_of
start_nil zero = refl
start_nil (suc i) = omega (arith, start_nil i)

-- the bytes of the first n pieces, and of the next i
pub start_split : (n : ℕ) (ls : List ℕ) (i : ℕ) → total (take n ls) + start_of (drop n ls) i ≡ start_of ls (n + i)
start_split zero ls i = let e : 0 + i ≡ i = omega arith in rw e (omega (arith, start_nil 0))
start_split (suc n) [] i = omega (arith, start_nil 0, start_nil i, start_nil (suc n + i))
start_split (suc n) (l ∷ ls) i =
    let e : suc n + i ≡ suc (n + i) = omega arith in
    rw e (omega (arith, start_cons l (take n ls) (length (take n ls)), start_cons l ls (n + i), start_split n ls i))

start_take : (n : ℕ) (ls : List ℕ) → total (take n ls) ≡ start_of ls n
start_take n ls = simp add-zero at (rw (start_zero (drop n ls)) at (start_split n ls 0))

-- the bytes of n pieces, those from piece a on
pub part_total : (ls : List ℕ) (a n : ℕ) → start_of ls a + total (take n (drop a ls)) ≡ start_of ls (a + n)
part_total ls a n = omega (arith, start_take a ls, start_take n (drop a ls), start_split a ls n)

pub joined_length : (ls plan : List ℕ) → length (joined ls plan) ≡ length plan
unfolding joined
joined_length ls [] = refl
joined_length ls (n ∷ plan) = ap suc (joined_length (drop n ls) plan)

-- run r begins where its first piece does
pub joined_start : (ls plan : List ℕ) (r : ℕ) → start_of (joined ls plan) r ≡ start_of ls (start_of plan r)
unfolding joined
joined_start ls plan zero = rw (start_zero plan, start_zero ls, start_zero (joined ls plan))
joined_start ls [] (suc r) = rw (start_nil (suc r), start_zero ls)
joined_start ls (n ∷ plan) (suc r) = rw (start_cons n plan r, ← start_split n ls (start_of plan r), ← joined_start (drop n ls) plan r) (start_cons (total (take n ls)) (joined (drop n ls) plan) r)

-- its length is the bytes of its pieces
pub joined_at : (ls plan : List ℕ) (r : ℕ) → r < length plan → get_or (joined ls plan) r 0 ≡ total (run_of ls plan r)
unfolding joined
joined_at ls [] r h = absurd (omega arith)
joined_at ls (n ∷ plan) zero h = rw (start_zero (n ∷ plan))
joined_at ls (n ∷ plan) (suc r) h = rw (start_cons n plan r, ← drop-drop (start_of plan r) n ls) (joined_at (drop n ls) plan r (omega arith))

pub addresses_length : (xs plan : List ℕ) (chosen : ℕ → ℕ) → length (joined_addresses xs plan chosen) ≡ length plan
unfolding joined_addresses
addresses_length xs [] chosen = refl
addresses_length xs (n ∷ plan) chosen = ap suc (addresses_length (drop n xs) plan (λ r. chosen (suc r)))

pub addresses_at : (xs plan : List ℕ) (chosen : ℕ → ℕ) (r : ℕ) → r < length plan → get_or (joined_addresses xs plan chosen) r 0 ≡ cond (eqb (get_or plan r 0) 1) (get_or xs (start_of plan r) 0) (chosen r)
unfolding joined_addresses
addresses_at xs [] chosen r h = absurd (omega arith)
addresses_at xs (n ∷ plan) chosen zero h = rw (start_zero (n ∷ plan))
addresses_at xs (n ∷ plan) chosen (suc r) h = rw (start_cons n plan r, ← get_or-drop n xs (start_of plan r) 0) (addresses_at (drop n xs) plan (λ r. chosen (suc r)) r (omega arith))

-- ---- lengths as they are noted

pub noted_length : (ls : List ℕ) → length (noted ls) ≡ length ls
unfolding noted
noted_length [] = refl
noted_length (l ∷ ls) = ap suc (noted_length ls)

pub noted_at : (ls : List ℕ) (r : ℕ) → get_or (noted ls) r 0 ≡ min (get_or ls r 0) (most_length + 1)
unfolding noted
noted_at [] r = refl
noted_at (l ∷ ls) zero = refl
noted_at (l ∷ ls) (suc r) = noted_at ls r

-- those that a piece may have are noted as they are
pub noted_same : (ls : List ℕ) → ((r : ℕ) → r < length ls → get_or ls r 0 ≤ most_length) → noted ls ≡ ls
noted_same ls f = ext_get_or 0 (noted ls) ls (noted_length ls) (λ r h. omega (arith, noted_at ls r, f r (omega (arith, noted_length ls))))

-- ---- runs that cover the pieces

module _ (n : ℕ) (plan : List ℕ) (c : covers plan n ≡ true) where
  parts : (eqb (total plan) n ≡ true) × (all_below (length plan) (λ r. leb 1 (get_or plan r 0)) ≡ true)
  unfolding covers
  parts = both (eqb (total plan) n) _ c

  pub covers_total : total plan ≡ n
  covers_total = eqb-true _ _ parts.0

  pub covers_each : (r : ℕ) → r < length plan → 1 ≤ get_or plan r 0
  covers_each r l = leb-true _ _ (all_each _ (length plan) parts.1 r l)

-- the joined packet is as long as the old one
pub joined_total : (ls plan : List ℕ) → covers plan (length ls) ≡ true → total (joined ls plan) ≡ total ls
joined_total ls plan c =
    joined_start ls plan (length (joined ls plan)) ∙ ap (λ (n : ℕ). start_of ls (start_of plan n)) (joined_length ls plan) ∙ ap (start_of ls) (covers_total (length ls) plan c)
