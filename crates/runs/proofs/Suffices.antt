-- The cap 8,192 suffices: no segment of the joined list touches over 8 pieces.
-- Assumes nothing.
use Rattle.std.proofs.Common.{ℕ, zero, suc, ◌+◌, ◌≤◌, ◌<◌, ◌≡◌, refl, Bool, true, false, cond, ◌||◌, List, arith, length}
use native.Mathlib.Decide.{dec_lt}
use Rattle.segments.specs.Touch.{count_below, start_of, total, holds, covers_from, covers_upto, is_crowded}
use Rattle.segments.proofs.Starts.{start_zero, start_up, start_past}
use Rattle.segments.proofs.Meaning.{holds_is, not_crowded}
use Rattle.runs.specs.Runs.{joined, runs_of, largest_cap}
use Rattle.runs.proofs.Joined.{joined_length}
use Rattle.runs.proofs.Greedy.{runs_full}

-- ---- counting

-- two numbers below n that pass a test, m or more apart
record Apart (t : ℕ → Bool) (n m : ℕ) : Type 0 where
  i : ℕ
  j : ℕ
  far : i + m ≤ j
  last : j < n
  first_is : t i ≡ true
  last_is : t j ≡ true

-- if more than m pass
apart : (t : ℕ → Bool) (n m : ℕ) → m < count_below n t → Apart t n m
unfolding count_below
apart t zero m p = absurd (omega arith)
apart t (suc n) m p = by (t n) refl m p (λ m. apart t n m)
  where
    by : (v : Bool) → t n ≡ v → (m : ℕ) → m < cond v 1 0 + count_below n t → ((m : ℕ) → m < count_below n t → Apart t n m) → Apart t (suc n) m
    by true e zero p ih = record { i = n; j = n; far = omega arith; last = omega arith; first_is = e; last_is = e }
    by true e (suc m) p ih = let r = ih m (omega arith) in record { i = r.i; j = n; far = omega arith; last = omega arith; first_is = r.first_is; last_is = e }
    by false e m p ih = let r = ih m (omega arith) in record { i = r.i; j = r.j; far = r.far; last = omega arith; first_is = r.first_is; last_is = r.last_is }

count_or : (s t : ℕ → Bool) (n : ℕ) → count_below n (λ i. s i || t i) ≤ count_below n s + count_below n t
unfolding count_below
count_or s t zero = omega arith
count_or s t (suc n) = by (s n) (t n) _ _ _ (count_or s t n)
  where
    by : (a b : Bool) (x y z : ℕ) → x ≤ y + z → cond (a || b) 1 0 + x ≤ cond a 1 0 + y + (cond b 1 0 + z)
    by true true x y z h = omega arith
    by true false x y z h = omega arith
    by false true x y z h = omega arith
    by false false x y z h = omega arith

-- ---- the runs of the largest cap

module _ (ls : List ℕ) where
  abbrev J : List ℕ
  J = joined ls (runs_of ls largest_cap)

  -- two neighbouring runs together pass the cap
  neighbours : (r : ℕ) → suc r < length J → start_of J r + largest_cap < start_of J (suc (suc r))
  neighbours r h = runs_full ls largest_cap r (omega (arith, joined_length ls (runs_of ls largest_cap)))

  module _ (header : ℕ) (short : header ≤ 512) (whole : header ≤ total J) where
    -- the header ends within the first two runs
    header_two : header ≤ start_of J 2
    header_two = elim (dec_lt 1 (length J)) [ yes l ↦ omega (arith, neighbours 0 l, start_zero J) | no n ↦ omega (arith, start_past J 2 (omega arith)) ]

    header_count : count_below (length J) (holds J 0 header) ≤ 2
    header_count = elim (dec_lt 2 (count_below (length J) (holds J 0 header))) [ yes l ↦ absurd (by (apart _ _ _ l)) | no n ↦ omega arith ]
      where
        by : Apart (holds J 0 header) (length J) 2 → ⊥
        by w = let (b, p, f, u) = (holds_is J 0 header w.j).0 w.last_is in omega (arith, header_two, start_up J {i = 2} w.j (omega arith))

    module _ (mss tlen : ℕ) (small : mss + header ≤ 9728) where
      payload_count : (k : ℕ) → count_below (length J) (holds J (covers_from header mss k) (covers_upto header mss tlen k)) ≤ 5
      payload_count k = elim (dec_lt 5 (count_below (length J) (holds J from upto))) [ yes l ↦ absurd (by (apart _ _ _ l)) | no n ↦ omega arith ]
        where
          from : ℕ
          from = covers_from header mss k

          upto : ℕ
          upto = covers_upto header mss tlen k

          by : Apart (holds J from upto) (length J) 5 → ⊥
          by w =
              let i = w.i in
              let (b, p, f, u) = (holds_is J from upto i).0 w.first_is in
              let (c, q, g, v) = (holds_is J from upto w.j).0 w.last_is in
              omega (arith, neighbours (suc i) (omega arith), neighbours (suc (suc (suc i))) (omega arith), start_up J {i = suc (suc (suc (suc (suc i))))} w.j (omega arith))

      pub not_crowded_8192 : is_crowded J header mss tlen ≡ false
      not_crowded_8192 = not_crowded J header mss tlen (λ k b m. omega (arith, count_or (holds J 0 header) (holds J (covers_from header mss k) (covers_upto header mss tlen k)) (length J), header_count, payload_count k))
