-- What the runs of a cap keep.
-- Assumes nothing.
use Rattle.std.proofs.Common.{ℕ, zero, suc, ◌+◌, ◌≤◌, ◌<◌, ◌≡◌, refl, Bool, true, false, cond, List, [], ◌∷◌, ◌⊎◌, inl, inr, ⊎_elim, arith, zero-add, leb-true, leb-false, le-leb, eq-eqb, leb, length, get_or, drop, drop_of_length-le, drop-cons}
use Rattle.rules.proofs.Tests.{and_both}
use Rattle.segments.specs.Touch.{start_of, total}
use Rattle.segments.proofs.Starts.{start_zero, start_next, start_up}
use Rattle.runs.specs.Runs.{joined, covers, grow, runs_of}
use Rattle.runs.proofs.Joined.{start_cons, start_nil, joined_start}
use Rattle.runs.proofs.Tests.{all_yes}

-- The runs of `plan` cover the pieces from `a` on. Each has one piece or stays within the cap, and would pass it with the next piece.
pub record Grown (ls : List ℕ) (cap a : ℕ) (plan : List ℕ) : Type 0 where
  pub ends : a + total plan ≡ length ls
  pub some : (r : ℕ) → r < length plan → 1 ≤ get_or plan r 0
  pub fits : (r : ℕ) → r < length plan → (get_or plan r 0 ≡ 1) ⊎ (start_of ls (a + start_of plan (suc r)) ≤ start_of ls (a + start_of plan r) + cap)
  pub full : (r : ℕ) → suc r < length plan → start_of ls (a + start_of plan r) + cap < start_of ls (suc (a + start_of plan (suc r)))

module _ (ls : List ℕ) (cap : ℕ) where
  none : (a : ℕ) → a ≡ length ls → Grown ls cap a []
  none a e = record { ends = omega (arith, start_nil 0); some = λ r h. absurd (omega arith); fits = λ r h. absurd (omega arith); full = λ r h. absurd (omega arith) }

  -- a run of n pieces, those from a up to i
  module _ (a n i : ℕ) (upto : a + n ≡ i) where
    abbrev Fits : Type 0
    Fits = (n ≡ 1) ⊎ (start_of ls i ≤ start_of ls a + cap)

    module _ (plan : List ℕ) where
      here : a + start_of (n ∷ plan) 0 ≡ a
      here = omega (arith, start_zero (n ∷ plan))

      next : a + start_of (n ∷ plan) 1 ≡ i
      next = omega (arith, start_cons n plan 0, start_zero plan)

      after : (r : ℕ) → a + start_of (n ∷ plan) (suc r) ≡ i + start_of plan r
      after r = omega (arith, start_cons n plan r)

      more : 1 ≤ n → Fits → (0 < length plan → start_of ls a + cap < start_of ls (suc i)) → Grown ls cap i plan → Grown ls cap a (n ∷ plan)
      more p f u g = record { ends = omega (arith, start_cons n plan (length plan), g.ends); some = some; fits = fits; full = full }
        where
          some : (r : ℕ) → r < suc (length plan) → 1 ≤ get_or (n ∷ plan) r 0
          some zero h = p
          some (suc r) h = g.some r (omega arith)

          fits : (r : ℕ) → r < suc (length plan) → (get_or (n ∷ plan) r 0 ≡ 1) ⊎ (start_of ls (a + start_of (n ∷ plan) (suc r)) ≤ start_of ls (a + start_of (n ∷ plan) r) + cap)
          fits zero h = rw (here, next) f
          fits (suc r) h = rw (after (suc r), after r) (g.fits r (omega arith))

          full : (r : ℕ) → suc r < suc (length plan) → start_of ls (a + start_of (n ∷ plan) r) + cap < start_of ls (suc (a + start_of (n ∷ plan) (suc r)))
          full zero h = rw (here, next) (u (omega arith))
          full (suc r) h = rw (after (suc r), after r) (g.full r (omega arith))

  -- an open run has n pieces, those from a up to i, and k pieces are left
  abbrev Claim : ℕ → Type 0
  Claim k = (a n i b : ℕ) (u : a + n ≡ i) → 1 ≤ n → Fits a n i u → i + k ≡ length ls → start_of ls a + b ≡ start_of ls i → Grown ls cap a (grow cap n b (drop i ls))

  step : (k : ℕ) → Claim k → Claim (suc k)
  unfolding grow
  step k ih a n i b u p f e q = rw (drop-cons ls i 0 (omega arith)) (by (leb (b + l) cap) refl)
    where
      l : ℕ
      l = get_or ls i 0

      by : (t : Bool) → leb (b + l) cap ≡ t → Grown ls cap a (cond t (grow cap (suc n) (b + l) (drop (suc i) ls)) (n ∷ grow cap 1 l (drop (suc i) ls)))
      by true t =
          let h = leb-true (b + l) cap t in
          let d = start_next ls i in
          ih a (suc n) (suc i) (b + l) (omega arith) (omega arith) (inr (omega arith)) (omega arith) (omega arith)
      by false t =
          let h = leb-false (b + l) cap t in
          let d = start_next ls i in
          more a n i u _ p f (λ _. omega arith) (ih i 1 (suc i) l (omega arith) (omega arith) (inl refl) (omega arith) (omega arith))

  grown : (k : ℕ) → Claim k
  unfolding grow
  grown zero = λ a n i b u p f e q. rw (drop_of_length-le ls {i = i} (omega arith)) (more a n i u [] p f (λ h. absurd (omega arith)) (none i (omega arith)))
  grown (suc k) = step k (grown k)

greedy : (ls : List ℕ) (cap : ℕ) → Grown ls cap 0 (runs_of ls cap)
unfolding runs_of
greedy [] cap = none [] cap 0 refl
greedy (l ∷ ls) cap = grown (l ∷ ls) cap (length ls) 0 1 1 l (omega arith) (omega arith) (inl refl) (omega arith) (omega (arith, start_zero (l ∷ ls), start_cons l ls 0, start_zero ls))

-- ---- the same of the joined list

module _ (ls : List ℕ) (cap : ℕ) where
  abbrev plan : List ℕ
  plan = runs_of ls cap

  pub runs_cover : covers plan (length ls) ≡ true
  unfolding covers
  runs_cover = and_both (eq-eqb (total plan) (length ls) (omega (arith, (greedy ls cap).ends))) (all_yes _ (length plan) (λ r h. le-leb 1 (get_or plan r 0) ((greedy ls cap).some r h)))

  -- a run has one piece, or its bytes stay within the cap
  pub runs_fit : (r : ℕ) → r < length plan → (get_or plan r 0 ≡ 1) ⊎ (get_or (joined ls plan) r 0 ≤ cap)
  runs_fit r h =
      ⊎_elim inl
      (λ u. inr (omega (arith, simp zero-add at u, start_next (joined ls plan) r, joined_start ls plan r, joined_start ls plan (suc r))))
      ((greedy ls cap).fits r h)

  -- two neighbouring runs together pass it
  pub runs_full : (r : ℕ) → suc r < length plan → start_of (joined ls plan) r + cap < start_of (joined ls plan) (suc (suc r))
  runs_full r h =
      let next : suc (start_of plan (suc r)) ≤ start_of plan (suc (suc r)) = omega (arith, start_next plan (suc r), (greedy ls cap).some (suc r) h) in
      omega (arith, simp zero-add at ((greedy ls cap).full r h), start_up ls (start_of plan (suc (suc r))) next, joined_start ls plan r, joined_start ls plan (suc (suc r)))
