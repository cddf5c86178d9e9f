-- Plans: which runs of neighbouring pieces are copied together (02, M-106). A plan is a list of run lengths, in pieces; so `start_of plan r` is
-- the first piece of run r, and `total plan` the pieces that the runs have.
-- Assumes nothing.
use Rattle.std.specs.Prelude.{ℕ, suc, ◌+◌, ◌<◌, min, ◌≡◌, Bool, cond, ◌&&◌, List, [], ◌∷◌, ◌++◌, leb, eqb, length, get_or, take, drop}
use Rattle.rules.specs.Rules.{all_below}
use Rattle.request.specs.Sound.{most_length}
use Rattle.segments.specs.Touch.{start_of, total}

-- the runs cover n pieces once, in order: they add up to n, and none is 0
unfoldable pub covers : List ℕ → ℕ → Bool
covers plan n = eqb (total plan) n && all_below (length plan) (λ r. leb 1 (get_or plan r 0))

-- the joined list: one piece a run, its length the sum of its pieces'
unfoldable pub joined : List ℕ → List ℕ → List ℕ
joined ls [] = []
joined ls (n ∷ plan) = total (take n ls) ∷ joined (drop n ls) plan

-- the addresses of the joined list: a run of one keeps its own, and any other has the one that is chosen for it
unfoldable pub joined_addresses : List ℕ → List ℕ → (ℕ → ℕ) → List ℕ
joined_addresses xs [] chosen = []
joined_addresses xs (n ∷ plan) chosen = cond (eqb n 1) (get_or xs 0 0) (chosen 0) ∷ joined_addresses (drop n xs) plan (λ r. chosen (suc r))

-- what stands for an address that is taken as valid: every length that a piece may have can be added to it
abbrev pub valid : ℕ → ℕ
valid r = 1

-- ---- the plan of a cap

-- a run grows from the left while its bytes stay within a cap: the open run has n pieces and `bytes` bytes, `ls` are the pieces after it
unfoldable pub grow : ℕ → ℕ → ℕ → List ℕ → List ℕ
grow cap n bytes [] = n ∷ []
grow cap n bytes (l ∷ ls) = cond (leb (bytes + l) cap) (grow cap (suc n) (bytes + l) ls) (n ∷ grow cap 1 l ls)

-- the plan of a cap; a piece longer than the cap stands alone
unfoldable pub runs_of : List ℕ → ℕ → List ℕ
runs_of [] cap = []
runs_of (l ∷ ls) cap = grow cap 1 l ls

-- the largest cap
abbrev pub largest_cap : ℕ
largest_cap = 8192

-- ---- on paper

-- lengths as they are noted in a lent list: one over what a piece may have, as one more than that
unfoldable pub noted : List ℕ → List ℕ
noted [] = []
noted (l ∷ ls) = min l (most_length + 1) ∷ noted ls

-- numbers laid on a list from its first place on; places behind them are left
abbrev pub laid : List ℕ → List ℕ → List ℕ
laid xs old = xs ++ drop (length xs) old

-- ---- bytes

-- the pieces of run r
abbrev pub run_of : List ℕ → List ℕ → ℕ → List ℕ
run_of ls plan r = take (get_or plan r 0) (drop (start_of plan r) ls)

-- byte b of a packet is byte o of piece i
pub record At (ls : List ℕ) (b i o : ℕ) : Type 0 where
  pub piece : i < length ls
  pub inside : o < get_or ls i 0
  pub byte : start_of ls i + o ≡ b
