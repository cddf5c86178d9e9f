-- What the contracts of the functions inside a planner ask and say. No public contract cites these.
-- Assumes nothing.
use Rattle.std.specs.Prelude.{ℕ, ◌<◌, ◌≡◌, true, cond, List, [], leb, eqb, length, get_or}
use Rattle.runs.specs.declared.RunsBy.{RunsBy}
use Rattle.runs.specs.declared.RunsBy.TheVariants.{Pieces, Bytes}
use Rattle.runs.specs.Runs.{covers, joined, runs_of, laid}

-- a run, told by its pieces or by its bytes
abbrev pub told_by : RunsBy → ℕ → ℕ → ℕ
told_by Pieces pieces bytes = pieces
told_by Bytes pieces bytes = bytes

-- and the runs of a plan
abbrev pub told_in : RunsBy → List ℕ → List ℕ → List ℕ
told_in Pieces ls plan = plan
told_in Bytes ls plan = joined ls plan

-- the plan of a cap, if there are places for as many runs as there are pieces
unfoldable pub plan_for : List ℕ → ℕ → List ℕ → List ℕ
plan_for ls cap runs = cond (leb (length ls) (length runs)) (runs_of ls cap) []

pub record Filled (by : RunsBy) (ls : List ℕ) (cap : ℕ) (old new : List ℕ) (r : ℕ) : Type 0 where
  pub count_is : r ≡ length (plan_for ls cap old)
  pub runs_are : new ≡ laid (told_in by ls (plan_for ls cap old)) old

-- a plan covers n pieces, and there is a place for each run
pub record Covered (n : ℕ) (plan out : List ℕ) : Type 0 where
  pub cover : covers plan n ≡ true
  pub room : length out ≡ length plan

-- runs of one keep their place, any other has its joined address
pub record Placed (plan copies old new : List ℕ) : Type 0 where
  pub room : length new ≡ length old
  pub each : (r : ℕ) → r < length plan → get_or new r 0 ≡ cond (eqb (get_or plan r 0) 1) (get_or old r 0) (get_or copies r 0)
