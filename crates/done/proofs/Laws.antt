-- A slot count that a packet of the posted slots can have.
-- Assumes nothing.
use Rattle.std.proofs.Common.{◌≡◌, ℕ, ◌≤◌, false, ◌||◌, List, ltb, eqb, ltb-false, arith}
use Rattle.std.proofs.lemmas.Bool.{eqb-false}
use Rattle.rules.proofs.Tests.{neither}
use Rattle.ring.specs.declared.Queue.{Queue}
use Rattle.done.specs.Marks.{count_at}

pub record Counted (q : Queue) (counts : List ℕ) : Type 0 where
  pub some : 1 ≤ count_at q counts
  pub most : count_at q counts ≤ q.posted

pub counted : (q : Queue) (counts : List ℕ) → eqb (count_at q counts) 0 || ltb q.posted (count_at q counts) ≡ false → Counted q counts
counted q counts e =
    let n = neither (eqb (count_at q counts) 0) (ltb q.posted (count_at q counts)) e in
    record { some = omega (arith, eqb-false (count_at q counts) 0 n.0); most = ltb-false _ _ n.1 }
