-- Demand 3 of a history with bursts: each burst counts as its takes, slots examined left out.
-- Assumes nothing.
use Rattle.std.specs.Prelude.{◌≡◌, List, [], ◌∷◌, ◌++◌, map, ℕ, Err}
use Rattle.rules.specs.declared.Refusal.TheVariants.{NotYet}
use Rattle.receive.specs.Burst.{Made}
use Rattle.history.specs.World.{World, taken, end, replies, AllAllowed}
use Rattle.history.specs.History.{completed, handed_up}
use Rattle.history.specs.Demand.{Demand3}
use Rattle.history.specs.Figures.{Console}
use Rattle.bursts.specs.Acts.{Act, burst, made_at, burst_at, after_act, as_events, end_of, all_up, spread}

-- one burst, anywhere: its takes in its place answer what the burst is made of, take by take, and leave the same world
pub record AsTakes (w : World) (out : List ℕ) (limit : ℕ) : Type 0 where
  pub takes_say : replies w (as_events w (burst out limit)) ≡ map (λ (m : Made). taken m.taken) (made_at w out limit)
  pub takes_leave : end w (as_events w (burst out limit)) ≡ after_act w (burst out limit)

-- a history with bursts, and the same with each burst replaced by its takes
pub record BurstDemand (w : World) (acts : List Act) : Type 0 where
  pub same_end : end_of w acts ≡ end w (spread w acts)
  pub same_packets : all_up w acts ≡ handed_up w (spread w acts)
  -- so all of demand 3 is said of it, and the console's law
  pub allowed : AllAllowed w (spread w acts)
  pub demand : Demand3 w (spread w acts)
  pub console : Console w (spread w acts)
  -- "'not yet' only when everything completed has been handed up", of a burst that answers 4: every front part of a history is one
  pub not_yet : (before : List Act) (out : List ℕ) (limit : ℕ) → acts ≡ before ++ burst out limit ∷ [] → (burst_at (end_of w before) out limit).answer ≡ Err NotYet
      → completed w (spread w acts) ≡ all_up w acts
