-- The console's law (02, "A figure that moves on the console page"): the two figures of a receive queue, in any history that the device's rules
-- allow, from a fresh queue. They move exactly when a slot does. Assumes nothing.
use Rattle.std.specs.Prelude.{◌+◌, ◌≤◌, ◌≡◌, ◌≢◌, List, [], ◌++◌, length}
use Rattle.rules.specs.Rules.{done}
use Rattle.ring.specs.Sizes.{most_count}
use Rattle.ring.specs.Counts.{Figures, figures_of}
use Rattle.history.specs.World.{World, Event, post, poll, write, post_at, take_at, after, end}
use Rattle.history.specs.History.{accepted, handed_up, returned}

-- what the console shows
abbrev pub shown : World → Figures
shown w = figures_of w.queue.shared

-- an event that is an accepted call
abbrev pub Accepted : World → Event → Type 0
Accepted w (post a) = (post_at w a).answer ≡ done
Accepted w poll = (take_at w).answer ≡ done
Accepted w (write x) = ⊥

-- neither figure is lower than it was
pub record NotLower (before later : Figures) : Type 0 where
  pub posted : before.posted ≤ later.posted
  pub returned : before.returned ≤ later.returned

-- nothing was posted and nothing handed back in these events: the record is the one from before, posted and head with it
pub record StoodStill (w : World) (es : List Event) : Type 0 where
  pub record_same : (end w es).queue ≡ w.queue
  pub none_posted : accepted w es ≡ []
  pub none_up : handed_up w es ≡ []

pub record Console (w : World) (es : List Event) : Type 0 where
  -- the figures are the accepted posts and the slots handed up; their difference is what the device has; neither passes 2^64 - 1
  pub posted_is : (shown (end w es)).posted ≡ length (accepted w es)
  pub returned_is : (shown (end w es)).returned ≡ returned w es
  pub difference : (end w es).queue.shared.posted + (shown (end w es)).returned ≡ (shown (end w es)).posted
  pub fits : (shown (end w es)).posted ≤ most_count
  -- a call that changes a figure is an accepted one, and an accepted one changes a figure; the device changes none
  pub only_accepted : (e : Event) → shown (after (end w es) e) ≢ shown (end w es) → Accepted (end w es) e
  pub every_accepted : (e : Event) → Accepted (end w es) e → shown (after (end w es) e) ≢ shown (end w es)
  -- neither figure goes down; where both are the same again, all stood still in between
  pub never_down : (later : List Event) → NotLower (shown (end w es)) (shown (end w (es ++ later)))
  pub same_again : (later : List Event) → shown (end w (es ++ later)) ≡ shown (end w es) → StoodStill (end w es) later
