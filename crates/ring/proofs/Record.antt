-- The shared part of a queue record: what its test says, what keeps it, whose the slots are, and what is asked of it.
-- Assumes nothing.
use Rattle.std.proofs.Common.{◌≡◌, ℕ, ◌+◌, ◌^◌, ◌<◌, ◌≤◌, Bool, true, false, not, ◌&&◌, ltb, leb, [], ◌∷◌, refl, arith, ltb-true, le-ltb, lt-ltb, eq-eqb, eqb-true, leb-true, Ok, Err, IfOk, rules}
use mathlib.Core.Bool.{and-false}
use Rattle.rules.specs.declared.Refusal.TheVariants.{WrongRecord}
use Rattle.rules.specs.Rules.{in_steps, answered, ◌when◌, answer_of}
use Rattle.rules.proofs.Tests.{both, steps_is}
use Rattle.rules.proofs.Checks.{one_check}
use Rattle.ring.specs.declared.Queue.{Queue}
use Rattle.slots.specs.Slots.{distance}
use Rattle.ring.specs.Sizes.{most_queue, least_size, most_size, size_step, queue_ok, place_ok, counts_ok, tail_bits}
use Rattle.ring.specs.Queue.{ever_posted, ever_returned, shared_ok, Shared, slot_of, tail_of, is_devices, empty_queue, advanced, grown, asked_of}
use Rattle.slots.proofs.Steps.{slot_below, distance_slot, slot_distance}

-- ---- what the test says, and what keeps it

-- moving on by slots that are posted keeps the lines
pub moved_on : {q : Queue} → Shared q → (n : ℕ) → n ≤ q.posted → Shared (advanced q n)
moved_on {q} s n p =
    record {
      queue_high = s.queue_high;
      size_low = s.size_low;
      size_high = s.size_high;
      head_below = slot_below q.head q.size n (omega (arith, s.size_low));
      posted_below = omega (arith, s.posted_below);
      counted = omega (arith, s.counted);
    }

-- the facts give the test back, with that of queue number and size, whose step they leave out
keeps : (q : Queue) → queue_ok q.queue q.size ≡ true → Shared q → shared_ok q ≡ true
keeps q e s = rw (e, lt-ltb _ _ s.head_below, lt-ltb _ _ s.posted_below, eq-eqb _ _ s.counted)

module _ (q : Queue) (ok : shared_ok q ≡ true) where
  abbrev numbers : Bool
  numbers = queue_ok q.queue q.size

  abbrev places : Bool
  places = place_ok q.size q.head q.posted

  abbrev counts : Bool
  counts = counts_ok q.posted (ever_posted q) (ever_returned q)

  numbers_ok : numbers ≡ true
  numbers_ok = (both (places && counts) numbers ok).1

  pub shared : Shared q
  shared =
      let l = both places counts (both (places && counts) numbers ok).0 in
      let n = both (leb q.queue most_queue) (in_steps least_size most_size size_step q.size) numbers_ok in
      let s = steps_is least_size most_size size_step q.size n.1 in
      let p = both (ltb q.head q.size) (ltb q.posted q.size) l.0 in
      record {
        queue_high = leb-true _ _ n.0;
        size_low = s.least;
        size_high = s.most;
        head_below = ltb-true _ _ p.0;
        posted_below = ltb-true _ _ p.1;
        counted = eqb-true _ _ l.1;
      }

  pub advanced_keeps : (n : ℕ) → n ≤ q.posted → shared_ok (advanced q n) ≡ true
  advanced_keeps n p = keeps (advanced q n) numbers_ok (moved_on shared n p)

  pub grown_keeps : (n : ℕ) → q.posted + n < q.size → shared_ok (grown q n) ≡ true
  grown_keeps n r =
      keeps (grown q n) numbers_ok
      (record {
        queue_high = shared.queue_high;
        size_low = shared.size_low;
        size_high = shared.size_high;
        head_below = shared.head_below;
        posted_below = r;
        counted = omega (arith, shared.counted);
      })

-- a fresh queue keeps the shared lines exactly if the numbers that it is asked for with keep theirs
pub empty_ok : (queue size : ℕ) → shared_ok (empty_queue queue size) ≡ queue_ok queue size
empty_ok queue size = go (queue_ok queue size) refl
  where
    go : (b : Bool) → queue_ok queue size ≡ b → (place_ok size 0 0 && true) && b ≡ b
    go true e =
        let s = steps_is least_size most_size size_step size (both (leb queue most_queue) (in_steps least_size most_size size_step size) e).1 in
        rw (lt-ltb 0 size (omega (arith, s.least)))
    go false e = and-false (place_ok size 0 0 && true)

-- ---- whose the slots are

module _ (q : Queue) (is : Shared q) where
  -- the slots at distances below posted are the device's, and no others
  pub device_has : (k : ℕ) → k < q.posted → is_devices q (slot_of q k) ≡ true
  device_has k h = rw (distance_slot q.head q.size k is.head_below (omega arith)) (lt-ltb k q.posted h)

  pub device_only : (s : ℕ) → s < q.size → is_devices q s ≡ true → (k : ℕ) × ((k < q.posted) × (slot_of q k ≡ s))
  device_only s h e = (distance q.head q.size s, (ltb-true _ _ e, slot_distance q.head q.size s is.head_below h))

  -- the slot at the tail is not
  pub tail_free : is_devices q (tail_of q) ≡ false
  tail_free = rw (distance_slot q.head q.size q.posted is.head_below is.posted_below) (le-ltb q.posted q.posted (omega arith))

  pub tail_below : tail_of q < q.size
  tail_below = slot_below q.head q.size q.posted (omega arith)

  -- the tail fits its field
  pub tail_fits : tail_of q < 2 ^ tail_bits
  tail_fits = omega (arith, tail_below, is.size_high)

-- ---- what is asked of it

pub asked_answer : (ok : Bool) (n : ℕ) → answered (asked_of ok n) ≡ answer_of (1 when not ok ∷ [])
unfolding asked_of
asked_answer ok n = one_check answered ok (Ok n) (Err WrongRecord) refl refl

-- a number that is asked for is below a bound, if it is so of an accepted record
pub asked_below : (ok : Bool) (n bound : ℕ) → (ok ≡ true → n < bound) → IfOk (asked_of ok n) (λ v. v < bound)
unfolding asked_of
asked_below true n bound h = search rules
asked_below false n bound h = search rules
