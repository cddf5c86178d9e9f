-- What posting an element leaves, for either ring and every element: it reads back at the tail, every other element and its companion stay, and so do those
-- that the device has; a refusal changes nothing.
-- Assumes nothing.
use Rattle.rules.proofs.Answers.{done-is_ok, refused-is_ok}
use Rattle.std.proofs.Common.{is_ok, ℕ, ◌+◌, ◌*◌, ◌/◌, ◌%◌, ◌≤◌, ◌<◌, ◌≡◌, refl, ap, ◌∙◌, ◌≢◌, Bool, true, false, cond, List, arith, eq-eqb, ne_eqb, eqb, length, get_or, set, length-set, get_or-set_same, get_or-set_other}
use Rattle.rules.specs.Rules.{answer_of, done, Answer, answer_at}
use Rattle.rules.proofs.Checks.{by_answer}
use Rattle.field.specs.Field.{read_at, is_set}
use Rattle.slots.specs.Slots.{distance}
use Rattle.slots.specs.Memory.{read_from, store, numbers_at}
use Rattle.slots.proofs.Steps.{distance_slot}
use Rattle.slots.proofs.Stores.{length_store, read_other}
use Rattle.little.specs.Little.{value_of}
use Rattle.mail_flags.specs.Flags.{dd_flag}
use Rattle.element.specs.declared.Element.{Element}
use Rattle.element.specs.Element.{element_bytes, element_at}
use Rattle.element.specs.Back.{Holds, Clear}
use Rattle.element.proofs.Back.{long, element_back}
use Rattle.mail_ring.specs.declared.Ring.{Ring}
use Rattle.mail_ring.specs.Ring.{ring_ok, lent_ok, tail_of, grown, companion_of}
use Rattle.mail_ring.specs.Look.{look_checks}
use Rattle.mail_ring.specs.Posting.{record_after, ring_after, list_after, Unchanged, Stands, OthersStay}
use Rattle.mail_ring.specs.Steps.{Placed, Lent, Room}
use Rattle.mail_ring.proofs.Looks.{not_yet}
use Rattle.mail_ring.proofs.Record.{tail_below, is_placed, grown_placed}

module _ (answer : Answer) (r : Ring) (ring list : List ℕ) (e : Element) where
  pub refused : answer ≢ done → Unchanged answer r ring list e
  refused ne = let b = refused-is_ok answer ne in record { record_same = rw b; ring_same = rw b; list_same = rw b }

  -- every other element stays, byte for byte, and its companion
  pub others_stay : Holds e → OthersStay answer r ring list e
  others_stay h = record { bytes_same = λ s ne. bytes s ne (is_ok answer); companion_same = λ s ne. companion s ne (is_ok answer) }
    where
      bytes : (s : ℕ) → s ≢ tail_of r → (b : Bool) → numbers_at 32 (cond b (store 32 ring (tail_of r) (element_bytes e)) ring) s ≡ numbers_at 32 ring s
      bytes s ne true = read_other 32 ring (tail_of r) (element_bytes e) s (long e h) ne
      bytes s ne false = refl

      companion : (s : ℕ) → s ≢ tail_of r → (b : Bool) → get_or (cond b (set list (tail_of r) (companion_of e)) list) s 0 ≡ get_or list s 0
      companion s ne true = get_or-set_other list (tail_of r) s (companion_of e) 0 ne
      companion s ne false = refl

  -- an accepted one stands at the tail
  pub stands : Holds e → answer ≡ done → Lent r (length ring) (length list) → Stands answer r ring list e
  stands h z l =
      let b = done-is_ok answer z in
      let t = tail_below l.is in
      let inside : 32 * tail_of r + 32 ≤ length ring = omega (arith, t, l.ring_long) in
      let there : tail_of r < length list = omega (arith, t, l.list_long) in
      record {
        element_is = rw b (element_back e h ring (tail_of r) inside);
        companion_is = rw b (get_or-set_same list (tail_of r) (companion_of e) 0 there);
        posted_more = rw b;
      }

-- an element that the device has, one less far from head than posted, is not at the tail
pub devices_apart : (r : Ring) → Placed r → (s : ℕ) → distance r.head r.size s < r.posted → s ≢ tail_of r
devices_apart r p s l e =
    let far : distance r.head r.size s ≡ r.posted = rw e (distance_slot r.head r.size r.posted p.head_below p.posted_below) in
    omega (arith, far)

-- a record stays accepted
pub after_ok : (answer : Answer) (r : Ring) (ring list : List ℕ) (e : Element) → ring_ok r ≡ true → (answer ≡ done → Room r (length ring) (length list)) → ring_ok (record_after answer r ring list e) ≡ true
after_ok answer r ring list e ok h =
    by_answer (λ (x : Ring). ring_ok x ≡ true) answer (grown r) r (λ z. is_placed (grown r) (grown_placed r (h z).lent.is (h z).room)) ok

-- what the companion list keeps is taken apart again
pub companion_flags : (e : Element) → Holds e → companion_of e % 65536 ≡ e.flags
companion_flags e h = omega (arith, h.flags_fit)

pub companion_opcode : (e : Element) → Holds e → companion_of e / 65536 ≡ e.opcode
companion_opcode e h = omega (arith, h.flags_fit)

-- it is the element's first four bytes, as one number
pub companion_bytes : (e : Element) → Holds e → value_of (read_from (element_bytes e) 0 4) ≡ companion_of e
companion_bytes e h = omega (arith, h.flags_fit, h.opcode_fits)

-- ---- what stood in an element before it was posted

-- a driver posts an element with the device's own flags clear
clear_dd : (e : Element) → Clear e → is_set dd_flag e.flags ≡ false
clear_dd e c = let none : read_at dd_flag e.flags ≢ 1 = λ q. omega (arith, c) in ne_eqb (read_at dd_flag e.flags) 1 none

module _ (answer : Answer) (r : Ring) (ring list : List ℕ) (e : Element) (z : answer ≡ done) (l : Lent r (length ring) (length list)) (r' : Ring) (ok : ring_ok r' ≡ true) (size_is : r'.size ≡ r.size) where
  abbrev ring' : List ℕ
  ring' = ring_after answer r ring list e

  abbrev list' : List ℕ
  list' = list_after answer r ring list e

  ring_long : length ring' ≡ 32 * r'.size
  ring_long = rw (done-is_ok answer z, size_is) (length_store 32 ring (tail_of r) (element_bytes e) ∙ l.ring_long)

  list_long : length list' ≡ r'.size
  list_long = rw (done-is_ok answer z, size_is) (length-set list (tail_of r) (companion_of e) ∙ l.list_long)

  -- what it leaves is what every record of this size is to be lent
  pub lent_after : lent_ok r' (length ring') (length list') ≡ true
  unfolding lent_ok
  lent_after = rw (ok, eq-eqb (length ring') (32 * r'.size) ring_long, eq-eqb (length list') r'.size list_long)

  -- NOTHING STALE: once the element is the oldest, it is not read until the device has written it, whatever the last lap left there
  pub nothing_stale : Holds e → Clear e → r'.head ≡ tail_of r → r'.posted ≢ 0 → answer_of (look_checks r' ring' list') ≡ answer_at 4
  nothing_stale h c head-is some =
      let is : element_at ring' r'.head ≡ e = rw head-is (stands answer r ring list e h z l).element_is in
      not_yet r' ring' list' lent_after some (ap (λ (x : Element). is_set dd_flag x.flags) is ∙ clear_dd e c)
