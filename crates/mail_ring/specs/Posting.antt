-- What posting an element leaves (02, "The mailbox"), for either ring and every element: where the call is done it stands at the tail, in the ring and
-- in the companion list, and is counted; a refusal changes nothing.
-- Assumes nothing.
use Rattle.rules.specs.Rules.{done, Answer}
use Rattle.std.specs.Prelude.{ℕ, ◌≡◌, ◌≢◌, cond, List, eqb, get_or, set, is_ok}
use Rattle.slots.specs.Memory.{store, numbers_at}
use Rattle.element.specs.declared.Element.{Element}
use Rattle.element.specs.Element.{element_bytes, element_at}
use Rattle.mail_ring.specs.declared.Ring.{Ring}
use Rattle.mail_ring.specs.Ring.{tail_of, grown, companion_of}

module _ (answer : Answer) (r : Ring) (ring list : List ℕ) (e : Element) where
  abbrev pub record_after : Ring
  record_after = cond (is_ok answer) (grown r) r

  abbrev pub ring_after : List ℕ
  ring_after = cond (is_ok answer) (store 32 ring (tail_of r) (element_bytes e)) ring

  abbrev pub list_after : List ℕ
  list_after = cond (is_ok answer) (set list (tail_of r) (companion_of e)) list

  -- a refusal changes nothing
  pub record Unchanged : Type 0 where
    pub record_same : record_after ≡ r
    pub ring_same : ring_after ≡ ring
    pub list_same : list_after ≡ list

  -- an accepted element reads back at the tail, and the list has its first four bytes
  pub record Stands : Type 0 where
    pub element_is : element_at ring_after (tail_of r) ≡ e
    pub companion_is : get_or list_after (tail_of r) 0 ≡ companion_of e
    pub posted_more : record_after ≡ grown r

  -- all other bytes, and all other numbers of the list
  pub record OthersStay : Type 0 where
    pub bytes_same : (s : ℕ) → s ≢ tail_of r → numbers_at 32 ring_after s ≡ numbers_at 32 ring s
    pub companion_same : (s : ℕ) → s ≢ tail_of r → get_or list_after s 0 ≡ get_or list s 0
