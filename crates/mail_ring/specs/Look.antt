-- The element at head (02, "The mailbox"): whether there is one to read, and what it and the companion list say.
-- Assumes nothing.
use Rattle.std.specs.Prelude.{ℕ, not, ◌||◌, cond, List, [], ◌∷◌, eqb, length, get_or, is_ok}
use Rattle.rules.specs.Rules.{Check, ◌when◌, answer_of, done, Answer}
use Rattle.field.specs.Field.{is_set}
use Rattle.mail_flags.specs.Flags.{dd_flag}
use Rattle.element.specs.Element.{no_cookie, element_at}
use Rattle.element.specs.declared.Element.{Element}
use Rattle.mail_ring.specs.declared.Ring.{Ring}
use Rattle.mail_ring.specs.declared.Seen.{Seen}
use Rattle.mail_ring.specs.Ring.{lent_ok}

abbrev pub no_element : Element
no_element = record { flags = 0; opcode = 0; length = 0; value = 0; cookie = no_cookie; param0 = 0; param1 = 0; high = 0; low = 0 }

abbrev pub unseen : Answer → Seen
unseen answer = record { answer = answer; element = no_element; posted = 0 }

module _ (r : Ring) (ring list : List ℕ) where
  abbrev pub head_element : Element
  head_element = element_at ring r.head

  abbrev pub head_posted : ℕ
  head_posted = get_or list r.head 0

  -- 1 the record or a slice's length is wrong, 4 nothing is posted or the device is not done with the element
  abbrev pub look_checks : List Check
  look_checks =
      1 when not (lent_ok r (length ring) (length list))
      ∷ 4 when (eqb r.posted 0 || not (is_set dd_flag head_element.flags))
      ∷ []

  -- what is seen of it
  unfoldable pub look_of : Seen
  look_of = cond (is_ok (answer_of look_checks)) (record { answer = done; element = head_element; posted = head_posted }) (unseen (answer_of look_checks))
