-- What is read of an element that the device is done with (02, "The mailbox"; 000, Tables 4-6, 4-8 and 4-12): when it is wrong, and its numbers.
-- Assumes nothing.
use Rattle.std.specs.Prelude.{ℕ, ◌+◌, ◌*◌, ◌/◌, ◌%◌, Bool, true, false, not, ◌||◌, cond, List, [], ◌∷◌, eqb, ◌≡◌, Result, Ok, Err, ⊤, IsErrAnd}
use Rattle.rules.specs.declared.Refusal.{Refusal}
use Rattle.rules.specs.Rules.{any_of, Check, ◌when◌, Answer, answer_of}
use Rattle.field.specs.Field.{is_set}
use Rattle.element.specs.declared.Element.{Element}
use Rattle.mail_flags.specs.Flags.{err_flag, buf_flag, not_echoed}
use Rattle.element.specs.Element.{no_cookie}
use Rattle.mail_request.specs.Request.{send_to_pf, message_from_pf, queue_shutdown, length_wrong}
use Rattle.mail_reading.specs.declared.Reading.{Reading}

-- what the companion list kept: flags low, opcode high
abbrev pub posted_flags : ℕ → ℕ
posted_flags p = p % 65536

abbrev pub posted_opcode : ℕ → ℕ
posted_opcode p = p / 65536

abbrev pub has_buffer : Element → Bool
has_buffer e = is_set buf_flag e.flags

-- a completion: its opcode is the posted one, and one that is sent; every echo is right
abbrev pub completion_wrong : Element → ℕ → Bool
completion_wrong e p =
    any_of
    (not (eqb e.opcode (posted_opcode p)) ∷ not (eqb e.opcode send_to_pf || eqb e.opcode queue_shutdown) ∷ not_echoed true e.flags (posted_flags p) ∷ [])

-- a message: its opcode is Message from PF; of one without BUF neither BUF nor LB is judged
abbrev pub message_wrong : Element → ℕ → Bool
message_wrong e p = any_of (not (eqb e.opcode message_from_pf) ∷ not_echoed (has_buffer e) e.flags (posted_flags p) ∷ [])

-- 5 the element is wrong, 11 its length is
abbrev pub element_checks : Bool → Element → ℕ → List Check
element_checks wrong e lent = 5 when wrong ∷ 11 when length_wrong (has_buffer e) e.length lent ∷ []

-- an answer, its refusal as it is made: itself, or its number
abbrev pub MadeAs : {R : Type 0} → (Refusal → R → Type 0) → Answer → Result ⊤ R → Type 0
MadeAs made (Ok u) a = a ≡ Ok u
MadeAs made (Err r) a = IsErrAnd a (made r)

-- what a reading answers: what the look at the element refuses, as it stands; else what the checks answer
unfoldable pub ReadAs : {R : Type 0} → (Refusal → R → Type 0) → Result ⊤ R → List Check → Result ⊤ R → Type 0
ReadAs made (Ok u) cs a = MadeAs made (answer_of cs) a
ReadAs made (Err n) cs a = a ≡ Err n

-- ERR, the return value, the cookie, and where the message lies: its length of the buffer, or the 8 cookie bytes of the element
unfoldable pub reading_of : ℕ → Element → Reading
reading_of head e =
    record {
      error = is_set err_flag e.flags;
      value = e.value;
      cookie = e.cookie;
      buf = has_buffer e;
      from = cond (has_buffer e) 0 (32 * head + 8);
      length = cond (has_buffer e) e.length 8;
    }

abbrev pub no_reading : Reading
no_reading = record { error = false; value = 0; cookie = no_cookie; buf = false; from = 0; length = 0 }
