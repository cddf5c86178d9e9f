-- What a driver asks of the mailbox (02, "The mailbox"; 000, Tables 4-5, 4-7, 4-10, 4-11 and 4-13): lengths that are wrong, and the element of a request.
-- Assumes nothing.
use Rattle.std.specs.Prelude.{ℕ, ◌/◌, ◌%◌, ◌^◌, Bool, true, false, not, ◌&&◌, cond, List, [], ◌∷◌, ltb, eqb}
use Rattle.rules.specs.Rules.{any_of}
use Rattle.field.specs.Field.{bit}
use Rattle.mail_flags.specs.declared.Flags.{Flags}
use Rattle.element.specs.declared.Element.{Element}
use Rattle.mail_flags.specs.Flags.{flags_of}
use Rattle.element.specs.Element.{no_cookie}
use Rattle.mail_request.specs.declared.Message.{Message}
use Rattle.mail_request.specs.declared.Shutdown.{Shutdown}
use Rattle.mail_request.specs.declared.Room.{Room}

-- the opcodes (Table 4-9)
abbrev pub send_to_pf : ℕ
send_to_pf = 0x0801

abbrev pub message_from_pf : ℕ
message_from_pf = 0x0802

abbrev pub queue_shutdown : ℕ
queue_shutdown = 0x0003

-- the longest message, and the longest buffer without LB
abbrev pub most_length : ℕ
most_length = 4096

abbrev pub large_buffer : ℕ
large_buffer = 512

-- a length above the buffer lent, above 4,096, or not 0 without BUF
abbrev pub length_wrong : Bool → ℕ → ℕ → Bool
length_wrong buf length lent = any_of (ltb lent length ∷ ltb most_length length ∷ (not buf && not (eqb length 0)) ∷ [])

-- LB exactly if BUF is set and the length is over 512, RD exactly if BUF is set and the length is not 0
abbrev pub send_flags : Message → Flags
send_flags m =
    record { lb = m.buf && ltb large_buffer m.length; rd = m.buf && not (eqb m.length 0); buf = m.buf; si = m.si; ei = m.ei; fe = m.fe }

abbrev pub shutdown_flags : Shutdown → Flags
shutdown_flags s = record { lb = false; rd = false; buf = false; si = s.si; ei = s.ei; fe = s.fe }

-- a receive element has BUF always, RD and FE never
abbrev pub room_flags : Room → Flags
room_flags r = record { lb = ltb large_buffer r.length; rd = false; buf = true; si = r.si; ei = r.ei; fe = false }

-- every field that is not told is 0
abbrev pub element_of : ℕ → ℕ → ℕ → List ℕ → ℕ → ℕ → Element
element_of flags opcode length cookie param0 address =
    record {
      flags = flags;
      opcode = opcode;
      length = length;
      value = 0;
      cookie = cookie;
      param0 = param0;
      param1 = 0;
      high = address / 2 ^ 32;
      low = address % 2 ^ 32;
    }

-- without BUF the address is 0, whatever was given
abbrev pub send_element : Message → Element
send_element m = element_of (flags_of (send_flags m)) send_to_pf m.length m.cookie 0 (cond m.buf m.address 0)

abbrev pub shutdown_element : Shutdown → Element
shutdown_element s = element_of (flags_of (shutdown_flags s)) queue_shutdown 0 s.cookie (bit s.unloading) 0

abbrev pub room_element : Room → Element
room_element r = element_of (flags_of (room_flags r)) 0 r.length no_cookie 0 r.address
