-- A request read back from its element. No contract cites this: it is what the calls' statements come to.
-- Assumes nothing.
use Rattle.std.specs.Prelude.{ℕ, ◌+◌, ◌*◌, ◌^◌, cond}
use Rattle.field.specs.Field.{Line, part, is_set}
use Rattle.element.specs.declared.Element.{Element}
use Rattle.mail_flags.specs.Flags.{flags_in}
use Rattle.mail_request.specs.declared.Message.{Message}
use Rattle.mail_request.specs.declared.Shutdown.{Shutdown}
use Rattle.mail_request.specs.declared.Room.{Room}

-- the two halves of an address
abbrev pub address_in : Element → ℕ
address_in e = 2 ^ 32 * e.high + e.low

abbrev pub message_in : Element → Message
message_in e =
    record {
      buf = (flags_in e.flags).buf;
      length = e.length;
      address = address_in e;
      si = (flags_in e.flags).si;
      ei = (flags_in e.flags).ei;
      fe = (flags_in e.flags).fe;
      cookie = e.cookie;
    }

-- bit 0 of byte 16
abbrev pub unloading_flag : Line
unloading_flag v = part 0 1 v

abbrev pub shutdown_in : Element → Shutdown
shutdown_in e =
    record {
      unloading = is_set unloading_flag e.param0;
      si = (flags_in e.flags).si;
      ei = (flags_in e.flags).ei;
      fe = (flags_in e.flags).fe;
      cookie = e.cookie;
    }

abbrev pub room_in : Element → Room
room_in e = record { length = e.length; address = address_in e; si = (flags_in e.flags).si; ei = (flags_in e.flags).ei }

-- a message as it is sent: without BUF no address
abbrev pub as_sent : Message → Message
as_sent m =
    record { buf = m.buf; length = m.length; address = cond m.buf m.address 0; si = m.si; ei = m.ei; fe = m.fe; cookie = m.cookie }
