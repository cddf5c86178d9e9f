-- Each request reads back from its element, whose fields hold it; the device's own flags are clear in it.
-- Assumes nothing.
use Rattle.std.proofs.Common.{ℕ, ◌/◌, ◌%◌, ◌^◌, ◌≤◌, ◌<◌, ◌≡◌, refl, Bool, true, false, cond, List, div-one, mod-lt, arith, lit<, eqb, length}
use native.Mathlib.Nat.{div-add-mod}
use Rattle.field.specs.Field.{bit}
use Rattle.field.proofs.Laws.{reads_free, word_below}
use Rattle.mail_flags.specs.declared.Flags.{Flags}
use Rattle.element.specs.declared.Element.{Element}
use Rattle.mail_flags.specs.Flags.{flag_lines, flags_of}
use Rattle.element.specs.Element.{no_cookie}
use Rattle.element.specs.Back.{Holds, Clear}
use Rattle.mail_flags.proofs.Back.{flags_back}
use Rattle.mail_request.specs.declared.Message.{Message}
use Rattle.mail_request.specs.declared.Shutdown.{Shutdown}
use Rattle.mail_request.specs.declared.Room.{Room}
use Rattle.mail_request.specs.Request.{send_to_pf, most_length, send_flags, shutdown_flags, room_flags, element_of, send_element, shutdown_element, room_element}
use Rattle.mail_request.specs.Back.{address_in, message_in, shutdown_in, room_in, as_sent}

-- ---- every element that a driver makes

module _ (f : Flags) (opcode length' : ℕ) (cookie : List ℕ) (param0 address : ℕ) where
  abbrev e : Element
  e = element_of (flags_of f) opcode length' cookie param0 address

  -- numbers that fit stand in its fields
  pub holds : opcode < 2 ^ 16 → length' ≤ most_length → length cookie ≡ 8 → param0 ≤ 1 → address < 2 ^ 64 → Holds e
  holds o l c p a =
      record {
        flags_fit = word_below (flag_lines f) tt;
        opcode_fits = o;
        length_fits = omega arith;
        value_fits = lit< tt;
        eight = c;
        param0_fits = omega arith;
        param1_fits = lit< tt;
        high_fits = omega arith;
        low_fits = mod-lt address (lit< tt);
      }

  pub clear : Clear e
  clear = rw div-one at (reads_free 0 8 (flag_lines f) tt tt)

  address_back : address_in e ≡ address
  address_back = div-add-mod address (2 ^ 32)

-- ---- each request

pub message_back : (m : Message) → message_in (send_element m) ≡ as_sent m
message_back m =
    let b = flags_back (send_flags m) in
    λ i.
    record {
      buf = (b i).buf;
      length = m.length;
      address = address_back (send_flags m) send_to_pf m.length m.cookie 0 (cond m.buf m.address 0) i;
      si = (b i).si;
      ei = (b i).ei;
      fe = (b i).fe;
      cookie = m.cookie;
    }

unloading_back : (b : Bool) → eqb (bit b / 2 ^ 0 % 2 ^ 1) 1 ≡ b
unloading_back true = refl
unloading_back false = refl

pub shutdown_back : (s : Shutdown) → shutdown_in (shutdown_element s) ≡ s
shutdown_back s =
    let b = flags_back (shutdown_flags s) in
    λ i.
    record { unloading = unloading_back s.unloading i; si = (b i).si; ei = (b i).ei; fe = (b i).fe; cookie = s.cookie }

pub room_back : (r : Room) → room_in (room_element r) ≡ r
room_back r =
    let b = flags_back (room_flags r) in
    λ i.
    record { length = r.length; address = address_back (room_flags r) 0 r.length no_cookie 0 r.address i; si = (b i).si; ei = (b i).ei }
