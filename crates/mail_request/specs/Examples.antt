-- Elements worked out by hand from 000's tables, byte for byte: what each request is, and its 32 bytes.
-- Assumes nothing.
use Rattle.std.specs.Prelude.{ℕ, true, false, List, [], ◌∷◌}
use Rattle.element.specs.declared.Element.{Element}
use Rattle.mail_request.specs.Request.{send_element, shutdown_element, room_element}

abbrev pub one_to_eight : List ℕ
one_to_eight = 1 ∷ 2 ∷ 3 ∷ 4 ∷ 5 ∷ 6 ∷ 7 ∷ 8 ∷ []

-- an element, and the bytes that it has to be: a line of Table 4-2 each
pub record Example : Type 0 where
  pub element : Element
  pub bytes : List ℕ

-- 600 bytes at 0x12_3456_789A, to be interrupted on an error: LB, RD, BUF and EI (Table 4-7)
abbrev pub indirect : Example
indirect =
    record {
      element = send_element (record { buf = true; length = 600; address = 0x123456789a; si = false; ei = true; fe = false; cookie = one_to_eight });
      bytes =
          0x00 ∷ 0x56
          ∷ 0x01 ∷ 0x08
          ∷ 0x58 ∷ 0x02
          ∷ 0 ∷ 0
          ∷ 1 ∷ 2 ∷ 3 ∷ 4 ∷ 5 ∷ 6 ∷ 7 ∷ 8
          ∷ 0 ∷ 0 ∷ 0 ∷ 0
          ∷ 0 ∷ 0 ∷ 0 ∷ 0
          ∷ 0x12 ∷ 0 ∷ 0 ∷ 0
          ∷ 0x9a ∷ 0x78 ∷ 0x56 ∷ 0x34
          ∷ [];
    }

-- a message in the cookie, without an interrupt: SI alone, and no address whatever was given (Table 4-5)
abbrev pub direct : Example
direct =
    record {
      element = send_element (record { buf = false; length = 0; address = 77; si = true; ei = false; fe = false; cookie = one_to_eight });
      bytes =
          0x00 ∷ 0x20
          ∷ 0x01 ∷ 0x08
          ∷ 0 ∷ 0
          ∷ 0 ∷ 0
          ∷ 1 ∷ 2 ∷ 3 ∷ 4 ∷ 5 ∷ 6 ∷ 7 ∷ 8
          ∷ 0 ∷ 0 ∷ 0 ∷ 0
          ∷ 0 ∷ 0 ∷ 0 ∷ 0
          ∷ 0 ∷ 0 ∷ 0 ∷ 0
          ∷ 0 ∷ 0 ∷ 0 ∷ 0
          ∷ [];
    }

-- an empty part of a buffer: BUF without RD, since Table 4-4 has both with a length of 0 as an error
abbrev pub empty : Example
empty =
    record {
      element = send_element (record { buf = true; length = 0; address = 0x2000; si = false; ei = false; fe = false; cookie = one_to_eight });
      bytes =
          0x00 ∷ 0x10
          ∷ 0x01 ∷ 0x08
          ∷ 0 ∷ 0
          ∷ 0 ∷ 0
          ∷ 1 ∷ 2 ∷ 3 ∷ 4 ∷ 5 ∷ 6 ∷ 7 ∷ 8
          ∷ 0 ∷ 0 ∷ 0 ∷ 0
          ∷ 0 ∷ 0 ∷ 0 ∷ 0
          ∷ 0 ∷ 0 ∷ 0 ∷ 0
          ∷ 0x00 ∷ 0x20 ∷ 0 ∷ 0
          ∷ [];
    }

-- a driver that unloads, to be flushed after an error: FE (Table 4-13)
abbrev pub unloading : Example
unloading =
    record {
      element = shutdown_element (record { unloading = true; si = false; ei = false; fe = true; cookie = one_to_eight });
      bytes =
          0x00 ∷ 0x80
          ∷ 0x03 ∷ 0x00
          ∷ 0 ∷ 0
          ∷ 0 ∷ 0
          ∷ 1 ∷ 2 ∷ 3 ∷ 4 ∷ 5 ∷ 6 ∷ 7 ∷ 8
          ∷ 1 ∷ 0 ∷ 0 ∷ 0
          ∷ 0 ∷ 0 ∷ 0 ∷ 0
          ∷ 0 ∷ 0 ∷ 0 ∷ 0
          ∷ 0 ∷ 0 ∷ 0 ∷ 0
          ∷ [];
    }

-- room for 4,096 bytes at 0xFEDC_BA98_7654_3210: LB, BUF, SI and EI, and no opcode (Table 4-10)
abbrev pub room : Example
room =
    record {
      element = room_element (record { length = 4096; address = 0xfedcba9876543210; si = true; ei = true });
      bytes =
          0x00 ∷ 0x72
          ∷ 0 ∷ 0
          ∷ 0x00 ∷ 0x10
          ∷ 0 ∷ 0
          ∷ 0 ∷ 0 ∷ 0 ∷ 0 ∷ 0 ∷ 0 ∷ 0 ∷ 0
          ∷ 0 ∷ 0 ∷ 0 ∷ 0
          ∷ 0 ∷ 0 ∷ 0 ∷ 0
          ∷ 0x98 ∷ 0xba ∷ 0xdc ∷ 0xfe
          ∷ 0x10 ∷ 0x32 ∷ 0x54 ∷ 0x76
          ∷ [];
    }
