-- A mailbox element, byte for byte (000, Table 4-2): numbers stand little-endian in their fields, and the address in two halves, the high one first.
-- Assumes nothing.
use Rattle.std.specs.Prelude.{ℕ, ◌+◌, ◌*◌, List, [], ◌∷◌, ◌++◌}
use Rattle.slots.specs.Memory.{read_from}
use Rattle.little.specs.Little.{value_of, bytes_of}
use Rattle.element.specs.declared.Element.{Element}

-- flags, opcode, length, return value; the cookie; two parameters; the two halves of the address
abbrev pub element_bytes : Element → List ℕ
element_bytes e =
    bytes_of 2 e.flags ++ bytes_of 2 e.opcode ++ bytes_of 2 e.length ++ bytes_of 2 e.value
    ++ e.cookie
    ++ bytes_of 4 e.param0 ++ bytes_of 4 e.param1 ++ bytes_of 4 e.high ++ bytes_of 4 e.low

-- the number of n bytes at place k of element s, and its cookie
abbrev pub number_at : List ℕ → ℕ → ℕ → ℕ → ℕ
number_at ring s k n = value_of (read_from ring (32 * s + k) n)

abbrev pub cookie_at : List ℕ → ℕ → List ℕ
cookie_at ring s = read_from ring (32 * s + 8) 8

-- an element read field for field
abbrev pub element_at : List ℕ → ℕ → Element
element_at ring s =
    record {
      flags = value_of (read_from ring (32 * s) 2);
      opcode = number_at ring s 2 2;
      length = number_at ring s 4 2;
      value = number_at ring s 6 2;
      cookie = cookie_at ring s;
      param0 = number_at ring s 16 4;
      param1 = number_at ring s 20 4;
      high = number_at ring s 24 4;
      low = number_at ring s 28 4;
    }

-- eight bytes of 0
abbrev pub no_cookie : List ℕ
no_cookie = 0 ∷ 0 ∷ 0 ∷ 0 ∷ 0 ∷ 0 ∷ 0 ∷ 0 ∷ []
