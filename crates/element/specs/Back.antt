-- What an element says, read back (000, Table 4-2), and what the device leaves of one that it is done with. No contract cites this: it is what the
-- calls' statements come to.
-- Assumes nothing.
use Rattle.std.specs.Prelude.{ℕ, ◌+◌, ◌*◌, ◌%◌, ◌^◌, ◌<◌, ◌≡◌, List, [], ◌∷◌, length, get_or, set}
use Rattle.std.specs.Int.Bits.{bit_or}
use Rattle.field.specs.Field.{word_of}
use Rattle.element.specs.declared.Element.{Element}
use Rattle.mail_flags.specs.Flags.{dd_flag, cmp_flag}

-- numbers that an element's fields hold, and a cookie of 8 bytes
pub record Holds (e : Element) : Type 0 where
  pub flags_fit : e.flags < 2 ^ 16
  pub opcode_fits : e.opcode < 2 ^ 16
  pub length_fits : e.length < 2 ^ 16
  pub value_fits : e.value < 2 ^ 16
  pub eight : length e.cookie ≡ 8
  pub param0_fits : e.param0 < 2 ^ 32
  pub param1_fits : e.param1 < 2 ^ 32
  pub high_fits : e.high < 2 ^ 32
  pub low_fits : e.low < 2 ^ 32

-- none of the flags in byte 0, which are the device's
abbrev pub Clear : Element → Type 0
Clear e = e.flags % 256 ≡ 0

-- DD and CMP
abbrev pub done_bits : ℕ
done_bits = word_of (dd_flag 1 ∷ cmp_flag 1 ∷ [])

-- a device that completes element s sets DD and CMP, and leaves the rest
abbrev pub completes : List ℕ → ℕ → List ℕ
completes ring s = set ring (32 * s) (bit_or (get_or ring (32 * s) 0) done_bits)

-- an element of which both were clear, afterwards
abbrev pub done : Element → Element
done e =
    record {
      flags = done_bits + e.flags;
      opcode = e.opcode;
      length = e.length;
      value = e.value;
      cookie = e.cookie;
      param0 = e.param0;
      param1 = e.param1;
      high = e.high;
      low = e.low;
    }
