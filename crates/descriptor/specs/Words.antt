-- Word 1 of transmit descriptors (01, "Sending"): a word is a table, and each line of it is a position, a width and a value.
-- Assumes nothing.
use Rattle.std.specs.Prelude.{ℕ, Bool, List, [], ◌∷◌}
use Rattle.field.specs.Field.{Part, part, Line, is_set, Fits, word_of, bit, read_at}
use Rattle.descriptor.specs.declared.Data.{Data}
use Rattle.descriptor.specs.declared.Context.{Context}

-- bits 3:0 of both kinds
abbrev pub type_line : Line
type_line v = part 0 4 v

-- a data descriptor
abbrev pub eop_line : Line
eop_line v = part 4 1 v

abbrev pub rs_line : Line
rs_line v = part 5 1 v

abbrev pub crc_line : Line
crc_line v = part 6 1 v

abbrev pub il2tag1_line : Line
il2tag1_line v = part 7 1 v

abbrev pub iipt_line : Line
iipt_line v = part 9 2 v

abbrev pub l4t_line : Line
l4t_line v = part 12 2 v

abbrev pub maclen_line : Line
maclen_line v = part 16 7 v

abbrev pub iplen_line : Line
iplen_line v = part 23 7 v

abbrev pub l4len_line : Line
l4len_line v = part 30 4 v

abbrev pub length_line : Line
length_line v = part 34 14 v

abbrev pub tag_line : Line
tag_line v = part 48 16 v

-- a context descriptor
abbrev pub tso_line : Line
tso_line v = part 4 1 v

abbrev pub tlen_line : Line
tlen_line v = part 30 18 v

abbrev pub mss_line : Line
mss_line v = part 50 14 v

-- type 0, and the CRC command is always 1
abbrev pub data_parts : Data → List Part
data_parts d =
    type_line 0
    ∷ eop_line (bit d.eop)
    ∷ rs_line (bit d.rs)
    ∷ crc_line 1
    ∷ il2tag1_line (bit d.il2tag1)
    ∷ iipt_line d.iipt
    ∷ l4t_line d.l4t
    ∷ maclen_line d.maclen
    ∷ iplen_line d.iplen
    ∷ l4len_line d.l4len
    ∷ length_line d.length
    ∷ tag_line d.tag
    ∷ []

abbrev pub data_word : Data → ℕ
data_word d = word_of (data_parts d)

abbrev pub read_data : ℕ → Data
read_data w =
    record {
      eop = is_set eop_line w;
      rs = is_set rs_line w;
      il2tag1 = is_set il2tag1_line w;
      iipt = read_at iipt_line w;
      l4t = read_at l4t_line w;
      maclen = read_at maclen_line w;
      iplen = read_at iplen_line w;
      l4len = read_at l4len_line w;
      length = read_at length_line w;
      tag = read_at tag_line w;
    }

pub record DataFits (d : Data) : Type 0 where
  pub iipt : Fits iipt_line d.iipt
  pub l4t : Fits l4t_line d.l4t
  pub maclen : Fits maclen_line d.maclen
  pub iplen : Fits iplen_line d.iplen
  pub l4len : Fits l4len_line d.l4len
  pub length : Fits length_line d.length
  pub tag : Fits tag_line d.tag

-- the data descriptor of a piece: its length, EOP and RS if it is the last, everything else alike on all pieces
abbrev pub piece_of : Data → ℕ → Bool → Data
piece_of d length last =
    record {
      eop = last;
      rs = last;
      il2tag1 = d.il2tag1;
      iipt = d.iipt;
      l4t = d.l4t;
      maclen = d.maclen;
      iplen = d.iplen;
      l4len = d.l4len;
      length = length;
      tag = d.tag;
    }

-- what a piece has of its own: EOP, RS and its length
abbrev pub own : List Part
own = eop_line 0 ∷ rs_line 0 ∷ length_line 0 ∷ []

-- type 1, and TSO is always 1
abbrev pub context_parts : Context → List Part
context_parts x = type_line 1 ∷ tso_line 1 ∷ tlen_line x.tlen ∷ mss_line x.mss ∷ []

abbrev pub context_word : Context → ℕ
context_word x = word_of (context_parts x)

abbrev pub read_context : ℕ → Context
read_context w = record { tlen = read_at tlen_line w; mss = read_at mss_line w }

pub record ContextFits (x : Context) : Type 0 where
  pub tlen : Fits tlen_line x.tlen
  pub mss : Fits mss_line x.mss
