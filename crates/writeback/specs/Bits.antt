-- A write-back as the numbers that its words have at their places: what "read field for field" is stated with, bit for bit.
-- Assumes nothing.
use Rattle.std.specs.Prelude.{ℕ, Bool, cond, List, map, eqb, get_or}
use Rattle.field.specs.Field.{field_of, Part, nth, replaced}
use Rattle.family.specs.Types.{family_of}
use Rattle.packet_types.specs.Table.{entry_of}
use Rattle.verdict.specs.declared.Marks.{Marks}
use Rattle.verdict.specs.Verdict.{l3_of, l4_of}
use Rattle.writeback.specs.declared.WriteBack.{WriteBack}

-- the numbers that a word has at its places
abbrev pub reads_at : List Part → ℕ → List ℕ
reads_at ps w = map (λ (p : Part). field_of p.at p.width w) ps

-- a word with a value's low bits put at place i of them
abbrev pub put_at : List Part → ℕ → ℕ → ℕ → ℕ
put_at ps i v w = replaced (nth ps i).at (nth ps i).width v w

-- number i, as a flag
abbrev pub flag : List ℕ → ℕ → Bool
flag ns i = eqb (get_or ns i 0) 1

-- the marks of a word 1 that has these numbers at its places
abbrev pub marked : List ℕ → Marks
marked ns = record { l3l4p = flag ns 3; ipv6exadd = flag ns 8; int_udp_0 = flag ns 9; ipe = flag ns 10; l4e = flag ns 11 }

-- the write-back whose words have these numbers at the places of word 0 and of word 1
unfoldable pub made : List ℕ → List ℕ → WriteBack
made ms ns =
    record {
      tag = cond (flag ns 2) (get_or ms 0 0) 0;
      hash = cond (eqb (get_or ns 6 0) 3) (get_or ms 1 0) 0;
      dd = flag ns 0;
      eop = flag ns 1;
      l2tag1p = flag ns 2;
      l3l4p = flag ns 3;
      crcp = flag ns 4;
      umbcast = get_or ns 5 0;
      fltstat = get_or ns 6 0;
      lpbk = flag ns 7;
      ipv6exadd = flag ns 8;
      int_udp_0 = flag ns 9;
      l3 = l3_of (entry_of (get_or ns 13 0)) (marked ns);
      l4 = l4_of (entry_of (get_or ns 13 0)) (marked ns);
      oversize = flag ns 12;
      ptype = get_or ns 13 0;
      length = get_or ns 14 0;
      family = family_of (get_or ns 13 0);
    }
