-- A received slot's two words as the device wrote them (01, "Receiving"; Intel's Section 2.1.2.2 and Table 2-4).
-- Assumes nothing.
use Rattle.std.specs.Prelude.{ℕ, false, cond, eqb}
use Rattle.field.specs.Field.{read_at, is_set}
use Rattle.family.specs.declared.Family.TheVariants.{Unknown}
use Rattle.family.specs.Types.{family_of}
use Rattle.packet_types.specs.declared.Entry.{Entry}
use Rattle.packet_types.specs.Table.{entry_of}
use Rattle.verdict.specs.declared.Verdict.TheVariants.{NotChecked}
use Rattle.verdict.specs.declared.Marks.{Marks}
use Rattle.verdict.specs.Verdict.{l3_of, l4_of}
use Rattle.writeback.specs.declared.WriteBack.{WriteBack}
use Rattle.places.specs.Places.{l2tag1_place, filter_place, l2tag1p_place, l3l4p_place, crcp_place, umbcast_place, fltstat_place, lpbk_place, ipv6exadd_place, int_udp0_place, ipe_place, l4e_place, oversize_place, ptype_place}
use Rattle.places.specs.Words.{Words, dd, eop, length_of}

-- the VLAN tag reads as 0 unless L2TAG1P is set, the hash as 0 unless FLTSTAT is 11b
abbrev pub tag_of : Words → ℕ
tag_of x = cond (is_set l2tag1p_place x.word1) (read_at l2tag1_place x.word0) 0

abbrev pub hash_of : Words → ℕ
hash_of x = cond (eqb (read_at fltstat_place x.word1) 3) (read_at filter_place x.word0) 0

-- what the device marked of checksums, and what Table 2-4 tells of the packet type: the verdicts go by these
abbrev pub marks_of : ℕ → Marks
marks_of word1 =
    record {
      l3l4p = is_set l3l4p_place word1;
      ipv6exadd = is_set ipv6exadd_place word1;
      int_udp_0 = is_set int_udp0_place word1;
      ipe = is_set ipe_place word1;
      l4e = is_set l4e_place word1;
    }

abbrev pub type_of : Words → Entry
type_of x = entry_of (read_at ptype_place x.word1)

-- zeros in all fields, of the family unknown, nothing checked
abbrev pub no_write_back : WriteBack
no_write_back =
    record {
      tag = 0;
      hash = 0;
      dd = false;
      eop = false;
      l2tag1p = false;
      l3l4p = false;
      crcp = false;
      umbcast = 0;
      fltstat = 0;
      lpbk = false;
      ipv6exadd = false;
      int_udp_0 = false;
      l3 = NotChecked;
      l4 = NotChecked;
      oversize = false;
      ptype = 0;
      length = 0;
      family = Unknown;
    }

-- field for field
unfoldable pub write_back_of : Words → WriteBack
write_back_of x =
    record {
      tag = tag_of x;
      hash = hash_of x;
      dd = dd x;
      eop = eop x;
      l2tag1p = is_set l2tag1p_place x.word1;
      l3l4p = is_set l3l4p_place x.word1;
      crcp = is_set crcp_place x.word1;
      umbcast = read_at umbcast_place x.word1;
      fltstat = read_at fltstat_place x.word1;
      lpbk = is_set lpbk_place x.word1;
      ipv6exadd = is_set ipv6exadd_place x.word1;
      int_udp_0 = is_set int_udp0_place x.word1;
      l3 = l3_of (type_of x) (marks_of x.word1);
      l4 = l4_of (type_of x) (marks_of x.word1);
      oversize = is_set oversize_place x.word1;
      ptype = read_at ptype_place x.word1;
      length = length_of x;
      family = family_of (read_at ptype_place x.word1);
    }
