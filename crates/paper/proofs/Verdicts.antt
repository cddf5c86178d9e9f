-- Each line of the table of verdicts, computed from the definitions.
-- Assumes nothing.
use Rattle.std.proofs.Common.{refl}
use Rattle.family.specs.Types.{family_of}
use Rattle.packet_types.specs.Table.{entry_of}
use Rattle.verdict.specs.Verdict.{l3_of, l4_of}
use Rattle.writeback.specs.WriteBack.{write_back_of}
use Rattle.paper.specs.Verdicts.{Verdicts}

pub verdicts : Verdicts
unfolding family_of entry_of l3_of l4_of write_back_of
verdicts =
    record {
      tcp = refl;
      tcp_wrong = refl;
      not_processed = refl;
      unknown = refl;
      arp = refl;
      fragment = refl;
      fragment_6 = refl;
      no_kind = refl;
      icmp = refl;
      sctp_6 = refl;
      udp = refl;
      udp_6 = refl;
      udp_6_options = refl;
      options_6 = refl;
      options = refl;
      tcp_udp_0 = refl;
    }
