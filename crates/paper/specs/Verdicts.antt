-- Worked examples of the two verdicts (02), a table of their own: 01 has one word alone. Each word has DD, EOP and length 64.
-- Assumes nothing.
use Rattle.std.specs.Prelude.{ℕ, ◌≡◌}
use Rattle.verdict.specs.declared.Verdict.{Verdict}
use Rattle.verdict.specs.declared.Verdict.TheVariants.{NotChecked, Good, Bad}
use Rattle.writeback.specs.WriteBack.{write_back_of}

-- what is read of a word 1: the verdict for L3, and that for L4
abbrev pub judged : ℕ → Verdict × Verdict
judged w = ((write_back_of (record { word0 = 0; word1 = w })).l3, (write_back_of (record { word0 = 0; word1 = w })).l4)

pub record Verdicts : Type 0 where
  -- IPv4 and TCP, type 26: 01's word, and the same with IPE and L4E
  pub tcp : judged 0x000010068000000B ≡ (Good, Good)
  pub tcp_wrong : judged 0x0000100680C0000B ≡ (Bad, Bad)
  -- what callers misread: IPE and L4E without L3L4P
  pub not_processed : judged 0x0000100680C00003 ≡ (NotChecked, NotChecked)
  -- IPE and L4E: type 12, which is unknown; ARP; fragments of IPv4 and of IPv6, types 22 and 88
  pub unknown : judged 0x0000100300C0000B ≡ (NotChecked, NotChecked)
  pub arp : judged 0x00001002C0C0000B ≡ (NotChecked, NotChecked)
  pub fragment : judged 0x0000100580C0000B ≡ (Bad, NotChecked)
  pub fragment_6 : judged 0x0000101600C0000B ≡ (NotChecked, NotChecked)
  -- L4E: IPv4 without an L4 kind and with ICMP, types 23 and 28; IPv6 with SCTP, type 93
  pub no_kind : judged 0x00001005C080000B ≡ (Good, NotChecked)
  pub icmp : judged 0x000010070080000B ≡ (Good, NotChecked)
  pub sctp_6 : judged 0x000010174080000B ≡ (NotChecked, Bad)
  -- UDP with INT_UDP_0: of IPv4, type 24, with L4E; of IPv6, type 90, alone and with IPV6EXADD
  pub udp : judged 0x000010060084000B ≡ (Good, NotChecked)
  pub udp_6 : judged 0x000010168004000B ≡ (NotChecked, Bad)
  pub udp_6_options : judged 0x000010168004800B ≡ (NotChecked, Bad)
  -- IPV6EXADD with L4E, of IPv6 and TCP, type 92, and of IPv4 and TCP
  pub options_6 : judged 0x000010170080800B ≡ (NotChecked, NotChecked)
  pub options : judged 0x000010068080800B ≡ (Good, NotChecked)
  -- INT_UDP_0 without UDP decides nothing
  pub tcp_udp_0 : judged 0x000010068004000B ≡ (Good, Good)
