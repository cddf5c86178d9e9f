-- The offload request of a send, its kinds' numbers, and how the descriptors carry it (01, "Sending").
-- Assumes nothing.
use Rattle.std.specs.Prelude.{ℕ, zero, suc, ◌+◌, ◌*◌, ◌/◌, Bool, ◌||◌, cond, eqb, ◌≡◌, ◌<◌, Result, MatchResult}
use Rattle.descriptor.specs.declared.Data.{Data}
use Rattle.descriptor.specs.declared.Context.{Context}
use Rattle.request.specs.declared.IpKind.{IpKind}
use Rattle.request.specs.declared.IpKind.TheVariants.{None as NoIp, Ipv6, Ipv4, Ipv4Checksum}
use Rattle.request.specs.declared.L4Kind.{L4Kind}
use Rattle.request.specs.declared.L4Kind.TheVariants.{None as NoL4, Tcp, Sctp, Udp}
use Rattle.request.specs.declared.UnknownKind.{UnknownKind}
use Rattle.request.specs.declared.Request.{Request}

-- the number of an IP kind, 00b to 11b, and of an L4 kind
abbrev pub iipt_of : IpKind → ℕ
iipt_of NoIp = 0
iipt_of Ipv6 = 1
iipt_of Ipv4 = 2
iipt_of Ipv4Checksum = 3

abbrev pub l4t_of : L4Kind → ℕ
l4t_of NoL4 = 0
l4t_of Tcp = 1
l4t_of Sctp = 2
l4t_of Udp = 3

-- and the kind of a number of two bits
abbrev pub ip_kind_of : ℕ → IpKind
ip_kind_of zero = NoIp
ip_kind_of (suc zero) = Ipv6
ip_kind_of (suc (suc zero)) = Ipv4
ip_kind_of (suc (suc (suc n))) = Ipv4Checksum

abbrev pub l4_kind_of : ℕ → L4Kind
l4_kind_of zero = NoL4
l4_kind_of (suc zero) = Tcp
l4_kind_of (suc (suc zero)) = Sctp
l4_kind_of (suc (suc (suc n))) = Udp

-- the result is the kind of this number; a number above 3 is no kind's, and is handed back
abbrev pub IpKindAt : ℕ → Result IpKind UnknownKind → Type 0
IpKindAt n result = MatchResult result (λ kind. iipt_of kind ≡ n) (λ unknown. (unknown.0 ≡ n) × (3 < n))

abbrev pub L4KindAt : ℕ → Result L4Kind UnknownKind → Type 0
L4KindAt n result = MatchResult result (λ kind. l4t_of kind ≡ n) (λ unknown. (unknown.0 ≡ n) × (3 < n))

abbrev pub is_no_ip : IpKind → Bool
is_no_ip k = eqb (iipt_of k) (iipt_of NoIp)

abbrev pub is_no_l4 : L4Kind → Bool
is_no_l4 k = eqb (l4t_of k) (l4t_of NoL4)

abbrev pub is_tcp : L4Kind → Bool
is_tcp k = eqb (l4t_of k) (l4t_of Tcp)

-- IPv6, or IPv4 with checksum
abbrev pub has_checksum : IpKind → Bool
has_checksum k = eqb (iipt_of k) (iipt_of Ipv6) || eqb (iipt_of k) (iipt_of Ipv4Checksum)

-- the header: the sum of its three lengths
abbrev pub header_of : Request → ℕ
header_of q = q.mac_length + q.ip_length + q.l4_length

-- one data descriptor a piece, and one context descriptor before them if segmented
abbrev pub slots_of : Request → ℕ → ℕ
slots_of q pieces = cond q.segmented (pieces + 1) pieces

-- the data descriptor of a piece: MACLEN in 2-byte units, IPLEN and L4LEN in 4-byte units; EOP and RS on the last only
abbrev pub data_of : Request → ℕ → Bool → Data
data_of q length last =
    record {
      eop = last;
      rs = last;
      il2tag1 = q.vlan;
      iipt = iipt_of q.ip;
      l4t = l4t_of q.l4;
      maclen = q.mac_length / 2;
      iplen = q.ip_length / 4;
      l4len = q.l4_length / 4;
      length = length;
      tag = q.tag;
    }

abbrev pub context_of : Request → Context
context_of q = record { tlen = q.tlen; mss = q.mss }

-- the offload request that descriptors say: a segmented one has its MSS and TLEN in the context descriptor, any other has none
abbrev pub request_of : Bool → Context → Data → Request
request_of segmented x d =
    record {
      ip = ip_kind_of d.iipt;
      l4 = l4_kind_of d.l4t;
      mac_length = d.maclen * 2;
      ip_length = d.iplen * 4;
      l4_length = d.l4len * 4;
      vlan = d.il2tag1;
      tag = d.tag;
      segmented = segmented;
      mss = cond segmented x.mss 0;
      tlen = cond segmented x.tlen 0;
    }
