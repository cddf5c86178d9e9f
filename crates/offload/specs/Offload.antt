-- What the request of a send must keep (01, "Sending"; 7 of "Numbers that come back").
-- Assumes nothing.
use Rattle.std.specs.Prelude.{ℕ, ◌+◌, Bool, not, ◌&&◌, ◌||◌, cond, List, leb, eqb}
use Rattle.rules.specs.Rules.{within, in_steps}
use Rattle.segments.specs.Touch.{total, header_within}
use Rattle.request.specs.declared.IpKind.{IpKind}
use Rattle.request.specs.declared.IpKind.TheVariants.{None as NoIp, Ipv6, Ipv4, Ipv4Checksum}
use Rattle.request.specs.declared.L4Kind.{L4Kind}
use Rattle.request.specs.declared.L4Kind.TheVariants.{None as NoL4, Tcp, Sctp, Udp}
use Rattle.request.specs.declared.Request.{Request}
use Rattle.request.specs.Request.{is_no_ip, is_no_l4, is_tcp, has_checksum, header_of}
use Rattle.request.specs.Sound.{most_tlen, most_tag}

-- the limits
abbrev pub most_header : ℕ
most_header = 512

abbrev pub least_mss : ℕ
least_mss = 88

-- IPv4 20 to 60, IPv6 40 to 508, multiples of 4
abbrev pub ip_length_ok : IpKind → ℕ → Bool
ip_length_ok NoIp n = eqb n 0
ip_length_ok Ipv6 n = in_steps 40 508 4 n
ip_length_ok Ipv4 n = in_steps 20 60 4 n
ip_length_ok Ipv4Checksum n = in_steps 20 60 4 n

-- TCP 20 to 60 in fours, UDP 8, SCTP 12, none 0
abbrev pub l4_length_ok : L4Kind → ℕ → Bool
l4_length_ok NoL4 n = eqb n 0
l4_length_ok Tcp n = in_steps 20 60 4 n
l4_length_ok Sctp n = eqb n 12
l4_length_ok Udp n = eqb n 8

-- IP none: L4 none, all three lengths 0, not segmented; otherwise MAC 14 to 254 and even, and each length right for its kind
unfoldable pub headers_ok : Request → Bool
headers_ok q =
    cond (is_no_ip q.ip)
    (is_no_l4 q.l4 && eqb q.mac_length 0 && eqb q.ip_length 0 && eqb q.l4_length 0 && not q.segmented)
    (in_steps 14 254 2 q.mac_length && ip_length_ok q.ip q.ip_length && l4_length_ok q.l4 q.l4_length)

-- a tag has 16 bits, and it is 0 if no VLAN tag is asked
abbrev pub tag_ok : Request → Bool
tag_ok q = leb q.tag most_tag && (q.vlan || eqb q.tag 0)

-- MSS from 88 to maximum frame - header
abbrev pub mss_ok : ℕ → ℕ → ℕ → Bool
mss_ok mss header maximum = leb least_mss mss && leb (mss + header) maximum

-- segmented: TCP, IPv6 or IPv4 with checksum, header at most 512 and ending within the first three pieces, TLEN 1 to 262,143
abbrev pub segmented_ok : List ℕ → ℕ → ℕ → Request → Bool
segmented_ok lengths maximum header q =
    is_tcp q.l4
    && has_checksum q.ip
    && leb header most_header
    && header_within lengths header
    && within 1 most_tlen q.tlen
    && mss_ok q.mss header maximum

-- not segmented: MSS and TLEN are 0
unfoldable pub segmentation_ok : List ℕ → ℕ → ℕ → Request → Bool
segmentation_ok lengths maximum header q =
    cond q.segmented (segmented_ok lengths maximum header q) (eqb q.mss 0 && eqb q.tlen 0)

-- the header is at most the total besides
unfoldable pub request_ok : List ℕ → ℕ → Request → Bool
request_ok lengths maximum q =
    headers_ok q && (leb (header_of q) (total lengths) && tag_ok q && segmentation_ok lengths maximum (header_of q) q)
