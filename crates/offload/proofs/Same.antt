-- The tests of the kinds, by `==`.
-- Assumes nothing.
use Rattle.std.proofs.Common.{◌≡◌, ◌||◌, refl}
use denote.Enum.Bare.{sameb}
use Rattle.request.specs.contracts.IpKind.{the_type as ip}
use Rattle.request.specs.contracts.L4Kind.{the_type as l4}
use Rattle.request.specs.declared.IpKind.{IpKind}
use Rattle.request.specs.declared.IpKind.TheVariants.{None as NoIp, Ipv6, Ipv4, Ipv4Checksum}
use Rattle.request.specs.declared.L4Kind.{L4Kind}
use Rattle.request.specs.declared.L4Kind.TheVariants.{None as NoL4, Tcp, Sctp, Udp}
use Rattle.request.specs.Request.{is_no_ip, is_no_l4, is_tcp, has_checksum}

pub no_ip : (k : IpKind) → sameb ip k NoIp ≡ is_no_ip k
no_ip NoIp = refl
no_ip Ipv6 = refl
no_ip Ipv4 = refl
no_ip Ipv4Checksum = refl

pub checksum : (k : IpKind) → sameb ip k Ipv6 || sameb ip k Ipv4Checksum ≡ has_checksum k
checksum NoIp = refl
checksum Ipv6 = refl
checksum Ipv4 = refl
checksum Ipv4Checksum = refl

pub no_l4 : (k : L4Kind) → sameb l4 k NoL4 ≡ is_no_l4 k
no_l4 NoL4 = refl
no_l4 Tcp = refl
no_l4 Sctp = refl
no_l4 Udp = refl

pub tcp : (k : L4Kind) → sameb l4 k Tcp ≡ is_tcp k
tcp NoL4 = refl
tcp Tcp = refl
tcp Sctp = refl
tcp Udp = refl
