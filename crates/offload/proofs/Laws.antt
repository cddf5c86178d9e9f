-- What the tests of a send's request say of its numbers.
-- Assumes nothing.
use Rattle.std.proofs.Common.{ℕ, ◌+◌, ◌%◌, ◌≤◌, ◌≡◌, refl, sym, ◌∙◌, Bool, true, false, ◌&&◌, true≢false, List, arith, leb-true, eqb-true, leb, eqb}
use Rattle.rules.specs.Rules.{within, in_steps}
use Rattle.rules.proofs.Tests.{both, by_test, within_is, steps_is}
use Rattle.segments.specs.Touch.{start_of, total, header_within}
use Rattle.request.specs.declared.IpKind.{IpKind}
use Rattle.request.specs.declared.IpKind.TheVariants.{None as NoIp, Ipv6, Ipv4, Ipv4Checksum}
use Rattle.request.specs.declared.L4Kind.{L4Kind}
use Rattle.request.specs.declared.L4Kind.TheVariants.{None as NoL4, Tcp, Sctp, Udp}
use Rattle.request.specs.declared.Request.{Request}
use Rattle.request.specs.Request.{is_no_ip, is_no_l4, is_tcp, has_checksum, header_of}
use Rattle.request.specs.Sound.{most_tlen, most_tag, Units, Sound}
use Rattle.offload.specs.Offload.{most_header, least_mss, ip_length_ok, l4_length_ok, headers_ok, tag_ok, segmented_ok, segmentation_ok, request_ok}

fours : (low high n : ℕ) → in_steps low high 4 n ≡ true → (n ≤ high) × (n % 4 ≡ 0)
fours low high n e = let s = steps_is low high 4 n e in (s.most, s.steps)

ip_length_is : (k : IpKind) (n : ℕ) → ip_length_ok k n ≡ true → (n ≤ 508) × (n % 4 ≡ 0)
ip_length_is NoIp n e = let z = eqb-true n 0 e in (omega arith, omega arith)
ip_length_is Ipv6 n e = fours 40 508 n e
ip_length_is Ipv4 n e = let f = fours 20 60 n e in (omega arith, f.1)
ip_length_is Ipv4Checksum n e = let f = fours 20 60 n e in (omega arith, f.1)

l4_length_is : (k : L4Kind) (n : ℕ) → l4_length_ok k n ≡ true → (n ≤ 60) × (n % 4 ≡ 0)
l4_length_is NoL4 n e = let z = eqb-true n 0 e in (omega arith, omega arith)
l4_length_is Tcp n e = fours 20 60 n e
l4_length_is Sctp n e = let z = eqb-true n 12 e in (omega arith, omega arith)
l4_length_is Udp n e = let z = eqb-true n 8 e in (omega arith, omega arith)

module _ (q : Request) where
  abbrev no_l4 : Bool
  no_l4 = is_no_l4 q.l4

  abbrev no_mac : Bool
  no_mac = eqb q.mac_length 0

  abbrev no_ip : Bool
  no_ip = eqb q.ip_length 0

  pub headers_are : headers_ok q ≡ true → Units q
  unfolding headers_ok
  headers_are e =
      by_test (is_no_ip q.ip) _ _ e
      (λ _ h.
      let a = both (no_l4 && no_mac && no_ip && eqb q.l4_length 0) _ h in
      let b = both (no_l4 && no_mac && no_ip) _ a.0 in
      let c = both (no_l4 && no_mac) _ b.0 in
      let m = eqb-true q.mac_length 0 (both no_l4 _ c.0).1 in
      let i = eqb-true q.ip_length 0 c.1 in
      let l = eqb-true q.l4_length 0 b.1 in
      record { mac_most = omega arith; mac_twos = omega arith; ip_most = omega arith; ip_fours = omega arith; l4_most = omega arith; l4_fours = omega arith })
      (λ _ h.
      let a = both (in_steps 14 254 2 q.mac_length && ip_length_ok q.ip q.ip_length) _ h in
      let b = both (in_steps 14 254 2 q.mac_length) _ a.0 in
      let m = steps_is 14 254 2 q.mac_length b.0 in
      let i = ip_length_is q.ip q.ip_length b.1 in
      let l = l4_length_is q.l4 q.l4_length a.1 in
      record { mac_most = m.most; mac_twos = m.steps; ip_most = i.0; ip_fours = i.1; l4_most = l.0; l4_fours = l.1 })

-- what the rules of a segmented send say
pub record Segments (lengths : List ℕ) (maximum header : ℕ) (q : Request) : Type 0 where
  pub within : header ≤ start_of lengths 3
  pub tlen_most : q.tlen ≤ most_tlen
  pub mss_least : least_mss ≤ q.mss
  pub mss_most : q.mss + header ≤ maximum

module _ (lengths : List ℕ) (maximum : ℕ) (q : Request) where
  segments_are : (header : ℕ) → segmented_ok lengths maximum header q ≡ true → Segments lengths maximum header q
  segments_are header e =
      let a = both (is_tcp q.l4 && has_checksum q.ip && leb header most_header && header_within lengths header && within 1 most_tlen q.tlen) _ e in
      let b = both (is_tcp q.l4 && has_checksum q.ip && leb header most_header && header_within lengths header) _ a.0 in
      let d = both (is_tcp q.l4 && has_checksum q.ip && leb header most_header) _ b.0 in
      let m = both (leb least_mss q.mss) _ a.1 in
      record { within = leb-true _ _ d.1; tlen_most = (within_is 1 most_tlen q.tlen b.1).1; mss_least = leb-true _ _ m.0; mss_most = leb-true _ _ m.1 }

  module _ (e : request_ok lengths maximum q ≡ true) where
    parts : (headers_ok q ≡ true) × (leb (header_of q) (total lengths) && tag_ok q && segmentation_ok lengths maximum (header_of q) q ≡ true)
    unfolding request_ok
    parts = both (headers_ok q) _ e

    segmentation : segmentation_ok lengths maximum (header_of q) q ≡ true
    segmentation = (both (leb (header_of q) (total lengths) && tag_ok q) _ parts.1).1

    tag_is : q.tag ≤ most_tag
    tag_is = leb-true _ _ (both (leb q.tag most_tag) _ (both (leb (header_of q) (total lengths)) (tag_ok q) (both (leb (header_of q) (total lengths) && tag_ok q) _ parts.1).0).1).0

    pub segmented_is : q.segmented ≡ true → Segments lengths maximum (header_of q) q
    unfolding segmentation_ok
    segmented_is s = by_test q.segmented _ _ segmentation (λ _ h. segments_are (header_of q) h) (λ f _. absurd (true≢false (sym s ∙ f)))

    plain_is : q.segmented ≡ false → (q.mss ≡ 0) × (q.tlen ≡ 0)
    unfolding segmentation_ok
    plain_is s =
        by_test q.segmented _ _ segmentation (λ t _. absurd (true≢false (sym t ∙ s))) (λ _ h. let b = both (eqb q.mss 0) _ h in (eqb-true _ _ b.0, eqb-true _ _ b.1))

    pub request_is : Sound maximum q
    request_is = go q.segmented refl
      where
        go : (b : Bool) → q.segmented ≡ b → Sound maximum q
        go true s =
            let g = segmented_is s in
            record { units = headers_are q parts.0; tag_most = tag_is; mss_most = omega arith; tlen_most = g.tlen_most; plain = plain_is }
        go false s =
            let g = plain_is s in
            record { units = headers_are q parts.0; tag_most = tag_is; mss_most = omega arith; tlen_most = omega arith; plain = plain_is }
