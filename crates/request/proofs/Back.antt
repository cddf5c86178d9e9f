-- Read at their places, the descriptors of an accepted send give back its offload request, and each piece its length.
-- Assumes nothing.
use Rattle.std.proofs.Common.{ℕ, ◌*◌, ◌/◌, ◌^◌, ◌≤◌, ◌<◌, ◌≡◌, refl, sym, ap, ◌∙◌, Bool, true, false, cond, arith, T, lit<}
use Rattle.field.specs.Field.{field_of, free}
use Rattle.descriptor.specs.declared.Context.{Context}
use Rattle.descriptor.specs.Words.{data_word, read_data, DataFits, context_word, read_context, ContextFits, own}
use Rattle.descriptor.proofs.RoundTrip.{data_back, context_back}
use Rattle.descriptor.proofs.Bits.{pieces_alike}
use Rattle.request.specs.declared.IpKind.{IpKind}
use Rattle.request.specs.declared.IpKind.TheVariants.{None as NoIp, Ipv6, Ipv4, Ipv4Checksum}
use Rattle.request.specs.declared.L4Kind.{L4Kind}
use Rattle.request.specs.declared.L4Kind.TheVariants.{None as NoL4, Tcp, Sctp, Udp}
use Rattle.request.specs.declared.Request.{Request}
use Rattle.request.specs.Request.{iipt_of, l4t_of, ip_kind_of, l4_kind_of, data_of, context_of, request_of}
use Rattle.request.specs.Sound.{most_length, Sound}

-- a kind is the kind of its number, which has two bits
ip_back : (k : IpKind) → (ip_kind_of (iipt_of k) ≡ k) × (iipt_of k < 2 ^ 2)
ip_back NoIp = (refl, lit< tt)
ip_back Ipv6 = (refl, lit< tt)
ip_back Ipv4 = (refl, lit< tt)
ip_back Ipv4Checksum = (refl, lit< tt)

l4_back : (k : L4Kind) → (l4_kind_of (l4t_of k) ≡ k) × (l4t_of k < 2 ^ 2)
l4_back NoL4 = (refl, lit< tt)
l4_back Tcp = (refl, lit< tt)
l4_back Sctp = (refl, lit< tt)
l4_back Udp = (refl, lit< tt)

-- a number of the context descriptor, and 0 where there is none
told : (segmented : Bool) (v n : ℕ) → (segmented ≡ true → v ≡ n) → (segmented ≡ false → n ≡ 0) → cond segmented v 0 ≡ n
told true v n e z = e refl
told false v n e z = sym (z refl)

-- two pieces of one request read alike at every field that shares no bit with length, EOP and RS
pub request_alike : (q : Request) (at k : ℕ) → T (free at k own) → (length length' : ℕ) (last last' : Bool)
    → field_of at k (data_word (data_of q length last)) ≡ field_of at k (data_word (data_of q length' last'))
request_alike q at k t length length' last last' = pieces_alike (data_of q 0 false) at k t length length' last last'

module _ (maximum : ℕ) (q : Request) (s : Sound maximum q) where
  -- the fields fit
  pub data_fits : (length : ℕ) (last : Bool) → length ≤ most_length → DataFits (data_of q length last)
  data_fits length last h =
      record {
        iipt = (ip_back q.ip).1;
        l4t = (l4_back q.l4).1;
        maclen = omega arith;
        iplen = omega arith;
        l4len = omega arith;
        length = omega arith;
        tag = omega arith;
      }

  pub context_fits : maximum < 2 ^ 14 → ContextFits (context_of q)
  context_fits h = record { tlen = omega arith; mss = omega arith }

  -- the words give back a piece's fields, and the context's
  pub piece_back : (length : ℕ) (last : Bool) → length ≤ most_length → read_data (data_word (data_of q length last)) ≡ data_of q length last
  piece_back length last h = data_back (data_of q length last) (data_fits length last h)

  pub segmentation_back : maximum < 2 ^ 14 → read_context (context_word (context_of q)) ≡ context_of q
  segmentation_back h = context_back (context_of q) (context_fits h)

  -- the request that they say, by the context descriptor x if there is one, is the request that was asked
  pub request_back : (x : Context) (length : ℕ) (last : Bool) → length ≤ most_length → maximum < 2 ^ 14
      → (q.segmented ≡ true → x ≡ read_context (context_word (context_of q))) → request_of q.segmented x (read_data (data_word (data_of q length last))) ≡ q
  request_back x length last h m c =
      let is : q.segmented ≡ true → x ≡ context_of q = λ t. c t ∙ segmentation_back m in
      let mac : q.mac_length / 2 * 2 ≡ q.mac_length = omega arith in
      let ip : q.ip_length / 4 * 4 ≡ q.ip_length = omega arith in
      let l4 : q.l4_length / 4 * 4 ≡ q.l4_length = omega arith in
      let mss = told q.segmented x.mss q.mss (λ t. ap (λ (y : Context). y.mss) (is t)) (λ f. (s.plain f).0) in
      let tlen = told q.segmented x.tlen q.tlen (λ t. ap (λ (y : Context). y.tlen) (is t)) (λ f. (s.plain f).1) in
      ap (request_of q.segmented x) (piece_back length last h)
      ∙ (λ i.
      record {
        ip = (ip_back q.ip).0 i;
        l4 = (l4_back q.l4).0 i;
        mac_length = mac i;
        ip_length = ip i;
        l4_length = l4 i;
        vlan = q.vlan;
        tag = q.tag;
        segmented = q.segmented;
        mss = mss i;
        tlen = tlen i;
      })
