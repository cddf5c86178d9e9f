-- Numbers of a send that fit the fields which carry them: what is known of a request whose checks have passed.
-- Assumes nothing.
use Rattle.std.specs.Prelude.{ℕ, ◌%◌, ◌≤◌, ◌≡◌, false}
use Rattle.request.specs.declared.Request.{Request}

-- the limits of a piece's length, of TLEN and of a tag
abbrev pub most_length : ℕ
most_length = 16383

abbrev pub most_tlen : ℕ
most_tlen = 262143

abbrev pub most_tag : ℕ
most_tag = 65535

-- the three lengths are whole units of their fields, and fit there
pub record Units (q : Request) : Type 0 where
  pub mac_most : q.mac_length ≤ 254
  pub mac_twos : q.mac_length % 2 ≡ 0
  pub ip_most : q.ip_length ≤ 508
  pub ip_fours : q.ip_length % 4 ≡ 0
  pub l4_most : q.l4_length ≤ 60
  pub l4_fours : q.l4_length % 4 ≡ 0

-- and so do the other numbers
pub record Sound (maximum : ℕ) (q : Request) : Type 0 where
  pub units : Units q
  pub tag_most : q.tag ≤ most_tag
  pub mss_most : q.mss ≤ maximum
  pub tlen_most : q.tlen ≤ most_tlen
  pub plain : q.segmented ≡ false → (q.mss ≡ 0) × (q.tlen ≡ 0)
