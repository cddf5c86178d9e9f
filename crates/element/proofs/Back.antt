-- What was written is read back, field for field; and a device that sets DD and CMP leaves all else.
-- Assumes nothing.
use Rattle.std.proofs.Common.{ℕ, ◌+◌, ◌*◌, ◌^◌, ◌≤◌, ◌<◌, ◌≡◌, refl, ap, ◌∙◌, subst, List, ◌++◌, append_assoc, add-zero, arith, length, get_or, length-append, get_or-set_same, get_or-set_other}
use Rattle.slots.specs.Memory.{read_from, store}
use Rattle.slots.proofs.Stores.{length_from, store_here, read_agree}
use Rattle.slots.proofs.Pieces.{read_stored, read_first, read_behind}
use Rattle.little.specs.Little.{value_of, bytes_of}
use Rattle.little.proofs.Laws.{value_bytes}
use Rattle.element.specs.declared.Element.{Element}
use Rattle.element.specs.Element.{element_bytes, element_at}
use Rattle.element.specs.Back.{Holds, Clear, completes, done}

-- ---- the bytes

-- the bytes behind the cookie
abbrev tail : Element → List ℕ
tail e = bytes_of 4 e.param0 ++ bytes_of 4 e.param1 ++ bytes_of 4 e.high ++ bytes_of 4 e.low

module _ (e : Element) (h : Holds e) where
  pub long : length (element_bytes e) ≡ 32
  long = simp (length-append, h.eight)

  -- the cookie, and what stands behind it
  joined : (((e.cookie ++ bytes_of 4 e.param0) ++ bytes_of 4 e.param1) ++ bytes_of 4 e.high) ++ bytes_of 4 e.low ≡ e.cookie ++ tail e
  joined = simp append_assoc

  cookie_back : read_from (element_bytes e) 8 8 ≡ e.cookie
  cookie_back =
      ap (λ (xs : List ℕ). read_from xs 0 8) joined
      ∙ subst (λ (n : ℕ). read_from (e.cookie ++ tail e) 0 n ≡ e.cookie) h.eight (read_first e.cookie (tail e))

  behind : (k n : ℕ) → read_from (e.cookie ++ tail e) (8 + k) n ≡ read_from (tail e) k n
  behind k n = subst (λ (c : ℕ). read_from (e.cookie ++ tail e) (c + k) n ≡ read_from (tail e) k n) h.eight (read_behind e.cookie (tail e) k n)

  number_behind : (k x : ℕ) → x < 2 ^ 32 → read_from (tail e) k 4 ≡ bytes_of 4 x → value_of (read_from (e.cookie ++ tail e) (8 + k) 4) ≡ x
  number_behind k x f r = ap value_of (behind k 4 ∙ r) ∙ value_bytes 4 x f

  -- ---- an element stored and read

  module _ (m : List ℕ) (s : ℕ) (room : 32 * s + 32 ≤ length m) where
    piece : (k n : ℕ) → k + n ≤ 32 → read_from (store 32 m s (element_bytes e)) (32 * s + k) n ≡ read_from (element_bytes e) k n
    piece k n l = read_stored m (32 * s) (element_bytes e) k n (rw long l) (rw long room)

    number : (k n x : ℕ) → k + n ≤ 32 → x < 256 ^ n → read_from (element_bytes e) k n ≡ bytes_of n x → value_of (read_from (store 32 m s (element_bytes e)) (32 * s + k) n) ≡ x
    number k n x l f r = ap value_of (piece k n l ∙ r) ∙ value_bytes n x f

    late : (k x : ℕ) → 8 + k + 4 ≤ 24 → x < 2 ^ 32 → read_from (tail e) k 4 ≡ bytes_of 4 x → read_from (element_bytes e) (16 + k) 4 ≡ read_from (e.cookie ++ tail e) (8 + k) 4 → value_of (read_from (store 32 m s (element_bytes e)) (32 * s + (16 + k)) 4) ≡ x
    late k x l f r b = ap value_of (piece (16 + k) 4 (omega arith) ∙ b) ∙ number_behind k x f r

    -- THE ROUND TRIP: each field reads back as it was written
    pub element_back : element_at (store 32 m s (element_bytes e)) s ≡ e
    element_back =
        let first : value_of (read_from (store 32 m s (element_bytes e)) (32 * s) 2) ≡ e.flags = rw add-zero at (number 0 2 e.flags (omega arith) h.flags_fit refl) in
        λ i.
        record {
          flags = first i;
          opcode = number 2 2 e.opcode (omega arith) h.opcode_fits refl i;
          length = number 4 2 e.length (omega arith) h.length_fits refl i;
          value = number 6 2 e.value (omega arith) h.value_fits refl i;
          cookie = (piece 8 8 (omega arith) ∙ cookie_back) i;
          param0 = late 0 e.param0 (omega arith) h.param0_fits refl (ap (λ (xs : List ℕ). read_from xs 8 4) joined) i;
          param1 = late 4 e.param1 (omega arith) h.param1_fits refl (ap (λ (xs : List ℕ). read_from xs 12 4) joined) i;
          high = late 8 e.high (omega arith) h.high_fits refl (ap (λ (xs : List ℕ). read_from xs 16 4) joined) i;
          low = late 12 e.low (omega arith) h.low_fits refl (ap (λ (xs : List ℕ). read_from xs 20 4) joined) i;
        }

-- ---- a device that is done with an element

module _ (ring : List ℕ) (s : ℕ) where
  -- the bytes behind the first stay
  elsewhere : (k n : ℕ) → 0 < k → read_from (completes ring s) (32 * s + k) n ≡ read_from ring (32 * s + k) n
  elsewhere k n p = read_agree _ ring (32 * s + k) n (λ j b. get_or-set_other ring (32 * s) (32 * s + k + j) _ 0 (λ q. omega arith))

  -- where its own flags were clear, two of them are set and nothing else moves
  pub done_at : 32 * s + 32 ≤ length ring → get_or ring (32 * s) 0 ≡ 0 → element_at (completes ring s) s ≡ done (element_at ring s)
  done_at room clear =
      let first : get_or (completes ring s) (32 * s) 0 ≡ 3 = get_or-set_same ring (32 * s) _ 0 (omega arith) ∙ rw clear in
      let second : get_or (completes ring s) (32 * s + 1) 0 ≡ get_or ring (32 * s + 1) 0 = get_or-set_other ring (32 * s) (32 * s + 1) _ 0 (λ q. omega arith) in
      let flags : value_of (read_from (completes ring s) (32 * s) 2) ≡ 3 + value_of (read_from ring (32 * s) 2) = rw (first, second, clear) (omega arith) in
      λ i.
      record {
        flags = flags i;
        opcode = value_of (elsewhere 2 2 (omega arith) i);
        length = value_of (elsewhere 4 2 (omega arith) i);
        value = value_of (elsewhere 6 2 (omega arith) i);
        cookie = elsewhere 8 8 (omega arith) i;
        param0 = value_of (elsewhere 16 4 (omega arith) i);
        param1 = value_of (elsewhere 20 4 (omega arith) i);
        high = value_of (elsewhere 24 4 (omega arith) i);
        low = value_of (elsewhere 28 4 (omega arith) i);
      }

-- so what was written, with the device's own flags clear, is read back with these two set
pub echoed : (e : Element) → Holds e → Clear e → (m : List ℕ) (s : ℕ) → 32 * s + 32 ≤ length m → element_at (completes (store 32 m s (element_bytes e)) s) s ≡ done e
echoed e h c m s room =
    let ring : List ℕ = store 32 m s (element_bytes e) in
    let room' : 32 * s + 32 ≤ length ring = rw (length_from m (32 * s) (element_bytes e)) room in
    let at : get_or ring (32 * s) 0 ≡ 0 = rw add-zero at (store_here m (32 * s) (element_bytes e) 0 (rw (long e h) (omega arith)) (rw (long e h) room)) ∙ c in
    done_at ring s room' at ∙ ap done (element_back e h m s room)
