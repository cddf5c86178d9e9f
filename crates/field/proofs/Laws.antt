-- The laws of bit fields, over position and width: what is placed reads back, what stands beside it reads as before, and the word of a table reads back field by field.
-- Assumes nothing.
use Rattle.std.proofs.Common.{◌≡◌, refl, sym, ap, ◌∙◌, subst, Bool, true, false, ⊎_elim, List, [], ◌∷◌, ℕ, zero, suc, ◌+◌, ◌-◌, ◌*◌, ◌/◌, ◌%◌, ◌^◌, ◌≤◌, ◌<◌, mul-one, add_comm, add-zero, zero-add, zero-mul, mul_assoc, mul_comm, mod-lt, mod-eq_of_lt, lt_of_lt_of_le, le_of_suc-le-suc, not-suc-le-zero, arith, T, leb, ltb, ltb→lt, leb→le, eqb, bit_and, bit_or, length, pow_pos, pow_mono, pow-add, shr-shr, shl_exact}
use native.Mathlib.Nat.{div-eq_of_lt, add-mul-mod_self_right, add-mul-div_right}
use lib.Arith.{digits_lt}
use lib.Bits.{and_mask, or_shifted_r}
use lib.Pow.{split, high, mod-pow-add}
use mir.Facts.{and_yes, or_yes}
use Rattle.field.specs.Field.{field_of, placed, replaced, Part, part, nth, Line, read_at, Fits, word_of, rising, end_of, apart, free, bit}

gap : {a b : ℕ} → a ≤ b → b ≡ a + (b - a)
gap h = omega arith

-- a word as the bits below a field, the field and the bits above it
pub field_at : (at k v hi : ℕ) {lo : ℕ} → lo < 2 ^ at → v < 2 ^ k → field_of at k (lo + (v + hi * 2 ^ k) * 2 ^ at) ≡ v
field_at at k v hi {lo} hl hv =
    ap (λ (x : ℕ). x / 2 ^ at % 2 ^ k) (add_comm lo ((v + hi * 2 ^ k) * 2 ^ at))
    ∙ ap (λ (x : ℕ). x % 2 ^ k) (high (v + hi * 2 ^ k) at hl) ∙ add-mul-mod_self_right v hi (2 ^ k) ∙ mod-eq_of_lt hv

-- (a) a value put where the word has zeros reads back
pub put_same : (at k v w : ℕ) → field_of at k w ≡ 0 → v < 2 ^ k → field_of at k (w + v * 2 ^ at) ≡ v
put_same at k v w z hv =
    ap (λ (x : ℕ). x % 2 ^ k) (add-mul-div_right w v (pow_pos at))
    ∙ ap (λ (x : ℕ). (x + v) % 2 ^ k) (sym (split (w / 2 ^ at) k) ∙ ap (λ (x : ℕ). w / 2 ^ at / 2 ^ k * 2 ^ k + x) z ∙ add-zero _)
    ∙ ap (λ (x : ℕ). x % 2 ^ k) (add_comm (w / 2 ^ at / 2 ^ k * 2 ^ k) v)
    ∙ add-mul-mod_self_right v (w / 2 ^ at / 2 ^ k) (2 ^ k) ∙ mod-eq_of_lt hv

-- (b) a field below the one that is put reads as before
pub put_below : (at v w at' k' : ℕ) → at' + k' ≤ at → field_of at' k' (w + v * 2 ^ at) ≡ field_of at' k' w
put_below at v w at' k' h =
    let g : ℕ = at - (at' + k') in
    let e : 2 ^ at ≡ 2 ^ g * (2 ^ k' * 2 ^ at') = ap (λ (x : ℕ). 2 ^ x) (omega arith) ∙ pow-add 2 g (k' + at') ∙ ap (λ (x : ℕ). 2 ^ g * x) (pow-add 2 k' at') in
    ap (λ (x : ℕ). (w + x) / 2 ^ at' % 2 ^ k') (ap (λ (x : ℕ). v * x) e ∙ simp mul_assoc)
    ∙ ap (λ (x : ℕ). x % 2 ^ k') (add-mul-div_right w (v * 2 ^ g * 2 ^ k') (pow_pos at'))
    ∙ add-mul-mod_self_right (w / 2 ^ at') (v * 2 ^ g) (2 ^ k')

-- two words that agree from j on read alike above j
same_above : (j at k a b : ℕ) → j ≤ at → a / 2 ^ j ≡ b / 2 ^ j → field_of at k a ≡ field_of at k b
same_above j at k a b h e =
    let s : (x : ℕ) → x / 2 ^ at ≡ x / 2 ^ j / 2 ^ (at - j) = λ x. ap (λ (n : ℕ). x / 2 ^ n) (gap h) ∙ sym (shr-shr x j (at - j)) in
    ap (λ (x : ℕ). x % 2 ^ k) (s a ∙ ap (λ (x : ℕ). x / 2 ^ (at - j)) e ∙ sym (s b))

-- and so does one above it
pub put_above : (at k v w at' k' : ℕ) → field_of at k w ≡ 0 → v < 2 ^ k → k + at ≤ at' → field_of at' k' (w + v * 2 ^ at) ≡ field_of at' k' w
put_above at k v w at' k' z hv h =
    let lo : w % 2 ^ (k + at) ≡ w % 2 ^ at = mod-pow-add w k at ∙ ap (λ (x : ℕ). x * 2 ^ at + w % 2 ^ at) z ∙ omega arith in
    let lt : v * 2 ^ at + w % 2 ^ at < 2 ^ (k + at) = subst (λ (x : ℕ). v * 2 ^ at + w % 2 ^ at < x) (sym (pow-add 2 k at)) (digits_lt hv (mod-lt w (pow_pos at))) in
    same_above (k + at) at' k' (w + v * 2 ^ at) w h
    (ap (λ (x : ℕ). x / 2 ^ (k + at)) (omega (arith, split w (k + at))) ∙ high (w / 2 ^ (k + at)) (k + at) lt)

pub put_apart : (at k v w at' k' : ℕ) → field_of at k w ≡ 0 → v < 2 ^ k → T (apart at k at' k') → field_of at' k' (w + v * 2 ^ at) ≡ field_of at' k' w
put_apart at k v w at' k' z hv t =
    ⊎_elim (λ b. put_below at v w at' k' (leb→le (at' + k') at b)) (λ a. put_above at k v w at' k' z hv (leb→le (k + at) at' a))
    (or_yes (leb (at' + k') at) (leb (k + at) at') t)

-- ---- (c) the word of a table

stack : (v q at k : ℕ) → v * 2 ^ at + q * 2 ^ (at + k) ≡ (v + q * 2 ^ k) * 2 ^ at
stack v q at k = ap (λ (x : ℕ). v * 2 ^ at + q * x) (pow-add 2 at k) ∙ omega arith

-- a table that rises from j has nothing below j
above : (j : ℕ) (ps : List Part) → T (rising j ps) → (q : ℕ) × (word_of ps ≡ q * 2 ^ j)
above j [] t = (0, sym (zero-mul (2 ^ j)))
above j (p ∷ ps) t =
    let a : ℕ = p.at in
    let k : ℕ = p.width in
    let v : ℕ = p.value % 2 ^ k in
    let r = above (a + k) ps (and_yes (leb j a) (rising (a + k) ps) t).1 in
    let e : 2 ^ a ≡ 2 ^ (a - j) * 2 ^ j = ap (λ (x : ℕ). 2 ^ x) (gap (leb→le j a (and_yes (leb j a) (rising (a + k) ps) t).0) ∙ add_comm j (a - j)) ∙ pow-add 2 (a - j) j in
    ((v + r.0 * 2 ^ k) * 2 ^ (a - j), ap (λ (x : ℕ). v * 2 ^ a + x) r.1 ∙ stack v r.0 a k ∙ ap (λ (x : ℕ). (v + r.0 * 2 ^ k) * x) e ∙ sym (mul_assoc (v + r.0 * 2 ^ k) (2 ^ (a - j)) (2 ^ j)))

-- what stands below the next field, after one more
grown : (at k v : ℕ) {lo : ℕ} → lo < 2 ^ at → placed at k v + lo < 2 ^ (at + k)
grown at k v {lo} h =
    subst (λ (x : ℕ). placed at k v + lo < x) (mul_comm (2 ^ k) (2 ^ at) ∙ sym (pow-add 2 at k)) (digits_lt (mod-lt v (pow_pos k)) h)

reads_from : (ps : List Part) (j lo : ℕ) → T (rising j ps) → lo < 2 ^ j → (i : ℕ) → i < length ps → field_of (nth ps i).at (nth ps i).width (lo + word_of ps) ≡ (nth ps i).value % 2 ^ (nth ps i).width
reads_from [] j lo t l i h = absurd (not-suc-le-zero h)
reads_from (p ∷ ps) j lo t l zero h =
    let a : ℕ = p.at in
    let k : ℕ = p.width in
    let v : ℕ = p.value % 2 ^ k in
    let s = and_yes (leb j a) (rising (a + k) ps) t in
    let r = above (a + k) ps s.1 in
    ap (λ (x : ℕ). field_of a k (lo + x)) (ap (λ (x : ℕ). v * 2 ^ a + x) r.1 ∙ stack v r.0 a k)
    ∙ field_at a k v r.0 (lt_of_lt_of_le l (pow_mono (leb→le j a s.0))) (mod-lt p.value (pow_pos k))
reads_from (p ∷ ps) j lo t l (suc i) h =
    let a : ℕ = p.at in
    let k : ℕ = p.width in
    let s = and_yes (leb j a) (rising (a + k) ps) t in
    ap (λ (x : ℕ). field_of (nth ps i).at (nth ps i).width x) (omega arith)
    ∙ reads_from ps (a + k) (placed a k p.value + lo) s.1 (grown a k p.value (lt_of_lt_of_le l (pow_mono (leb→le j a s.0)))) i (le_of_suc-le-suc h)

-- each field of a table's word reads back as the low bits of its value
pub reads : (ps : List Part) → T (rising 0 ps) → (i : ℕ) → T (ltb i (length ps)) → field_of (nth ps i).at (nth ps i).width (word_of ps) ≡ (nth ps i).value % 2 ^ (nth ps i).width
reads ps t i h = ap (λ (x : ℕ). field_of (nth ps i).at (nth ps i).width x) (sym (zero-add (word_of ps))) ∙ reads_from ps 0 0 t (pow_pos 0) i (ltb→lt i (length ps) h)

-- a number below a field reads as 0 there
none_above : (at k : ℕ) {lo : ℕ} → lo < 2 ^ at → field_of at k lo ≡ 0
none_above at k h = ap (λ (x : ℕ). x % 2 ^ k) (div-eq_of_lt h) ∙ mod-eq_of_lt (pow_pos k)

free_from : (at k : ℕ) (ps : List Part) (j lo : ℕ) → T (rising j ps) → T (free at k ps) → lo < 2 ^ j → field_of at k (lo + word_of ps) ≡ field_of at k lo
free_from at k [] j lo t u l = ap (λ (x : ℕ). field_of at k x) (add-zero lo)
free_from at k (p ∷ ps) j lo t u l =
    let a : ℕ = p.at in
    let n : ℕ = p.width in
    let v : ℕ = p.value % 2 ^ n in
    let s = and_yes (leb j a) (rising (a + n) ps) t in
    let f = and_yes (apart a n at k) (free at k ps) u in
    let l' : lo < 2 ^ a = lt_of_lt_of_le l (pow_mono (leb→le j a s.0)) in
    ap (λ (x : ℕ). field_of at k x) (omega arith)
    ∙ free_from at k ps (a + n) (v * 2 ^ a + lo) s.1 f.1 (grown a n p.value l')
    ∙ ap (λ (x : ℕ). field_of at k x) (add_comm (v * 2 ^ a) lo)
    ∙ put_apart a n v lo at k (none_above a n l') (mod-lt p.value (pow_pos n)) f.0

-- bits that no line of a table has are 0
pub reads_free : (at k : ℕ) (ps : List Part) → T (rising 0 ps) → T (free at k ps) → field_of at k (word_of ps) ≡ 0
reads_free at k ps t u =
    ap (λ (x : ℕ). field_of at k x) (sym (zero-add (word_of ps))) ∙ free_from at k ps 0 0 t u (pow_pos 0) ∙ none_above at k (pow_pos at)

-- a table's word is below the first position past its last field
below_from : (ps : List Part) (j lo : ℕ) → T (rising j ps) → lo < 2 ^ j → lo + word_of ps < 2 ^ end_of j ps
below_from [] j lo t l = rw add-zero l
below_from (p ∷ ps) j lo t l =
    let a : ℕ = p.at in
    let k : ℕ = p.width in
    let s = and_yes (leb j a) (rising (a + k) ps) t in
    let r = below_from ps (a + k) (placed a k p.value + lo) s.1 (grown a k p.value (lt_of_lt_of_le l (pow_mono (leb→le j a s.0)))) in
    omega (arith, r)

pub word_below : (ps : List Part) → T (rising 0 ps) → word_of ps < 2 ^ end_of 0 ps
word_below ps t = rw zero-add at (below_from ps 0 0 t (pow_pos 0))

-- ---- the code's way: shifted parts joined by `|`

infixr 5 ◌▹◌
-- a part as the code writes it
pub record Code (p : Part) : Type 0 where
  pub code : ℕ
  pub is : code ≡ placed p.at p.width p.value

pub data Codes : List Part → Type 0 where
  done : Codes []
  ◌▹◌ : {p : Part} {ps : List Part} → Code p → Codes ps → Codes (p ∷ ps)

-- `acc | y | ..`
abbrev pub or_from : {ps : List Part} → ℕ → Codes ps → ℕ
or_from acc done = acc
or_from acc (c ▹ cs) = or_from (bit_or acc c.code) cs

or_from_lem : {ps : List Part} (j acc : ℕ) (cs : Codes ps) → T (rising j ps) → acc < 2 ^ j → or_from acc cs ≡ acc + word_of ps
or_from_lem j acc done t l = sym (add-zero acc)
or_from_lem j acc (◌▹◌ {p} {ps} c cs) t l =
    let a : ℕ = p.at in
    let k : ℕ = p.width in
    let s = and_yes (leb j a) (rising (a + k) ps) t in
    let l' : acc < 2 ^ a = lt_of_lt_of_le l (pow_mono (leb→le j a s.0)) in
    ap (λ (x : ℕ). or_from x cs) (ap (λ (y : ℕ). bit_or acc y) c.is ∙ or_shifted_r (p.value % 2 ^ k) a acc l')
    ∙ or_from_lem (a + k) (placed a k p.value + acc) cs s.1 (grown a k p.value l') ∙ omega arith

-- the parts of a rising table, joined by `|`, are the table's word (`0 | y` computes to y)
pub or_table : {ps : List Part} (cs : Codes ps) → T (rising 0 ps) → or_from 0 cs ≡ word_of ps
or_table {ps} cs t = or_from_lem 0 0 cs t (pow_pos 0) ∙ zero-add (word_of ps)

pub bit_low : (b : Bool) → bit b % 2 ^ 1 ≡ bit b
bit_low true = refl
bit_low false = refl

-- `(v & mask) << at`
abbrev pub masked : {p : Part} → T (leb (p.width + p.at) 64) → Code p
masked {p} t =
    record {
      code = bit_and p.value (2 ^ p.width - 1) * 2 ^ p.at % 2 ^ 64;
      is = ap (λ (x : ℕ). x * 2 ^ p.at % 2 ^ 64) (and_mask p.value p.width) ∙ shl_exact p.width p.at 64 (mod-lt p.value (pow_pos p.width)) (leb→le (p.width + p.at) 64 t);
    }

-- `(b as u64) << at`
abbrev pub flagged : {at : ℕ} (b : Bool) → T (leb (1 + at) 64) → Code (part at 1 (bit b))
flagged {at} b t =
    record {
      code = bit b * 2 ^ at % 2 ^ 64;
      is = ap (λ (x : ℕ). x * 2 ^ at % 2 ^ 64) (sym (bit_low b)) ∙ shl_exact 1 at 64 (mod-lt (bit b) (pow_pos 1)) (leb→le (1 + at) 64 t);
    }

-- `b as u64`
abbrev pub flagged_low : (b : Bool) → Code (part 0 1 (bit b))
flagged_low b = record { code = bit b; is = sym (ap (λ (x : ℕ). x * 2 ^ 0) (bit_low b) ∙ mul-one (bit b)) }

-- a number that is written out
abbrev pub literal : {p : Part} → Code p
literal {p} = record { code = placed p.at p.width p.value; is = refl }

-- `(w >> at) & mask`
pub got : (l : Line) (w : ℕ) → bit_and (w / 2 ^ (l 0).at) (2 ^ (l 0).width - 1) ≡ read_at l w
got l w = and_mask (w / 2 ^ (l 0).at) (l 0).width

eqb_bit : (b : Bool) → eqb (bit b % 2 ^ 1) 1 ≡ b
eqb_bit true = refl
eqb_bit false = refl

-- a flag and a number that fits, read back
pub flag_back : {n : ℕ} (b : Bool) → n ≡ bit b % 2 ^ 1 → eqb n 1 ≡ b
flag_back b e = ap (λ (x : ℕ). eqb x 1) e ∙ eqb_bit b

pub fit_back : {n v : ℕ} (l : Line) → Fits l v → n ≡ v % 2 ^ (l 0).width → n ≡ v
fit_back l h e = e ∙ mod-eq_of_lt h

-- ---- a word with another value in one field

-- the word with zeros in a field
abbrev cleared : ℕ → ℕ → ℕ → ℕ
cleared at k w = w / 2 ^ (at + k) * 2 ^ (at + k) + w % 2 ^ at

cleared_zero : (at k w : ℕ) → field_of at k (cleared at k w) ≡ 0
cleared_zero at k w =
    ap (λ (x : ℕ). field_of at k x) (ap (λ (x : ℕ). w / 2 ^ (at + k) * x + w % 2 ^ at) (pow-add 2 at k) ∙ omega (arith, mul_comm (w / 2 ^ (at + k)) (2 ^ at * 2 ^ k)))
    ∙ field_at at k 0 (w / 2 ^ (at + k)) (mod-lt w (pow_pos at)) (pow_pos k)

whole : (at k w : ℕ) → cleared at k w + field_of at k w * 2 ^ at ≡ w
whole at k w =
    let low : w % 2 ^ (at + k) ≡ field_of at k w * 2 ^ at + w % 2 ^ at = ap (λ (n : ℕ). w % 2 ^ n) (add_comm at k) ∙ mod-pow-add w k at in
    omega (arith, low, split w (at + k))

-- a replaced field reads as what was put there
pub replaced_same : (at k v w : ℕ) → field_of at k (replaced at k v w) ≡ v % 2 ^ k
replaced_same at k v w = put_same at k (v % 2 ^ k) (cleared at k w) (cleared_zero at k w) (mod-lt v (pow_pos k))

-- and every field apart from it reads as before
pub replaced_apart : (at k v w at' k' : ℕ) → T (apart at k at' k') → field_of at' k' (replaced at k v w) ≡ field_of at' k' w
replaced_apart at k v w at' k' t =
    put_apart at k (v % 2 ^ k) (cleared at k w) at' k' (cleared_zero at k w) (mod-lt v (pow_pos k)) t
    ∙ sym (put_apart at k (field_of at k w) (cleared at k w) at' k' (cleared_zero at k w) (mod-lt (w / 2 ^ at) (pow_pos k)) t)
    ∙ ap (λ (x : ℕ). field_of at' k' x) (whole at k w)
