-- Bytes that fit are put, and a row is put number by number. Assumes nothing.
use Rattle.std.proofs.Common.{ℕ, suc, ◌+◌, ◌-◌, ◌≤◌, ◌<◌, ◌≡◌, refl, ap, sym, ◌∙◌, true, false, List, [], ◌∷◌, ◌++◌, length, get_or, set, drop, arith, add-zero, add-one, le-leb, length-append, append_assoc, length-set, drop_of_length-le, drop-cons}
use borrow.Author.Tests.{lt-leb}
use borrow.Rule.Slice.PartMut.{put_mid}
use Rattle.std.proofs.lemmas.Slice.{put_mid-paste}
use Rattle.std.proofs.lemmas.List.Edits.{sets, sets-eq, paste_all}
use lib.Seq.{length-sets}
use Rattle.digits.specs.Digits.{digits_of}
use Rattle.digits.specs.Put.{Put, fits_at}
use Rattle.row.specs.Rows.{fields_of, row_of, Whole}

-- one list behind another
sets_append : (l : List ℕ) (i : ℕ) (xs ys : List ℕ) → sets l i (xs ++ ys) ≡ sets (sets l i xs) (i + length xs) ys
sets_append l i [] ys = rw add-zero
sets_append l i (x ∷ xs) ys =
    let e : suc i + length xs ≡ i + suc (length xs) = omega arith in
    sets_append (set l i x) (suc i) xs ys ∙ ap (λ (k : ℕ). sets (sets (set l i x) (suc i) xs) k ys) e

module _ {out : List ℕ} {at : ℕ} {bytes : List ℕ} {r : ℕ} {left : List ℕ} where
  -- bytes that fit are put whole
  pub put_whole : Put out at bytes r left → at + length bytes ≤ length out → Whole out at bytes r left
  put_whole p h =
      let t : fits_at (length out) at (length bytes) ≡ true = le-leb (at + length bytes) (length out) h in
      record { next_is = rw t at p.next_is; text_is = rw t at p.text_is }

  pub whole_put : at + length bytes ≤ length out → Whole out at bytes r left → Put out at bytes r left
  whole_put h w =
      let t : fits_at (length out) at (length bytes) ≡ true = le-leb (at + length bytes) (length out) h in
      record { next_is = rw t w.next_is; text_is = rw t w.text_is }

-- a row is its name, and then its numbers
pub row_whole : {first : List ℕ} {at : ℕ} {name : List ℕ} (ns : List ℕ) {place r : ℕ} {mid left : List ℕ} → Whole first at name place mid → Whole mid place (fields_of ns) r left
    → Whole first at (row_of name ns) r left
unfolding row_of
row_whole {first} {at} {name} ns {place} {r} {mid} {left} w v =
    record {
      next_is = omega (arith, w.next_is, v.next_is, length-append name (fields_of ns));
      text_is = v.text_is ∙ rw (w.text_is, w.next_is) (sym (sets_append first at name (fields_of ns)));
    }

pub row_length : (name ns : List ℕ) → length (row_of name ns) ≡ length name + length (fields_of ns)
unfolding row_of
row_length name ns = length-append name (fields_of ns)

-- bytes that do not fit are not put
pub none_put : (out : List ℕ) (at : ℕ) (bytes : List ℕ) → length out < at + length bytes → Put out at bytes at out
none_put out at bytes h =
    let t : fits_at (length out) at (length bytes) ≡ false = lt-leb (at + length bytes) (length out) h in
    record { next_is = rw t; text_is = rw t }

-- bytes copied into the part of a text
pub copied : (l : List ℕ) (at : ℕ) (ys vs : List ℕ) → at + length vs ≤ length l → ys ≡ vs → put_mid at (at + length vs - at) l ys ≡ sets l at vs
copied l at ys vs h e = put_mid-paste at (at + length vs - at) l ys vs (length vs) e (omega arith) refl ∙ paste_all l at vs (length vs) refl ∙ sym (rw append_assoc at (sets-eq vs l at h))

-- how long the rest of a row is
module _ (ns : List ℕ) (i : ℕ) where
  fields_next : i < length ns → fields_of (drop i ns) ≡ 32 ∷ (digits_of (get_or ns i 0) ++ fields_of (drop (i + 1) ns))
  unfolding fields_of
  fields_next h = rw (add-one, drop-cons ns i 0 h)

  pub fields_longer : i < length ns → length (fields_of (drop i ns)) ≡ 1 + length (digits_of (get_or ns i 0)) + length (fields_of (drop (i + 1) ns))
  fields_longer h = ap length (fields_next h) ∙ omega (arith, length-append (digits_of (get_or ns i 0)) (fields_of (drop (i + 1) ns)))

  pub fields_end : length ns ≤ i → fields_of (drop i ns) ≡ 10 ∷ []
  unfolding fields_of
  fields_end h = ap fields_of (drop_of_length-le ns h)

-- the numbers of a row, one by one
pub record Written (first : List ℕ) (at : ℕ) (ns out : List ℕ) (place i : ℕ) : Type 0 where
  pub few : i ≤ length ns
  pub long : length out ≡ length first
  pub place_is : place + length (fields_of (drop i ns)) ≡ at + length (fields_of ns)
  pub text_is : sets out place (fields_of (drop i ns)) ≡ sets first at (fields_of ns)

pub none_written : {first : List ℕ} {at : ℕ} {ns : List ℕ} → Written first at ns first at 0
none_written = record { few = omega arith; long = refl; place_is = refl; text_is = refl }

pub fields_some : (ns : List ℕ) → 1 ≤ length (fields_of ns)
unfolding fields_of
fields_some [] = omega arith
fields_some (n ∷ ns) = omega arith

module _ {first : List ℕ} {at : ℕ} {ns out : List ℕ} {place i : ℕ} (fits : at + length (fields_of ns) ≤ length first) (s : Written first at ns out place i) where
  -- there is room for one number more
  pub room_for : i < length ns → place + 1 + length (digits_of (get_or ns i 0)) < length out
  room_for h = omega (arith, s.place_is, s.long, fields_longer ns i h, fields_some (drop (i + 1) ns))

  pub number_written : {left : List ℕ} {next : ℕ} → i < length ns → Put (set out place 32) (place + 1) (digits_of (get_or ns i 0)) next left → Written first at ns left next (i + 1)
  number_written {left} {next} h p =
      let ds = digits_of (get_or ns i 0) in
      let fs = fields_of (drop (i + 1) ns) in
      let w = put_whole p (omega (arith, room_for h, length-set out place 32)) in
      let q : sets (set out place 32) (suc place) (ds ++ fs) ≡ sets first at (fields_of ns) = rw (fields_next ns i h) at s.text_is in
      record {
        few = omega arith;
        long = ap length w.text_is ∙ length-sets (set out place 32) (place + 1) ds ∙ length-set out place 32 ∙ s.long;
        place_is = omega (arith, w.next_is, fields_longer ns i h, s.place_is);
        text_is = rw (w.text_is, w.next_is) (sym (sets_append (set out place 32) (place + 1) ds fs) ∙ ap (λ (k : ℕ). sets (set out place 32) k (ds ++ fs)) (add-one place) ∙ q);
      }

  -- and for the end of the line
  pub room_behind : length ns ≤ i → place < length out
  room_behind h = omega (arith, s.place_is, s.long, ap length (fields_end ns i h))

  pub row_written : length ns ≤ i → Whole first at (fields_of ns) (place + 1) (set out place 10)
  row_written h = record { next_is = omega (arith, s.place_is, ap length (fields_end ns i h)); text_is = rw (fields_end ns i h) at s.text_is }
