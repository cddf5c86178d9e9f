-- A write-back is read at its places alone, over position and width: bits that no place has change nothing that a reader returns, and bits put at a
-- place are the number that is read there, with every other number as before.
-- Assumes nothing.
use Rattle.std.proofs.Common.{ℕ, zero, suc, ◌+◌, ◌%◌, ◌^◌, ◌≤◌, ◌<◌, ◌≡◌, refl, sym, ap, ap₂, ◌∙◌, Bool, true, false, ◌&&◌, ◌||◌, ◌⊎◌, inl, inr, ⊎_elim, List, [], ◌∷◌, arith, T, leb, ltb, leb→le, le→leb, ltb→lt, length, set}
use mir.Facts.{and_yes, or_yes}
use Rattle.field.specs.Field.{replaced, Part, nth, rising, apart, free}
use Rattle.field.proofs.Laws.{replaced_same, replaced_apart}
use Rattle.places.specs.Places.{places0, places1}
use Rattle.places.specs.Words.{Words}
use Rattle.writeback.specs.WriteBack.{write_back_of}
use Rattle.writeback.specs.Bits.{reads_at, put_at, made}

-- ---- a table's places, and a word with one field replaced

abbrev Beside : ℕ → ℕ → ℕ → ℕ → Type 0
Beside at k at' k' = (at' + k' ≤ at) ⊎ (at + k ≤ at')

either : (a b : Bool) → T a ⊎ T b → T (a || b)
either true b c = tt
either false b c = ⊎_elim (λ t. absurd t) (λ t. t) c

apart_of : (at k at' k' : ℕ) → Beside at k at' k' → T (apart at k at' k')
apart_of at k at' k' b =
    either (leb (at' + k') at) (leb (k + at) at')
    (⊎_elim (λ h. inl (le→leb (at' + k') at h)) (λ h. inr (le→leb (k + at) at' (omega arith))) b)

apart_is : (at k at' k' : ℕ) → T (apart at k at' k') → Beside at k at' k'
apart_is at k at' k' t =
    ⊎_elim (λ h. inl (leb→le (at' + k') at h)) (λ h. inr (let l = leb→le (k + at) at' h in omega arith))
    (or_yes (leb (at' + k') at) (leb (k + at) at') t)

flip : (at k at' k' : ℕ) → T (apart at k at' k') → T (apart at' k' at k)
flip at k at' k' t = apart_of at' k' at k (⊎_elim (λ h. inr h) (λ h. inl h) (apart_is at k at' k' t))

-- a field that no place shares a bit with
pub free_same : (ps : List Part) (at k v w : ℕ) → T (free at k ps) → reads_at ps (replaced at k v w) ≡ reads_at ps w
free_same [] at k v w t = refl
free_same (p ∷ ps) at k v w t =
    let s = and_yes (apart p.at p.width at k) (free at k ps) t in
    ap₂ (λ (n : ℕ) (ns : List ℕ). n ∷ ns) (replaced_apart at k v w p.at p.width (flip p.at p.width at k s.0)) (free_same ps at k v w s.1)

-- places that rise from j on share no bit with one that ends at j
rising_free : (ps : List Part) (at k j : ℕ) → at + k ≤ j → T (rising j ps) → T (free at k ps)
rising_free [] at k j h t = tt
rising_free (p ∷ ps) at k j h t =
    let s = and_yes (leb j p.at) (rising (p.at + p.width) ps) t in
    let l = leb→le j p.at s.0 in
    and_both (apart p.at p.width at k) (free at k ps) (apart_of p.at p.width at k (inl (omega arith)))
    (rising_free ps at k (p.at + p.width) (omega arith) s.1)
  where
    and_both : (a b : Bool) → T a → T b → T (a && b)
    and_both true b x y = y
    and_both false b x y = absurd x

-- and place i of them starts at j or later
rising_at : (ps : List Part) (j i : ℕ) → i < length ps → T (rising j ps) → j ≤ (nth ps i).at
rising_at [] j i h t = absurd (omega arith)
rising_at (p ∷ ps) j zero h t = leb→le j p.at (and_yes (leb j p.at) (rising (p.at + p.width) ps) t).0
rising_at (p ∷ ps) j (suc i) h t =
    let s = and_yes (leb j p.at) (rising (p.at + p.width) ps) t in
    let l = leb→le j p.at s.0 in
    let r = rising_at ps (p.at + p.width) i (omega arith) s.1 in
    omega arith

own_from : (ps : List Part) (j i v w : ℕ) → T (rising j ps) → i < length ps
    → reads_at ps (put_at ps i v w) ≡ set (reads_at ps w) i (v % 2 ^ (nth ps i).width)
own_from [] j i v w t h = absurd (omega arith)
own_from (p ∷ ps) j zero v w t h =
    let s = and_yes (leb j p.at) (rising (p.at + p.width) ps) t in
    ap₂ (λ (n : ℕ) (ns : List ℕ). n ∷ ns) (replaced_same p.at p.width v w)
    (free_same ps p.at p.width v w (rising_free ps p.at p.width (p.at + p.width) (omega arith) s.1))
own_from (p ∷ ps) j (suc i) v w t h =
    let s = and_yes (leb j p.at) (rising (p.at + p.width) ps) t in
    let l : p.at + p.width ≤ (nth ps i).at = rising_at ps (p.at + p.width) i (omega arith) s.1 in
    ap₂ (λ (n : ℕ) (ns : List ℕ). n ∷ ns)
    (replaced_apart (nth ps i).at (nth ps i).width v w p.at p.width (apart_of (nth ps i).at (nth ps i).width p.at p.width (inl l)))
    (own_from ps (p.at + p.width) i v w s.1 (omega arith))

-- bits put at place i are the number read there, and no other number changes
pub own_bits : (ps : List Part) → T (rising 0 ps) → (i v w : ℕ) → T (ltb i (length ps))
    → reads_at ps (put_at ps i v w) ≡ set (reads_at ps w) i (v % 2 ^ (nth ps i).width)
own_bits ps t i v w h = own_from ps 0 i v w t (ltb→lt i (length ps) h)

-- ---- the write-back

pub read_is : (x : Words) → write_back_of x ≡ made (reads_at places0 x.word0) (reads_at places1 x.word1)
unfolding made write_back_of
read_is x = refl

module _ (x : Words) (at k v : ℕ) where
  -- reserved bits of word 0, and of word 1, change nothing that a reader returns
  pub reserved0 : T (free at k places0) → write_back_of (record { word0 = replaced at k v x.word0; word1 = x.word1 }) ≡ write_back_of x
  reserved0 t =
      read_is _ ∙ ap (λ (ms : List ℕ). made ms (reads_at places1 x.word1)) (free_same places0 at k v x.word0 t) ∙ sym (read_is x)

  pub reserved1 : T (free at k places1) → write_back_of (record { word0 = x.word0; word1 = replaced at k v x.word1 }) ≡ write_back_of x
  reserved1 t =
      read_is _ ∙ ap (λ (ns : List ℕ). made (reads_at places0 x.word0) ns) (free_same places1 at k v x.word1 t) ∙ sym (read_is x)

module _ (x : Words) (i v : ℕ) where
  -- each field is read at its own bits: put at place i of a word, a value's low bits are that field, and every other field is as before
  pub own0 : T (ltb i (length places0)) → write_back_of (record { word0 = put_at places0 i v x.word0; word1 = x.word1 })
      ≡ made (set (reads_at places0 x.word0) i (v % 2 ^ (nth places0 i).width)) (reads_at places1 x.word1)
  own0 h = read_is _ ∙ ap (λ (ms : List ℕ). made ms (reads_at places1 x.word1)) (own_bits places0 tt i v x.word0 h)

  pub own1 : T (ltb i (length places1)) → write_back_of (record { word0 = x.word0; word1 = put_at places1 i v x.word1 })
      ≡ made (reads_at places0 x.word0) (set (reads_at places1 x.word1) i (v % 2 ^ (nth places1 i).width))
  own1 h = read_is _ ∙ ap (λ (ns : List ℕ). made (reads_at places0 x.word0) ns) (own_bits places1 tt i v x.word1 h)

-- the bits that Intel's tables name reserved: bits 15:0 of word 0; status 8:5, 11 and 17:16, error 2:0, 5 and 7, bits 29:27, and length 25:14
pub reserved_bits : T (free 0 16 places0 && (free 5 4 places1 && (free 11 1 places1 && (free 16 2 places1 && (free 19 3 places1 && (free 24 1 places1 && (free 26 1 places1 && (free 27 3 places1 && free 52 12 places1))))))))
reserved_bits = tt
