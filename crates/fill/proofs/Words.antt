-- A value joined by `|` into a field that is 0, and so a piece's length into what is alike on all pieces of a send.
-- Assumes nothing.
use Rattle.std.proofs.Common.{ℕ, ◌+◌, ◌*◌, ◌/◌, ◌%◌, ◌^◌, ◌<◌, ◌≡◌, sym, ap, ap₂, ◌∙◌, subst, Bool, [], ◌∷◌, mod-lt, zero-mul, zero-add, add-zero, lt_of_lt_of_le, arith, bit_or, pow_pos, pow-add, pow_mono}
use lib.Arith.{digits_lt}
use lib.Bits.{or_block, or_shifted_r, or_zero_r}
use lib.Pow.{split, mod-pow-add}
use Rattle.field.specs.Field.{field_of, placed, word_of}
use Rattle.field.proofs.Laws.{reads}
use Rattle.descriptor.specs.Words.{data_parts, data_word, length_line}
use Rattle.request.specs.declared.Request.{Request}
use Rattle.request.specs.Request.{data_of}

-- over position and width: the word's bits above the field, and those below it, stay
pub or_put : (at k v w : ℕ) → field_of at k w ≡ 0 → v < 2 ^ k → bit_or w (v * 2 ^ at) ≡ w + v * 2 ^ at
or_put at k v w z hv =
    let n : ℕ = k + at in
    let hi : ℕ = w / 2 ^ n in
    let lo : ℕ = w % 2 ^ at in
    let low : w % 2 ^ n ≡ lo = mod-pow-add w k at ∙ ap (λ (x : ℕ). x * 2 ^ at + lo) z ∙ omega arith in
    let whole : w ≡ hi * 2 ^ n + lo = omega (arith, split w n) in
    let up : v * 2 ^ at < 2 ^ n = omega (arith, subst (λ (x : ℕ). v * 2 ^ at + 0 < x) (sym (pow-add 2 k at)) (digits_lt hv (pow_pos at))) in
    let l : lo < 2 ^ n = lt_of_lt_of_le (mod-lt w (pow_pos at)) (pow_mono (omega arith)) in
    ap₂ bit_or whole (sym (ap (λ (x : ℕ). x + v * 2 ^ at) (zero-mul (2 ^ n)) ∙ zero-add (v * 2 ^ at)))
    ∙ or_block n hi 0 lo (v * 2 ^ at) l up
    ∙ ap₂ (λ (x y : ℕ). x * 2 ^ n + y) (or_zero_r hi) (or_shifted_r v at lo (mod-lt w (pow_pos at)))
    ∙ omega arith

module _ (request : Request) (last : Bool) where
  -- a piece's length joined into what is alike on all pieces, which has no length yet
  pub with_length : (length : ℕ) → bit_or (data_word (data_of request 0 last)) (word_of (length_line length ∷ [])) ≡ data_word (data_of request length last)
  with_length length =
      ap (bit_or (data_word (data_of request 0 last))) (add-zero (placed 34 14 length))
      ∙ or_put 34 14 (length % 2 ^ 14) (data_word (data_of request 0 last)) (reads (data_parts (data_of request 0 last)) tt 10 tt) (mod-lt length (pow_pos 14))
      ∙ omega arith
