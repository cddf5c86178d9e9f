-- The pieces of a send as a row of slots: those before the last and the last; and a segmented send's context descriptor before them.
-- Assumes nothing.
use Rattle.std.proofs.Common.{ℕ, ◌+◌, ◌-◌, ◌*◌, ◌%◌, ◌^◌, ◌≤◌, ◌<◌, ◌≡◌, sym, ap, ap₂, ◌∙◌, true, false, List, [], ◌∷◌, add-zero, mod-eq_of_lt, arith, eq-eqb, ne_eqb, bit_or, shl_exact, length, get_or}
use Rattle.field.specs.Field.{placed, word_of}
use Rattle.slots.specs.Slots.{slot_at}
use Rattle.slots.specs.Memory.{store, store_run}
use Rattle.slots.proofs.Steps.{slot_here}
use Rattle.slots.proofs.Rows.{row_none, row_more}
use Rattle.descriptor.specs.Words.{data_word, length_line}
use Rattle.request.specs.declared.Request.{Request}
use Rattle.request.specs.Request.{slots_of, data_of}
use Rattle.request.proofs.Slots.{slots_sum}
use Rattle.fill.specs.Descriptors.{piece_numbers, context_numbers, descriptor}
use Rattle.fill.specs.Steps.{leading_numbers}
use Rattle.fill.proofs.Rows.{row_agree, row_join}
use Rattle.fill.proofs.Words.{with_length}
use Rattle.fill.proofs.Places.{context_at, piece_at}

-- one piece more before the last, as the loop goes on: `alike | length << 34`
pub put_next : (alike : ℕ) (addresses lengths : List ℕ) (size start : ℕ) (ring : List ℕ) (i : ℕ) {slot : ℕ} {ring₁ ring₂ : List ℕ}
    → ring₁ ≡ store_run 2 size (leading_numbers alike addresses lengths) ring start i
    → slot ≡ slot_at start size i
    → get_or lengths i 0 < 2 ^ 14
    → ring₂ ≡ store 2 ring₁ slot (get_or addresses i 0 ∷ bit_or alike (get_or lengths i 0 * 2 ^ 34 % 2 ^ 64) ∷ [])
    → ring₂ ≡ store_run 2 size (leading_numbers alike addresses lengths) ring start (i + 1)
put_next alike addresses lengths size start ring i {slot} {ring₁} {ring₂} r s h p =
    let f = leading_numbers alike addresses lengths in
    let l : ℕ = get_or lengths i 0 in
    let word : l * 2 ^ 34 % 2 ^ 64 ≡ word_of (length_line l ∷ []) = shl_exact 14 34 64 h (omega arith) ∙ ap (λ (x : ℕ). x * 2 ^ 34) (sym (mod-eq_of_lt h)) ∙ sym (add-zero (placed 34 14 l)) in
    p
    ∙ ap (λ (w : ℕ). store 2 ring₁ slot (get_or addresses i 0 ∷ bit_or alike w ∷ [])) word
    ∙ ap₂ (λ (m : List ℕ) (t : ℕ). store 2 m t (f i)) r s
    ∙ sym (row_more 2 size f ring start i)

module _ (request : Request) (size start : ℕ) where
  -- the context descriptor, or none
  pub put_context : (ring : List ℕ) → request.segmented ≡ true → start < size → {word : ℕ} {ring₁ : List ℕ}
      → (0 ∷ word ∷ []) ≡ context_numbers request
      → ring₁ ≡ store 2 ring start (0 ∷ word ∷ [])
      → ring₁ ≡ store_run 2 size (λ _. context_numbers request) ring start (slots_of request 0)
  put_context ring t l w p =
      let f : ℕ → List ℕ = λ _. context_numbers request in
      let one = row_more 2 size f ring start 0 ∙ ap (λ (m : List ℕ). store 2 m (slot_at start size 0) (f 0)) (row_none 2 size f ring start) in
      rw t (p ∙ ap₂ (store 2 ring) (sym (slot_here start size l)) w ∙ sym one)

  pub put_none : (ring : List ℕ) → request.segmented ≡ false → ring ≡ store_run 2 size (λ _. context_numbers request) ring start (slots_of request 0)
  put_none ring t = rw t (sym (row_none 2 size (λ _. context_numbers request) ring start))

module _ (request : Request) (addresses lengths : List ℕ) (size start : ℕ) where
  -- a piece before the last one
  leading_is : (alike k : ℕ) → alike ≡ data_word (data_of request 0 false) → k < length lengths - 1 → leading_numbers alike addresses lengths k ≡ piece_numbers request addresses lengths k
  leading_is alike k a l =
      rw (a, with_length request false (get_or lengths k 0), ne_eqb (k + 1) (length lengths) (λ e. omega arith))

  -- the pieces before the last, then the last
  pub put_last : (ring : List ℕ) → 1 ≤ length lengths → {alike slot word : ℕ} {ring₁ ring₂ : List ℕ} → alike ≡ data_word (data_of request 0 false)
      → ring₁ ≡ store_run 2 size (leading_numbers alike addresses lengths) ring start (length lengths - 1)
      → slot ≡ slot_at start size (length lengths - 1)
      → word ≡ data_word (data_of request (get_or lengths (length lengths - 1) 0) true)
      → ring₂ ≡ store 2 ring₁ slot (get_or addresses (length lengths - 1) 0 ∷ word ∷ [])
      → ring₂ ≡ store_run 2 size (piece_numbers request addresses lengths) ring start (length lengths)
  put_last ring some {alike} {slot} {word} {ring₁} {ring₂} a r s w p =
      let n : ℕ = length lengths - 1 in
      let e : n + 1 ≡ length lengths = omega arith in
      let f = piece_numbers request addresses lengths in
      let first : ring₁ ≡ store_run 2 size f ring start n = r ∙ row_agree 2 size (leading_numbers alike addresses lengths) f ring start n (λ k l. leading_is alike k a l) in
      let end : (get_or addresses n 0 ∷ word ∷ []) ≡ f n = rw (w, eq-eqb _ _ e) in
      p ∙ ap (store 2 ring₁ slot) end ∙ ap₂ (λ (m : List ℕ) (t : ℕ). store 2 m t (f n)) first s ∙ sym (row_more 2 size f ring start n) ∙ ap (store_run 2 size f ring start) e

  -- the context descriptor or none, then the pieces
  pub put_all : (ring : List ℕ) {first : ℕ} {ring₁ ring₂ : List ℕ}
      → ring₁ ≡ store_run 2 size (λ _. context_numbers request) ring start (slots_of request 0)
      → first ≡ slot_at start size (slots_of request 0)
      → ring₂ ≡ store_run 2 size (piece_numbers request addresses lengths) ring₁ first (length lengths)
      → ring₂ ≡ store_run 2 size (descriptor request addresses lengths) ring start (slots_of request (length lengths))
  put_all ring {first} {ring₁} {ring₂} c s r =
      let f = descriptor request addresses lengths in
      let a : ℕ = slots_of request 0 in
      let before : ring₁ ≡ store_run 2 size f ring start a = c ∙ row_agree 2 size (λ _. context_numbers request) f ring start a (context_at request addresses lengths) in
      let later : (k : ℕ) → k < length lengths → piece_numbers request addresses lengths k ≡ f (a + k) = λ k _. sym (piece_at request addresses lengths k) ∙ ap f (sym (slots_sum request k)) in
      r
      ∙ rw (before, s) (row_agree 2 size (piece_numbers request addresses lengths) (λ k. f (a + k)) _ _ (length lengths) later)
      ∙ sym (row_join 2 size f ring start a (length lengths))
      ∙ ap (store_run 2 size f ring start) (slots_sum request (length lengths))
