-- Which descriptor of a send stands where: piece i comes after as many slots as i pieces take, and the context descriptor first.
-- Assumes nothing.
use Rattle.std.proofs.Common.{ℕ, ◌+◌, ◌-◌, ◌<◌, ◌≡◌, refl, sym, ap, Bool, true, false, cond, List, arith, ne_eqb, eqb, length}
use Rattle.request.specs.declared.Request.{Request}
use Rattle.request.specs.Request.{slots_of}
use Rattle.fill.specs.Descriptors.{piece_numbers, context_numbers, descriptor}

-- more pieces take more slots
pub slots_more : (request : Request) {i n : ℕ} → i < n → slots_of request i < slots_of request n
slots_more request {i} {n} l = go request.segmented
  where
    go : (b : Bool) → cond b (i + 1) i < cond b (n + 1) n
    go true = omega arith
    go false = l

module _ (request : Request) (addresses lengths : List ℕ) where
  pub two_words : (k : ℕ) → length (descriptor request addresses lengths k) ≡ 2
  two_words k = go request.segmented (eqb k 0)
    where
      go : (b z : Bool) → length (cond b (cond z (context_numbers request) (piece_numbers request addresses lengths (k - 1))) (piece_numbers request addresses lengths k)) ≡ 2
      go true true = refl
      go true false = refl
      go false z = refl

  pub context_first : request.segmented ≡ true → descriptor request addresses lengths 0 ≡ context_numbers request
  context_first t = rw t

  pub context_at : (k : ℕ) → k < slots_of request 0 → context_numbers request ≡ descriptor request addresses lengths k
  context_at k l = go request.segmented refl l
    where
      go : (b : Bool) → request.segmented ≡ b → k < cond b (0 + 1) 0 → context_numbers request ≡ descriptor request addresses lengths k
      go true t h = let first : k ≡ 0 = omega arith in rw first (sym (context_first t))
      go false t h = absurd (omega arith)

  -- a piece after the context descriptor
  after_context : (k : ℕ) → cond (eqb (k + 1) 0) (context_numbers request) (piece_numbers request addresses lengths (k + 1 - 1)) ≡ piece_numbers request addresses lengths k
  after_context k =
      rw (ne_eqb (k + 1) 0 (λ e. omega arith))
      (ap (λ (j : ℕ). piece_numbers request addresses lengths j) {x = k + 1 - 1} {y = k} (omega arith))

  pub piece_at : (i : ℕ) → descriptor request addresses lengths (slots_of request i) ≡ piece_numbers request addresses lengths i
  piece_at i = go request.segmented
    where
      go : (b : Bool) → cond b (cond (eqb (cond b (i + 1) i) 0) (context_numbers request) (piece_numbers request addresses lengths (cond b (i + 1) i - 1))) (piece_numbers request addresses lengths (cond b (i + 1) i)) ≡ piece_numbers request addresses lengths i
      go true = after_context i
      go false = refl
