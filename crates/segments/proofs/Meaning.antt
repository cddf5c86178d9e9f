-- What the tests of `Touch` say: `holds` and `touches` that there is a byte, `is_crowded` that there is a segment. Assumes nothing.
use Rattle.std.proofs.Common.{ℕ, zero, suc, ◌+◌, ◌*◌, ◌≤◌, ◌<◌, min, max, ◌≡◌, refl, sym, ◌∙◌, subst, Bool, true, false, ◌||◌, true≢false, List, ◌↔◌, inl, inr, ⊎_elim, arith, mul-zero, mul-le-mul_left, lt-ltb, ltb-true, ltb, length}
use mathlib.Core.Bool.{and-eq-true_iff, not-eq-not}
use Rattle.segments.specs.Touch.{most_touched, count_below, start_of, holds, InPiece, covers_from, covers_upto, OfSegment, touches, touched, is_crowded}
use Rattle.segments.proofs.Count.{some_is, count_le}

pub holds_is : (ls : List ℕ) (from upto i : ℕ) → (holds ls from upto i ≡ true) ↔ ((b : ℕ) × InPiece ls i b × (from ≤ b) × (b < upto))
holds_is ls from upto i = (
  λ e. let h = ltb-true (max (start_of ls i) from) (min (start_of ls (suc i)) upto) e in (max (start_of ls i) from, omega arith, omega arith, omega arith),
  λ (b, p, f, u). lt-ltb (max (start_of ls i) from) (min (start_of ls (suc i)) upto) (omega arith),
)

-- over 8 pieces hold a header byte or one from `from` up to `upto`
abbrev Many : List ℕ → ℕ → ℕ → ℕ → Type 0
Many ls header from upto = most_touched < count_below (length ls) (λ i. holds ls 0 header i || holds ls from upto i)

-- a segment that touches over 8 stands below tlen, or where mss is 0 is no other than segment 0
below : (ls : List ℕ) (header mss tlen k : ℕ) → k * mss < tlen → most_touched < touched ls header mss tlen k
    → (j : ℕ) × (j < tlen) × (j * mss < tlen) × (most_touched < touched ls header mss tlen j)
below ls header zero tlen k b m =
    let from : covers_from header 0 k ≡ covers_from header 0 0 = rw (mul-zero k) in
    let upto : covers_upto header 0 tlen k ≡ covers_upto header 0 tlen 0 = rw (mul-zero (k + 1)) in
    (0, omega arith, omega arith, subst (λ (u : ℕ). Many ls header (covers_from header 0 0) u) upto (subst (λ (f : ℕ). Many ls header f (covers_upto header 0 tlen k)) from m))
below ls header (suc s) tlen k b m = (k, omega (arith, mul-le-mul_left {m = 1} {n = suc s} k (omega arith)), b, m)

module _ (ls : List ℕ) (header mss tlen : ℕ) where
  pub touches_is : (k i : ℕ) → (touches ls header mss tlen k i ≡ true) ↔ ((b : ℕ) × InPiece ls i b × OfSegment header mss tlen k b)
  touches_is k i = by (holds ls 0 header i) refl
    where
      by : (h : Bool) → holds ls 0 header i ≡ h → (h || holds ls (covers_from header mss k) (covers_upto header mss tlen k) i ≡ true) ↔ ((b : ℕ) × InPiece ls i b × OfSegment header mss tlen k b)
      by true e = (λ _. let (b, p, f, u) = (holds_is ls 0 header i).0 e in (b, p, inl u), λ _. refl)
      by false e = (
        λ q. let (b, p, f, u) = (holds_is ls (covers_from header mss k) (covers_upto header mss tlen k) i).0 q in (b, p, inr (f, u)),
        λ (b, p, o). ⊎_elim (λ u. absurd (true≢false (sym ((holds_is ls 0 header i).1 (b, p, omega arith, u)) ∙ e))) (λ (f, u). (holds_is ls (covers_from header mss k) (covers_upto header mss tlen k) i).1 (b, p, f, u)) o,
      )

  -- some segment touches over 8 pieces, and the converse
  pub crowded_is : (is_crowded ls header mss tlen ≡ true) ↔ ((k : ℕ) × (k * mss < tlen) × (most_touched < touched ls header mss tlen k))
  unfolding is_crowded
  crowded_is = (
    λ e. let (k, _, q) = (some_is _ tlen).0 e in let (b, m) = (and-eq-true_iff (ltb (k * mss) tlen) (ltb most_touched (touched ls header mss tlen k))).0 q in (k, ltb-true _ _ b, ltb-true _ _ m),
    λ (k, b, m). let (j, l, c, n) = below ls header mss tlen k b m in (some_is _ tlen).1 (j, l, (and-eq-true_iff _ _).1 (lt-ltb _ _ c, lt-ltb _ _ n)),
  )

  -- at most 8 pieces, as in a plain send: no segment touches over 8
  pub touched_few : length ls ≤ most_touched → (k : ℕ) → touched ls header mss tlen k ≤ most_touched
  touched_few l k = omega (arith, count_le (touches ls header mss tlen k) (length ls))

  pub not_crowded : ((k : ℕ) → k * mss < tlen → most_touched < touched ls header mss tlen k → ⊥) → is_crowded ls header mss tlen ≡ false
  not_crowded none = (not-eq-not {b = false}).0 (λ e. let (k, b, m) = crowded_is.0 e in none k b m)

  pub crowded_few : length ls ≤ most_touched → is_crowded ls header mss tlen ≡ false
  crowded_few l = not_crowded (λ k b m. omega (arith, touched_few l k))
