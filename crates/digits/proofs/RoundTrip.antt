-- The digits of a 64-bit number are well written: one to twenty, no leading zero, and they read back as the number. Assumes nothing.
use Rattle.std.proofs.Common.{ℕ, ◌+◌, ◌%◌, ◌^◌, ◌<◌, ◌≡◌, refl, ◌∙◌, Bool, true, false, ◌&&◌, List, [], ◌∷◌, ◌++◌, length, get_or, Some, arith, le-leb, lt-ltb}
use mathlib.Core.List.{foldl-append}
use Rattle.decimal.specs.Numbers.{is_digit, all_digits, one_more, value_of, number_of}
use Rattle.digits.specs.Digits.{digits_in, digits_of, WellWritten}
use Rattle.digits.proofs.Written.{each, digits_some, digits_short}

digit_is : (d : ℕ) → d < 10 → is_digit (48 + d) ≡ true
digit_is d h = rw (le-leb 48 (48 + d) (omega arith), le-leb (48 + d) 57 (omega arith))

all_last : (ds : List ℕ) (b : ℕ) → all_digits ds ≡ true → is_digit b ≡ true → all_digits (ds ++ (b ∷ [])) ≡ true
all_last [] b p q = rw q
all_last (d ∷ ds) b p q = go (is_digit d) refl (λ e. all_last ds b e q) p
  where
    go : (t : Bool) → is_digit d ≡ t → (all_digits ds ≡ true → all_digits (ds ++ (b ∷ [])) ≡ true) → (is_digit d && all_digits ds) ≡ true → (is_digit d && all_digits (ds ++ (b ∷ []))) ≡ true
    go true e ih h = rw e (ih (rw e at h))
    go false e ih h = rw e (rw e at h)

value_in_lem : (k n : ℕ) → 0 < k → n < 10 ^ k → value_of (digits_in k n) ≡ n
value_in_lem = each (λ k n ds. value_of ds ≡ n) (λ k n h. omega arith)
    (λ k n ds h p e. foldl-append one_more 0 ds ((48 + n % 10) ∷ []) ∙ omega arith)

digits_in_lem : (k n : ℕ) → 0 < k → n < 10 ^ k → all_digits (digits_in k n) ≡ true
digits_in_lem = each (λ k n ds. all_digits ds ≡ true) (λ k n h. rw (digit_is n h)) (λ k n ds h p e. all_last ds (48 + n % 10) e (digit_is (n % 10) (omega arith)))

front : (ds es : List ℕ) → 48 < get_or ds 0 0 → 48 < get_or (ds ++ es) 0 0
front [] es h = absurd (omega arith)
front (d ∷ ds) es h = h

leads_in : (k n : ℕ) → 0 < k → n < 10 ^ k → 0 < n → 48 < get_or (digits_in k n) 0 0
leads_in = each (λ k n ds. 0 < n → 48 < get_or ds 0 0) (λ k n h p. omega arith) (λ k n ds h p e q. front ds ((48 + n % 10) ∷ []) (e (omega arith)))

module _ (n : ℕ) (h : n < 2 ^ 64) where
  value_of_lem : value_of (digits_of n) ≡ n
  unfolding digits_of
  value_of_lem = value_in_lem 20 n (omega arith) (omega arith)

  digits_of_lem : all_digits (digits_of n) ≡ true
  unfolding digits_of
  digits_of_lem = digits_in_lem 20 n (omega arith) (omega arith)

  leads_of : 0 < n → 48 < get_or (digits_of n) 0 0
  unfolding digits_of
  leads_of = leads_in 20 n (omega arith) (omega arith)

  read_of : number_of (digits_of n) ≡ Some n
  unfolding number_of
  read_of = rw (le-leb 1 (length (digits_of n)) (digits_some n h), le-leb (length (digits_of n)) 20 (digits_short n h), digits_of_lem, value_of_lem, lt-ltb n (2 ^ 64) h)

  pub well_written : WellWritten n
  well_written = record { value_back = value_of_lem; read_back = read_of; some = digits_some n h; few = digits_short n h; no_leading_zero = leads_of }
