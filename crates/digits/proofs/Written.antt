-- The digits of a number: one to twenty, without a leading zero, and read back they give the number. Assumes nothing.
use Rattle.std.proofs.Common.{ℕ, zero, suc, ◌+◌, ◌-◌, ◌*◌, ◌/◌, ◌%◌, ◌^◌, ◌≤◌, ◌<◌, max, ◌≡◌, refl, ap, sym, Bool, true, false, List, [], ◌∷◌, ◌++◌, length, set, ltb, arith, pow-suc, lt-ltb, le-ltb, ltb-true, ltb-false, length-append}
use lib.Seq.{sets}
use Rattle.digits.proofs.Places.{sets_last}
use Rattle.digits.specs.Digits.{digits_in, digits_of}

-- a digit, and those before it
module _ (k n : ℕ) where
  in_last : n < 10 → digits_in (suc k) n ≡ (48 + n) ∷ []
  unfolding digits_in
  in_last h = rw (lt-ltb n 10 h)

  in_step : 10 ≤ n → digits_in (suc k) n ≡ digits_in k (n / 10) ++ ((48 + n % 10) ∷ [])
  unfolding digits_in
  in_step h = rw (le-ltb n 10 h)

  below_tenth : n < 10 ^ suc k → n / 10 < 10 ^ k
  below_tenth h = omega (arith, rw (pow-suc 10 k) at h)

-- what holds of the digits of each number follows from its last digit and from those before it
module _ (P : ℕ → ℕ → List ℕ → Type 0)
    (last : (k n : ℕ) → n < 10 → P (suc k) n ((48 + n) ∷ []))
    (step : (k n : ℕ) (ds : List ℕ) → 10 ≤ n → 0 < k → P k (n / 10) ds → P (suc k) n (ds ++ ((48 + n % 10) ∷ []))) where
  pub each : (k n : ℕ) → 0 < k → n < 10 ^ k → P k n (digits_in k n)
  each zero n p h = absurd (omega arith)
  each (suc k) n p h = go (ltb n 10) refl (λ q. each k (n / 10) q (below_tenth k n h))
    where
      go : (t : Bool) → ltb n 10 ≡ t → (0 < k → P k (n / 10) (digits_in k (n / 10))) → P (suc k) n (digits_in (suc k) n)
      go true q ih = rw (in_last k n (ltb-true _ _ q)) (last k n (ltb-true _ _ q))
      go false q ih = rw (in_step k n (ltb-false _ _ q)) (step k n _ (ltb-false _ _ q) (some k h (ltb-false _ _ q)) (ih (some k h (ltb-false _ _ q))))
        where
          some : (k : ℕ) → n < 10 ^ suc k → 10 ≤ n → 0 < k
          some zero h l = absurd (omega arith)
          some (suc k) h l = omega arith

-- one to twenty digits
in_some : (k n : ℕ) → 0 < k → n < 10 ^ k → 1 ≤ length (digits_in k n)
in_some = each (λ k n ds. 1 ≤ length ds) (λ k n h. omega arith) (λ k n ds h p l. omega (arith, length-append ds ((48 + n % 10) ∷ [])))

in_short : (k n : ℕ) → 0 < k → n < 10 ^ k → length (digits_in k n) ≤ k
in_short = each (λ k n ds. length ds ≤ k) (λ k n h. omega arith) (λ k n ds h p l. omega (arith, length-append ds ((48 + n % 10) ∷ [])))

module _ (n : ℕ) (h : n < 2 ^ 64) where
  pub digits_some : 1 ≤ length (digits_of n)
  unfolding digits_of
  digits_some = in_some 20 n (omega arith) (omega arith)

  pub digits_short : length (digits_of n) ≤ 20
  unfolding digits_of
  digits_short = in_short 20 n (omega arith) (omega arith)

-- a number is below the power of ten that its digits count
below_in : (k n : ℕ) → 0 < k → n < 10 ^ k → n < 10 ^ length (digits_in k n)
below_in = each (λ k n ds. n < 10 ^ length ds) (λ k n h. omega arith)
    (λ k n ds h p l. let s : length (ds ++ ((48 + n % 10) ∷ [])) ≡ suc (length ds) = omega (arith, length-append ds ((48 + n % 10) ∷ [])) in rw (s, pow-suc 10 (length ds)) (omega (arith, l)))

pub below_digits : (n : ℕ) → n < 2 ^ 64 → n < 10 ^ length (digits_of n)
unfolding digits_of
below_digits n h = below_in 20 n (omega arith) (omega arith)

ten_pos : (e : ℕ) → 1 ≤ 10 ^ e
ten_pos zero = omega arith
ten_pos (suc e) = rw (pow-suc 10 e) (omega (arith, ten_pos e))

-- one more than the power of ten that the number reaches
log_in : (k n : ℕ) → 0 < k → n < 10 ^ k → (e : ℕ) → 10 ^ e ≤ n → n < 10 * 10 ^ e → length (digits_in k n) ≡ 1 + e
log_in = each (λ k n ds. (e : ℕ) → 10 ^ e ≤ n → n < 10 * 10 ^ e → length ds ≡ 1 + e) (λ k n h. one n h) (λ k n ds h p l. more n ds h l)
  where
    one : (n : ℕ) → n < 10 → (e : ℕ) → 10 ^ e ≤ n → n < 10 * 10 ^ e → 1 ≡ 1 + e
    one n h zero a b = refl
    one n h (suc e) a b = absurd (omega (arith, rw (pow-suc 10 e) at a, ten_pos e))

    more : (n : ℕ) (ds : List ℕ) → 10 ≤ n → ((e : ℕ) → 10 ^ e ≤ n / 10 → n / 10 < 10 * 10 ^ e → length ds ≡ 1 + e) → (e : ℕ) → 10 ^ e ≤ n → n < 10 * 10 ^ e → length (ds ++ ((48 + n % 10) ∷ [])) ≡ 1 + e
    more n ds h l zero a b = absurd (omega arith)
    more n ds h l (suc e) a b = omega (arith, length-append ds ((48 + n % 10) ∷ []), l e (omega (arith, rw (pow-suc 10 e) at a)) (omega (arith, rw (pow-suc 10 e) at b)))

pub count_of_digits : (n e : ℕ) → n < 2 ^ 64 → 10 ^ e ≤ max n 1 → max n 1 < 10 * 10 ^ e → length (digits_of n) ≡ 1 + e
unfolding digits_of
count_of_digits zero e h a b = rw (in_last 19 0 (omega arith)) (none e a)
  where
    none : (e : ℕ) → 10 ^ e ≤ max 0 1 → 1 ≡ 1 + e
    none zero a = refl
    none (suc e) a = absurd (omega (arith, rw (pow-suc 10 e) at a, ten_pos e))
count_of_digits (suc n) e h a b = log_in 20 (suc n) (omega arith) (omega arith) e (omega arith) (omega arith)

-- so one digit below ten, 0 too
pub one_digit : (n : ℕ) → n < 10 → length (digits_of n) ≡ 1
one_digit n h = count_of_digits n 0 (omega arith) (omega arith) (omega arith)

-- the last k digits of a number, zeros before it too
abbrev pub lasts : ℕ → ℕ → List ℕ
lasts zero n = []
lasts (suc k) n = lasts k (n / 10) ++ ((48 + n % 10) ∷ [])

pub length-lasts : (k n : ℕ) → length (lasts k n) ≡ k
length-lasts zero n = refl
length-lasts (suc k) n = omega (arith, length-append (lasts k (n / 10)) ((48 + n % 10) ∷ []), length-lasts k (n / 10))

lasts_in : (k n : ℕ) → 0 < k → n < 10 ^ k → digits_in k n ≡ lasts (length (digits_in k n)) n
lasts_in = each (λ k n ds. ds ≡ lasts (length ds) n) (λ k n h. ap (λ (d : ℕ). (48 + d) ∷ []) (omega arith))
    (λ k n ds h p e. let s : length (ds ++ ((48 + n % 10) ∷ [])) ≡ suc (length ds) = omega (arith, length-append ds ((48 + n % 10) ∷ [])) in rw s (ap (λ (l : List ℕ). l ++ ((48 + n % 10) ∷ [])) e))

pub lasts_all : (k n : ℕ) → n < 2 ^ 64 → k ≡ length (digits_of n) → lasts k n ≡ digits_of n
unfolding digits_of
lasts_all k n h e = rw e (sym (lasts_in 20 n (omega arith) (omega arith)))

-- the last of the digits is stored, and those before it are left
pub spell_step : (out : List ℕ) (at left n : ℕ) → 0 < left → sets (set out (at + (left - 1)) (48 + n % 10)) at (lasts (left - 1) (n / 10)) ≡ sets out at (lasts left n)
spell_step out at zero n h = absurd (omega arith)
spell_step out at (suc k) n h =
    let ds = lasts k (n / 10) in
    let e : at + (suc k - 1) ≡ at + length ds = omega (arith, length-lasts k (n / 10)) in
    let m : suc k - 1 ≡ k = omega arith in
    rw (e, m) (sym (sets_last out at ds (48 + n % 10)))

-- and what is left of the number has a digit less
pub below_tenth_of : (left n : ℕ) → 1 < left → n < 10 ^ left → n / 10 < 10 ^ (left - 1)
below_tenth_of zero n l h = absurd (omega arith)
below_tenth_of (suc k) n l h = let m : suc k - 1 ≡ k = omega arith in rw m (below_tenth k n h)

-- until it is its first digit
pub spell_first : (out : List ℕ) (at n : ℕ) → n < 10 → set out at (48 + n) ≡ sets out at (lasts 1 n)
spell_first out at n h = let m : n % 10 ≡ n = omega arith in rw m refl
