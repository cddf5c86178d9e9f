-- Numbers as text: the digits that a number is written with.
-- Assumes nothing.
use Rattle.std.specs.Prelude.{ℕ, zero, suc, ◌+◌, ◌/◌, ◌%◌, ◌≤◌, ◌<◌, cond, List, [], ◌∷◌, ◌++◌, ◌≡◌, ltb, length, get_or, Some}
use Rattle.decimal.specs.Numbers.{value_of, number_of}

-- the digits of n without leading zeros, the last k at most
unfoldable pub digits_in : ℕ → ℕ → List ℕ
digits_in zero n = []
digits_in (suc k) n = cond (ltb n 10) ((48 + n) ∷ []) (digits_in k (n / 10) ++ ((48 + n % 10) ∷ []))

-- the digits of a number of at most twenty
unfoldable pub digits_of : ℕ → List ℕ
digits_of n = digits_in 20 n

-- the digits of n, k of them, fit a text from this place on
pub record Spelled (out : List ℕ) (at k n : ℕ) : Type 0 where
  pub count_is : k ≡ length (digits_of n)
  pub inside : at + k ≤ length out

-- what is promised of the digits of a number
pub record WellWritten (n : ℕ) : Type 0 where
  pub value_back : value_of (digits_of n) ≡ n
  pub read_back : number_of (digits_of n) ≡ Some n
  pub some : 1 ≤ length (digits_of n)
  pub few : length (digits_of n) ≤ 20
  pub no_leading_zero : 0 < n → 48 < get_or (digits_of n) 0 0
