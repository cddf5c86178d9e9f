-- Numbers at the ends of the rule. Assumes nothing.
use Rattle.std.proofs.Common.{◌≡◌, refl, [], ◌∷◌, Some, None}
use Rattle.decimal.specs.Numbers.{number_of}
use Rattle.digits.specs.Digits.{digits_in, digits_of}

-- leading zeros are allowed, twenty digits at most, and 2^64 - 1 is the largest number
pub six : number_of (48 ∷ 48 ∷ 54 ∷ []) ≡ Some 6
unfolding number_of
six = refl

pub empty : number_of [] ≡ None
unfolding number_of
empty = refl

pub largest : number_of (digits_of 18446744073709551615) ≡ Some 18446744073709551615
unfolding number_of digits_of digits_in
largest = refl

pub one_more : number_of (digits_of 18446744073709551616) ≡ None
unfolding number_of digits_of digits_in
one_more = refl

pub long : number_of (48 ∷ digits_of 18446744073709551615) ≡ None
unfolding number_of digits_of digits_in
long = refl

pub zero_is : digits_of 0 ≡ 48 ∷ []
unfolding digits_of digits_in
zero_is = refl
