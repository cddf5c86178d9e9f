-- Rules as tests, and the checks of a call in their order (01, "Numbers that come back").
-- Assumes nothing.
use Rattle.std.specs.Prelude.{ℕ, zero, suc, ◌%◌, ◌<◌, ◌≡◌, Bool, true, false, not, ◌&&◌, ◌||◌, cond, List, [], ◌∷◌, leb, eqb, length, get_or, Result, Ok, Err, ⊤, is_ok}
use Rattle.rules.specs.declared.Refusal.{Refusal}
use Rattle.rules.specs.declared.Refusal.TheVariants.{WrongRecord, WrongAddress, NoRoom, NotYet, Contradiction, WrongPieces, WrongRequest, Crowded, WrongInterrupt, WrongLimit, WrongLength, AfterShutdown}

infix 68 ◌when◌ ◌is◌
-- a number between two bounds, and one that is besides a multiple of a step
abbrev pub within : ℕ → ℕ → ℕ → Bool
within low high n = leb low n && leb n high

abbrev pub in_steps : ℕ → ℕ → ℕ → ℕ → Bool
in_steps low high step n = within low high n && eqb (n % step) 0

-- one of a list of causes holds
abbrev pub any_from : Bool → List Bool → Bool
any_from b [] = b
any_from b (c ∷ cs) = any_from (b || c) cs

abbrev pub any_of : List Bool → Bool
any_of bs = any_from false bs

-- all of 0, 1, .. n - 1 pass a test
unfoldable pub all_below : ℕ → (ℕ → Bool) → Bool
all_below zero t = true
all_below (suc n) t = t n && all_below n t

-- ---- values by their numbers

-- a line of a list of values: the value of a number
pub record Line (A : Type 0) : Type 0 where
  pub number : ℕ
  pub value : A

abbrev pub ◌is◌ : {A : Type 0} → ℕ → A → Line A
n is a = record { number = n; value = a }

-- the value of a number by the first line that has it, or another value where none has
abbrev pub listed_at : {A : Type 0} → List (Line A) → A → ℕ → A
listed_at [] other n = other
listed_at (l ∷ ls) other n = cond (eqb n l.number) l.value (listed_at ls other n)

-- ---- what a call answers: done, or why it refuses, with the numbers that come back (02 has those from 10 on)

abbrev pub Answer : Type 0
Answer = Result ⊤ Refusal

abbrev pub done : Answer
done = Ok tt

-- 1 the record or a lent length is wrong, 2 an address, 3 there is no room, 4 nothing is complete yet, 5 what was written contradicts the rules, 6 the
-- pieces are wrong, 7 the request, 8 a segment touches too many pieces, 9 the interrupt request is wrong, 10 the limit, 11 the length, 12 after a shutdown
abbrev pub number : Refusal → ℕ
number WrongRecord = 1
number WrongAddress = 2
number NoRoom = 3
number NotYet = 4
number Contradiction = 5
number WrongPieces = 6
number WrongRequest = 7
number Crowded = 8
number WrongInterrupt = 9
number WrongLimit = 10
number WrongLength = 11
number AfterShutdown = 12

abbrev pub number_of : Answer → ℕ
number_of (Ok u) = 0
number_of (Err r) = number r

-- what a call answers that gives something back where it is done
abbrev pub answered : {A : Type 0} → Result A Refusal → Answer
answered (Ok a) = done
answered (Err r) = Err r

-- the answer of a number: 0 is done, and a number above 12 stands for no answer of its own
abbrev pub answer_at : ℕ → Answer
answer_at =
    listed_at
    (0 is done
    ∷ 1 is Err WrongRecord
    ∷ 2 is Err WrongAddress
    ∷ 3 is Err NoRoom
    ∷ 4 is Err NotYet
    ∷ 5 is Err Contradiction
    ∷ 6 is Err WrongPieces
    ∷ 7 is Err WrongRequest
    ∷ 8 is Err Crowded
    ∷ 9 is Err WrongInterrupt
    ∷ 10 is Err WrongLimit
    ∷ 11 is Err WrongLength
    ∷ 12 is Err AfterShutdown
    ∷ [])
    (Err WrongRecord)

-- ---- the checks of a call

-- a check of a call: what it answers, and the cause that it answers it for
pub record Check : Type 0 where
  pub answer : Answer
  pub cause : Bool

-- by the paper's number
abbrev pub ◌when◌ : ℕ → Bool → Check
n when b = record { answer = answer_at n; cause = b }

-- the checks run in their order: the first whose cause holds answers, and where none does it is done
abbrev pub answer_of : List Check → Answer
answer_of [] = done
answer_of (c ∷ cs) = cond c.cause c.answer (answer_of cs)

-- one number for several causes: a check for each of them
abbrev pub each : ℕ → List Bool → List Check
each n [] = []
each n (b ∷ bs) = n when b ∷ each n bs

abbrev pub nth : List Check → ℕ → Check
nth cs i = get_or cs i (0 when false)

-- each check refuses: none is done
abbrev pub refusing : List Check → Bool
refusing [] = true
refusing (c ∷ cs) = not (is_ok c.answer) && refusing cs

-- check i is the first whose cause holds, and it answers a
pub record Answers (cs : List Check) (a : Answer) (i : ℕ) : Type 0 where
  pub within_list : i < length cs
  pub answer_is : (nth cs i).answer ≡ a
  pub cause_holds : (nth cs i).cause ≡ true
  pub none_before : (j : ℕ) → j < i → (nth cs j).cause ≡ false
