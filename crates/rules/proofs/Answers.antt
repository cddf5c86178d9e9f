-- What a call answers: done or refused, and the numbers of both.
-- Assumes nothing.
use Rattle.std.proofs.Common.{ℕ, ◌≤◌, ◌≡◌, arith, eqb, eqb-true, refl, true, false, Ok, Err, is_ok, is_err, true≢false, sym, ◌∙◌}
use Rattle.rules.specs.Rules.{all_below, Answer, done, number_of, answer_at}
use Rattle.rules.proofs.Tests.{all_each}
use Rattle.rules.specs.declared.Refusal.TheVariants.{WrongRecord, WrongAddress, NoRoom, NotYet, Contradiction, WrongPieces, WrongRequest, Crowded, WrongInterrupt, WrongLimit, WrongLength, AfterShutdown}

-- done is the one answer that is no refusal
pub done_is : (a : Answer) → is_ok a ≡ true → a ≡ done
done_is (Ok tt) e = refl
done_is (Err r) e = absurd (true≢false (sym e))

pub refused_is : (a : Answer) → is_ok a ≡ false → a ≡ done → ⊥
refused_is a e d = true≢false (rw d at e)

pub done-is_ok : (a : Answer) → a ≡ done → is_ok a ≡ true
done-is_ok a e = rw e refl

pub refused-is_ok : (a : Answer) → (a ≡ done → ⊥) → is_ok a ≡ false
refused-is_ok (Ok tt) ne = absurd (ne refl)
refused-is_ok (Err r) ne = refl

-- by the test for a refusal
pub is_err-refused : (a : Answer) → is_err a ≡ true → a ≡ done → ⊥
is_err-refused a e d = true≢false (sym e ∙ rw d refl)

pub not_err-done : (a : Answer) → is_err a ≡ false → a ≡ done
not_err-done (Ok tt) e = refl
not_err-done (Err r) e = absurd (true≢false e)

pub done_or_not : (a : Answer) → Dec (a ≡ done)
done_or_not (Ok tt) = yes refl
done_or_not (Err r) = no (λ e. refused_is (Err r) refl e)

-- an answer comes back from its number, and a number from its answer
pub at_number : (a : Answer) → answer_at (number_of a) ≡ a
at_number (Ok tt) = refl
at_number (Err WrongRecord) = refl
at_number (Err WrongAddress) = refl
at_number (Err NoRoom) = refl
at_number (Err NotYet) = refl
at_number (Err Contradiction) = refl
at_number (Err WrongPieces) = refl
at_number (Err WrongRequest) = refl
at_number (Err Crowded) = refl
at_number (Err WrongInterrupt) = refl
at_number (Err WrongLimit) = refl
at_number (Err WrongLength) = refl
at_number (Err AfterShutdown) = refl

checked : all_below 13 (λ m. eqb (number_of (answer_at m)) m) ≡ true
unfolding all_below
checked = refl

pub number_at : (n : ℕ) → n ≤ 12 → number_of (answer_at n) ≡ n
number_at n few = eqb-true (number_of (answer_at n)) n (all_each (λ m. eqb (number_of (answer_at m)) m) 13 checked n (omega (arith, few)))
