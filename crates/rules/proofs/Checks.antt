-- The checks of a call in their order: an answer is given exactly if its cause holds and no earlier one does.
-- Assumes nothing.
use Rattle.std.proofs.Common.{◌≡◌, ℕ, zero, suc, ◌<◌, Bool, true, false, not, ◌&&◌, cond, T, List, [], ◌∷◌, ◌++◌, Ok, Err, is_ok, refl, sym, ◌∙◌, arith}
use Rattle.rules.specs.Rules.{any_from, any_of, Answer, done, answer_at, Check, ◌when◌, answer_of, each, nth, refusing, Answers}
use Rattle.rules.proofs.Answers.{done_is, refused_is}

-- a check that comes after one whose cause does not hold
later : (c : Check) (cs : List Check) (n : Answer) (i : ℕ) → c.cause ≡ false → Answers cs n i → Answers (c ∷ cs) n (suc i)
later c cs n i e a =
    record {
      within_list = omega (arith, a.within_list);
      answer_is = a.answer_is;
      cause_holds = a.cause_holds;
      none_before = λ j h. before j h;
    }
  where
    before : (j : ℕ) → j < suc i → (nth (c ∷ cs) j).cause ≡ false
    before zero h = e
    before (suc j) h = a.none_before j (omega arith)

-- what is answered, if not done, has a first cause that holds
pub has_cause : (cs : List Check) (n : Answer) → answer_of cs ≡ n → (n ≡ done → ⊥) → (i : ℕ) × Answers cs n i
has_cause [] n e z = absurd (z (sym e))
has_cause (c ∷ cs) n e z = go c.cause refl e (λ h. has_cause cs n h z)
  where
    go : (b : Bool) → c.cause ≡ b → cond b c.answer (answer_of cs) ≡ n → (answer_of cs ≡ n → (i : ℕ) × Answers cs n i) → (i : ℕ) × Answers (c ∷ cs) n i
    go true h a r =
        (0, record { within_list = omega arith; answer_is = a; cause_holds = h; none_before = λ j l. absurd (omega arith) })
    go false h a r = let s = r a in (suc s.0, later c cs n s.0 h s.1)

-- and the first cause that holds is what is answered
pub is_answered : (cs : List Check) (n : Answer) (i : ℕ) → Answers cs n i → answer_of cs ≡ n
is_answered [] n i a = absurd (omega (arith, a.within_list))
is_answered (c ∷ cs) n zero a = rw a.cause_holds a.answer_is
is_answered (c ∷ cs) n (suc i) a =
    let e : c.cause ≡ false = a.none_before 0 (omega arith) in
    rw e
    (is_answered cs n i
    (record {
      within_list = omega (arith, a.within_list);
      answer_is = a.answer_is;
      cause_holds = a.cause_holds;
      none_before = λ j h. a.none_before (suc j) (omega arith);
    }))

-- one number for several causes: it is answered exactly where one of them holds
pub each_answer : (n : ℕ) (bs : List Bool) → answer_of (each n bs) ≡ cond (any_of bs) (answer_at n) done
each_answer n bs = from false bs
  where
    from : (b : Bool) (cs : List Bool) → cond b (answer_at n) (answer_of (each n cs)) ≡ cond (any_from b cs) (answer_at n) done
    from b [] = refl
    from true (c ∷ cs) = from true cs
    from false (c ∷ cs) = from c cs

-- a call with one check: whatever is given back, if it answers done where the test says yes and 1 where it says no
pub one_check : {A : Type 0} (answer : A → Answer) (b : Bool) (x y : A) → answer x ≡ done → answer y ≡ answer_at 1 → answer (cond b x y) ≡ answer_of (1 when not b ∷ [])
one_check answer true x y p r = p
one_check answer false x y p r = r

-- what holds of x, where a call is done, and of y holds of what it gives back: x if it is done, y if it is refused
pub by_answer : {A : Type 0} (P : A → Type 0) (a : Answer) (x y : A) → (a ≡ done → P x) → P y → P (cond (is_ok a) x y)
by_answer P (Ok tt) x y kept refused = kept refl
by_answer P (Err r) x y kept refused = refused

-- it is done exactly where no cause holds
pub passed : (cs : List Check) → T (refusing cs) → answer_of cs ≡ done → (i : ℕ) → (nth cs i).cause ≡ false
passed [] t e i = refl
passed (c ∷ cs) t e i = go c.cause (is_ok c.answer) refl refl e t i (λ u h j. passed cs u h j)
  where
    go : (b z : Bool) → c.cause ≡ b → is_ok c.answer ≡ z → cond b c.answer (answer_of cs) ≡ done → T (not z && refusing cs) → (i : ℕ) → (T (refusing cs) → answer_of cs ≡ done → (j : ℕ) → (nth cs j).cause ≡ false) → (nth (c ∷ cs) i).cause ≡ false
    go true true p q a u i r = absurd u
    go true false p q a u i r = absurd (refused_is c.answer q a)
    go false true p q a u i r = absurd u
    go false false p q a u zero r = p
    go false false p q a u (suc i) r = r u a i

pub passes : (cs : List Check) → ((i : ℕ) → (nth cs i).cause ≡ false) → answer_of cs ≡ done
passes [] h = refl
passes (c ∷ cs) h = rw (h 0) (passes cs (λ i. h (suc i)))

-- checks that follow others are asked where those have passed
pub asked_next : (cs ds : List Check) → T (refusing cs) → answer_of (cs ++ ds) ≡ cond (is_ok (answer_of cs)) (answer_of ds) (answer_of cs)
asked_next [] ds t = refl
asked_next (c ∷ cs) ds t = go c.cause (is_ok c.answer) refl t (λ u. asked_next cs ds u)
  where
    go : (b z : Bool) → is_ok c.answer ≡ z → T (not z && refusing cs)
        → (T (refusing cs) → answer_of (cs ++ ds) ≡ cond (is_ok (answer_of cs)) (answer_of ds) (answer_of cs))
        → cond b c.answer (answer_of (cs ++ ds)) ≡ cond (is_ok (cond b c.answer (answer_of cs))) (answer_of ds) (cond b c.answer (answer_of cs))
    go b true e u r = absurd u
    go true false e u r = rw e
    go false false e u r = r u

-- where all of two rows of checks pass, the first row does
pub first_pass : (cs ds : List Check) → T (refusing cs) → answer_of (cs ++ ds) ≡ done → answer_of cs ≡ done
first_pass cs ds t e = go (is_ok (answer_of cs)) refl (sym (asked_next cs ds t) ∙ e)
  where
    go : (b : Bool) → is_ok (answer_of cs) ≡ b → cond b (answer_of ds) (answer_of cs) ≡ done → answer_of cs ≡ done
    go true h f = done_is _ h
    go false h f = f
