-- What is seen of the element at head, case by case.
-- Assumes nothing.
use Rattle.rules.proofs.Answers.{done-is_ok}
use Rattle.std.proofs.Common.{is_ok, ◌≡◌, refl, sym, ◌∙◌, ◌≢◌, Bool, true, false, not, cond, List, ◌++◌, eq-eqb, ne_eqb, ℕ, arith, eqb, length}
use borrow.Author.Tests.{eqb-false, not-false}
use Rattle.rules.specs.Rules.{Check, answer_of, done, Answer, answer_at}
use Rattle.rules.proofs.Tests.{neither}
use Rattle.rules.proofs.Checks.{passed, asked_next}
use Rattle.field.specs.Field.{is_set}
use Rattle.element.specs.declared.Element.{Element}
use Rattle.mail_flags.specs.Flags.{dd_flag}
use Rattle.mail_ring.specs.declared.Ring.{Ring}
use Rattle.mail_ring.specs.declared.Seen.{Seen}
use Rattle.mail_ring.specs.Ring.{lent_ok}
use Rattle.mail_ring.specs.Look.{unseen, head_element, head_posted, look_checks, look_of}
use Rattle.mail_ring.specs.Steps.{Lent, Waiting}
use Rattle.mail_ring.proofs.Record.{lent}

module _ (r : Ring) (ring list : List ℕ) where
  pub not_lent : lent_ok r (length ring) (length list) ≡ false → unseen (answer_at 1) ≡ look_of r ring list
  unfolding look_of
  not_lent l = rw l

  module _ (l : lent_ok r (length ring) (length list) ≡ true) where
    pub none_posted : r.posted ≡ 0 → unseen (answer_at 4) ≡ look_of r ring list
    unfolding look_of
    none_posted z = rw (l, eq-eqb r.posted 0 z)

    module _ (some : r.posted ≢ 0) where
      pub not_done : is_set dd_flag (head_element r ring list).flags ≡ false → unseen (answer_at 4) ≡ look_of r ring list
      unfolding look_of
      not_done d = rw (l, ne_eqb r.posted 0 some, d)

      pub is_done : is_set dd_flag (head_element r ring list).flags ≡ true → record { answer = done; element = head_element r ring list; posted = head_posted r ring list } ≡ look_of r ring list
      unfolding look_of
      is_done d = rw (l, ne_eqb r.posted 0 some, d)

  -- ---- what a look is good for

  -- an element that the device is not done with is not read
  pub not_yet : lent_ok r (length ring) (length list) ≡ true → r.posted ≢ 0 → is_set dd_flag (head_element r ring list).flags ≡ false → answer_of (look_checks r ring list) ≡ answer_at 4
  not_yet l some d = rw (l, ne_eqb r.posted 0 some, d)

  -- an element that is seen is the one at head, of a ring that was lent as its size asks, and is posted
  pub seen : answer_of (look_checks r ring list) ≡ done → look_of r ring list ≡ record { answer = done; element = head_element r ring list; posted = head_posted r ring list }
  unfolding look_of
  seen z = rw (done-is_ok (answer_of (look_checks r ring list)) z)

  pub seen_lent : answer_of (look_checks r ring list) ≡ done → Lent r (length ring) (length list)
  seen_lent z = lent r (length ring) (length list) (not-false _ (passed (look_checks r ring list) tt z 0))

  pub seen_waiting : answer_of (look_checks r ring list) ≡ done → Waiting r
  seen_waiting z =
      let n = neither (eqb r.posted 0) (not (is_set dd_flag (head_element r ring list).flags)) (passed (look_checks r ring list) tt z 1) in
      let ne : r.posted ≢ 0 = eqb-false _ _ n.0 in
      record { is = (seen_lent z).is; some = omega (arith, ne) }

  -- checks that go on with what was seen go on with the element at head
  pub look_next : (ds : Element → ℕ → List Check) → cond (is_ok (look_of r ring list).answer) (answer_of (ds (look_of r ring list).element (look_of r ring list).posted)) (look_of r ring list).answer
      ≡ answer_of (look_checks r ring list ++ ds (head_element r ring list) (head_posted r ring list))
  unfolding look_of
  look_next ds = go (is_ok n) refl ∙ sym (asked_next (look_checks r ring list) (ds (head_element r ring list) (head_posted r ring list)) tt)
    where
      n : Answer
      n = answer_of (look_checks r ring list)

      whole : Seen
      whole = record { answer = done; element = head_element r ring list; posted = head_posted r ring list }

      go : (b : Bool) → is_ok n ≡ b
          → cond (is_ok (cond b whole (unseen n)).answer) (answer_of (ds (cond b whole (unseen n)).element (cond b whole (unseen n)).posted)) (cond b whole (unseen n)).answer
          ≡ cond b (answer_of (ds (head_element r ring list) (head_posted r ring list))) n
      go true e = refl
      go false e = rw e
