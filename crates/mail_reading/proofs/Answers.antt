-- What a reading goes by: the answer made of what was seen is that of the element at head.
-- Assumes nothing.
use Rattle.std.proofs.Common.{ℕ, ◌+◌, ◌*◌, ◌≤◌, ◌≡◌, ap, ◌∙◌, Bool, not, ◌&&◌, cond, List, [], ◌∷◌, ◌++◌, arith, ltb-false, ltb, eqb, length, is_ok, Result, Ok, Err, refl}
use Rattle.std.specs.Bool.{⊤}
use Rattle.rules.specs.declared.Refusal.{Refusal}
use Rattle.rules.specs.Rules.{Check, answer_of, done, Answer, answer_at, number, number_of}
use Rattle.rules.proofs.Tests.{none}
use Rattle.rules.proofs.Checks.{passed, asked_next, first_pass}
use Rattle.element.specs.declared.Element.{Element}
use Rattle.mail_ring.specs.declared.Ring.{Ring}
use Rattle.mail_ring.specs.declared.Seen.{Seen}
use Rattle.mail_ring.specs.Look.{head_element, head_posted, look_checks, look_of}
use Rattle.mail_ring.proofs.Looks.{look_next, seen_lent}
use Rattle.mail_request.specs.Request.{most_length}
use Rattle.mail_reading.specs.Reading.{has_buffer, element_checks, MadeAs, ReadAs}

-- an answer, its refusal made into another
abbrev made_of : {R : Type 0} → (Refusal → R) → Answer → Result ⊤ R
made_of f (Ok u) = Ok u
made_of f (Err r) = Err (f r)

-- a reading answers what the look does, or else what the checks do, their refusal made into another
read_made : {R : Type 0} (f : Refusal → R) (looked a : Result ⊤ R) (cs : List Check) → ReadAs (λ r n. n ≡ f r) looked cs a → a ≡ cond (is_ok looked) (made_of f (answer_of cs)) looked
unfolding ReadAs
read_made {R} f (Ok u) a cs h = go (answer_of cs) a h
  where
    go : (b : Answer) (a : Result ⊤ R) → MadeAs (λ r n. n ≡ f r) b a → a ≡ made_of f b
    go (Ok u) a h = h
    go (Err r) (Ok u) h = absurd h
    go (Err r) (Err n) h = ap Err h
read_made f (Err n) a cs h = h

-- into itself
pub read_is : (looked a : Answer) (cs : List Check) → ReadAs (λ r n. n ≡ r) looked cs a → a ≡ cond (is_ok looked) (answer_of cs) looked
read_is looked a cs h = read_made (λ r. r) looked a cs h ∙ ap (λ b. cond (is_ok looked) b looked) (same (answer_of cs))
  where
    same : (b : Answer) → made_of (λ r. r) b ≡ b
    same (Ok u) = refl
    same (Err r) = refl

-- into its number: one that a look gave is handed on, whatever it is
abbrev number_in : Result ⊤ ℕ → ℕ
number_in (Ok u) = 0
number_in (Err n) = n

pub read_number : (looked a : Result ⊤ ℕ) (cs : List Check) → ReadAs (λ r n. n ≡ number r) looked cs a → number_in a ≡ cond (is_ok looked) (number_of (answer_of cs)) (number_in looked)
read_number looked a cs h = ap number_in (read_made number looked a cs h) ∙ by_look looked (answer_of cs)
  where
    by_look : (l : Result ⊤ ℕ) (b : Answer) → number_in (cond (is_ok l) (made_of number b) l) ≡ cond (is_ok l) (number_of b) (number_in l)
    by_look (Ok u) (Ok v) = refl
    by_look (Ok u) (Err r) = refl
    by_look (Err n) b = refl

module _ (wrong : Element → ℕ → Bool) (r : Ring) (ring list : List ℕ) (lent : ℕ) where
  abbrev read_checks : List Check
  read_checks = look_checks r ring list ++ element_checks (wrong (head_element r ring list) (head_posted r ring list)) (head_element r ring list) lent

  pub read_answer : {s : Seen} {w : Bool} {a : Answer} → s ≡ look_of r ring list → w ≡ wrong s.element s.posted → a ≡ cond (is_ok s.answer) (answer_of (element_checks w s.element lent)) s.answer → a ≡ answer_of read_checks
  read_answer {s} {w} {a} e f g =
      g ∙ ap (λ (b : Bool). cond (is_ok s.answer) (answer_of (element_checks b s.element lent)) s.answer) f
      ∙ ap (λ (t : Seen). cond (is_ok t.answer) (answer_of (element_checks (wrong t.element t.posted) t.element lent)) t.answer) e
      ∙ look_next r ring list (λ x p. element_checks (wrong x p) x lent)

  -- so what `answer` gives, where a refusal is itself
  pub read_as_answer : {s : Seen} {w : Bool} {a : Answer} → s ≡ look_of r ring list → w ≡ wrong s.element s.posted → ReadAs (λ r n. n ≡ r) s.answer (element_checks w s.element lent) a → a ≡ answer_of read_checks
  read_as_answer {s} {w} {a} e f g = read_answer e f (read_is s.answer a _ g)

  pub read_looked : answer_of read_checks ≡ done → answer_of (look_checks r ring list) ≡ done
  read_looked z = first_pass (look_checks r ring list) (element_checks (wrong (head_element r ring list) (head_posted r ring list)) (head_element r ring list) lent) tt z

  -- what a look at the element leaves for later, its reading does
  pub read_not_yet : answer_of (look_checks r ring list) ≡ answer_at 4 → answer_of read_checks ≡ answer_at 4
  read_not_yet e =
      asked_next (look_checks r ring list) (element_checks (wrong (head_element r ring list) (head_posted r ring list)) (head_element r ring list) lent) tt ∙ rw e

  -- an element that is read lies in the ring, and its length in the buffer
  module _ (z : answer_of read_checks ≡ done) where
    pub read_inside : 32 * r.head + 16 ≤ length ring
    read_inside = let l = seen_lent r ring list (read_looked z) in omega (arith, l.ring_long, l.is.head_below)

    pub read_long : (head_element r ring list).length ≤ lent
    read_long =
        let w = passed read_checks tt z 3 in
        let e : Element = head_element r ring list in
        ltb-false _ _ (none (ltb lent e.length ∷ ltb most_length e.length ∷ (not (has_buffer e) && not (eqb e.length 0)) ∷ []) w 0)
