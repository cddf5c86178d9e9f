-- A word longer than all of a table is none of it, and the answer of both tables is the first one's or the second's. Assumes nothing.
use Rattle.std.proofs.Common.{ℕ, ◌<◌, ◌≤◌, ◌≡◌, refl, arith, Bool, true, false, ◌&&◌, cond, List, [], ◌∷◌, Option, Some, None, length, eqb, leb, leb-true}
use Rattle.std.proofs.Math.Bool.{and-false}
use Rattle.std.specs.Option.{option_or}
use Rattle.rules.proofs.Tests.{both}
use Rattle.command.specs.Commands.{Entry, queue_words, mail_words, same, named_by, queue_command_of, mail_command_of, command_of}
use Rattle.command.specs.declared.Command.{Command}

-- words of at most seven bytes
abbrev short : List Entry → Bool
short [] = true
short (e ∷ es) = leb (length e.word) 7 && short es

shorter : (v w : List ℕ) → length v < length w → same v w ≡ false
shorter [] [] h = absurd (omega (arith, h))
shorter [] (y ∷ ys) h = refl
shorter (x ∷ xs) [] h = refl
shorter (x ∷ xs) (y ∷ ys) h = rw (shorter xs ys (omega (arith, h))) (and-false (eqb x y))

module _ (w : List ℕ) where
  none_of : (es : List Entry) → short es ≡ true → 8 ≤ length w → named_by es None w ≡ None
  none_of [] p h = refl
  none_of (e ∷ es) p h =
      let b = both (leb (length e.word) 7) (short es) p in
      rw (shorter e.word w (omega (arith, h, leb-true (length e.word) 7 b.0))) (none_of es b.1 h)

  pub no_queue_word : 8 ≤ length w → queue_command_of w ≡ None
  unfolding queue_command_of
  no_queue_word h = none_of queue_words refl h

  pub no_mail_word : 8 ≤ length w → mail_command_of w ≡ None
  unfolding mail_command_of
  no_mail_word h = none_of mail_words refl h

  or_other : (es : List Entry) (other : Option Command) → option_or (named_by es None w) other ≡ named_by es other w
  or_other [] other = refl
  or_other (e ∷ es) other = go (same e.word w) (or_other es other)
    where
      go : (b : Bool) → option_or (named_by es None w) other ≡ named_by es other w → option_or (cond b (Some e.names) (named_by es None w)) other ≡ cond b (Some e.names) (named_by es other w)
      go true r = refl
      go false r = r

  pub by_parts : option_or (queue_command_of w) (mail_command_of w) ≡ command_of w
  unfolding queue_command_of mail_command_of command_of
  by_parts = or_other queue_words (named_by mail_words None w)
