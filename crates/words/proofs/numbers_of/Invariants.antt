-- `words::numbers_of` meets its contract. The words read and those left are all of them (`SoFar`). Assumes nothing.
use Rattle.std.proofs.Common.{length}
use Rattle.words.specs.Parts.{words_of}
use Rattle.words.proofs.Progress.{SoFar}
use Rattle.words.proofs.numbers_of.Given as goal

abbrev pub invariant-loop-word : goal.invariant-loop-word
invariant-loop-word l =
    (goal.iterator-loop-word).can_next l.word-iterator × (goal.iterator-loop-word).is_finite l.word-iterator × SoFar (words_of l.text) l.initial.out l.out (length l.yielded) l.count l.ok
