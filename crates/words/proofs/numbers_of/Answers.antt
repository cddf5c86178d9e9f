-- `words::numbers_of` meets its contract. The text is cut at each space, and the loop goes over the parts. Assumes nothing.
use Rattle.std.proofs.Common.{eqb, length, refl, sym, ap, ◌∙◌, arith, rules, tests}
use Rattle.std.proofs.lemmas.List.{length_push}
use Rattle.std.proofs.lemmas.Iterator.Splits.{YieldsList-from_slice_split}
use Rattle.std.proofs.lemmas.Iterator.Consumers.{YieldsList-turn, YieldsList-end}
use Rattle.words.proofs.Splits.{words_split, words_few}
use Rattle.words.proofs.Progress.{one_more, all_read}
use Rattle.words.proofs.numbers_of.Goals as goal

pub overflow_add-count : goal.overflow_add-count
overflow_add-count c =
    let y = YieldsList-from_slice_split _ (λ b. eqb b 32) c.args.text.now (search rules) (search rules) refl (λ x b q k. search (rules, tests)) in
    let t = YieldsList-turn y c.loop-word.yielded _ c.loop-word.yielded_by _ _ c.in-Some.word c.in-Some.is c.next.ensures.steps in
    omega (arith, t.0, words_few c.args.text.now, ap length (words_split c.args.text.now), c.loop-word.invariant.2.count_is)

pub loop-word-preserved : goal.loop-word-preserved
loop-word-preserved c =
    let y = YieldsList-from_slice_split _ (λ b. eqb b 32) c.args.text.now (search rules) (search rules) refl (λ x b q k. search (rules, tests)) in
    let t = YieldsList-turn y c.loop-word.yielded _ c.loop-word.yielded_by _ _ c.in-Some.word c.in-Some.is c.next.ensures.steps in
    let s = rw (words_split c.args.text.now) at c.loop-word.invariant.2 in
    let left = rw c.unwrap_or.ensures at c.store.ensures in (
      search rules,
      search rules,
      rw (words_split c.args.text.now, length_push c.loop-word.yielded c.in-Some.word, c.is_some-ok.ensures) (one_more c.in-Some.word.now s t.0 t.1 c.number_of-number.ensures left),
    )

pub returns-then-ok-count : goal.returns-then-ok-count
returns-then-ok-count c =
    let y = YieldsList-from_slice_split _ (λ b. eqb b 32) c.args.text.now (search rules) (search rules) refl (λ x b q k. search (rules, tests)) in
    let t = YieldsList-end y c.loop-word.yielded _ c.loop-word.yielded_by _ _ c.in-None.is c.next.ensures.steps in
    rw c.if-ok-count.true at (all_read c.loop-word.invariant.2 (t.1 ∙ sym (ap length (words_split c.args.text.now))))

pub returns-else-ok-count : goal.returns-else-ok-count
returns-else-ok-count c =
    let y = YieldsList-from_slice_split _ (λ b. eqb b 32) c.args.text.now (search rules) (search rules) refl (λ x b q k. search (rules, tests)) in
    let t = YieldsList-end y c.loop-word.yielded _ c.loop-word.yielded_by _ _ c.in-None.is c.next.ensures.steps in
    rw c.if-ok-count.false at (all_read c.loop-word.invariant.2 (t.1 ∙ sym (ap length (words_split c.args.text.now))))
