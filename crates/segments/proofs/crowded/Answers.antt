-- `segments::crowded` meets its contract, by the laws of `Sweep`. Assumes nothing.
use Rattle.std.proofs.Common.{Iter, Option, Some, ℕ, ◌+◌, ◌-◌, ◌<◌, ◌≤◌, ◌≡◌, sym, ap, ◌∙◌, arith, List, length, drop, take, get_or, length-take, length-drop, get_or-take, get_or-drop, [], ◌∷◌, ◌++◌}
use Rattle.std.proofs.lemmas.List.{length_push}
use denote.Ref.{Bor}
use Rattle.std.specs.declared.iter.Zip.{Zip}
use Rattle.std.specs.Iterator.{Yields}
use Rattle.std.specs.Iterator.Adapters.{zip_first, zip_second}
use Rattle.std.specs.Slice.Iter.{iter_rest}
use Rattle.std.proofs.iter.Yields.{fronts}
use Rattle.std.proofs.lemmas.Iterator.{zips}
use Rattle.std.proofs.lemmas.Slice.Zip.{zip_turn, zip_end}
use Rattle.segments.specs.Touch.{most_touched, header_pieces}
use Rattle.segments.proofs.Starts.{start_up}
use Rattle.segments.proofs.Meaning.{crowded_few}
use Rattle.segments.proofs.Sweep.{sweep_first, sweep_no, sweep_yes, sweep_room, sweep_fits, sweep_start, sweep_next}
use Rattle.segments.proofs.crowded.Goals as goal

-- the pieces from one on
abbrev from : List ℕ → ℕ → List ℕ
from ls a = take (length ls - a) (drop a ls)

from_length : (ls : List ℕ) (a : ℕ) → length (from ls a) ≡ length ls - a
from_length ls a = omega (arith, length-take (length ls - a) (drop a ls), length-drop a ls)

from_at : (ls : List ℕ) (a k i : ℕ) → k < length (from ls a) → a + k ≡ i → (i < length ls) × (get_or (from ls a) k 0 ≡ get_or ls i 0)
from_at ls a k i l e =
    let h : k < length ls - a = omega (arith, from_length ls a) in
    (omega arith, get_or-take (length ls - a) (drop a ls) k 0 h ∙ get_or-drop a ls k 0 ∙ ap (λ n. get_or ls n 0) e)

-- a turn of the loop: the run that begins with piece h + length xs, the length of its last piece, and that of the first piece of the run after it
turn : (ls : List ℕ) (h : ℕ) → h ≤ header_pieces → (xs : List (Bor ℕ × Bor ℕ)) (s t u : Zip (Iter ℕ) (Iter ℕ)) (r : Option (Bor ℕ × Bor ℕ)) (p : Bor ℕ × Bor ℕ)
    → iter_rest (zip_first s) ≡ from ls most_touched → iter_rest (zip_second s) ≡ from ls (h + 1) → Yields (zips fronts fronts) s xs t → r ≡ Some p → zips fronts fronts t r u
    → (h + length xs + (most_touched - h) < length ls) × (p.0.now ≡ get_or ls (h + length xs + (most_touched - h)) 0) × (p.1.now ≡ get_or ls (h + length xs + 1) 0)
turn ls h few xs s t u r p a b y e step =
    let w = zip_turn (from ls most_touched) (from ls (h + 1)) xs s t u r a b y p e step in
    let f = from_at ls most_touched (length xs) (h + length xs + (most_touched - h)) w.0 (omega arith) in
    let g = from_at ls (h + 1) (length xs) (h + length xs + 1) w.1 (omega arith) in
    (f.0, w.2 0 ∙ f.1, w.3 0 ∙ g.1)

pub returns-then-lengths-le-MOST_TOUCHED : goal.returns-then-lengths-le-MOST_TOUCHED
returns-then-lengths-le-MOST_TOUCHED c = sym (crowded_few _ _ _ _ (omega arith))

pub overflow_sub-end : goal.overflow_sub-end
overflow_sub-end c =
    let h = c.header_pieces-head.result in
    omega (arith, start_up c.args.lengths.now {i = h} (h + 1) (omega arith))

pub overflow_sub-start : goal.overflow_sub-start
overflow_sub-start c =
    omega (arith, start_up c.args.lengths.now {i = header_pieces} most_touched (omega arith))

pub loop-last-init : goal.loop-last-init
loop-last-init c =
    let none : c.header_pieces-head.result + 0 ≡ c.header_pieces-head.result = omega arith in
    rw none (sweep_first c.requires c.header_pieces-head.ensures (omega arith) c.sum.ensures c.sum-2.ensures)

pub segment_start-requires : goal.segment_start-requires
segment_start-requires c =
    let t = turn c.args.lengths.now c.header_pieces-head.result c.header_pieces-head.ensures.few c.loop-last.yielded c.into_iter-last-iterator.result c.loop-last.last-iterator c.next.new.self _ (c.in-Some.field-0-0, c.in-Some.field-0-1) (cc) (cc) c.loop-last.yielded_by c.in-Some.is c.next.ensures.steps in
    sweep_fits c.loop-last.invariant t.0 c.spacing-step.ensures

pub returns-then-segment_start-end : goal.returns-then-segment_start-end
returns-then-segment_start-end c =
    let t = turn c.args.lengths.now c.header_pieces-head.result c.header_pieces-head.ensures.few c.loop-last.yielded c.into_iter-last-iterator.result c.loop-last.last-iterator c.next.new.self _ (c.in-Some.field-0-0, c.in-Some.field-0-1) (cc) (cc) c.loop-last.yielded_by c.in-Some.is c.next.ensures.steps in
    let e = sweep_start c.loop-last.invariant t.0 c.spacing-step.ensures c.segment_start.ensures in
    sym (sweep_yes c.loop-last.invariant t.0 (omega arith))

pub overflow_add-start : goal.overflow_add-start
overflow_add-start c =
    let t = turn c.args.lengths.now c.header_pieces-head.result c.header_pieces-head.ensures.few c.loop-last.yielded c.into_iter-last-iterator.result c.loop-last.last-iterator c.next.new.self _ (c.in-Some.field-0-0, c.in-Some.field-0-1) (cc) (cc) c.loop-last.yielded_by c.in-Some.is c.next.ensures.steps in
    omega (arith, t.1, sweep_room c.loop-last.invariant t.0)

pub overflow_add-end : goal.overflow_add-end
overflow_add-end c =
    let t = turn c.args.lengths.now c.header_pieces-head.result c.header_pieces-head.ensures.few c.loop-last.yielded c.into_iter-last-iterator.result c.loop-last.last-iterator c.next.new.self _ (c.in-Some.field-0-0, c.in-Some.field-0-1) (cc) (cc) c.loop-last.yielded_by c.in-Some.is c.next.ensures.steps in
    omega (arith, t.2, sweep_room c.loop-last.invariant t.0)

pub loop-last-preserved : goal.loop-last-preserved
loop-last-preserved c =
    let t = turn c.args.lengths.now c.header_pieces-head.result c.header_pieces-head.ensures.few c.loop-last.yielded c.into_iter-last-iterator.result c.loop-last.last-iterator c.next.new.self _ (c.in-Some.field-0-0, c.in-Some.field-0-1) (cc) (cc) c.loop-last.yielded_by c.in-Some.is c.next.ensures.steps in
    let e = sweep_start c.loop-last.invariant t.0 c.spacing-step.ensures c.segment_start.ensures in
    let h = c.header_pieces-head.result in
    let n : h + length (c.loop-last.yielded ++ (c.in-Some.field-0-0, c.in-Some.field-0-1) ∷ []) ≡ h + length c.loop-last.yielded + 1 = omega (arith, length_push c.loop-last.yielded (c.in-Some.field-0-0, c.in-Some.field-0-1)) in
    rw (n, t.1, t.2) (sweep_next c.loop-last.invariant t.0 (omega arith))

pub returns : goal.returns
returns c =
    let ls = c.args.lengths.now in
    let h = c.header_pieces-head.result in
    let n = zip_end (from ls most_touched) (from ls (h + 1)) c.loop-last.yielded c.into_iter-last-iterator.result c.loop-last.last-iterator c.next.new.self _ (cc) (cc) c.loop-last.yielded_by c.in-None.is c.next.ensures.steps in
    sym (sweep_no c.loop-last.invariant (omega (arith, from_length ls most_touched, from_length ls (h + 1), c.header_pieces-head.ensures.few)))
