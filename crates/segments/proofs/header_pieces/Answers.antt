-- `segments::header_pieces` meets its contract: `s` is the bytes of the first `i` pieces, each of which begins within the header. Assumes nothing.
use Rattle.std.proofs.Common.{ℕ, ◌<◌, ◌≡◌, ◌∙◌, ap, arith, sym, below_none, below_more, List, length, take, get_or, length-take, get_or-take, [], ◌∷◌, ◌++◌, ◌+◌}
use Rattle.std.specs.List.{enumerate_from}
use Rattle.std.proofs.lemmas.List.{length_push}
use Rattle.std.proofs.lemmas.List.FromFn.{length-enumerate_from, get_or-enumerate_from}
use Rattle.std.proofs.lemmas.Grind.{get_or_default_zero}
use Rattle.std.proofs.lemmas.Iterator.{YieldsList-from_slice, YieldsList-from_take}
use Rattle.std.proofs.lemmas.Iterator.Consumers.{YieldsList-from_enumerate, YieldsList-turn}
use Rattle.segments.proofs.Starts.{start_zero, start_step, start_whole}
use Rattle.segments.proofs.header_pieces.Goals as goal

-- the pieces with their places: pair k of the first n
numbered_at : (ls : List ℕ) (n k : ℕ) (x : ℕ × ℕ) → k < length (take n (enumerate_from 0 ls)) → x ≡ get_or (take n (enumerate_from 0 ls)) k x
    → (k < length ls) × (x.0 ≡ k) × (x.1 ≡ get_or ls k 0)
numbered_at ls n k x l e =
    let h : k < n = omega (arith, length-take n (enumerate_from 0 ls)) in
    let g : k < length ls = omega (arith, length-take n (enumerate_from 0 ls), length-enumerate_from 0 ls) in
    let q = e ∙ get_or-take n (enumerate_from 0 ls) k x h ∙ get_or-enumerate_from 0 ls k x g in
    (g, omega (arith, ap (λ (p : ℕ × ℕ). p.0) q), ap (λ (p : ℕ × ℕ). p.1) q ∙ get_or_default_zero ls k x.1 g)

pub loop-i-init : goal.loop-i-init
loop-i-init c = (sym (start_zero c.args.lengths.now), below_none _)

pub overflow_add-s : goal.overflow_add-s
overflow_add-s c =
    let ls = c.args.lengths.now in
    let ks = c.loop-i.yielded in
    let t = YieldsList-turn (YieldsList-from_take 3 (YieldsList-from_enumerate (YieldsList-from_slice ls (cc)) (cc)) (cc)) ks _ c.loop-i.yielded_by _ _ (c.in-Some.i, c.in-Some.field-0-1) c.in-Some.is c.next.ensures.steps in
    let p = numbered_at ls 3 (length ks) (c.in-Some.i, c.in-Some.field-0-1.now) t.0 t.1 in
    omega (arith, p.2, c.loop-i.invariant.0, start_whole ls (length ks) p.0)

pub loop-i-preserved : goal.loop-i-preserved
loop-i-preserved c =
    let ls = c.args.lengths.now in
    let ks = c.loop-i.yielded in
    let t = YieldsList-turn (YieldsList-from_take 3 (YieldsList-from_enumerate (YieldsList-from_slice ls (cc)) (cc)) (cc)) ks _ c.loop-i.yielded_by _ _ (c.in-Some.i, c.in-Some.field-0-1) c.in-Some.is c.next.ensures.steps in
    let p = numbered_at ls 3 (length ks) (c.in-Some.i, c.in-Some.field-0-1.now) t.0 t.1 in
    let w = c.loop-i.invariant in
    let n : length (ks ++ (c.in-Some.i, c.in-Some.field-0-1) ∷ []) ≡ length ks + 1 = omega (arith, length_push ks (c.in-Some.i, c.in-Some.field-0-1)) in
    rw (n, p.2) (start_step ls c.loop-i.s (length ks) w.0, below_more _ _ w.1 (omega (arith, w.0)))
