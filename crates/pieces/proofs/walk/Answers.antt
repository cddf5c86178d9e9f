-- `pieces::walk` meets its contract: the invariant is what holds of the pieces passed.
-- Assumes nothing.
use Rattle.std.proofs.Common.{◌≡◌, length, length-append, arith}
use Rattle.std.proofs.lemmas.Slice.Zip.{zip_turn, zip_end}
use Rattle.pieces.proofs.Passed.{first, next, last, stopped}
use Rattle.pieces.proofs.walk.Goals as goal

pub loop-address-init : goal.loop-address-init
loop-address-init c = first _ _

pub returns-else-length : goal.returns-else-length
returns-else-length c =
    let l = c.loop-address in
    let t = zip_turn c.args.addresses.now c.args.lengths.now l.yielded c.into_iter-address-iterator.result l.address-iterator c.next.new.self c.next.result (cc) (cc) l.yielded_by (c.in-Some.field-0-0, c.in-Some.field-0-1) c.in-Some.is c.next.ensures.steps in
    rw (stopped c.args.lengths.now (length l.yielded) t.1 (rw (t.3 0) at c.if-length.false))

pub loop-address-preserved : goal.loop-address-preserved
loop-address-preserved c =
    let l = c.loop-address in
    let t = zip_turn c.args.addresses.now c.args.lengths.now l.yielded c.into_iter-address-iterator.result l.address-iterator c.next.new.self c.next.result (cc) (cc) l.yielded_by (c.in-Some.field-0-0, c.in-Some.field-0-1) c.in-Some.is c.next.ensures.steps in
    rw (length-append, t.3 0) (next _ _ l.invariant t.1 (rw (t.3 0) at c.if-length.true) (rw (t.2 0, t.3 0) at c.address_wrong.ensures))

pub total_ok-requires : goal.total_ok-requires
total_ok-requires c = omega (arith, c.loop-address.invariant.small, c.loop-address.invariant.upto, c.requires.few)

pub returns : goal.returns
returns c =
    let l = c.loop-address in
    let e = zip_end c.args.addresses.now c.args.lengths.now l.yielded c.into_iter-address-iterator.result l.address-iterator c.next.new.self c.next.result (cc) (cc) l.yielded_by c.in-None.is c.next.ensures.steps in
    let n : length l.yielded ≡ length c.args.lengths.now = omega arith in
    last _ _ c.args.maximum c.args.request (rw n at l.invariant) c.total_ok.ensures
