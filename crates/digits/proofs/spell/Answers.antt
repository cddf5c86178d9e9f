-- `digits::spell` meets its contract. Assumes nothing.
use Rattle.std.proofs.Common.{◌≡◌, refl, ap, ◌∙◌, arith, length-set}
use lib.Seq.{sets}
use Rattle.digits.proofs.Written.{digits_some, below_digits, below_tenth_of, lasts_all, spell_step, spell_first}
use Rattle.digits.proofs.spell.Goals as goal

pub loop-left-init : goal.loop-left-init
loop-left-init c =
    let is = c.requires.count_is in
    (refl, ap (sets c.args.out.now c.args.at) (lasts_all c.args.count c.args.n (omega arith) is), omega (arith, is, digits_some c.args.n (omega arith)), rw is (below_digits c.args.n (omega arith)))

pub loop-left-preserved : goal.loop-left-preserved
loop-left-preserved c =
    let s = c.loop-left in
    let i = s.invariant in
    (simp length-set i.0, rw c.digit.ensures (spell_step s.out c.args.at s.left s.rest (omega arith) ∙ i.1), omega arith, below_tenth_of s.left s.rest (omega arith) i.3)

-- one digit is left
pub digit-requires-2 : goal.digit-requires-2
digit-requires-2 c =
    let i = c.loop-left.invariant in
    let one : c.loop-left.left ≡ 1 = omega arith in
    omega (arith, rw one at i.3)

pub bounds-out-at-2 : goal.bounds-out-at-2
bounds-out-at-2 c = omega (arith, c.requires.count_is, c.requires.inside, digits_some c.args.n (omega arith), c.loop-left.invariant.0)

pub returns : goal.returns
returns c =
    let i = c.loop-left.invariant in
    let one : c.loop-left.left ≡ 1 = omega arith in
    rw c.digit-2.ensures (spell_first c.loop-left.out c.args.at c.loop-left.rest (omega (arith, rw one at i.3)) ∙ rw one at i.1)
