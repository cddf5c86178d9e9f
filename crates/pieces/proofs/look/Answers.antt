-- `pieces::look` meets its contract: the walk is for pieces whose count is right.
-- Assumes nothing.
use Rattle.std.proofs.Common.{ℕ, ◌≡◌, sym, Bool, true, ◌&&◌, List, eqb, length}
use Rattle.rules.specs.Rules.{within}
use Rattle.pieces.specs.Pieces.{most_pieces_of, count_ok, found_of}
use Rattle.pieces.proofs.look.Goals as goal

-- the count's test, as the definition has it
few_here : (addresses lengths : List ℕ) (segmented : Bool) {most : ℕ} → most ≡ most_pieces_of segmented
    → eqb (length addresses) (length lengths) && within 1 most (length lengths) ≡ true → count_ok addresses lengths segmented ≡ true
few_here addresses lengths segmented p t = rw p at t

pub returns-then-addresses-n : goal.returns-then-addresses-n
unfolding found_of
returns-then-addresses-n c =
    let few = few_here c.args.addresses.now c.args.lengths.now c.args.request.segmented c.most_pieces-most.ensures c.if-addresses-n.true in
    rw few c.walk.ensures

pub returns-else-addresses-n : goal.returns-else-addresses-n
unfolding found_of
returns-else-addresses-n c = simp (sym c.most_pieces-most.ensures, c.if-addresses-n.false)
