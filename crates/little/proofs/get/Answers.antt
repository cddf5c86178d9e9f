-- `little::get` meets its contract: above the bytes read stand zeros.
-- Assumes nothing.
use Rattle.std.proofs.Common.{◌∙◌, ap, rules, ◌≡◌, length, take, drop}
use Rattle.slots.proofs.Pieces.{read_part}
use Rattle.little.specs.Little.{value_of}
use Rattle.little.proofs.Laws.{says}
use Rattle.little.proofs.Steps.{low}
use Rattle.little.proofs.get.Goals as goal

pub returns : goal.returns
returns c =
    let a = c.args in
    let part : c.copy_from_slice.new.self ≡ take a.n (drop a.at a.s.now) = search rules in
    let long : length c.copy_from_slice.new.self ≡ a.n = search rules in
    says a.s.now a.at a.n _ (λ j. (c.type_inv.s j).fits)
    (c.from_le_bytes.ensures ∙ low _ a.n long c.requires.1 ∙ ap value_of (part ∙ read_part a.s.now a.at a.n c.requires.0))
