-- Why a send is refused: the causes of 6, 2, 7 and 8 are exact, and 8 is no matter of a plain send.
-- Assumes nothing.
use Rattle.std.proofs.Common.{◌≡◌, ℕ, ◌≤◌, Bool, true, false, not, ◌&&◌, cond, List, Err, true≢false, ap, arith}
use Rattle.rules.specs.declared.Refusal.TheVariants.{WrongAddress, WrongPieces, WrongRequest, Crowded}
use Rattle.rules.specs.Rules.{Answer, done, number_of, answer_of, Answers}
use Rattle.rules.proofs.Checks.{has_cause, is_answered}
use Rattle.segments.specs.Touch.{most_touched, touched}
use Rattle.segments.proofs.Meaning.{touched_few}
use Rattle.request.specs.declared.Request.{Request}
use Rattle.pieces.specs.Pieces.{pieces_ok, addresses_ok}
use Rattle.pieces.proofs.Laws.{plain_few}
use Rattle.offload.specs.Offload.{request_ok}
use Rattle.packet.specs.Packet.{packet_checks}

-- 6, 2 and 7 are not 8
not_eight : (a b c s x : Bool) → s ≡ false
    → ◌≡◌ {A = Answer} (cond (not a) (Err WrongPieces) (cond (not b) (Err WrongAddress) (cond (not c) (Err WrongRequest) (cond (s && x) (Err Crowded) done)))) (Err Crowded) → ⊥
not_eight false b c s x e h = absurd (omega (arith, ap number_of h))
not_eight true false c s x e h = absurd (omega (arith, ap number_of h))
not_eight true true false s x e h = absurd (omega (arith, ap number_of h))
not_eight true true true false x e h = absurd (omega (arith, ap number_of h))
not_eight true true true true x e h = true≢false e

module _ (addresses lengths : List ℕ) (maximum : ℕ) (q : Request) where
  -- a refusal is answered exactly if its cause holds and no earlier one does
  pub refused_for : (n : Answer) → answer_of (packet_checks addresses lengths maximum q) ≡ n → (n ≡ done → ⊥) → (i : ℕ) × Answers (packet_checks addresses lengths maximum q) n i
  refused_for = has_cause (packet_checks addresses lengths maximum q)

  pub refuses : (n : Answer) (i : ℕ) → Answers (packet_checks addresses lengths maximum q) n i → answer_of (packet_checks addresses lengths maximum q) ≡ n
  refuses = is_answered (packet_checks addresses lengths maximum q)

  -- a plain send is never refused with 8
  pub plain_never : q.segmented ≡ false → answer_of (packet_checks addresses lengths maximum q) ≡ Err Crowded → ⊥
  plain_never e h =
      not_eight (pieces_ok addresses lengths maximum q) (addresses_ok addresses lengths) (request_ok lengths maximum q) q.segmented _ e h

  -- nor need it be: whatever its segments were, none would touch more than 8 pieces
  pub plain_touches : pieces_ok addresses lengths maximum q ≡ true → q.segmented ≡ false → (header mss tlen k : ℕ) → touched lengths header mss tlen k ≤ most_touched
  plain_touches p e header mss tlen k =
      touched_few lengths header mss tlen (plain_few addresses lengths maximum q p e) k
