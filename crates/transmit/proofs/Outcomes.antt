-- The calls' statements fix their outcomes: any two that meet one are equal.
-- Assumes nothing.
use Rattle.std.proofs.Common.{◌≡◌, ℕ, List, Result}
use Rattle.rules.specs.declared.Refusal.{Refusal}
use Rattle.rules.specs.Outcomes.{Fixes}
use Rattle.rules.proofs.Outcomes.{alike, equation}
use Rattle.request.specs.declared.Request.{Request}
use Rattle.transmit.specs.declared.TxQueue.{TxQueue}
use Rattle.transmit.specs.declared.Fresh.{Fresh}
use Rattle.transmit.specs.declared.Reclaimed.{Reclaimed}
use Rattle.transmit.specs.Queue.{fresh_of, tail_value_of, tail_register_of}
use Rattle.transmit.specs.Send.{send_of, ring_after, tokens_after, counts_after, Outcome, Meets}
use Rattle.transmit.specs.Reclaim.{reclaim_of}

pub fresh_alike : (queue size frame : ℕ) (a b : Fresh) → a ≡ fresh_of queue size frame → b ≡ fresh_of queue size frame → a ≡ b
fresh_alike queue size frame = alike (equation (fresh_of queue size frame))

pub tail_value_alike : (q : TxQueue) (a b : Result ℕ Refusal) → a ≡ tail_value_of q → b ≡ tail_value_of q → a ≡ b
tail_value_alike q = alike (equation (tail_value_of q))

pub tail_register_alike : (q : TxQueue) (a b : Result ℕ Refusal) → a ≡ tail_register_of q → b ≡ tail_register_of q → a ≡ b
tail_register_alike q = alike (equation (tail_register_of q))

pub reclaim_alike : (q : TxQueue) (ring tokens counts : List ℕ) (a b : Reclaimed) → a ≡ reclaim_of q ring tokens counts → b ≡ reclaim_of q ring tokens counts → a ≡ b
reclaim_alike q ring tokens counts = alike (equation (reclaim_of q ring tokens counts))

module _ (q : TxQueue) (ring tokens counts addresses lengths : List ℕ) (request : Request) (token : ℕ) where
  abbrev meant : Outcome
  meant =
      record {
        result = send_of q ring tokens counts addresses lengths request;
        ring = ring_after q ring tokens counts addresses lengths request;
        tokens = tokens_after q ring tokens counts addresses lengths request token;
        counts = counts_after q ring tokens counts addresses lengths request;
      }

  send_fixes : Fixes (Meets q ring tokens counts addresses lengths request token) meant
  send_fixes o p = rw (← p.result_is, ← p.ring_is, ← p.tokens_is, ← p.counts_is)

  pub send_alike : (a b : Outcome) → Meets q ring tokens counts addresses lengths request token a → Meets q ring tokens counts addresses lengths request token b → a ≡ b
  send_alike = alike send_fixes
