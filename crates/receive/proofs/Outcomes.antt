-- The calls' statements fix their outcomes: any two that meet one are equal.
-- Assumes nothing.
use Rattle.std.proofs.Common.{ℕ, ◌≡◌, List, Result}
use Rattle.rules.specs.Outcomes.{Fixes}
use Rattle.rules.proofs.Outcomes.{alike, equation}
use Rattle.rules.specs.declared.Refusal.{Refusal}
use Rattle.receive.specs.declared.RxQueue.{RxQueue}
use Rattle.receive.specs.declared.Fresh.{Fresh}
use Rattle.receive.specs.declared.Taken.{Taken}
use Rattle.receive.specs.Queue.{fresh_of, tail_value_of, tail_register_of}
use Rattle.receive.specs.Post.{post_of, ring_after, list_after, Outcome, Meets}
use Rattle.receive.specs.Take.{take_of}
use Rattle.receive.specs.Burst.{burst_of, out_after, BurstOutcome, BurstMeets}

pub fresh_alike : (queue size buffer : ℕ) (a b : Fresh) → a ≡ fresh_of queue size buffer → b ≡ fresh_of queue size buffer → a ≡ b
fresh_alike queue size buffer = alike (equation (fresh_of queue size buffer))

pub tail_value_alike : (q : RxQueue) (a b : Result ℕ Refusal) → a ≡ tail_value_of q → b ≡ tail_value_of q → a ≡ b
tail_value_alike q = alike (equation (tail_value_of q))

pub tail_register_alike : (q : RxQueue) (a b : Result ℕ Refusal) → a ≡ tail_register_of q → b ≡ tail_register_of q → a ≡ b
tail_register_alike q = alike (equation (tail_register_of q))

pub take_alike : (q : RxQueue) (ring list : List ℕ) (a b : Taken) → a ≡ take_of q ring list → b ≡ take_of q ring list → a ≡ b
take_alike q ring list = alike (equation (take_of q ring list))

module _ (q : RxQueue) (ring list : List ℕ) (address : ℕ) where
  post_fixes : Fixes (Meets q ring list address) (record { result = post_of q ring list address; ring = ring_after q ring list address; list = list_after q ring list address })
  post_fixes o p = rw (← p.result_is, ← p.ring_is, ← p.list_is)

  pub post_alike : (a b : Outcome) → Meets q ring list address a → Meets q ring list address b → a ≡ b
  post_alike = alike post_fixes

module _ (q : RxQueue) (ring list out : List ℕ) (limit : ℕ) where
  burst_fixes : Fixes (BurstMeets q ring list out limit) (record { result = burst_of q ring list out limit; out = out_after q ring list out limit })
  burst_fixes o p = rw (← p.result_is, ← p.out_is)

  pub burst_alike : (a b : BurstOutcome) → BurstMeets q ring list out limit a → BurstMeets q ring list out limit b → a ≡ b
  burst_alike = alike burst_fixes
