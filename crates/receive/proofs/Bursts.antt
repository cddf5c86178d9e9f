-- A burst is its takes in turn: what it asks of the code's walks, how many slots it examines, and what it leaves.
-- Assumes nothing.
use Rattle.rules.specs.declared.Refusal.TheVariants.{WrongRecord, NotYet, Contradiction, WrongLimit}
use Rattle.rules.proofs.Answers.{refused_is, done-is_ok, refused-is_ok, done_or_not}
use Rattle.std.proofs.Common.{is_ok, Err, ℕ, zero, suc, ◌+◌, ◌*◌, ◌≤◌, ◌<◌, ◌≡◌, refl, sym, ap, ◌∙◌, ◌≢◌, ◌⊎◌, inl, inr, ⊎_elim, Bool, true, false, not, ◌&&◌, cond, List, [], ◌∷◌, ◌++◌, map, arith, eqb-true, eqb, length, get_or, drop, get_or-append-add, get_or-drop}
use borrow.Author.Tests.{not-false}
use Rattle.rules.specs.Rules.{within, Answer, done, number_of, answer_at}
use Rattle.rules.proofs.Tests.{both, within_is}
use Rattle.rules.proofs.Checks.{passed, asked_next, first_pass}
use Rattle.scan.specs.Scan.{packet_slots}
use Rattle.scan.specs.Told.{sum}
use Rattle.burst.specs.declared.Polled.{Polled}
use Rattle.burst.specs.Out.{most_packets, packet_numbers, burst_numbers}
use Rattle.burst.specs.Polls.{Outcome}
use Rattle.burst.specs.Steps.{Polls, PolledAs}
use Rattle.receive.specs.declared.RxQueue.{RxQueue}
use Rattle.receive.specs.declared.Burst.{Burst}
use Rattle.receive.specs.Queue.{record_ok, lent_ok, moved_to}
use Rattle.receive.specs.Take.{take_of}
use Rattle.receive.specs.Burst.{Made, takes_from, stopped_by, carried, handing, told, examined_by, refusals, refusal_of, refusal, made, burst_of, out_after, BurstAs, BurstUnchanged}
use Rattle.receive.proofs.Laws.{lent}
use Rattle.receive.proofs.Turns.{as_takes, carried_buffer, carried_keeps, within_limit, up_to_limit, stops_with, stops_again, few}

abbrev one_or_ten : Bool → Bool → Answer
one_or_ten a b = cond a (answer_at 1) (cond b (answer_at 10) done)

module _ (q : RxQueue) (ring list out : List ℕ) (limit : ℕ) where
  abbrev takes : List Made
  takes = takes_from ring list limit q

  -- 1 or 10, and else what stops the takes
  answer_is : (burst_of q ring list out limit).answer ≡ cond (is_ok (refusal q ring list out limit)) (stopped_by (made q ring list out limit)) (refusal q ring list out limit)
  unfolding burst_of refusal_of
  answer_is = asked_next (refusals q (length ring) (length list) (length out) limit) (record { answer = stopped_by (made q ring list out limit); cause = true } ∷ []) tt

  pub refused : refusal q ring list out limit ≢ done → BurstUnchanged q ring list out limit
  unfolding burst_of out_after made carried handing told sum
  refused ne = let e = refused-is_ok _ ne in record { result_is = rw (answer_is, e); out_same = rw e }

  -- what holds of no takes and of the takes up to the limit holds of those made
  pub of_made : (P : List Made → Type 0) → P [] → P takes → P (made q ring list out limit)
  unfolding made
  of_made P none some = go (is_ok (refusal q ring list out limit))
    where
      go : (b : Bool) → P (cond b takes [])
      go true = some
      go false = none

  -- the slots examined are at most six times the packets plus six, whatever came of it
  pub burst_few : (burst_of q ring list out limit).examined ≤ packet_slots * (burst_of q ring list out limit).packets + packet_slots
  unfolding burst_of handing sum
  burst_few =
      of_made (λ ms. sum (map (examined_by ring list) ms) ≤ packet_slots * length (handing ms) + packet_slots)
      (omega arith)
      (go (is_ok (stopped_by takes)) (few ring list limit q))
    where
      go : (b : Bool) → sum (map (examined_by ring list) takes) ≤ packet_slots * length (handing takes) + cond b 0 packet_slots
          → sum (map (examined_by ring list) takes) ≤ packet_slots * length (handing takes) + packet_slots
      go true h = omega arith
      go false h = h

  -- no more packets than the limit
  pub burst_within : (burst_of q ring list out limit).packets ≤ limit
  unfolding burst_of handing
  burst_within = of_made (λ ms. length (handing ms) ≤ limit) (omega arith) (within_limit ring list limit q)

  pub burst_keeps : record_ok q ≡ true → record_ok (burst_of q ring list out limit).queue ≡ true
  unfolding burst_of carried
  burst_keeps ok = of_made (λ ms. record_ok (carried q ms) ≡ true) ok (carried_keeps ring list limit q ok)

  -- a refusal is 1 or 10
  refuses_with : refusal q ring list out limit ≢ done → (refusal q ring list out limit ≡ Err WrongRecord) ⊎ (refusal q ring list out limit ≡ Err WrongLimit)
  unfolding refusal_of
  refuses_with = go (not (lent_ok q (length ring) (length list) && eqb (length out) burst_numbers)) (not (within 1 most_packets limit))
    where
      go : (a b : Bool) → one_or_ten a b ≢ done → (one_or_ten a b ≡ Err WrongRecord) ⊎ (one_or_ten a b ≡ Err WrongLimit)
      go true b ne = inl refl
      go false true ne = inr refl
      go false false ne = absurd (ne refl)

  pub refused_as : (n : Answer) → n ≡ refusal q ring list out limit → n ≢ done → BurstAs q ring list out limit (record { answer = n; queue = q; packets = 0; examined = 0 }) out
  refused_as n e ne =
      let r = refused (λ z. ne (e ∙ z)) in
      record { result_is = rw e (sym r.result_is); out_is = sym r.out_same }

  -- accepted: none of the two causes holds
  module _ {n : Answer} (is : n ≡ refusal q ring list out limit) (none : n ≡ done) where
    z : refusal q ring list out limit ≡ done
    z = sym is ∙ none

    passes : (lent_ok q (length ring) (length list) ≡ true) × (eqb (length out) burst_numbers ≡ true)
    unfolding refusal_of
    passes = both (lent_ok q (length ring) (length list)) (eqb (length out) burst_numbers) (not-false _ (passed (refusals q (length ring) (length list) (length out) limit) tt z 0))

    limits : (1 ≤ limit) × (limit ≤ most_packets)
    unfolding refusal_of
    limits = within_is 1 most_packets limit (not-false _ (passed (refusals q (length ring) (length list) (length out) limit) tt z 1))

    -- so what the walk of the code asks holds
    pub asks : Polls q.shared (length ring) (length out) limit
    asks = record { reads = (lent q (length ring) (length list) passes.0).reads; out_long = eqb-true _ _ passes.1; limit_high = limits.1 }

    pub all_made : made q ring list out limit ≡ takes
    unfolding made
    all_made = rw (done-is_ok _ z)

    carried_is : carried q takes ≡ moved_to q (carried q takes).shared
    carried_is = ap (λ (b : ℕ). record { shared = (carried q takes).shared; buffer = b }) (carried_buffer ring list limit q)

    pub burst_is : burst_of q ring list out limit ≡ record { answer = stopped_by takes; queue = carried q takes; packets = length (handing takes); examined = sum (map (examined_by ring list) takes) }
    unfolding burst_of
    burst_is = rw (answer_is, done-is_ok _ z, all_made)

    -- a take that stops it answers 4 or 5
    pub burst_stops : (burst_of q ring list out limit).answer ≢ done → ((burst_of q ring list out limit).answer ≡ Err NotYet) ⊎ ((burst_of q ring list out limit).answer ≡ Err Contradiction)
    burst_stops = rw burst_is (stops_with ring list limit q passes.0)

    -- and what it says is the burst
    pub as_burst : (r : Polled) (out' : List ℕ) → PolledAs q.shared q.buffer ring out limit r out'
        → BurstAs q ring list out limit (record { answer = r.answer; queue = moved_to q r.queue; packets = r.packets; examined = r.examined }) out'
    unfolding out_after
    as_burst r out' p =
        let e = as_takes ring list limit q passes.0 in
        record {
          result_is = rw (p.result_is list ∙ ap (λ (o : Outcome). o.result) e, burst_is) (rw (← carried_is));
          out_is = p.out_is list ∙ rw (e, all_made);
        }

-- ---- where the limit stopped it

module _ (q : RxQueue) (ring list out : List ℕ) (limit : ℕ) (z : (burst_of q ring list out limit).answer ≡ done) where
  accepted : refusal q ring list out limit ≡ done
  unfolding burst_of refusal_of
  accepted = first_pass (refusals q (length ring) (length list) (length out) limit) (record { answer = stopped_by (made q ring list out limit); cause = true } ∷ []) tt z

  not_stopped : stopped_by (takes q ring list out limit) ≡ done
  not_stopped = rw (burst_is q ring list out limit refl accepted) at z

  -- as many packets as the limit, and the slots examined are at most six times these
  pub burst_up_to : (burst_of q ring list out limit).packets ≡ limit
  burst_up_to = rw (burst_is q ring list out limit refl accepted) (up_to_limit ring list limit q not_stopped)

  pub burst_full : (burst_of q ring list out limit).examined ≤ packet_slots * (burst_of q ring list out limit).packets
  burst_full = rw (burst_is q ring list out limit refl accepted) (omega (arith, rw not_stopped at (few ring list limit q)))

-- ---- the list's places

told_long : (ms : List Made) → length (told ms) ≡ packet_numbers * length ms
unfolding told
told_long [] = refl
told_long (m ∷ ms) = omega (arith, told_long ms)

-- three places a packet
told_at : (ms : List Made) (rest : List ℕ) (i j : ℕ) (z : Made) → i < length ms → j < packet_numbers
    → get_or (told ms ++ rest) (packet_numbers * i + j) 0 ≡ get_or (told (get_or ms i z ∷ [])) j 0
unfolding told
told_at [] rest i j z h l = absurd (omega arith)
told_at (m ∷ ms) rest zero zero z h l = refl
told_at (m ∷ ms) rest zero (suc zero) z h l = refl
told_at (m ∷ ms) rest zero (suc (suc zero)) z h l = refl
told_at (m ∷ ms) rest zero (suc (suc (suc j))) z h l = absurd (omega arith)
told_at (m ∷ ms) rest (suc i) j z h l =
    let e : packet_numbers * suc i + j ≡ suc (suc (suc (packet_numbers * i + j))) = omega arith in
    rw e (told_at ms rest i j z (omega arith) l)

module _ (q : RxQueue) (ring list out : List ℕ) (limit : ℕ) where
  -- packet i has its three numbers at places 3i to 3i + 2
  pub place_at : (i j : ℕ) (z : Made) → i < (burst_of q ring list out limit).packets → j < packet_numbers
      → get_or (out_after q ring list out limit) (packet_numbers * i + j) 0 ≡ get_or (told (get_or (handing (made q ring list out limit)) i z ∷ [])) j 0
  unfolding burst_of out_after
  place_at i j z h l = told_at (handing (made q ring list out limit)) _ i j z h l

  -- the places past them stay
  pub place_past : (i : ℕ) → get_or (out_after q ring list out limit) (packet_numbers * (burst_of q ring list out limit).packets + i) 0
      ≡ get_or out (packet_numbers * (burst_of q ring list out limit).packets + i) 0
  unfolding burst_of out_after
  place_past i =
      let ns : List ℕ = told (handing (made q ring list out limit)) in
      rw (← told_long (handing (made q ring list out limit))) (get_or-append-add ns (drop (length ns) out) i 0 ∙ get_or-drop (length ns) out i 0)

module _ (q : RxQueue) (ring list out : List ℕ) (limit : ℕ) where
  -- after 4, a take answers 4
  pub four_again : (burst_of q ring list out limit).answer ≡ Err NotYet → (take_of (burst_of q ring list out limit).queue ring list).answer ≡ Err NotYet
  four_again e = go (done_or_not (refusal q ring list out limit))
    where
      go : Dec (refusal q ring list out limit ≡ done) → (take_of (burst_of q ring list out limit).queue ring list).answer ≡ Err NotYet
      go (yes z) =
          let s : stopped_by (takes q ring list out limit) ≡ Err NotYet = rw (burst_is q ring list out limit refl z) at e in
          rw (burst_is q ring list out limit refl z) (stops_again ring list limit q (λ x. refused_is _ refl (sym s ∙ x)) ∙ s)
      go (no ne) =
          let r : refusal q ring list out limit ≡ Err NotYet = sym (ap (λ (b : Burst). b.answer) (refused q ring list out limit ne).result_is) ∙ e in
          absurd (⊎_elim (λ x. omega (arith, ap number_of (sym r ∙ x))) (λ x. omega (arith, ap number_of (sym r ∙ x))) (refuses_with q ring list out limit ne))
