-- A burst packet by packet, whatever the companion list: what is known after so many packets, and what the next walk makes of it.
-- Assumes nothing.
use Rattle.std.proofs.Common.{ℕ, suc, ◌+◌, ◌-◌, ◌*◌, ◌≤◌, ◌<◌, ◌≡◌, refl, sym, ap, ◌∙◌, ◌≢◌, cond, List, [], ◌∷◌, ◌++◌, append_assoc, append-nil, add-zero, zero-add, add_assoc, arith, is_ok, length, drop, length-append, length-take-le, take_at, drop-drop}
use native.Mathlib.Nat.{sub-zero}
use lib.Seq.{length_front, drop-append-add, sets, sets-eq}
use Rattle.rules.specs.Rules.{Answer, done}
use Rattle.rules.proofs.Answers.{done-is_ok, refused-is_ok}
use Rattle.ring.specs.declared.Queue.{Queue}
use Rattle.ring.specs.Steps.{Reads}
use Rattle.ring.proofs.Record.{moved_on}
use Rattle.scan.specs.Slots.{Slot, posted_slots}
use Rattle.scan.specs.Scan.{packet_slots, examined, Look, refuse, whole, scan}
use Rattle.scan.proofs.Scans.{reads_few, seen_posted}
use Rattle.burst.specs.declared.Found.{Found}
use Rattle.burst.specs.Out.{packet_numbers, written_to}
use Rattle.burst.specs.Polls.{found_by, Outcome, stop, ahead, polls}
use Rattle.burst.specs.Steps.{Polls, FoundAs, PolledAs}

-- ---- packets before packets

ahead_none : (o : Outcome) → ahead 0 0 [] o ≡ o
unfolding ahead
ahead_none o = rw (zero-add o.result.packets, zero-add o.result.examined)

ahead_more : (n e m f : ℕ) (ns ms : List ℕ) (o : Outcome) → ahead n e ns (ahead m f ms o) ≡ ahead (n + m) (e + f) (ns ++ ms) o
unfolding ahead
ahead_more n e m f ns ms o = rw (add_assoc n m o.result.packets, add_assoc e f o.result.examined, append_assoc)

ahead_stop : (n e : ℕ) (ns : List ℕ) (m : Answer) (q : Queue) (f : ℕ)
    → ahead n e ns (stop m q f) ≡ record { result = record { answer = m; queue = q; packets = n; examined = e + f }; numbers = ns }
unfolding ahead stop
ahead_stop n e ns m q f = rw (add-zero, append-nil)

-- ---- numbers behind those written

written_long : (out ns : List ℕ) → length ns ≤ length out → length (written_to out ns) ≡ length out
written_long out ns h = length_front out ns (length ns) (sym (length-take-le (length ns) out h))

written_more : (out ns ms : List ℕ) (n : ℕ) → length ns ≡ n → n + length ms ≤ length out → sets (written_to out ns) n ms ≡ written_to out (ns ++ ms)
written_more out ns ms n e h =
    sets-eq ms (written_to out ns) n (rw (written_long out ns (omega arith)) h)
    ∙ rw (take_at ns (drop (length ns) out) n e, ← e)
    (rw (drop-append-add ns (drop (length ns) out) (length ms), drop-drop, length-append, append_assoc))

-- ---- one walk

module _ (q : Queue) (buffer : ℕ) (ring : List ℕ) (f : Found) (found : FoundAs q buffer ring f) where
  -- the record keeps what reading asks, and at most six slots were examined
  pub found_keeps : (ring_length : ℕ) → Reads q ring_length → Reads f.queue ring_length × (f.examined ≤ packet_slots)
  unfolding found_by
  found_keeps ring_length r =
      let slots : List Slot = posted_slots q ring [] in
      rw (found []) (go (scan buffer 0 slots) (examined buffer 0 slots) refl (reads_few buffer 0 slots (omega arith)))
    where
      go : (l : Look) (e : ℕ) → scan buffer 0 (posted_slots q ring []) ≡ l → 0 + e ≤ packet_slots → Reads (found_by l q e).queue ring_length × ((found_by l q e).examined ≤ packet_slots)
      go (refuse n) e s h = (r, omega arith)
      go (whole p) e s h = (record { is = moved_on r.is (length p) (seen_posted q ring [] buffer 0 p s); ring_long = r.ring_long }, omega arith)

  -- the packets that may still come, by what is found
  opened : (n : ℕ) (list : List ℕ) → polls buffer ring list (suc n) q
      ≡ cond (is_ok f.answer) (ahead 1 f.examined (q.head ∷ f.count ∷ f.total ∷ []) (polls buffer ring list n f.queue)) (stop f.answer f.queue f.examined)
  unfolding polls
  opened n list = rw (found list)

module _ (start : Queue) (buffer : ℕ) (ring out₀ : List ℕ) (limit : ℕ) where
  -- so many packets are found and told, and what comes is on this record
  pub record Polling (out : List ℕ) (q : Queue) (packets e : ℕ) : Type 0 where
    pub numbers : List ℕ
    pub long : length numbers ≡ packet_numbers * packets
    pub out_is : out ≡ written_to out₀ numbers
    pub within : packets ≤ limit
    pub reads : Reads q (length ring)
    pub few : e ≤ packet_slots * packets
    pub so_far : (list : List ℕ) → polls buffer ring list limit start ≡ ahead packets e numbers (polls buffer ring list (limit - packets) q)

  module _ (asked : Polls start (length ring) (length out₀) limit) where
    pub begins : Polling out₀ start 0 0
    begins =
        record {
          numbers = [];
          long = refl;
          out_is = refl;
          within = omega arith;
          reads = asked.reads;
          few = omega arith;
          so_far = λ list. rw sub-zero (sym (ahead_none _));
        }

    module _ (out : List ℕ) (q : Queue) (packets e : ℕ) (p : Polling out q packets e) where
      -- the packets told fit the list
      numbers_fit : length p.numbers ≤ length out₀
      numbers_fit = omega (arith, p.long, p.within, asked.limit_high, asked.out_long)

      pub out_long : length out ≡ length out₀
      out_long = ap length p.out_is ∙ written_long out₀ p.numbers numbers_fit

      module _ (n : Answer) (f : ℕ) (r : Queue) (h : (list : List ℕ) → polls buffer ring list (limit - packets) q ≡ stop n r f) where
        all : (list : List ℕ) → polls buffer ring list limit start ≡ record { result = record { answer = n; queue = r; packets = packets; examined = e + f }; numbers = p.numbers }
        all list = p.so_far list ∙ rw (h list) (ahead_stop packets e p.numbers n r f)

        -- nothing comes behind these packets but a stop
        stopped_as : PolledAs start buffer ring out₀ limit (record { answer = n; queue = r; packets = packets; examined = e + f }) out
        stopped_as = record { result_is = λ list. rw (all list); out_is = λ list. p.out_is ∙ rw (all list) }

      -- the limit is reached
      pub at_limit : limit ≤ packets → PolledAs start buffer ring out₀ limit (record { answer = done; queue = q; packets = packets; examined = e }) out
      unfolding polls
      at_limit h =
          let z : limit - packets ≡ 0 = omega arith in
          rw add-zero at (stopped_as done 0 q (λ list. rw z))

      module _ (h : packets < limit) (f : Found) (found : FoundAs q buffer ring f) where
        one_more : limit - packets ≡ suc (limit - (packets + 1))
        one_more = omega arith

        -- none is found
        pub at_stop : f.answer ≢ done → PolledAs start buffer ring out₀ limit (record { answer = f.answer; queue = f.queue; packets = packets; examined = e + f.examined }) out
        at_stop ne = stopped_as f.answer f.examined f.queue (λ list. rw one_more (opened q buffer ring f found _ list ∙ rw (refused-is_ok _ ne)))

        -- one is
        pub goes_on : f.answer ≡ done → (out' : List ℕ) → out' ≡ sets out (packet_numbers * packets) (q.head ∷ f.count ∷ f.total ∷ [])
            → Polling out' f.queue (packets + 1) (e + f.examined)
        goes_on z out' o =
            let told : List ℕ = q.head ∷ f.count ∷ f.total ∷ [] in
            record {
              numbers = p.numbers ++ told;
              long = length-append p.numbers told ∙ omega (arith, p.long);
              out_is = o ∙ rw p.out_is (written_more out₀ p.numbers told _ p.long (omega (arith, asked.limit_high, asked.out_long)));
              within = omega arith;
              reads = (found_keeps q buffer ring f found _ p.reads).0;
              few = omega (arith, p.few, (found_keeps q buffer ring f found _ p.reads).1);
              so_far =
                  λ list.
                  p.so_far list
                  ∙ rw one_more (rw (opened q buffer ring f found (limit - (packets + 1)) list, done-is_ok _ z) (ahead_more packets e 1 f.examined p.numbers told _));
            }
