-- A burst on the record's shared part, packet by packet: what the walks of the code come to. Receive's `burst_of` says the same by takes.
-- Assumes nothing.
use Rattle.std.specs.Prelude.{ℕ, zero, suc, ◌+◌, cond, List, [], ◌∷◌, ◌++◌, length, Err, is_ok}
use Rattle.rules.specs.Rules.{Answer, done}
use Rattle.ring.specs.declared.Queue.{Queue}
use Rattle.ring.specs.Queue.{advanced}
use Rattle.scan.specs.Slots.{posted_slots}
use Rattle.scan.specs.Scan.{examined, Look, refuse, whole, scan}
use Rattle.scan.specs.Told.{sum, lengths_of}
use Rattle.burst.specs.declared.Found.{Found}
use Rattle.burst.specs.declared.Polled.{Polled}

-- what is found, by what a scan sees and how many slots it examines
unfoldable pub found_by : Look → Queue → ℕ → Found
found_by (refuse r) q e = record { answer = Err r; queue = q; count = 0; total = 0; examined = e }
found_by (whole p) q e = record { answer = done; queue = advanced q (length p); count = length p; total = sum (lengths_of p); examined = e }

abbrev pub found_in : ℕ → List ℕ → List ℕ → Queue → Found
found_in buffer ring list q =
    let slots = posted_slots q ring list in
    found_by (scan buffer 0 slots) q (examined buffer 0 slots)

-- what a burst comes to: what it gives, and the numbers that it writes
pub record Outcome : Type 0 where
  pub result : Polled
  pub numbers : List ℕ

unfoldable pub stop : Answer → Queue → ℕ → Outcome
stop a q e = record { result = record { answer = a; queue = q; packets = 0; examined = e }; numbers = [] }

-- so many packets, slots examined and numbers before the others
unfoldable pub ahead : ℕ → ℕ → List ℕ → Outcome → Outcome
ahead packets e numbers o =
    let r = o.result in
    record {
      result = record { answer = r.answer; queue = r.queue; packets = packets + r.packets; examined = e + r.examined };
      numbers = numbers ++ o.numbers;
    }

-- at most n packets, each told by head before it, its slot count and its total length, until none is found
unfoldable pub polls : ℕ → List ℕ → List ℕ → ℕ → Queue → Outcome
polls buffer ring list zero q = stop done q 0
polls buffer ring list (suc n) q =
    let f = found_in buffer ring list q in
    cond (is_ok f.answer)
    (ahead 1 f.examined (q.head ∷ f.count ∷ f.total ∷ []) (polls buffer ring list n f.queue))
    (stop f.answer f.queue f.examined)
