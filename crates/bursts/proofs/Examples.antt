-- The history of specs/Examples, computed from the definitions. Assumes nothing.
use Rattle.std.proofs.Common.{refl, arith}
use Rattle.slots.specs.Slots.{run}
use Rattle.receive.specs.Queue.{record_ok, lent_ok, fresh_of}
use Rattle.scan.specs.Slots.{posted_slots}
use Rattle.receive.specs.Post.{post_answer}
use Rattle.scan.specs.Scan.{allowed, writable, and_then, scan, goes_on, examined}
use Rattle.scan.specs.Told.{sum, padded, last_words}
use Rattle.receive.specs.Take.{packet_of, look, take_by, take_of}
use Rattle.receive.specs.Burst.{takes_from, stopped_by, carried, handing, told, refusal_of, made, burst_of, out_after}
use Rattle.history.specs.World.{post_at, take_at, part_after, after, reply}
use Rattle.history.specs.History.{if_done, packets_in}
use Rattle.laps.specs.Examples.{start}
use Rattle.laps.proofs.Examples.{laps}
use Rattle.bursts.specs.Acts.{with_queue, packets_told, after_act, up_by, as_events, all_up, spread}
use Rattle.bursts.specs.Demand.{BurstDemand}
use Rattle.bursts.specs.Examples.{acts, says_at, bursts_say, Polled}
use Rattle.bursts.proofs.Bursts.{burst_demand}

pub polled : Polled
unfolding fresh_of lent_ok record_ok post_answer run posted_slots allowed writable and_then scan goes_on examined look sum padded last_words packet_of take_by take_of takes_from stopped_by carried handing told refusal_of made burst_of out_after post_at take_at part_after after reply if_done packets_in with_queue packets_told after_act up_by as_events all_up spread says_at bursts_say
polled =
    record {
      allowed = (tt, (tt, (tt, (tt, (tt, (((λ e. omega arith), tt), (tt, (((λ e. omega arith), tt), (((λ e. omega arith), tt), (tt, (tt, (tt, tt))))))))))));
      says = refl;
      packets_are = refl;
      takes_are = refl;
    }

-- so all that demand 3 says holds of it
pub polled_demand : BurstDemand start acts
polled_demand = burst_demand start acts laps.starts polled.allowed
