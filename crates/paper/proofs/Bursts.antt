-- Each line of the table of bursts, computed from the definitions.
-- Assumes nothing.
use Rattle.std.proofs.Common.{refl}
use Rattle.slots.specs.Slots.{run}
use Rattle.receive.specs.Queue as rx
use Rattle.scan.specs.Slots.{posted_slots}
use Rattle.receive.specs.Post.{post_answer}
use Rattle.scan.specs.Scan.{allowed, writable, and_then, scan, goes_on, examined}
use Rattle.scan.specs.Told.{sum, padded, last_words}
use Rattle.receive.specs.Take.{packet_of, look, take_by, take_of}
use Rattle.receive.specs.Burst.{takes_from, stopped_by, carried, handing, told, refusal_of, made, burst_of, out_after}
use Rattle.paper.specs.Paper.{post, posts}
use Rattle.paper.specs.Bursts.{Bursts, lapped, two}

pub bursts : Bursts
unfolding run rx.record_ok rx.lent_ok rx.fresh_of posted_slots post_answer allowed writable and_then scan goes_on examined sum padded last_words packet_of look take_by take_of takes_from stopped_by carried handing told refusal_of made burst_of out_after post posts lapped two
bursts = record { two_then_stale = refl; two_told = refl; limit_2 = refl; limit_33 = refl; limit_0 = refl; list_95 = refl }
