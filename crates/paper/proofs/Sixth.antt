-- Each line of the table of full packets, computed from the definitions.
-- Assumes nothing.
use Rattle.std.proofs.Common.{refl}
use Rattle.slots.specs.Slots.{run}
use Rattle.receive.specs.Queue as rx
use Rattle.scan.specs.Slots.{posted_slots}
use Rattle.receive.specs.Post.{post_answer}
use Rattle.scan.specs.Scan.{allowed, writable, and_then, scan, goes_on, examined}
use Rattle.scan.specs.Told.{sum, padded, last_words}
use Rattle.receive.specs.Take.{packet_of, look, take_by, take_of}
use Rattle.receive.specs.Burst.{takes_from, stopped_by, carried, handing, told, refusal_of, made, burst_of}
use Rattle.paper.specs.Paper.{post, posts, full}
use Rattle.paper.specs.Sixth.{Sixth}

pub sixth : Sixth
unfolding run rx.record_ok rx.lent_ok rx.fresh_of posted_slots post_answer allowed writable and_then scan goes_on examined sum padded last_words packet_of look take_by take_of takes_from stopped_by carried handing told refusal_of made burst_of post posts full
sixth = record { branch = refl; not_written = refl; not_posted = refl; with_data = refl; with_more = refl; without_end = refl; bound = refl }
