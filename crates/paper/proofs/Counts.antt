-- Each line of the table of counts, computed from the definitions.
-- Assumes nothing.
use Rattle.std.proofs.Common.{refl}
use Rattle.rules.specs.Rules.{all_below}
use Rattle.slots.specs.Slots.{run}
use Rattle.receive.specs.Queue as rx
use Rattle.scan.specs.Slots.{posted_slots}
use Rattle.receive.specs.Post.{post_answer}
use Rattle.scan.specs.Scan.{allowed, and_then, scan}
use Rattle.scan.specs.Told.{sum, padded, last_words}
use Rattle.receive.specs.Take.{packet_of, look, take_by, take_of}
use Rattle.segments.specs.Touch.{count_below, some_below, start_of, is_crowded}
use Rattle.pieces.specs.Pieces.{pieces_ok, addresses_ok}
use Rattle.offload.specs.Offload.{headers_ok, segmentation_ok, request_ok}
use Rattle.transmit.specs.Queue as tx
use Rattle.transmit.specs.Send.{send_answer}
use Rattle.paper.specs.Paper.{post, posts, full, written, took}
use Rattle.paper.specs.Counts.{Counts}

pub counts : Counts
unfolding all_below run rx.record_ok rx.lent_ok rx.fresh_of posted_slots post_answer allowed and_then scan look sum padded last_words packet_of take_by take_of count_below some_below start_of is_crowded pieces_ok addresses_ok headers_ok segmentation_ok request_ok tx.record_ok tx.lent_ok send_answer post posts full written took
counts =
    record {
      refused_zero = refl;
      two_back = refl;
      agrees = refl;
      one_more = refl;
      one_less = refl;
      more_back = refl;
      last_post = refl;
      past_post = refl;
      last_plain = refl;
      past_segmented = refl;
      last_segmented = refl;
    }
