-- Each line of the table, computed from the definitions.
-- Assumes nothing.
use Rattle.std.proofs.Common.{refl}
use Rattle.rules.specs.Rules.{all_below}
use Rattle.family.specs.Types.{family_of}
use Rattle.packet_types.specs.Table.{entry_of}
use Rattle.verdict.specs.Verdict.{l3_of, l4_of}
use Rattle.writeback.specs.WriteBack.{write_back_of}
use Rattle.slots.specs.Slots.{run}
use Rattle.ring.specs.Queue.{asked_of}
use Rattle.receive.specs.Queue as rx
use Rattle.scan.specs.Slots.{posted_slots}
use Rattle.receive.specs.Post.{post_answer}
use Rattle.scan.specs.Scan.{allowed, and_then, scan}
use Rattle.scan.specs.Told.{sum, padded, last_words}
use Rattle.receive.specs.Take.{packet_of, look, take_by, take_of}
use Rattle.interrupt.specs.Interrupt.{interrupt_of}
use Rattle.segments.specs.Touch.{count_below, some_below, start_of, is_crowded}
use Rattle.pieces.specs.Pieces.{pieces_ok, addresses_ok}
use Rattle.offload.specs.Offload.{headers_ok, segmentation_ok, request_ok}
use Rattle.transmit.specs.Queue as tx
use Rattle.transmit.specs.Send.{send_answer}
use Rattle.paper.specs.Paper.{Paper, post, posts, full, written, took, after_take}

pub examples : Paper
unfolding all_below family_of entry_of l3_of l4_of write_back_of run rx.record_ok rx.lent_ok rx.fresh_of asked_of posted_slots post_answer allowed and_then scan look sum padded last_words packet_of take_by take_of interrupt_of count_below some_below start_of is_crowded pieces_ok addresses_ok headers_ok segmentation_ok request_ok tx.record_ok tx.lent_ok tx.fresh_of send_answer post posts full written took after_take
examples =
    record {
      plain_60 = refl;
      tcp_1000 = refl;
      context = refl;
      write_back = refl;
      on_clear = refl;
      on_clear_100 = refl;
      on_clear_8160 = refl;
      on_clear_8162 = refl;
      leave_trigger = refl;
      tail_31 = refl;
      one_more = refl;
      two_slots = (refl, refl, refl, refl);
      tail_0 = refl;
      segment_0 = refl;
      segment_1 = refl;
      crowded_14 = refl;
      passes_7 = refl;
    }
