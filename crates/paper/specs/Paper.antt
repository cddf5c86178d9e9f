-- The worked examples of 01 that are marked P ("Examples on both sides"), as one table over the definitions that the contracts cite.
-- The two data words have the CRC command, bit 6, which Intel's Section 2.2.2.2 asks to be 1.
-- Assumes nothing.
use Rattle.std.specs.Prelude.{ℕ, zero, suc, ◌*◌, ◌+◌, ◌^◌, ◌≡◌, Bool, true, false, List, [], ◌∷◌, length, get_or, set, replicate, Ok}
use Rattle.rules.specs.Rules.{done, number_of, answer_at}
use Rattle.family.specs.declared.Family.TheVariants.{Ipv4}
use Rattle.verdict.specs.declared.Verdict.TheVariants.{Good}
use Rattle.writeback.specs.WriteBack.{write_back_of}
use Rattle.receive.specs.declared.RxQueue.{RxQueue}
use Rattle.receive.specs.declared.Taken.{Taken}
use Rattle.receive.specs.Queue as rx
use Rattle.receive.specs.Post.{post_of, ring_after, list_after}
use Rattle.receive.specs.Take.{take_of}
use Rattle.interrupt.specs.declared.Enable.TheVariants.{On, Leave}
use Rattle.interrupt.specs.declared.Request as interrupt
use Rattle.interrupt.specs.Interrupt.{interrupt_of}
use Rattle.segments.specs.Touch.{touched}
use Rattle.request.specs.declared.IpKind.TheVariants.{None as NoIp, Ipv4Checksum}
use Rattle.request.specs.declared.L4Kind.TheVariants.{None as NoL4, Tcp}
use Rattle.request.specs.declared.Request.{Request}
use Rattle.transmit.specs.declared.TxQueue.{TxQueue}
use Rattle.transmit.specs.Queue as tx
use Rattle.fill.specs.Descriptors.{descriptor}
use Rattle.transmit.specs.Send.{send_answer}

-- ---- sending

-- word 1 of descriptor k of a send
abbrev pub word1 : Request → List ℕ → List ℕ → ℕ → ℕ
word1 request addresses lengths k = get_or (descriptor request addresses lengths k) 1 0

abbrev pub plain : Request
plain =
    record { ip = NoIp; l4 = NoL4; mac_length = 0; ip_length = 0; l4_length = 0; vlan = false; tag = 0; segmented = false; mss = 0; tlen = 0 }

-- headers of 14, 20 and 20 bytes, IPv4 with checksum, TCP; segmented with an MSS and a TLEN, or not
abbrev pub tcp : Bool → ℕ → ℕ → Request
tcp segmented mss tlen =
    record { ip = Ipv4Checksum; l4 = Tcp; mac_length = 14; ip_length = 20; l4_length = 20; vlan = false; tag = 0; segmented = segmented; mss = mss; tlen = tlen }

abbrev pub tx_fresh : TxQueue
tx_fresh = (tx.fresh_of 0 32 1518).queue

-- what a fresh queue of 32 slots answers to a send
abbrev pub answered : List ℕ → Request → ℕ
answered lengths request = number_of (send_answer tx_fresh 64 32 32 (replicate (length lengths) 4096) lengths request)

-- a 54-byte header alone, then n pieces of 209
abbrev pub pieces : ℕ → List ℕ
pieces n = 54 ∷ replicate n 209

-- ---- receiving

-- a queue with its lent memory
pub record State : Type 0 where
  pub queue : RxQueue
  pub ring : List ℕ
  pub list : List ℕ

unfoldable pub post : State → State
post s =
    record {
      queue = (post_of s.queue s.ring s.list 4096).queue;
      ring = ring_after s.queue s.ring s.list 4096;
      list = list_after s.queue s.ring s.list 4096;
    }

unfoldable pub posts : ℕ → State → State
posts zero s = s
posts (suc n) s = posts n (post s)

-- size 32, buffer size 2,048, and 31 posts
unfoldable pub full : State
full = posts 31 (record { queue = (rx.fresh_of 0 32 2048).queue; ring = replicate 64 0; list = replicate 32 0 })

-- a two-slot packet of 2,048 and 100 bytes, as the device writes it; what take says; and the queue after it
unfoldable pub written : List ℕ
written = set (set full.ring 1 (2048 * 2 ^ 38 + 1)) 3 (100 * 2 ^ 38 + 3)

unfoldable pub took : Taken
took = take_of full.queue written full.list

unfoldable pub after_take : State
after_take = record { queue = took.queue; ring = written; list = full.list }

-- ---- interrupt words

-- on, clear, with an index and an interval
abbrev pub timed : ℕ → ℕ → interrupt.Request
timed index interval =
    record { vector = 0; enable = On; write_back = false; clear = true; trigger = false; trigger_index = 0; index = index; interval = interval }

-- leave, trigger index 3, index 3
abbrev pub leaving : interrupt.Request
leaving =
    record { vector = 0; enable = Leave; write_back = false; clear = false; trigger = true; trigger_index = 3; index = 3; interval = 0 }

-- ---- the table

pub record Paper : Type 0 where
  -- 60 bytes plain, one piece
  pub plain_60 : word1 plain (4096 ∷ []) (60 ∷ []) 0 ≡ 0x000000F000000070
  -- 1,000 bytes, 14/20/20, IPv4 checksum, TCP
  pub tcp_1000 : word1 (tcp false 0 0) (4096 ∷ []) (1000 ∷ []) 0 ≡ 0x00000FA142871670
  -- TLEN 3,000, MSS 1,460: context word 1
  pub context : word1 (tcp true 1460 3000) (4096 ∷ []) (3054 ∷ []) 0 ≡ 0x16D002EE00000011
  -- write-back 0x000010068000000B: DD, EOP, L3L4P, type 26, length 64
  pub write_back : write_back_of (record { word0 = 0; word1 = 0x000010068000000B })
      ≡ record {
        tag = 0;
        hash = 0;
        dd = true;
        eop = true;
        l2tag1p = false;
        l3l4p = true;
        crcp = false;
        umbcast = 0;
        fltstat = 0;
        lpbk = false;
        ipv6exadd = false;
        int_udp_0 = false;
        l3 = Good;
        l4 = Good;
        oversize = false;
        ptype = 26;
        length = 64;
        family = Ipv4;
      }
  -- on, clear, index 3; index 0 with 100, 8,160 and 8,162 microseconds
  pub on_clear : interrupt_of (timed 3 0) ≡ record { answer = done; offset = 0x5C00; word = 0x1B }
  pub on_clear_100 : interrupt_of (timed 0 100) ≡ record { answer = done; offset = 0x5C00; word = 0x643 }
  pub on_clear_8160 : interrupt_of (timed 0 8160) ≡ record { answer = done; offset = 0x5C00; word = 0x1FE03 }
  pub on_clear_8162 : interrupt_of (timed 0 8162) ≡ record { answer = answer_at 9; offset = 0; word = 0 }
  -- leave, trigger index 3, index 3
  pub leave_trigger : interrupt_of leaving ≡ record { answer = done; offset = 0x5C00; word = 0x8700001C }
  -- size 32: 31 posts give tail 31, another gives 3
  pub tail_31 : rx.tail_value_of full.queue ≡ Ok 31
  pub one_more : number_of (post_of full.queue full.ring full.list 4096).answer ≡ 3
  -- after a two-slot packet take returns 2,148, head 2; one more post gives tail 0
  pub two_slots : (number_of took.answer ≡ 0) × (took.packet.count ≡ 2) × (took.packet.total ≡ 2148) × (took.queue.shared.head ≡ 2)
  pub tail_0 : rx.tail_value_of (post after_take).queue ≡ Ok 0
  -- 54-byte header alone, then 14 pieces of 209, MSS 1,460, TLEN 2,926: segment 0 touches 8, segment 1 touches 9, so 8
  pub segment_0 : touched (pieces 14) 54 1460 2926 0 ≡ 8
  pub segment_1 : touched (pieces 14) 54 1460 2926 1 ≡ 9
  pub crowded_14 : answered (pieces 14) (tcp true 1460 2926) ≡ 8
  -- with 7 such pieces, TLEN 1,463: passes
  pub passes_7 : answered (pieces 7) (tcp true 1460 1463) ≡ 0
