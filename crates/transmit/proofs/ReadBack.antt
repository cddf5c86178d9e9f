-- Read-back: in the ring that an accepted send leaves, the slots from the old tail on give back its pieces in order and its offload
-- request. Its last slot is not marked done, whatever stood there before.
-- Assumes nothing.
use Rattle.std.proofs.Common.{◌≡◌, ℕ, ◌+◌, ◌-◌, ◌^◌, ◌<◌, Bool, true, false, cond, List, eqb, length, get_or, refl, sym, ap, ap₂, ◌∙◌, arith}
use Rattle.rules.specs.Rules.{done}
use Rattle.rules.proofs.Answers.{done-is_ok}
use Rattle.slots.specs.Slots.{slot_at}
use Rattle.ring.specs.Queue.{tail_of}
use Rattle.slots.specs.Memory.{numbers_at, store_run}
use Rattle.slots.proofs.Steps.{slot_here}
use Rattle.slots.proofs.Rows.{row_reads}
use Rattle.ring.proofs.Record.{tail_below}
use Rattle.descriptor.specs.declared.Data.{Data}
use Rattle.field.specs.Field.{read_at}
use Rattle.descriptor.specs.Words.{type_line, data_word, read_data, context_word, read_context}
use Rattle.descriptor.proofs.Bits.{data_type, context_type}
use Rattle.request.specs.declared.Request.{Request}
use Rattle.request.specs.Request.{slots_of, data_of, context_of, request_of}
use Rattle.request.proofs.Slots.{slots_are}
use Rattle.request.proofs.Back.{piece_back, segmentation_back, request_back}
use Rattle.fill.specs.Descriptors.{is_last, piece_numbers, context_numbers, descriptor}
use Rattle.fill.proofs.Places.{two_words, context_first, piece_at, slots_more}
use Rattle.done.specs.Marks.{is_marked}
use Rattle.transmit.specs.declared.TxQueue.{TxQueue}
use Rattle.transmit.specs.Send.{answer_to, slots_taken, ring_after}
use Rattle.transmit.specs.ReadBack.{word0, word1, is_context, request_at, piece_slot, Says}
use Rattle.transmit.proofs.Laws.{Sendable, sendable}

module _ (q : TxQueue) (ring tokens counts addresses lengths : List ℕ) (request : Request)
    (accepted : answer_to q ring tokens counts addresses lengths request ≡ done) (after : List ℕ) (left : after ≡ ring_after q ring tokens counts addresses lengths request) where
  facts : Sendable q (length ring) (length tokens) (length counts) addresses lengths request
  facts = sendable q (length ring) (length tokens) (length counts) addresses lengths request accepted

  abbrev n : ℕ
  n = length lengths

  -- the packet's first slot, the old tail
  abbrev first : ℕ
  first = tail_of q.shared

  after_is : after ≡ store_run 2 q.shared.size (descriptor request addresses lengths) ring first (slots_of request n)
  after_is = left ∙ rw (done-is_ok (answer_to q ring tokens counts addresses lengths request) accepted)

  -- the slot that is k slots after the old tail has descriptor k
  pub slot_reads : (k : ℕ) → k < slots_taken request lengths → numbers_at 2 after (slot_at (tail_of q.shared) q.shared.size k) ≡ descriptor request addresses lengths k
  slot_reads k l =
      ap (λ (m : List ℕ). numbers_at 2 m (slot_at first q.shared.size k)) after_is
      ∙ row_reads 2 q.shared.size (descriptor request addresses lengths) ring first (two_words request addresses lengths) facts.lent_is.ring_long (slots_of request n) k (omega (arith, facts.grow.room)) l

  piece_reads : (i : ℕ) → i < n → numbers_at 2 after (piece_slot q.shared.size first request i) ≡ piece_numbers request addresses lengths i
  piece_reads i l = slot_reads (slots_of request i) (slots_more request l) ∙ piece_at request addresses lengths i

  abbrev here : ℕ → ℕ
  here i = piece_slot q.shared.size first request i

  abbrev data_at : ℕ → Data
  data_at i = data_of request (get_or lengths i 0) (is_last lengths i)

  piece_word : (i : ℕ) → i < n → word1 after (here i) ≡ data_word (data_at i)
  piece_word i l = ap (λ (ns : List ℕ). get_or ns 1 0) (piece_reads i l)

  piece_says : (i : ℕ) → i < n → read_data (word1 after (here i)) ≡ data_at i
  piece_says i l =
      ap read_data (piece_word i l)
      ∙ piece_back q.frame request facts.own.sound (get_or lengths i 0) (is_last lengths i) (facts.own.each i l).1

  first_slot : slot_at first q.shared.size 0 ≡ first
  first_slot = slot_here first q.shared.size (tail_below q.shared facts.lent_is.is.shared_is)

  first_reads : numbers_at 2 after first ≡ descriptor request addresses lengths 0
  first_reads =
      ap (numbers_at 2 after) (sym first_slot)
      ∙ slot_reads 0 (omega (arith, facts.own.some, slots_are request n))

  context_says : request.segmented ≡ true → (word0 after first ≡ 0) × (word1 after first ≡ context_word (context_of request))
  context_says t =
      let e : numbers_at 2 after first ≡ context_numbers request = first_reads ∙ context_first request addresses lengths t in
      (ap (λ (ns : List ℕ). get_or ns 0 0) e, ap (λ (ns : List ℕ). get_or ns 1 0) e)

  frame_fits : q.frame < 2 ^ 14
  frame_fits = omega (arith, facts.lent_is.is)

  context_back : request.segmented ≡ true → read_context (word1 after first) ≡ context_of request
  context_back t = ap read_context (context_says t).1 ∙ segmentation_back q.frame request facts.own.sound frame_fits

  -- a plain send's first slot is that of piece 0
  plain_first : request.segmented ≡ false → word1 after first ≡ data_word (data_at 0)
  plain_first f =
      let e : descriptor request addresses lengths 0 ≡ piece_numbers request addresses lengths 0 = rw f in
      ap (λ (ns : List ℕ). get_or ns 1 0) (first_reads ∙ e)

  -- the first slot's type tells whether the send is segmented
  type_says : is_context after first ≡ request.segmented
  type_says = go request.segmented refl
    where
      by_type : (w : ℕ) {t : ℕ} → word1 after first ≡ w → read_at type_line w ≡ t → is_context after first ≡ eqb t 1
      by_type w e h = ap (λ (v : ℕ). eqb (read_at type_line v) 1) e ∙ ap (λ (k : ℕ). eqb k 1) h

      go : (b : Bool) → request.segmented ≡ b → is_context after first ≡ b
      go true t = by_type (context_word (context_of request)) (context_says t).1 (context_type (context_of request))
      go false f = by_type (data_word (data_at 0)) (plain_first f) (data_type (data_at 0))

  request_says : (i : ℕ) → i < n → request_at after first (here i) ≡ request
  request_says i l =
      ap₂ (λ (b : Bool) (w : ℕ). request_of b (read_context (word1 after first)) (read_data w)) type_says (piece_word i l)
      ∙ request_back q.frame request facts.own.sound (read_context (word1 after first)) (get_or lengths i 0) (is_last lengths i) (facts.own.each i l).1 frame_fits (λ t. ap read_context (context_says t).1)

  pub reads_back : Says after q.shared.size (tail_of q.shared) addresses lengths request
  reads_back =
      record {
        address_at_lem = λ i l. ap (λ (ns : List ℕ). get_or ns 0 0) (piece_reads i l);
        length_at = λ i l. ap (λ (d : Data). d.length) (piece_says i l);
        eop_at = λ i l. ap (λ (d : Data). d.eop) (piece_says i l);
        rs_at = λ i l. ap (λ (d : Data). d.rs) (piece_says i l);
        request_at_lem = request_says;
        context_at = λ t. ((context_says t).0, context_back t);
      }

  -- a mark that the device left on an earlier lap is gone
  pub not_marked : is_marked after (slot_at (tail_of q.shared) q.shared.size (slots_taken request lengths - 1)) ≡ false
  not_marked =
      let i : ℕ = n - 1 in
      let e : slots_of request n - 1 ≡ slots_of request i = last_slot_lem request.segmented in
      ap (λ (k : ℕ). is_marked after (slot_at first q.shared.size k)) e
      ∙ ap (λ (w : ℕ). eqb (read_at type_line w) 15) (piece_word i (omega (arith, facts.own.some)))
      ∙ ap (λ (k : ℕ). eqb k 15) (data_type (data_at i))
    where
      last_slot_lem : (b : Bool) → cond b (n + 1) n - 1 ≡ cond b (n - 1 + 1) (n - 1)
      last_slot_lem true = omega (arith, facts.own.some)
      last_slot_lem false = refl
