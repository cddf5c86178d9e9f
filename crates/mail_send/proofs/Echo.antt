-- What was sent comes back: completed by a device that sets DD and CMP and leaves the rest, it is read with 0, its own cookie and, without BUF, its 8 bytes.
-- Assumes nothing.
use Rattle.rules.proofs.Answers.{done-is_ok}
use Rattle.rules.specs.declared.Refusal.TheVariants.{NotYet}
use Rattle.std.proofs.Common.{Err, ℕ, ◌+◌, ◌*◌, ◌^◌, ◌≤◌, ◌<◌, ◌≡◌, refl, sym, ap, ◌∙◌, ◌≢◌, Bool, true, false, not, ◌&&◌, ◌||◌, cond, List, [], ◌∷◌, arith, ne_eqb, eq-eqb, le-ltb, ltb, eqb, length, get_or, length-set}
use Rattle.rules.specs.Rules.{Answer, done as all_done, ◌when◌, answer_of}
use Rattle.rules.proofs.Tests.{none}
use Rattle.rules.proofs.Checks.{passed}
use Rattle.slots.proofs.Steps.{slot_here}
use Rattle.field.specs.Field.{is_set}
use Rattle.mail_flags.specs.declared.Flags.{Flags}
use Rattle.element.specs.declared.Element.{Element}
use Rattle.mail_flags.specs.Flags.{dd_flag}
use Rattle.element.specs.Element.{cookie_at}
use Rattle.element.specs.Back.{Holds, Clear, completes, done}
use Rattle.mail_flags.proofs.Back.{flags_back}
use Rattle.element.proofs.Back.{echoed}
use Rattle.mail_ring.specs.Ring.{ring_ok, lent_ok, tail_of, advanced}
use Rattle.mail_ring.specs.Posting.{ring_after, list_after}
use Rattle.mail_ring.specs.Steps.{Lent}
use Rattle.mail_ring.proofs.Record.{is_placed, tail_below}
use Rattle.mail_ring.proofs.Puts.{lent_after, nothing_stale}
use Rattle.mail_request.specs.declared.Message.{Message}
use Rattle.mail_request.specs.Request.{send_to_pf, queue_shutdown, most_length, length_wrong, send_flags, send_element}
use Rattle.mail_request.proofs.Back.{clear}
use Rattle.mail_reading.specs.declared.Reading.{Reading}
use Rattle.mail_reading.specs.Reading.{has_buffer, completion_wrong, reading_of}
use Rattle.mail_reading.proofs.Answers.{read_not_yet}
use Rattle.mail_reading.proofs.Echo.{done_dd, done_err, done_buf, completion_right}
use Rattle.mail_send.specs.declared.SendRing.{SendRing}
use Rattle.mail_send.specs.declared.Completion.{Completion}
use Rattle.mail_send.specs.Sending.{send_checks, send_answer, answer_to_send, send_of, completion_answer, completion_of}
use Rattle.mail_send.specs.Calls.{sending}
use Rattle.mail_send.specs.Back.{Completed, message_at}
use Rattle.mail_send.proofs.Laws.{send_room, completion_given}
use Rattle.mail_send.proofs.Keeps.{call_keeps}
use Rattle.mail_send.proofs.Back.{send_holds, send_stands}

-- ---- any element that a driver sends

module _ (q : SendRing) (ring list : List ℕ) (e : Element) (c : Completed q ring list e) (h : Holds e) (cl : Clear e) (sent : eqb e.opcode send_to_pf || eqb e.opcode queue_shutdown ≡ true) (lent : ℕ) (right : length_wrong (has_buffer e) e.length lent ≡ false) where
  -- the answer for an element and a companion at head
  abbrev by : Element → ℕ → Answer
  by x p =
      answer_of
      (1 when not (lent_ok q.shared (length ring) (length list))
      ∷ 4 when (eqb q.shared.posted 0 || not (is_set dd_flag x.flags))
      ∷ 5 when completion_wrong x p
      ∷ 11 when length_wrong (has_buffer x) x.length lent
      ∷ [])

  echo_answer : completion_answer q ring list lent ≡ all_done
  unfolding completion_answer
  echo_answer =
      ap (λ (x : Element). by x (get_or list q.shared.head 0)) c.element_is
      ∙ ap (λ (p : ℕ). by (done e) p) c.companion_is
      ∙ rw (c.lent, ne_eqb q.shared.posted 0 c.some, done_dd e cl, completion_right e cl h sent, done_buf e cl, right)

  -- what is read of an element
  abbrev given : Element → Completion
  given x = record { answer = all_done; queue = record { shared = advanced q.shared; shut = q.shut }; opcode = x.opcode; reading = reading_of q.shared.head x }

  read_done : e.value ≡ 0 → reading_of q.shared.head (done e) ≡ message_at q.shared.head (has_buffer e) e.length e.cookie
  unfolding reading_of
  read_done v = rw (done_err e cl, done_buf e cl, v)

  pub comes_back : e.value ≡ 0
      → completion_of q ring list lent
      ≡ record { answer = all_done; queue = record { shared = advanced q.shared; shut = q.shut }; opcode = e.opcode; reading = message_at q.shared.head (has_buffer e) e.length e.cookie }
  comes_back v =
      completion_given q ring list lent echo_answer ∙ ap given c.element_is
      ∙ ap (λ (r : Reading). record { answer = all_done; queue = record { shared = advanced q.shared; shut = q.shut }; opcode = e.opcode; reading = r }) (read_done v)

-- ---- a message: sent, completed, and read once it is the oldest

-- a length that was right is right for a buffer that is long enough
still_right : (buf : Bool) (n lent lent' : ℕ) → length_wrong buf n lent ≡ false → n ≤ lent' → length_wrong buf n lent' ≡ false
still_right buf n lent lent' w l =
    let no = none (ltb lent n ∷ ltb most_length n ∷ (not buf && not (eqb n 0)) ∷ []) w in
    rw (le-ltb lent' n l, no 1, no 2)

module _ (q : SendRing) (ring list : List ℕ) (lent : ℕ) (m : Message) (z : answer_to_send q ring list lent m ≡ all_done) (eight : length m.cookie ≡ 8) (small : m.address < 2 ^ 64) where
  -- ring and list behind the send, and the ring once the device is done
  abbrev sent_list : List ℕ
  sent_list = list_after (answer_to_send q ring list lent m) q.shared ring list (send_element m)

  abbrev sent_ring : List ℕ
  sent_ring = ring_after (answer_to_send q ring list lent m) q.shared ring list (send_element m)

  abbrev done_ring : List ℕ
  done_ring = completes sent_ring (tail_of q.shared)

  sent_clear : Clear (send_element m)
  sent_clear = clear (send_flags m) send_to_pf m.length m.cookie 0 (cond m.buf m.address 0)

  sent_right : length_wrong m.buf m.length lent ≡ false
  unfolding send_answer
  sent_right = passed (send_checks q (length ring) (length list) lent m) tt z 2

  module _ (r : SendRing) (ok : ring_ok r.shared ≡ true) (size_is : r.shared.size ≡ q.shared.size) (head-is : r.shared.head ≡ tail_of q.shared) (some : r.shared.posted ≢ 0) where
    lent_was : Lent q.shared (length ring) (length list)
    lent_was = (send_room q (length ring) (length list) lent m z).lent

    lends : lent_ok r.shared (length sent_ring) (length sent_list) ≡ true
    lends = lent_after (answer_to_send q ring list lent m) q.shared ring list (send_element m) z lent_was r.shared ok size_is

    pub oldest : Completed r done_ring sent_list (send_element m)
    oldest =
        let b = done-is_ok (answer_to_send q ring list lent m) z in
        let t : ℕ = tail_of q.shared in
        let inside : 32 * t + 32 ≤ length ring = omega (arith, tail_below lent_was.is, lent_was.ring_long) in
        record {
          lent = rw (length-set sent_ring (32 * t) _) lends;
          some = some;
          element_is = rw (head-is, b) (echoed (send_element m) (send_holds q ring list lent m z eight small) sent_clear ring t inside);
          companion_is = rw head-is (send_stands q ring list lent m z eight small).companion_is;
        }

    -- before the device is done it is not read, whatever stood in the element before
    pub sent_not_yet : (lent' : ℕ) → completion_answer r sent_ring sent_list lent' ≡ Err NotYet
    unfolding completion_answer
    sent_not_yet lent' =
        read_not_yet completion_wrong r.shared sent_ring sent_list lent'
        (nothing_stale (answer_to_send q ring list lent m) q.shared ring list (send_element m) z lent_was r.shared ok size_is (send_holds q ring list lent m z eight small) sent_clear head-is some)

    buf_is : has_buffer (send_element m) ≡ m.buf
    buf_is = ap (λ (f : Flags). f.buf) (flags_back (send_flags m))

    -- THE ECHO: 0, its own cookie, and the message where it was sent from
    pub sent_back : (lent' : ℕ) → m.length ≤ lent'
        → completion_of r done_ring sent_list lent'
        ≡ record { answer = all_done; queue = record { shared = advanced r.shared; shut = r.shut }; opcode = send_to_pf; reading = message_at r.shared.head m.buf m.length m.cookie }
    sent_back lent' l =
        let right = rw (← buf_is) at (still_right m.buf m.length lent lent' sent_right l) in
        rw buf_is at (comes_back r done_ring sent_list (send_element m) oldest (send_holds q ring list lent m z eight small) sent_clear refl lent' right refl)

    -- whose 8 bytes in the ring are the cookie's
    pub own_bytes : cookie_at done_ring r.shared.head ≡ m.cookie
    own_bytes = ap (λ (x : Element). x.cookie) oldest.element_is

  -- ---- on a ring where nothing was posted before, the send's own record is such a one

  pub at_once : q.shared.posted ≡ 0 → (lent' : ℕ) → m.length ≤ lent'
      → (completion_of (send_of q ring list lent m).queue done_ring sent_list lent').reading ≡ message_at q.shared.head m.buf m.length m.cookie
  at_once none_posted lent' l =
      let p = (send_room q (length ring) (length list) lent m z).lent.is in
      let k = call_keeps q (is_placed q.shared p) ring list (sending lent m) in
      let b = done-is_ok (answer_to_send q ring list lent m) z in
      let r : SendRing = (send_of q ring list lent m).queue in
      let head-same : r.shared.head ≡ q.shared.head = rw b in
      let here : r.shared.head ≡ tail_of q.shared = head-same ∙ rw none_posted (sym (slot_here q.shared.head q.shared.size p.head_below)) in
      let some : r.shared.posted ≢ 0 = rw b (λ e. omega (arith, e)) in
      ap (λ (c : Completion). c.reading) (sent_back r k.ok k.same_size here some lent' l)
      ∙ ap (λ (h : ℕ). message_at h m.buf m.length m.cookie) head-same
