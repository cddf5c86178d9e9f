-- What was posted reads back as its request, and every other element stays.
-- Assumes nothing.
use Rattle.rules.specs.Rules.{done}
use Rattle.rules.specs.declared.Refusal.TheVariants.{NotYet}
use Rattle.std.proofs.Common.{Err, ℕ, ◌^◌, ◌<◌, ◌≡◌, refl, ap, ◌∙◌, ◌≢◌, true, List, arith, lit<, length}
use Rattle.element.specs.Element.{no_cookie, element_at}
use Rattle.element.specs.Back.{Holds}
use Rattle.mail_ring.specs.Ring.{ring_ok, tail_of}
use Rattle.mail_ring.specs.Posting.{ring_after, list_after, Stands, OthersStay}
use Rattle.mail_ring.proofs.Puts.{stands, others_stay, nothing_stale}
use Rattle.mail_request.specs.declared.Room.{Room}
use Rattle.mail_request.specs.Request.{room_flags, room_element}
use Rattle.mail_request.specs.Back.{room_in}
use Rattle.mail_request.proofs.Back.{holds, clear, room_back}
use Rattle.mail_reading.specs.Reading.{message_wrong}
use Rattle.mail_reading.proofs.Answers.{read_not_yet}
use Rattle.mail_receive.specs.declared.ReceiveRing.{ReceiveRing}
use Rattle.mail_receive.specs.Receiving.{answer_to_post, message_answer}
use Rattle.mail_receive.proofs.Laws.{post_room, post_short}

module _ (q : ReceiveRing) (ring list : List ℕ) (lent : ℕ) (room : Room) (z : answer_to_post q ring list lent room ≡ done) (small : room.address < 2 ^ 64) where
  room_holds : Holds (room_element room)
  room_holds = holds (room_flags room) 0 room.length no_cookie 0 room.address (lit< tt) (post_short q (length ring) (length list) lent room z) refl (omega arith) small

  pub post_stands : Stands (answer_to_post q ring list lent room) q.shared ring list (room_element room)
  post_stands = stands _ q.shared ring list (room_element room) room_holds z (post_room q (length ring) (length list) lent room z).lent

  pub post_others : OthersStay (answer_to_post q ring list lent room) q.shared ring list (room_element room)
  post_others = others_stay _ q.shared ring list (room_element room) room_holds

  -- all fields of the request, both halves of the address
  pub post_reads : room_in (element_at (ring_after (answer_to_post q ring list lent room) q.shared ring list (room_element room)) (tail_of q.shared)) ≡ room
  post_reads = ap room_in post_stands.element_is ∙ room_back room

  -- ring and list behind the post
  abbrev posted_ring : List ℕ
  posted_ring = ring_after (answer_to_post q ring list lent room) q.shared ring list (room_element room)

  abbrev posted_list : List ℕ
  posted_list = list_after (answer_to_post q ring list lent room) q.shared ring list (room_element room)

  -- once it is the oldest it is not read until the device has written it, whatever stood in the element before
  pub post_not_yet : (r : ReceiveRing) → ring_ok r.shared ≡ true → r.shared.size ≡ q.shared.size → r.shared.head ≡ tail_of q.shared → r.shared.posted ≢ 0 → (lent' : ℕ) → message_answer r posted_ring posted_list lent' ≡ Err NotYet
  unfolding message_answer
  post_not_yet r ok size_is head-is some lent' =
      read_not_yet message_wrong r.shared posted_ring posted_list lent'
      (nothing_stale (answer_to_post q ring list lent room) q.shared ring list (room_element room) z (post_room q (length ring) (length list) lent room z).lent r.shared ok size_is room_holds
      (clear (room_flags room) 0 room.length no_cookie 0 room.address) head-is some)
