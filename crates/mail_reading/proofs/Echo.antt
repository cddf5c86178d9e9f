-- An element of a driver that the device is done with: DD is set in it, ERR is not, and every flag that has to come back is as it was posted.
-- Assumes nothing.
use Rattle.std.proofs.Common.{◌+◌, ◌≤◌, ◌≡◌, refl, ap, ◌∙◌, ◌≢◌, true, false, not, ◌||◌, add_comm, div-one, arith, eq-eqb, ne_eqb, lit<, eqb}
use Rattle.field.specs.Field.{Line, field_of, read_at, is_set}
use Rattle.field.proofs.Laws.{put_above}
use Rattle.element.specs.declared.Element.{Element}
use Rattle.mail_flags.specs.Flags.{dd_flag, err_flag, buf_flag, rd_flag, vfc_flag, si_flag, ei_flag, fe_flag, lb_flag, not_echoed}
use Rattle.element.specs.Back.{Holds, Clear, done_bits, done}
use Rattle.mail_ring.specs.Ring.{companion_of}
use Rattle.mail_ring.proofs.Puts.{companion_flags, companion_opcode}
use Rattle.mail_request.specs.Request.{send_to_pf, queue_shutdown}
use Rattle.mail_reading.specs.Reading.{has_buffer, completion_wrong}

module _ (e : Element) (clear : Clear e) where
  -- a flag of byte 1 reads as before
  same_flag : (l : Line) → 8 ≤ (l 0).at → read_at l (done_bits + e.flags) ≡ read_at l e.flags
  same_flag l h =
      let low : field_of 0 8 e.flags ≡ 0 = rw div-one clear in
      ap (read_at l) (add_comm done_bits e.flags) ∙ put_above 0 8 done_bits e.flags (l 0).at (l 0).width low (lit< tt) h

  pub done_dd : is_set dd_flag (done e).flags ≡ true
  done_dd = let one : read_at dd_flag (done e).flags ≡ 1 = omega (arith, clear) in eq-eqb (read_at dd_flag (done e).flags) 1 one

  pub done_err : is_set err_flag (done e).flags ≡ false
  done_err = let none : read_at err_flag (done e).flags ≢ 1 = λ q. omega (arith, clear) in ne_eqb (read_at err_flag (done e).flags) 1 none

  pub done_buf : has_buffer (done e) ≡ has_buffer e
  done_buf = rw (same_flag buf_flag (omega arith))

  -- no flag of byte 1 differs
  none_differs : (l : Line) → 8 ≤ (l 0).at → not (eqb (read_at l (done e).flags) (read_at l e.flags)) ≡ false
  none_differs l h = rw (eq-eqb (read_at l (done e).flags) (read_at l e.flags) (same_flag l h))

  echo_right : not_echoed true (done e).flags e.flags ≡ false
  echo_right =
      rw (
        none_differs rd_flag (omega arith),
        none_differs vfc_flag (omega arith),
        none_differs si_flag (omega arith),
        none_differs ei_flag (omega arith),
        none_differs fe_flag (omega arith),
        none_differs lb_flag (omega arith),
        none_differs buf_flag (omega arith),
      )

  -- so a completion of what is sent is right
  pub completion_right : Holds e → eqb e.opcode send_to_pf || eqb e.opcode queue_shutdown ≡ true → completion_wrong (done e) (companion_of e) ≡ false
  completion_right h sent = rw (companion_flags e h, companion_opcode e h, eq-eqb e.opcode e.opcode refl, sent, echo_right)
