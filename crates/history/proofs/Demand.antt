-- Demand 3, of every history of a fresh receive queue that the device's rules allow. Assumes nothing.
use Rattle.std.proofs.Common.{ℕ, ◌-◌, arith, ◌≡◌, refl, sym, ap, ◌∙◌, ◌≢◌, true≢false, List, [], ◌∷◌, ◌++◌, map, append_assoc, append-nil, length, take-append-drop, length-append, drop_at, Err, is_ok}
use Rattle.std.proofs.lemmas.List.{map-append, length-map}
use lib.Seq.{drop-length, drop-append_seam}
use Rattle.rules.specs.declared.Refusal.TheVariants.{NotYet}
use Rattle.ring.specs.Queue.{slot_of, tail_of}
use Rattle.ring.proofs.Record.{tail_free}
use Rattle.places.specs.Words.{Words}
use Rattle.receive.specs.declared.RxQueue.{RxQueue}
use Rattle.receive.specs.declared.Packet.{Packet}
use Rattle.scan.specs.Slots.{Slot}
use Rattle.scan.specs.Told.{sum}
use Rattle.receive.proofs.Posts.{post_leaves}
use Rattle.receive.specs.Take.{packet_of}
use Rattle.history.specs.World.{World, Event, post, poll, write, take_at, after, end, AllAllowed, Start}
use Rattle.history.specs.History.{write_at, writes, packets, written, completed, handed_up, returned, waiting}
use Rattle.history.specs.Late.{late_from, late, call_at, calls}
use Rattle.history.specs.Demand.{next_of, Unreturned, slot_no, Demand3}
use Rattle.history.specs.Stale.{row}
use Rattle.history.proofs.Lists.{first}
use Rattle.history.proofs.State.{seen, after_refused, take_none, take_some, Fit, fit_shared, Holds, holds_start, seen_first}
use Rattle.history.proofs.Run.{post_holds, Ran, ran}
use Rattle.history.proofs.Late.{Later, later}

-- ---- the calls and the writes of a history, and of the late one

calls_append : (D : List Words) (es : List Event) → calls (map write D ++ es) ≡ calls es
unfolding calls call_at
calls_append [] es = refl
calls_append (x ∷ D) es = calls_append D es

writes_append : (D : List Words) (es : List Event) → writes (map write D ++ es) ≡ D ++ writes es
unfolding writes write_at
writes_append [] es = refl
writes_append (x ∷ D) es = ap (λ (r : List Words). x ∷ r) (writes_append D es)

late_calls_lem : (w : World) (D : List Words) (es : List Event) → calls (late_from w D es) ≡ calls es
unfolding late_from calls call_at
late_calls_lem w D [] = ap calls (sym (append-nil (map write D))) ∙ calls_append D []
late_calls_lem w D (post a ∷ es) = ap (λ (r : List Event). post a ∷ r) (late_calls_lem (after w (post a)) D es)
late_calls_lem w D (poll ∷ es) = rw calls_append (ap (λ (r : List Event). poll ∷ r) (late_calls_lem (after w poll) _ es))
late_calls_lem w D (write x ∷ es) = late_calls_lem (after w (write x)) (D ++ x ∷ []) es

late_writes_lem : (w : World) (D : List Words) (es : List Event) → writes (late_from w D es) ≡ D ++ writes es
unfolding late_from writes write_at
late_writes_lem w D [] = ap writes (sym (append-nil (map write D))) ∙ writes_append D []
late_writes_lem w D (post a ∷ es) = late_writes_lem (after w (post a)) D es
late_writes_lem w D (poll ∷ es) = rw (writes_append, late_writes_lem (after w poll) _ es, ← append_assoc, take-append-drop)
late_writes_lem w D (write x ∷ es) = late_writes_lem (after w (write x)) (D ++ x ∷ []) es ∙ append_assoc D (x ∷ []) (writes es)

-- ---- what waits, and the take that comes next

pub row_length : (ps : List (List Slot)) → length (row ps) ≡ sum (map (λ (p : Packet). p.count) (map packet_of ps))
unfolding sum packet_of
row_length [] = refl
row_length (p ∷ ps) = rw (length-append, row_length ps)

-- all that a take gives back, by the whole packets in the slots written and not handed back
pub take_next : (w : World) (ps : List (List Slot)) → seen w ≡ first ps → take_at w ≡ next_of w.queue (map packet_of ps)
unfolding next_of packet_of
take_next w [] e = take_none w NotYet e
take_next w (p ∷ ps) e = take_some w p e

-- the answer is 4 exactly if none waits
pub next_four : (q : RxQueue) (ps : List Packet) → (next_of q ps).answer ≡ Err NotYet → ps ≡ []
unfolding next_of
next_four q [] e = refl
next_four q (p ∷ ps) e = absurd (true≢false (ap is_ok e))

four_next : (q : RxQueue) → (next_of q []).answer ≡ Err NotYet
unfolding next_of
four_next q = refl

none_waits : (w : World) (es : List Event) → completed w es ≡ handed_up w es → waiting w es ≡ []
unfolding waiting
none_waits w es e = rw (e, drop-length)

-- every front part of a history is one
pub allowed_front : (w : World) (xs ys : List Event) → AllAllowed w (xs ++ ys) → AllAllowed w xs
allowed_front w [] ys t = tt
allowed_front w (e ∷ xs) ys t = (t.0, allowed_front (after w e) xs ys t.1)

module _ (w : World) (es : List Event) (r : Ran w [] [] es) where
  pub is_completed : completed w es ≡ handed_up w es ++ map packet_of (packets r.L')
  unfolding completed handed_up written
  is_completed = ap (λ (ps : List (List Slot)). map packet_of ps) r.cuts ∙ rw (map-append, r.tells)

  pub is_waiting : waiting w es ≡ map packet_of (packets r.L')
  unfolding waiting
  is_waiting = rw is_completed (drop-append_seam (handed_up w es) (map packet_of (packets r.L')))

  pub is_split : completed w es ≡ handed_up w es ++ waiting w es
  is_split = is_completed ∙ rw is_waiting

  pub is_next : take_at (end w es) ≡ next_of (end w es).queue (waiting w es)
  is_next =
      take_next (end w es) (packets r.L') (seen_first (end w es) r.L' r.A' r.holds)
      ∙ ap (λ (ps : List Packet). next_of (end w es).queue ps) (sym is_waiting)

  -- each write is a slot written, and the slots handed back are those of the packets handed up
  pub written_length : length (written w es) ≡ length (writes es)
  unfolding written
  written_length = sym (length-map (written w es) (λ (s : Slot). s.words)) ∙ ap length r.all

  pub returned_length : length (row r.up) ≡ returned w es
  unfolding returned handed_up
  returned_length = row_length r.up ∙ rw r.tells

-- ---- a post leaves every slot still unreturned

not_tail : (w : World) (s : ℕ) → Fit w → Unreturned w s → s ≢ tail_of w.queue.shared
not_tail w s f u e = true≢false (sym (rw e at u) ∙ tail_free w.queue.shared (fit_shared w f))

post_keeps_lem : (w : World) (a s : ℕ) → Fit w → Unreturned w s → slot_no (after w (post a)) s ≡ slot_no w s
unfolding after
post_keeps_lem w a s f u = post_leaves w.queue w.ring w.list a s (not_tail w s f u)

pub demand3 : (w : World) (es : List Event) → Start w → AllAllowed w es → Demand3 w es
unfolding handed_up returned written end late
demand3 w es f t =
    record {
      first_completed = is_split w es r;
      every_write = r.all;
      oldest_next = r.holds.place ∙ ap (λ (n : ℕ). slot_of (end w es).queue.shared n) left;
      late_allowed = l.allowed;
      late_calls = late_calls_lem w [] es;
      late_writes = late_writes_lem w [] es;
      late_just_before = l.just;
      late_replies = l.tells;
      late_end = l.ends;
      not_yet = λ e. is_split w es r ∙ rw (next_four _ _ (rw (is_next w es r) at e), append-nil);
      all_up = λ e. rw (is_next w es r, none_waits w es e) (four_next (end w es).queue);
      next_take = is_next w es r;
      every_take = λ before later e. is_next w before (ran w [] [] before start (allowed_front w before (poll ∷ later) (rw e at t)));
      answers = r.fine;
      unreturned = r.holds.slots ∙ rw (r.logs, r.waits, r.tells, drop_at (row r.up) r.L' _ (row_length r.up));
      post_keeps = λ a s u. post_keeps_lem (end w es) a s r.holds.fit u;
      post_adds = λ a. (post_holds (end w es) r.L' r.A' a r.holds).slots ∙ rw (r.holds.slots, map-append, append_assoc);
      refused_keeps = λ a ne. after_refused (end w es) a ne;
    }
  where
    start : Holds w [] []
    start = holds_start w f

    r : Ran w [] [] es
    r = ran w [] [] es start t

    left : length r.L' ≡ length (writes es) - returned w es
    left = omega (arith, written_length w es r, returned_length w es r, ap length r.logs, length-append (row r.up) r.L')

    l : Later w w [] es
    l = later es w w [] [] refl start (record { place = start.place; room = omega arith; lap = (fit_shared w start.fit).posted_below; legal = tt }) t
