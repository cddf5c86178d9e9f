-- What a history keeps: the posted slots are those that the device has written, by its rules, and then those as posted.
-- Assumes nothing.
use Rattle.std.proofs.Common.{ℕ, ◌+◌, ◌-◌, ◌*◌, ◌%◌, ◌<◌, arith, ◌≡◌, refl, sym, ap, ◌∙◌, ◌≢◌, true, cond, List, [], ◌∷◌, ◌++◌, map, append_assoc, eq-eqb, T, length, set, drop, length-set, length-append, Err}
use native.Mathlib.Nat.{zero-mod, suc-mod, mod-add-mod}
use Rattle.std.proofs.lemmas.List.{map-append, length-map, set_at, get_or_at}
use lib.Seq.{drop-append_seam}
use Rattle.rules.specs.declared.Refusal.{Refusal}
use Rattle.rules.specs.declared.Refusal.TheVariants.{WrongAddress, NoRoom}
use Rattle.rules.specs.Rules.{done}
use Rattle.rules.proofs.Answers.{refused-is_ok, done_or_not}
use Rattle.rules.specs.Address.{address_wrong}
use Rattle.slots.specs.Slots.{slot_at, run}
use Rattle.ring.specs.Queue.{Shared, tail_of, no_room}
use Rattle.ring.specs.Steps.{Grow}
use Rattle.slots.proofs.Stores.{length_store}
use Rattle.slots.proofs.Runs.{length_run, run_mod, run_drop}
use Rattle.places.specs.Words.{Words}
use Rattle.receive.specs.declared.RxQueue.{RxQueue}
use Rattle.receive.specs.Queue.{record_ok, lent_ok, empty_queue}
use Rattle.scan.specs.Slots.{Slot, slot_in, store_words, posted_slots}
use Rattle.receive.specs.Post.{post_answer, blank, one_more}
use Rattle.scan.specs.Scan.{writable, Look, refuse, whole}
use Rattle.receive.specs.Take.{packet_of, look, advanced, take_by, take_of}
use Rattle.receive.proofs.Laws.{fresh_lines, fresh_queue, kept, done_grows}
use Rattle.receive.proofs.Posts.{post_adds_lem}
use Rattle.receive.proofs.Keeps.{one_more_ok, advanced_ok}
use Rattle.history.specs.World.{World, post, poll, write, slots_in, post_at, take_at, after, Start}
use Rattle.history.specs.History.{unwritten, packets}
use Rattle.history.proofs.Lists.{words_in, Legal, open_after, first, scan_legal, Cut, legal_append, open_append}
use Rattle.history.proofs.Ring.{pair, run_store}

-- ---- the calls' effects by what they see

-- what a take sees
unfoldable pub seen : World → Look
seen w = look w.queue w.ring w.list

-- an accepted post; n slots handed back; a write
unfoldable pub placed : World → ℕ → World
placed w a =
    record {
      queue = one_more w.queue;
      ring = store_words w.ring (tail_of w.queue.shared) (blank a);
      list = set w.list (tail_of w.queue.shared) a;
      place = w.place;
      part = w.part;
    }

unfoldable pub moved : World → ℕ → World
moved w n = record { queue = advanced w.queue n; ring = w.ring; list = w.list; place = w.place; part = w.part }

abbrev pub stored : World → Words → World
stored w x = after w (write x)

pub after_accepted : (w : World) (a : ℕ) → (post_at w a).answer ≡ done → after w (post a) ≡ placed w a
unfolding after post_at placed
after_accepted w a e = rw e

pub after_refused : (w : World) (a : ℕ) → (post_at w a).answer ≢ done → after w (post a) ≡ w
unfolding after post_at
after_refused w a ne = rw (refused-is_ok _ ne)

-- what holds of an accepted post and of the world as it was holds after any post
pub by_post : (w : World) (a : ℕ) (P : World → Type 0) → ((post_at w a).answer ≡ done → P (placed w a)) → ((post_at w a).answer ≢ done → P w) → P (after w (post a))
by_post w a P accepts refuses = go (done_or_not (post_at w a).answer)
  where
    go : Dec ((post_at w a).answer ≡ done) → P (after w (post a))
    go (yes e) = rw (after_accepted w a e) (accepts e)
    go (no ne) = rw (after_refused w a ne) (refuses ne)

module _ (w : World) (r : Refusal) (e : seen w ≡ refuse r) where
  pub after_none : after w poll ≡ w
  unfolding after take_at take_of seen take_by
  after_none = rw e

  pub take_none : take_at w ≡ record { answer = Err r; queue = w.queue; packet = packet_of [] }
  unfolding take_at take_of seen take_by
  take_none = rw e

module _ (w : World) (p : List Slot) (e : seen w ≡ whole p) where
  pub after_some : after w poll ≡ moved w (length p)
  unfolding after take_at take_of seen take_by moved
  after_some = rw e

  pub take_some : take_at w ≡ record { answer = done; queue = advanced w.queue (length p); packet = packet_of p }
  unfolding take_at take_of seen take_by
  take_some = rw e

-- ---- an accepted record, and the slices' lengths

pub record Fit (w : World) : Type 0 where
  pub ok : record_ok w.queue ≡ true
  pub ring : length w.ring ≡ 2 * w.queue.shared.size
  pub list : length w.list ≡ w.queue.shared.size

pub fit_shared : (w : World) → Fit w → Shared w.queue.shared
fit_shared w f = kept w.queue f.ok

pub fit_lent : (w : World) → Fit w → lent_ok w.queue (length w.ring) (length w.list) ≡ true
unfolding lent_ok
fit_lent w f = rw (f.ok, eq-eqb _ _ f.ring, eq-eqb _ _ f.list)

pub answer_fit : (w : World) (a : ℕ) → Fit w
    → (post_at w a).answer ≡ cond (address_wrong a w.queue.buffer) (Err WrongAddress) (cond (no_room w.queue.shared 1) (Err NoRoom) done)
unfolding post_at post_answer
answer_fit w a f = rw (fit_lent w f)

-- a post that is accepted had room, and leaves a slot free
pub room : (w : World) (a : ℕ) → (post_at w a).answer ≡ done → Grow w.queue.shared 1
unfolding post_at
room w a e = done_grows w.queue (length w.ring) (length w.list) a e

pub view_length : (w : World) → length (slots_in w) ≡ w.queue.shared.posted
unfolding slots_in posted_slots
view_length w = length_run (slot_in w.ring w.list) w.queue.shared.size w.queue.shared.head w.queue.shared.posted

pub view_placed : (w : World) (a : ℕ) → (post_at w a).answer ≡ done → slots_in (placed w a) ≡ slots_in w ++ unwritten a ∷ []
unfolding slots_in after post_at unwritten
view_placed w a e = rw (← after_accepted w a e) (post_adds_lem w.queue w.ring w.list a e)

pub view_stored : (w : World) (x : Words) (L : List Slot) (y : Slot) (Z : List Slot) → Fit w
    → w.place ≡ slot_at w.queue.shared.head w.queue.shared.size (length L) → length L < w.queue.shared.posted
    → slots_in w ≡ L ++ y ∷ Z → slots_in (stored w x) ≡ L ++ record { address = y.address; words = x } ∷ Z
unfolding after slots_in posted_slots
view_stored w x L y Z f at less e =
    rw at
    (run_store w.queue.shared.size w.ring w.list w.queue.shared.head w.queue.shared.posted f.ring (length L) x y less (fit_shared w f).posted_below
    ∙ rw (e, get_or_at L y Z y (length L) refl, set_at L y Z (record { address = y.address; words = x }) (length L) refl))

pub view_moved : (w : World) (c : ℕ) → slots_in (moved w c) ≡ drop c (slots_in w)
unfolding slots_in posted_slots moved
view_moved w c =
    run_mod (slot_in w.ring w.list) w.queue.shared.size (w.queue.shared.head + c) (w.queue.shared.posted - c)
    ∙ sym (run_drop (slot_in w.ring w.list) w.queue.shared.size w.queue.shared.head c w.queue.shared.posted)

-- ---- the state: L written by the device and not handed back, A posted and not written

pub record Holds (w : World) (L : List Slot) (A : List ℕ) : Type 0 where
  pub fit : Fit w
  pub slots : slots_in w ≡ L ++ map unwritten A
  pub place : w.place ≡ slot_at w.queue.shared.head w.queue.shared.size (length L)
  pub part : w.part ≡ open_after 0 (words_in L)
  pub legal : Legal w.queue.buffer 0 L

pub holds_count : (w : World) (L : List Slot) (A : List ℕ) → Holds w L A → w.queue.shared.posted ≡ length L + length A
holds_count w L A h = sym (view_length w) ∙ rw (h.slots, length-append, length-map)

-- where all posted slots are written the device has come to the tail
pub holds_tail : (w : World) (L : List Slot) → Holds w L [] → w.place ≡ tail_of w.queue.shared
holds_tail w L h = h.place ∙ ap (λ (k : ℕ). (w.queue.shared.head + k) % w.queue.shared.size) (omega (arith, holds_count w L [] h))

-- a history starts from an empty queue that is accepted
start_lines : (w : World) (f : Start w) → record_ok (empty_queue f.number f.size f.buffer) ≡ true
start_lines w f = fresh_lines f.number f.size f.buffer f.answer_is

pub start_empty : (w : World) (f : Start w) → w.queue ≡ empty_queue f.number f.size f.buffer
start_empty w f = f.queue_is ∙ fresh_queue f.number f.size f.buffer (start_lines w f)

pub holds_start : (w : World) → Start w → Holds w [] []
unfolding slots_in posted_slots run
holds_start w f =
    record {
      fit =
          record {
            ok = rw (start_empty w f) (start_lines w f);
            ring = f.ring_long;
            list = f.list_long;
          };
      slots = rw none;
      place = f.place_is ∙ sym (rw (head, zero-mod));
      part = f.part_is;
      legal = tt;
    }
  where
    head : w.queue.shared.head ≡ 0
    head = ap (λ (q : RxQueue). q.shared.head) (start_empty w f)

    none : w.queue.shared.posted ≡ 0
    none = ap (λ (q : RxQueue). q.shared.posted) (start_empty w f)

pub seen_first : (w : World) (L : List Slot) (A : List ℕ) → Holds w L A → seen w ≡ first (packets L)
unfolding seen look slots_in
seen_first w L A h = rw (fit_lent w h.fit, h.slots) (scan_legal w.queue.buffer 0 L A h.legal)

pub holds_post : (w : World) (L : List Slot) (A : List ℕ) (a : ℕ) → Holds w L A → (post_at w a).answer ≡ done → Holds (placed w a) L (A ++ a ∷ [])
unfolding placed
holds_post w L A a h e =
    record {
      fit =
          record {
            ok = one_more_ok w.queue h.fit.ok (room w a e);
            ring = length_store 2 w.ring (tail_of w.queue.shared) (pair (blank a)) ∙ h.fit.ring;
            list = length-set w.list (tail_of w.queue.shared) a ∙ h.fit.list;
          };
      slots = view_placed w a e ∙ rw (h.slots, append_assoc, map-append);
      place = h.place;
      part = h.part;
      legal = h.legal;
    }

pub fit_stored : (w : World) (x : Words) → Fit w → Fit (stored w x)
unfolding after
fit_stored w x f =
    record {
      ok = f.ok;
      ring = length_store 2 w.ring w.place (pair x) ∙ f.ring;
      list = f.list;
    }

pub holds_write : (w : World) (L : List Slot) (a : ℕ) (A : List ℕ) (x : Words) → Holds w L (a ∷ A) → T (writable w.queue.buffer w.part x)
    → Holds (stored w x) (L ++ record { address = a; words = x } ∷ []) A
unfolding after unwritten
holds_write w L a A x h t =
    record {
      fit = fit_stored w x h.fit;
      slots = view_stored w x L (unwritten a) (map unwritten A) h.fit h.place (omega (arith, holds_count w L (a ∷ A) h)) h.slots ∙ rw append_assoc;
      place = rw (h.place, ← suc-mod, length-append) (ap (λ (k : ℕ). k % w.queue.shared.size) (omega arith));
      part = rw (map-append, open_append, h.part);
      legal = rw map-append (legal_append w.queue.buffer 0 (words_in L) (x ∷ []) h.legal (rw (← h.part) t, tt));
    }

pub holds_take : (w : World) (L : List Slot) (A : List ℕ) → Holds w L A → (c : Cut w.queue.buffer 0 L) → Holds (moved w (length c.head)) c.rest A
unfolding moved
holds_take w L A h c =
    record {
      fit =
          record {
            ok = advanced_ok w.queue h.fit.ok (length c.head) (omega (arith, holds_count w L A h, ap length c.run, length-append c.head c.rest));
            ring = h.fit.ring;
            list = h.fit.list;
          };
      slots = view_moved w (length c.head) ∙ rw (h.slots, c.run, append_assoc, drop-append_seam);
      place = rw mod-add-mod (h.place ∙ ap (λ (k : ℕ). k % w.queue.shared.size) (omega (arith, ap length c.run, length-append c.head c.rest)));
      part = h.part ∙ rw (c.run, map-append, open_append, c.closed);
      legal = c.legal;
    }
