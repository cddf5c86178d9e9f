-- One event, and then any list of them: what is handed up is cut from the front of what the device has written. Assumes nothing.
use Rattle.std.proofs.Common.{ℕ, ◌≡◌, refl, ◌∙◌, Bool, true, false, cond, ◌⊎◌, inl, inr, List, [], ◌∷◌, ◌++◌, map, append_assoc, append-nil, length, drop, Err}
use Rattle.std.proofs.lemmas.List.{map-append}
use Rattle.rules.specs.declared.Refusal.TheVariants.{WrongAddress, NoRoom, NotYet}
use Rattle.rules.specs.Rules.{done, number_of}
use Rattle.rules.proofs.Answers.{refused-is_ok, done_or_not}
use Rattle.rules.specs.Address.{address_wrong}
use Rattle.ring.specs.Queue.{no_room}
use Rattle.places.specs.Words.{Words}
use Rattle.scan.specs.Slots.{Slot}
use Rattle.scan.specs.Scan.{refuse, whole}
use Rattle.receive.specs.Take.{packet_of}
use Rattle.history.specs.World.{World, Event, post, poll, write, Reply, posted, post_at, after, reply, Allowed, end, replies, AllAllowed}
use Rattle.history.specs.History.{if_done, accepted_at, accepted, write_at, writes, filled, packets, packets_in}
use Rattle.history.specs.Demand.{one_of, usual, all_usual}
use Rattle.history.specs.Stale.{row}
use Rattle.history.proofs.Lists.{words_in, Cut, cut, cut_more, cut_first}
use Rattle.history.proofs.State.{seen, after_accepted, after_refused, after_none, take_none, after_some, take_some, Fit, answer_fit, Holds, holds_tail, holds_post, holds_write, holds_take, seen_first}

pub row_append : (ps qs : List (List Slot)) → row (ps ++ qs) ≡ row ps ++ row qs
row_append [] qs = refl
row_append (p ∷ ps) qs = rw (row_append ps qs, append_assoc)

-- after one event: L₁ and A₁ for L and A, and the packets handed up. P and W are what comes after it.
pub record Step (w : World) (L : List Slot) (A : List ℕ) (e : Event) : Type 0 where
  pub L₁ : List Slot
  pub A₁ : List ℕ
  pub holds : Holds (after w e) L₁ A₁
  pub up : List (List Slot)
  pub tells : (rs : List Reply) → packets_in (reply w e ++ rs) ≡ map packet_of up ++ packets_in rs
  pub fine : (rs : List Reply) → all_usual rs ≡ true → all_usual (reply w e ++ rs) ≡ true
  pub cuts : (P : List ℕ) (W : List Words)
      → packets (L ++ filled (A ++ (accepted_at w e ++ P)) (write_at e ++ W)) ≡ up ++ packets (L₁ ++ filled (A₁ ++ P) W)
  pub logs : (P : List ℕ) (W : List Words)
      → L ++ filled (A ++ (accepted_at w e ++ P)) (write_at e ++ W) ≡ row up ++ (L₁ ++ filled (A₁ ++ P) W)
  pub waits : (P : List ℕ) (W : List Words) → drop (length (write_at e ++ W)) (A ++ (accepted_at w e ++ P)) ≡ drop (length W) (A₁ ++ P)
  pub all : (P : List ℕ) (W : List Words) → words_in (filled (A ++ (accepted_at w e ++ P)) (write_at e ++ W)) ≡ write_at e ++ words_in (filled (A₁ ++ P) W)

pub post_holds : (w : World) (L : List Slot) (A : List ℕ) (a : ℕ) → Holds w L A → Holds (after w (post a)) L (A ++ accepted_at w (post a))
unfolding accepted_at if_done
post_holds w L A a h = go (done_or_not (post_at w a).answer)
  where
    go : Dec ((post_at w a).answer ≡ done) → Holds (after w (post a)) L (A ++ accepted_at w (post a))
    go (yes e) = rw (e, after_accepted w a e) (holds_post w L A a h e)
    go (no ne) = rw (refused-is_ok _ ne, after_refused w a ne, append-nil) h

-- a post answers 0, 2 or 3
usual_post : (w : World) (a : ℕ) → Fit w → usual (posted (post_at w a)) ≡ true
unfolding usual one_of
usual_post w a f = rw (answer_fit w a f) (go (address_wrong a w.queue.buffer) (no_room w.queue.shared 1))
  where
    go : (b c : Bool) → one_of (0 ∷ 2 ∷ 3 ∷ []) (number_of (cond b (Err WrongAddress) (cond c (Err NoRoom) done))) ≡ true
    go true c = refl
    go false true = refl
    go false false = refl

step_post : (w : World) (L : List Slot) (A : List ℕ) (a : ℕ) → Holds w L A → Step w L A (post a)
unfolding reply write_at packets_in all_usual
step_post w L A a h =
    record {
      L₁ = L;
      A₁ = A ++ accepted_at w (post a);
      holds = post_holds w L A a h;
      up = [];
      tells = λ rs. refl;
      fine = λ rs e. rw (usual_post w a h.fit, e);
      cuts = λ P W. rw append_assoc;
      logs = λ P W. rw append_assoc;
      waits = λ P W. rw append_assoc;
      all = λ P W. rw append_assoc;
    }

step_poll : (w : World) (L : List Slot) (A : List ℕ) → Holds w L A → Step w L A poll
unfolding reply accepted_at write_at packets_in if_done all_usual usual one_of
step_poll w L A h = go (cut w.queue.buffer 0 L h.legal)
  where
    go : (packets L ≡ []) ⊎ Cut w.queue.buffer 0 L → Step w L A poll
    go (inl n) =
        let e : seen w ≡ refuse NotYet = seen_first w L A h ∙ rw n in
        record {
          L₁ = L;
          A₁ = A;
          holds = rw (after_none w NotYet e) h;
          up = [];
          tells = λ rs. rw (take_none w NotYet e);
          fine = λ rs f. rw (take_none w NotYet e, f);
          cuts = λ P W. refl;
          logs = λ P W. refl;
          waits = λ P W. refl;
          all = λ P W. refl;
        }
    go (inr c) =
        let e : seen w ≡ whole c.head = seen_first w L A h ∙ rw (cut_first w.queue.buffer 0 L c) in
        record {
          L₁ = c.rest;
          A₁ = A;
          holds = rw (after_some w c.head e) (holds_take w L A h c);
          up = c.head ∷ [];
          tells = λ rs. rw (take_some w c.head e);
          fine = λ rs f. rw (take_some w c.head e, f);
          cuts = λ P W. cut_more w.queue.buffer 0 L c _;
          logs = λ P W. rw (append-nil, c.run, append_assoc);
          waits = λ P W. refl;
          all = λ P W. refl;
        }

step_write : (w : World) (L : List Slot) (A : List ℕ) (x : Words) → Holds w L A → Allowed w (write x) → Step w L A (write x)
unfolding reply accepted_at write_at filled
step_write w L [] x h t = absurd (t.0 (holds_tail w L h))
step_write w L (a ∷ A) x h t =
    record {
      L₁ = L ++ record { address = a; words = x } ∷ [];
      A₁ = A;
      holds = holds_write w L a A x h t.1;
      up = [];
      tells = λ rs. refl;
      fine = λ rs f. f;
      cuts = λ P W. rw append_assoc;
      logs = λ P W. rw append_assoc;
      waits = λ P W. refl;
      all = λ P W. refl;
    }

pub step : (w : World) (L : List Slot) (A : List ℕ) (e : Event) → Holds w L A → Allowed w e → Step w L A e
step w L A (post a) h t = step_post w L A a h
step w L A poll h t = step_poll w L A h
step w L A (write x) h t = step_write w L A x h t

-- after any events: L' and A' for L and A, and the packets handed up
pub record Ran (w : World) (L : List Slot) (A : List ℕ) (es : List Event) : Type 0 where
  pub L' : List Slot
  pub A' : List ℕ
  pub holds : Holds (end w es) L' A'
  pub up : List (List Slot)
  pub tells : packets_in (replies w es) ≡ map packet_of up
  pub fine : all_usual (replies w es) ≡ true
  pub cuts : packets (L ++ filled (A ++ accepted w es) (writes es)) ≡ up ++ packets L'
  pub logs : L ++ filled (A ++ accepted w es) (writes es) ≡ row up ++ L'
  pub waits : drop (length (writes es)) (A ++ accepted w es) ≡ A'
  pub all : words_in (filled (A ++ accepted w es) (writes es)) ≡ writes es

pub ran : (w : World) (L : List Slot) (A : List ℕ) (es : List Event) → Holds w L A → AllAllowed w es → Ran w L A es
unfolding end replies accepted writes filled packets_in all_usual
ran w L A [] h t =
    record { L' = L; A' = A; holds = h; up = []; tells = refl; fine = refl; cuts = rw append-nil; logs = append-nil L; waits = append-nil A; all = refl }
ran w L A (e ∷ es) h t =
    let s = step w L A e h t.0 in
    let r = ran (after w e) s.L₁ s.A₁ es s.holds t.1 in
    record {
      L' = r.L';
      A' = r.A';
      holds = r.holds;
      up = s.up ++ r.up;
      tells = s.tells (replies (after w e) es) ∙ rw (r.tells, map-append);
      fine = s.fine (replies (after w e) es) r.fine;
      cuts = s.cuts (accepted (after w e) es) (writes es) ∙ rw (r.cuts, append_assoc);
      logs = s.logs (accepted (after w e) es) (writes es) ∙ rw (r.logs, row_append, append_assoc);
      waits = s.waits (accepted (after w e) es) (writes es) ∙ r.waits;
      all = s.all (accepted (after w e) es) (writes es) ∙ rw r.all;
    }
