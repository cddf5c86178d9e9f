-- The device as late as can be: its writes change places with the calls that do not hand them up. Assumes nothing.
use Rattle.std.proofs.Common.{ℕ, zero, suc, ◌+◌, ◌%◌, ◌≤◌, ◌<◌, mod-eq_of_lt, add-zero, add-suc, arith, ◌≡◌, refl, sym, ap, ◌∙◌, subst, ◌≢◌, ◌⊎◌, inl, inr, cond, List, [], ◌∷◌, ◌++◌, map, append_assoc, append-nil, length, take, drop, length-append, take-append-drop, length-take-le, is_ok}
use native.Mathlib.Nat.{mod-mod, suc-mod}
use Rattle.std.proofs.lemmas.List.{map-append}
use lib.Seq.{take-append_seam}
use Rattle.rules.specs.declared.Refusal.TheVariants.{NotYet}
use Rattle.rules.specs.Rules.{Answer}
use Rattle.slots.specs.Slots.{slot_at}
use Rattle.ring.specs.Queue.{tail_of}
use Rattle.slots.proofs.Steps.{apart}
use Rattle.slots.proofs.Stores.{length_store, store_comm}
use Rattle.places.specs.Words.{Words}
use Rattle.scan.specs.Slots.{Slot}
use Rattle.receive.specs.Post.{post_answer, blank, one_more}
use Rattle.scan.specs.Scan.{refuse, whole}
use Rattle.receive.specs.Take.{packet_of}
use Rattle.history.specs.World.{World, Event, post, poll, write, Reply, posted, taken, post_at, part_after, after, reply, Allowed, end, replies, AllAllowed}
use Rattle.history.specs.History.{filled, packets, packets_in}
use Rattle.history.specs.Late.{late_from, NoneLeft, JustBefore}
use Rattle.history.proofs.Lists.{LegalWords, open_after, filled_short, Cut, cut, cut_first, legal_append, legal_split}
use Rattle.history.proofs.Ring.{pair}
use Rattle.history.proofs.State.{seen, placed, moved, stored, after_accepted, after_refused, by_post, after_none, take_none, after_some, take_some, fit_shared, room, Holds, holds_count, holds_write, holds_take, seen_first}
use Rattle.history.proofs.Run.{post_holds}

-- ---- two lists of events, one after the other

pub end_append : (w : World) (xs ys : List Event) → end w (xs ++ ys) ≡ end (end w xs) ys
unfolding end
end_append w [] ys = refl
end_append w (e ∷ xs) ys = end_append (after w e) xs ys

pub replies_append : (w : World) (xs ys : List Event) → replies w (xs ++ ys) ≡ replies w xs ++ replies (end w xs) ys
unfolding end replies
replies_append w [] ys = refl
replies_append w (e ∷ xs) ys = rw (replies_append (after w e) xs ys, append_assoc)

pub in_append : (rs qs : List Reply) → packets_in (rs ++ qs) ≡ packets_in rs ++ packets_in qs
unfolding packets_in
in_append [] qs = refl
in_append (posted r ∷ rs) qs = in_append rs qs
in_append (taken r ∷ rs) qs = rw (in_append rs qs, append_assoc)

pub allowed_append : (w : World) (xs ys : List Event) → AllAllowed w xs → AllAllowed (end w xs) ys → AllAllowed w (xs ++ ys)
unfolding end
allowed_append w [] ys s t = t
allowed_append w (e ∷ xs) ys s t = (s.0, allowed_append (after w e) xs ys s.1 t)

-- ---- writes alone

abbrev pub wrote : World → List Words → World
wrote v D = end v (map write D)

wrote_replies : (v : World) (D : List Words) → replies v (map write D) ≡ []
unfolding replies reply
wrote_replies v [] = refl
wrote_replies v (x ∷ D) = wrote_replies (after v (write x)) D

wrote_just : (v : World) (D : List Words) (es : List Event) → JustBefore (wrote v D) es → JustBefore v (map write D ++ es)
unfolding end
wrote_just v [] es j = j
wrote_just v (x ∷ D) es j = wrote_just (after v (write x)) D es j

next_place : (v : World) (x : Words) (d : ℕ) → v.place ≡ slot_at v.queue.shared.head v.queue.shared.size d
    → (stored v x).place ≡ slot_at v.queue.shared.head v.queue.shared.size (suc d)
unfolding after
next_place v x d e = rw (e, ← suc-mod, add-suc)

wrote_queue : (v : World) (D : List Words) → (wrote v D).queue ≡ v.queue
unfolding end after
wrote_queue v [] = refl
wrote_queue v (x ∷ D) = wrote_queue (stored v x) D

wrote_place : (v : World) (d : ℕ) (D : List Words) → v.place ≡ slot_at v.queue.shared.head v.queue.shared.size d
    → (wrote v D).place ≡ slot_at v.queue.shared.head v.queue.shared.size (d + length D)
unfolding end after
wrote_place v d [] e = e ∙ ap (λ (k : ℕ). k % v.queue.shared.size) (omega arith)
wrote_place v d (x ∷ D) e = wrote_place (stored v x) (suc d) D (next_place v x d e) ∙ ap (λ (k : ℕ). k % v.queue.shared.size) (omega arith)

wrote_part : (v : World) (D : List Words) → (wrote v D).part ≡ open_after v.part D
unfolding end after
wrote_part v [] = refl
wrote_part v (x ∷ D) = wrote_part (stored v x) D

-- the device may make these writes, one after another, where it has written d of the posted slots
pub record Can (v : World) (d : ℕ) (D : List Words) : Type 0 where
  pub place : v.place ≡ slot_at v.queue.shared.head v.queue.shared.size d
  pub room : d + length D ≤ v.queue.shared.posted
  pub lap : v.queue.shared.posted < v.queue.shared.size
  pub legal : LegalWords v.queue.buffer v.part D

can_next : (v : World) (d : ℕ) (x : Words) (D : List Words) → Can v d (x ∷ D) → Can (stored v x) (suc d) D
unfolding after
can_next v d x D c = record { place = next_place v x d c.place; room = omega (arith, c.room); lap = c.lap; legal = c.legal.1 }

can_free : (v : World) (d : ℕ) (x : Words) (D : List Words) → Can v d (x ∷ D) → v.place ≢ tail_of v.queue.shared
can_free v d x D c =
    rw c.place
    (apart v.queue.shared.head v.queue.shared.size d v.queue.shared.posted (omega (arith, c.room, c.lap)) c.lap (λ e. omega (arith, c.room)))

can_allowed : (v : World) (d : ℕ) (D : List Words) → Can v d D → AllAllowed v (map write D)
can_allowed v d [] c = tt
can_allowed v d (x ∷ D) c = ((can_free v d x D c, c.legal.0), can_allowed (stored v x) (suc d) D (can_next v d x D c))

can_snoc : (v : World) (d : ℕ) (D : List Words) (x : Words) → Can v d D → Allowed (wrote v D) (write x) → Can v d (D ++ x ∷ [])
can_snoc v d D x c t =
    record {
      place = c.place;
      room = rw length-append (omega (arith, c.room, short));
      lap = c.lap;
      legal = legal_append v.queue.buffer v.part D (x ∷ []) c.legal (rw (wrote_queue v D, wrote_part v D) at t.1, tt);
    }
  where
    short : d + length D ≢ v.queue.shared.posted
    short e = t.0 (wrote_place v d D c.place ∙ rw (wrote_queue v D, e))

can_front : (v : World) (d : ℕ) (D E : List Words) → Can v d (D ++ E) → Can v d D
can_front v d D E c =
    record {
      place = c.place;
      room = omega (arith, rw length-append at c.room);
      lap = c.lap;
      legal = (legal_split v.queue.buffer v.part D E c.legal).0;
    }

can_back : (v : World) (d : ℕ) (D E : List Words) → Can v d (D ++ E) → Can (wrote v D) (d + length D) E
can_back v d D E c =
    record {
      place = rw (wrote_queue v D) (wrote_place v d D c.place);
      room = rw (wrote_queue v D) (omega (arith, rw length-append at c.room));
      lap = rw (wrote_queue v D) c.lap;
      legal = rw (wrote_queue v D, wrote_part v D) (legal_split v.queue.buffer v.part D E c.legal).1;
    }

holds_writes : (v : World) (L : List Slot) (A : List ℕ) (D : List Words) → Holds v L A → Can v (length L) D
    → (A' : List ℕ) × Holds (wrote v D) (L ++ filled A D) A'
unfolding end after filled
holds_writes v L A [] h c = (A, rw append-nil h)
holds_writes v L [] (x ∷ D) h c = absurd (omega (arith, c.room, holds_count v L [] h))
holds_writes v L (a ∷ A) (x ∷ D) h c =
    let L₁ : List Slot = L ++ record { address = a; words = x } ∷ [] in
    let long : suc (length L) ≡ length L₁ = rw length-append (omega arith) in
    let r = holds_writes (stored v x) L₁ A D (holds_write v L a A x h c.legal.0) (subst (λ (d : ℕ). Can (stored v x) d D) long (can_next v (length L) x D c)) in
    (r.0, rw append_assoc at r.1)

-- where none is written the device's place is the oldest posted slot
holds_left : (v : World) (A : List ℕ) → Holds v [] A → NoneLeft v
holds_left v A h = h.place ∙ rw add-zero (mod-eq_of_lt (fit_shared v h.fit).head_below)

-- ---- a write and a post change places

answer_stored : (v : World) (x : Words) (a : ℕ) → (post_at (stored v x) a).answer ≡ (post_at v a).answer
unfolding after post_at
answer_stored v x a = ap (λ (n : ℕ). post_answer v.queue n (length v.list) a) (length_store 2 v.ring v.place (pair x))

placed_stored : (v : World) (x : Words) (a : ℕ) → v.place ≢ tail_of v.queue.shared → placed (stored v x) a ≡ stored (placed v a) x
unfolding placed after
placed_stored v x a free =
    ap (λ (r : List ℕ). record { queue = (placed v a).queue; ring = r; list = (placed v a).list; place = (stored v x).place; part = part_after v.part x })
    (store_comm 2 v.ring v.place (pair x) (tail_of v.queue.shared) (pair (blank a)) refl refl free)

post_stored : (v : World) (x : Words) (a : ℕ) → v.place ≢ tail_of v.queue.shared → after (stored v x) (post a) ≡ stored (after v (post a)) x
post_stored v x a free =
    by_post v a (λ u. after (stored v x) (post a) ≡ stored u x)
    (λ e. after_accepted (stored v x) a (answer_stored v x a ∙ e) ∙ placed_stored v x a free)
    (λ ne. after_refused (stored v x) a (λ z. ne (sym (answer_stored v x a) ∙ z)))

post_wrote : (v : World) (d : ℕ) (D : List Words) (a : ℕ) → Can v d D → after (wrote v D) (post a) ≡ wrote (after v (post a)) D
unfolding end after
post_wrote v d [] a c = refl
post_wrote v d (x ∷ D) a c =
    post_wrote (stored v x) (suc d) D a (can_next v d x D c) ∙ ap (λ (u : World). wrote u D) (post_stored v x a (can_free v d x D c))

-- all that a post gives back
reply_stored : (v : World) (x : Words) (a : ℕ) → post_at (stored v x) a ≡ post_at v a
unfolding after post_at
reply_stored v x a =
    ap (λ (n : Answer). record { answer = n; queue = cond (is_ok n) (one_more v.queue) v.queue }) (answer_stored v x a)

reply_wrote : (v : World) (D : List Words) (a : ℕ) → post_at (wrote v D) a ≡ post_at v a
unfolding end after
reply_wrote v [] a = refl
reply_wrote v (x ∷ D) a = reply_wrote (stored v x) D a ∙ reply_stored v x a

post_can : (v : World) (d : ℕ) (D : List Words) (a : ℕ) → Can v d D → Can (after v (post a)) d D
unfolding placed
post_can v d D a c =
    by_post v a (λ u. Can u d D) (λ e. record { place = c.place; room = omega (arith, c.room); lap = (room v a e).room; legal = c.legal }) (λ ne. c)

-- ---- a write and a take of slots before it change places

moved_wrote : (v : World) (D : List Words) (n : ℕ) → moved (wrote v D) n ≡ wrote (moved v n) D
unfolding end after moved
moved_wrote v [] n = refl
moved_wrote v (x ∷ D) n = moved_wrote (stored v x) D n

can_moved : (v : World) (n : ℕ) (D : List Words) → Can v n D → Can (moved v n) 0 D
unfolding moved
can_moved v n D c =
    record {
      place = rw (add-zero, mod-mod) c.place;
      room = omega (arith, c.room);
      lap = omega (arith, c.lap);
      legal = c.legal;
    }

filled_take : (n : ℕ) (A : List ℕ) (D : List Words) → filled A (take n D) ≡ take n (filled A D)
unfolding filled
filled_take zero A D = refl
filled_take (suc n) A [] = refl
filled_take (suc n) [] (x ∷ D) = refl
filled_take (suc n) (a ∷ A) (x ∷ D) = ap (λ (r : List Slot). record { address = a; words = x } ∷ r) (filled_take n A D)

-- ---- the same calls with the writes D held back, from v: it is allowed, and tells and ends as from w, where D is written

pub record Later (v w : World) (D : List Words) (es : List Event) : Type 0 where
  pub allowed : AllAllowed v (late_from w D es)
  pub just : JustBefore v (late_from w D es)
  pub tells : replies v (late_from w D es) ≡ replies w es
  pub ends : end v (late_from w D es) ≡ end w es

later_post : (a : ℕ) (es : List Event) (v w : World) (D : List Words) → wrote v D ≡ w → NoneLeft (after v (post a))
    → Later (after v (post a)) (after w (post a)) D es → Later v w D (post a ∷ es)
unfolding late_from replies reply end
later_post a es v w D e n r =
    record {
      allowed = (tt, r.allowed);
      just = (n, r.just);
      tells = rw (r.tells, ← e, reply_wrote v D a);
      ends = r.ends;
    }

later_write : (x : Words) (es : List Event) (v w : World) (D : List Words) → Later v (after w (write x)) (D ++ x ∷ []) es → Later v w D (write x ∷ es)
unfolding late_from replies reply end
later_write x es v w D r = record { allowed = r.allowed; just = r.just; tells = r.tells; ends = r.ends }

-- a take that finds no packet, with and without the writes held back
later_none : (es : List Event) (v w : World) (D : List Words) → seen v ≡ refuse NotYet → seen w ≡ refuse NotYet → v.queue ≡ w.queue → NoneLeft v
    → Later v w D es → Later v w D (poll ∷ es)
unfolding late_from replies reply end packet_of
later_none es v w D sv sw q n r =
    record {
      allowed = rw (take_none w NotYet sw, after_none w NotYet sw) (tt, rw (after_none v NotYet sv) r.allowed);
      just = rw (take_none w NotYet sw, after_none w NotYet sw, after_none v NotYet sv) (n, r.just);
      tells = rw (take_none w NotYet sw, after_none w NotYet sw, take_none v NotYet sv, after_none v NotYet sv, r.tells, q);
      ends = rw (take_none w NotYet sw, after_none w NotYet sw, after_none v NotYet sv) r.ends;
    }

-- a take that hands up a packet: as many of the writes held back come before it
later_some : (es : List Event) (v w : World) (D : List Words) (p : List Slot) → Can v 0 (take (length p) D)
    → seen (wrote v (take (length p) D)) ≡ whole p → seen w ≡ whole p → v.queue ≡ w.queue → NoneLeft (moved (wrote v (take (length p) D)) (length p))
    → Later (moved (wrote v (take (length p) D)) (length p)) (moved w (length p)) (drop (length p) D) es → Later v w D (poll ∷ es)
unfolding late_from replies reply end packet_of
later_some es v w D p c sv sw q n r =
    record {
      allowed =
          rw (take_some w p sw, after_some w p sw)
          (allowed_append v (map write (take (length p) D)) _ (can_allowed v 0 (take (length p) D) c) (tt, rw (after_some v₁ p sv) r.allowed));
      just =
          rw (take_some w p sw, after_some w p sw)
          (wrote_just v (take (length p) D) _ (rw (after_some v₁ p sv) n, rw (after_some v₁ p sv) r.just));
      tells =
          rw (take_some w p sw, after_some w p sw)
          (replies_append v (map write (take (length p) D)) _
          ∙ rw (wrote_replies, take_some v₁ p sv, after_some v₁ p sv, r.tells, wrote_queue, q));
      ends =
          rw (take_some w p sw, after_some w p sw)
          (end_append v (map write (take (length p) D)) _
          ∙ ap (λ (u : World). end u (late_from (moved w (length p)) (drop (length p) D) es)) (after_some v₁ p sv)
          ∙ r.ends);
    }
  where
    v₁ : World
    v₁ = wrote v (take (length p) D)

seen_none : (v : World) (A : List ℕ) → Holds v [] A → seen v ≡ refuse NotYet
unfolding packets
seen_none v A h = seen_first v [] A h

wrote_append : (v : World) (D E : List Words) → wrote v (D ++ E) ≡ wrote (wrote v D) E
wrote_append v D E = rw map-append (end_append v (map write D) (map write E))

-- a packet at the front of what is held back: the writes that make it, the slots they leave, and the rest
record Front (v : World) (D : List Words) (p : List Slot) : Type 0 where
  pub A₁ : List ℕ
  pub can : Can v 0 (take (length p) D)
  pub sees : seen (wrote v (take (length p) D)) ≡ whole p
  pub holds : Holds (moved (wrote v (take (length p) D)) (length p)) [] A₁
  pub rest : Can (moved (wrote v (take (length p) D)) (length p)) 0 (drop (length p) D)
  pub comes : wrote (moved (wrote v (take (length p) D)) (length p)) (drop (length p) D) ≡ moved (wrote v D) (length p)

front : (v : World) (D : List Words) (A : List ℕ) (b : ℕ) → Holds v [] A → Can v 0 D → (k : Cut b 0 (filled A D)) → Front v D k.head
front v D A b h c k =
    record {
      A₁ = h₁.0;
      can = c₁;
      sees = seen_first v₁ p h₁.0 hp ∙ rw (cut_first v₁.queue.buffer 0 p alone);
      holds = holds_take v₁ p h₁.0 hp alone;
      rest = can_moved v₁ (length p) (drop (length p) D) (subst (λ (d : ℕ). Can v₁ d (drop (length p) D)) size (can_back v 0 (take (length p) D) (drop (length p) D) both));
      comes =
          sym (moved_wrote v₁ (drop (length p) D) (length p))
          ∙ ap (λ (u : World). moved u (length p)) (sym (wrote_append v (take (length p) D) (drop (length p) D)) ∙ rw take-append-drop);
    }
  where
    p : List Slot
    p = k.head

    v₁ : World
    v₁ = wrote v (take (length p) D)

    both : Can v 0 (take (length p) D ++ drop (length p) D)
    both = rw take-append-drop c

    c₁ : Can v 0 (take (length p) D)
    c₁ = can_front v 0 (take (length p) D) (drop (length p) D) both

    h₁ : (A₁ : List ℕ) × Holds v₁ (filled A (take (length p) D)) A₁
    h₁ = holds_writes v [] A (take (length p) D) h c₁

    hp : Holds v₁ p h₁.0
    hp = subst (λ (l : List Slot). Holds v₁ l h₁.0) (filled_take (length p) A D ∙ rw (k.run, take-append_seam)) h₁.1

    alone : Cut v₁.queue.buffer 0 p
    alone = record { head = p; rest = []; run = sym (append-nil p); legal = tt; closed = k.closed; alone = k.alone }

    size : 0 + length (take (length p) D) ≡ length p
    size =
        omega (
          arith,
          length-take-le (length p) D
              (omega (arith, (filled_short A D).1, ap length k.run, length-append k.head k.rest)),
        )

pub later : (es : List Event) (v w : World) (D : List Words) (A : List ℕ) → wrote v D ≡ w → Holds v [] A → Can v 0 D → AllAllowed w es → Later v w D es
unfolding late_from replies end
later [] v w D A e h c t =
    record {
      allowed = can_allowed v 0 D c;
      just = rw append-nil at (wrote_just v D [] tt);
      tells = wrote_replies v D;
      ends = e;
    }
later (post a ∷ es) v w D A e h c t =
    later_post a es v w D e (holds_left (after v (post a)) _ (post_holds v [] A a h))
    (later es (after v (post a)) (after w (post a)) D _ (sym (post_wrote v 0 D a c) ∙ ap (λ (u : World). after u (post a)) e)
    (post_holds v [] A a h) (post_can v 0 D a c) t.1)
later (poll ∷ es) v w D A e h c t = go (cut w.queue.buffer 0 (filled A D) hw.1.legal) (λ v' w' D' A' e' h' c' t'. later es v' w' D' A' e' h' c' t')
  where
    hw : (A' : List ℕ) × Holds w (filled A D) A'
    hw = subst (λ (u : World). (A' : List ℕ) × Holds u (filled A D) A') e (holds_writes v [] A D h c)

    queue_same : v.queue ≡ w.queue
    queue_same = sym (wrote_queue v D) ∙ ap (λ (u : World). u.queue) e

    go : (packets (filled A D) ≡ []) ⊎ Cut w.queue.buffer 0 (filled A D)
        → ((v' w' : World) (D' : List Words) (A' : List ℕ) → wrote v' D' ≡ w' → Holds v' [] A' → Can v' 0 D' → AllAllowed w' es → Later v' w' D' es)
        → Later v w D (poll ∷ es)
    go (inl n) ih =
        let sw : seen w ≡ refuse NotYet = seen_first w (filled A D) hw.0 hw.1 ∙ rw n in
        later_none es v w D (seen_none v A h) sw queue_same (holds_left v A h) (ih v w D A e h c (rw (after_none w NotYet sw) at t.1))
    go (inr k) ih =
        let f = front v D A w.queue.buffer h c k in
        let sw : seen w ≡ whole k.head = seen_first w (filled A D) hw.0 hw.1 ∙ rw (cut_first w.queue.buffer 0 (filled A D) k) in
        later_some es v w D k.head f.can f.sees sw queue_same (holds_left _ f.A₁ f.holds)
        (ih _ (moved w (length k.head)) (drop (length k.head) D) f.A₁ (f.comes ∙ ap (λ (u : World). moved u (length k.head)) e) f.holds f.rest
        (rw (after_some w k.head sw) at t.1))
later (write x ∷ es) v w D A e h c t =
    later_write x es v w D
    (later es v (after w (write x)) (D ++ x ∷ []) A (wrote_append v D (x ∷ []) ∙ ap (λ (u : World). after u (write x)) e) h
    (can_snoc v 0 D x c (rw e t.0)) t.1)
