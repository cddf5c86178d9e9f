-- What a post leaves: one blank slot more behind the posted ones, and every other slot as it was.
-- Assumes nothing.
use Rattle.rules.proofs.Answers.{done-is_ok, refused-is_ok}
use Rattle.rules.specs.Rules.{done}
use Rattle.std.proofs.Common.{is_ok, ℕ, ◌*◌, ◌<◌, ◌≡◌, refl, ap, ◌∙◌, ◌≢◌, Bool, true, false, cond, List, [], ◌∷◌, ◌++◌, add-one, arith, length, set, get_or-set_same, get_or-set_other}
use Rattle.ring.specs.Queue.{tail_of}
use Rattle.ring.proofs.Record.{tail_below}
use Rattle.slots.proofs.Stores.{read_same, read_other}
use Rattle.slots.proofs.Runs.{run_snoc, run_outside}
use Rattle.scan.specs.Slots.{Slot, words_of, slot_in, store_words, posted_slots}
use Rattle.receive.specs.declared.RxQueue.{RxQueue}
use Rattle.receive.specs.Post.{blank, answer_to, post_of, ring_after, list_after, Unchanged}
use Rattle.receive.proofs.Laws.{done_lent}

-- ---- a slot put into a ring and a list

module _ (ring list : List ℕ) (tail address : ℕ) where
  -- the slot with this number afterwards
  abbrev put : ℕ → Slot
  put = slot_in (store_words ring tail (blank address)) (set list tail address)

  -- every other slot, and its list entry, is as it was
  pub put_other : (s : ℕ) → s ≢ tail → put s ≡ slot_in ring list s
  put_other s ne =
      let ns : List ℕ = address ∷ 0 ∷ [] in
      ap (λ (m : List ℕ). record { address = (put s).address; words = words_of m }) (read_other 2 ring tail ns s refl ne)
      ∙ ap (λ (a : ℕ). record { address = a; words = (slot_in ring list s).words }) (get_or-set_other list tail s address 0 ne)

  pub put_same : (size : ℕ) → tail < size → length ring ≡ 2 * size → length list ≡ size → put tail ≡ record { address = address; words = blank address }
  put_same size h r l =
      let ns : List ℕ = address ∷ 0 ∷ [] in
      ap (λ (m : List ℕ). record { address = (put tail).address; words = words_of m }) (read_same 2 ring tail ns size refl h r)
      ∙ ap (λ (a : ℕ). record { address = a; words = blank address }) (get_or-set_same list tail address 0 (rw l h))

-- ---- post

module _ (q : RxQueue) (ring list : List ℕ) (address : ℕ) where
  pub post_refused : answer_to q ring list address ≢ done → Unchanged q ring list address
  post_refused ne =
      let e = refused-is_ok (answer_to q ring list address) ne in
      record { queue_same = rw e; ring_same = rw e; list_same = rw e }

  -- a post leaves every slot but the one at the tail, and its list entry, as it was
  pub post_leaves : (s : ℕ) → s ≢ tail_of q.shared → slot_in (ring_after q ring list address) (list_after q ring list address) s ≡ slot_in ring list s
  post_leaves s ne = go (is_ok (answer_to q ring list address))
    where
      go : (b : Bool) → slot_in (cond b (store_words ring (tail_of q.shared) (blank address)) ring) (cond b (set list (tail_of q.shared) address) list) s ≡ slot_in ring list s
      go true = put_other ring list (tail_of q.shared) address s ne
      go false = refl

  -- an accepted one puts a blank slot with its address behind the posted ones, which stay
  pub post_adds_lem : answer_to q ring list address ≡ done
      → posted_slots (post_of q ring list address).queue.shared (ring_after q ring list address) (list_after q ring list address)
      ≡ posted_slots q.shared ring list ++ record { address = address; words = blank address } ∷ []
  unfolding posted_slots
  post_adds_lem e =
      let l = done_lent q (length ring) (length list) address e in
      let at : ℕ → Slot = slot_in ring list in
      let at' : ℕ → Slot = put ring list (tail_of q.shared) address in
      rw (done-is_ok (answer_to q ring list address) e, add-one q.shared.posted)
      (run_snoc at' q.shared.size q.shared.head q.shared.posted
      ∙ rw (
        run_outside at at' q.shared.size q.shared.head q.shared.posted q.shared.posted (omega arith) l.reads.is.posted_below (put_other ring list (tail_of q.shared) address),
        put_same ring list (tail_of q.shared) address q.shared.size (tail_below q.shared l.reads.is) l.reads.ring_long l.list_long,
      ))
