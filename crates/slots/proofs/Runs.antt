-- A run of slots as a list, the oldest first, whatever is read of a slot: its length, a slot of it, its parts, and what a change of one slot does to it.
-- Assumes nothing.
use Rattle.std.proofs.Common.{ℕ, zero, suc, ◌+◌, ◌-◌, ◌%◌, ◌≤◌, ◌<◌, ◌≡◌, refl, sym, ap, ◌∙◌, ◌≢◌, List, [], ◌∷◌, ◌++◌, add-suc, suc-add, add-zero, arith, length, get_or, set, take, drop, length-set, get_or-set_same, get_or-set_other, ext_get_or}
use native.Mathlib.Nat.{mod-mod, suc-mod, sub-zero, zero-sub, suc-sub-suc}
use native.Mathlib.Decide.{ℕ_discrete}
use Rattle.slots.specs.Slots.{slot_at, run}
use Rattle.slots.proofs.Steps.{apart}

module _ {A : Type 0} (at : ℕ → A) (size : ℕ) where
  pub length_run : (i n : ℕ) → length (run at size i n) ≡ n
  unfolding run
  length_run i zero = refl
  length_run i (suc n) = ap suc (length_run (suc i) n)

  pub get_or_run : (i n k : ℕ) (z : A) → k < n → get_or (run at size i n) k z ≡ at ((i + k) % size)
  unfolding run
  get_or_run i zero k z h = absurd (omega arith)
  get_or_run i (suc n) zero z h = rw add-zero
  get_or_run i (suc n) (suc k) z h = get_or_run (suc i) n k z (omega arith) ∙ rw (suc-add, ← add-suc)

  -- the first slot's number counts round the ring
  pub run_mod : (i n : ℕ) → run at size (i % size) n ≡ run at size i n
  unfolding run
  run_mod i zero = refl
  run_mod i (suc n) =
      rw mod-mod
      (ap (λ (r : List A). at (i % size) ∷ r)
      (sym (run_mod (suc (i % size)) n) ∙ ap (λ (k : ℕ). run at size k n) (sym (suc-mod i size)) ∙ run_mod (suc i) n))

  -- a run with one slot more
  pub run_snoc : (i n : ℕ) → run at size i (suc n) ≡ run at size i n ++ (at ((i + n) % size) ∷ [])
  unfolding run
  run_snoc i zero = rw add-zero
  run_snoc i (suc n) = ap (λ (r : List A). at (i % size) ∷ r) (run_snoc (suc i) n ∙ rw (suc-add, ← add-suc))

  pub run_drop : (i c n : ℕ) → drop c (run at size i n) ≡ run at size (i + c) (n - c)
  unfolding run
  run_drop i zero n = rw (add-zero, sub-zero)
  run_drop i (suc c) zero = rw zero-sub
  run_drop i (suc c) (suc n) = run_drop (suc i) c n ∙ rw (suc-add, ← add-suc, suc-sub-suc)

  pub run_take : (i c n : ℕ) → c ≤ n → take c (run at size i n) ≡ run at size i c
  unfolding run
  run_take i zero n h = refl
  run_take i (suc c) zero h = absurd (omega arith)
  run_take i (suc c) (suc n) h = ap (λ (r : List A). at (i % size) ∷ r) (run_take (suc i) c n (omega arith))

module _ {A : Type 0} (at at' : ℕ → A) (size : ℕ) where
  -- two readings that agree on each slot of a run
  pub run_agree : (i n : ℕ) → ((k : ℕ) → k < n → at ((i + k) % size) ≡ at' ((i + k) % size)) → run at size i n ≡ run at' size i n
  unfolding run
  run_agree i zero h = refl
  run_agree i (suc n) h =
      let e : at (i % size) ≡ at' (i % size) = rw add-zero at (h 0 (omega arith)) in
      rw (e, run_agree (suc i) n (λ k b. rw (suc-add, ← add-suc) (h (suc k) (omega arith))))

  -- a change of the slot at distance d, which is outside the run: nothing of the run
  pub run_outside : (head n d : ℕ) → n ≤ d → d < size → ((s : ℕ) → s ≢ slot_at head size d → at' s ≡ at s) → run at' size head n ≡ run at size head n
  run_outside head n d h l other =
      sym (run_agree head n (λ k b. sym (other (slot_at head size k) (apart head size k d (omega arith) l (λ e. omega arith)))))

  -- in the run: that slot, and nothing else of it
  pub run_inside : (head n d : ℕ) → d < n → n ≤ size → ((s : ℕ) → s ≢ slot_at head size d → at' s ≡ at s) → run at' size head n ≡ set (run at size head n) d (at' (slot_at head size d))
  run_inside head n d h l other = ext_get_or v _ _ long (λ i b. go i (ℕ_discrete i d) (rw length_run at b))
    where
      v : A
      v = at' (slot_at head size d)

      long : length (run at' size head n) ≡ length (set (run at size head n) d v)
      long = length_run at' size head n ∙ sym (length-set (run at size head n) d v ∙ length_run at size head n)

      go : (i : ℕ) → Dec (i ≡ d) → i < n → get_or (run at' size head n) i v ≡ get_or (set (run at size head n) d v) i v
      go i (yes e) b =
          rw e (get_or_run at' size head n d v h ∙ sym (get_or-set_same (run at size head n) d v v (rw length_run h)))
      go i (no ne) b =
          get_or_run at' size head n i v b
          ∙ other (slot_at head size i) (apart head size i d (omega arith) (omega arith) ne)
          ∙ sym (get_or_run at size head n i v b)
          ∙ sym (get_or-set_other (run at size head n) d i v v ne)
