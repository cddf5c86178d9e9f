-- The posted slots of a ring and a companion list: what a store of both words of a slot does to them.
-- Assumes nothing.
use Rattle.std.proofs.Common.{ℕ, ◌+◌, ◌*◌, ◌<◌, mod-lt, arith, ◌≡◌, refl, sym, ap, ◌∙◌, ◌≢◌, List, [], ◌∷◌, length, get_or, set}
use Rattle.slots.specs.Slots.{slot_at, run}
use Rattle.slots.proofs.Stores.{read_same, read_other}
use Rattle.slots.proofs.Runs.{get_or_run, run_inside}
use Rattle.places.specs.Words.{Words}
use Rattle.scan.specs.Slots.{Slot, words_of, slot_in, store_words}

-- the two words of a slot as they are stored
abbrev pub pair : Words → List ℕ
pair x = x.word0 ∷ x.word1 ∷ []

-- ---- a slot after a store: that one has the words, every other stays

pub store_same : (R l : List ℕ) (size s : ℕ) (x : Words) → s < size → length R ≡ 2 * size
    → slot_in (store_words R s x) l s ≡ record { address = get_or l s 0; words = x }
store_same R l size s x h e =
    ap (λ (ns : List ℕ). record { address = get_or l s 0; words = words_of ns }) (read_same 2 R s (pair x) size refl h e)

pub store_other : (R l : List ℕ) (s t : ℕ) (x : Words) → t ≢ s → slot_in (store_words R s x) l t ≡ slot_in R l t
store_other R l s t x ne =
    ap (λ (ns : List ℕ). record { address = get_or l t 0; words = words_of ns }) (read_other 2 R s (pair x) t refl ne)

module _ (size : ℕ) (R l : List ℕ) (head n : ℕ) (long : length R ≡ 2 * size) where
  -- both words of one slot of a run: that slot's words, and nothing else of the run
  pub run_store : (d : ℕ) (x : Words) (z : Slot) → d < n → n < size
      → run (slot_in (store_words R (slot_at head size d) x) l) size head n
      ≡ set (run (slot_in R l) size head n) d (record { address = (get_or (run (slot_in R l) size head n) d z).address; words = x })
  run_store d x z less lap =
      run_inside (slot_in R l) (slot_in (store_words R (slot_at head size d) x) l) size head n d less (omega arith)
      (λ s ne. store_other R l (slot_at head size d) s x ne)
      ∙ ap (λ (v : Slot). set (run (slot_in R l) size head n) d v)
      (store_same R l size (slot_at head size d) x (mod-lt (head + d) (omega arith)) long
      ∙ ap (λ (t : Slot). record { address = t.address; words = x }) (sym (get_or_run (slot_in R l) size head n d z less)))
