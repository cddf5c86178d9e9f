-- Packets in a run of written slots: what take sees of it, and how it is cut. No ring is in this file. Assumes nothing.
use Rattle.std.proofs.Common.{ℕ, suc, ◌≤◌, arith, ◌≡◌, refl, ap, ◌∙◌, Bool, true, false, not, ◌&&◌, cond, ◌⊎◌, inl, inr, List, [], ◌∷◌, ◌++◌, map, append_assoc, T, length}
use Rattle.rules.specs.declared.Refusal.TheVariants.{NotYet, Contradiction}
use Rattle.places.specs.Words.{Words, dd, eop}
use Rattle.scan.specs.Slots.{Slot}
use Rattle.scan.specs.Scan.{allowed, writable, Look, refuse, whole, and_then, scan}
use Rattle.history.specs.World.{part_after}
use Rattle.history.specs.History.{filled, unwritten, joined, packets}

-- the device's rules over a run of words that starts with k slots of its packet passed
abbrev pub LegalWords : ℕ → ℕ → List Words → Type 0
LegalWords b k [] = Unit {0}
LegalWords b k (x ∷ r) = T (writable b k x) × LegalWords b (part_after k x) r

-- slots of the packet that such a run leaves open
abbrev pub open_after : ℕ → List Words → ℕ
open_after k [] = k
open_after k (x ∷ r) = open_after (part_after k x) r

abbrev pub words_in : List Slot → List Words
words_in L = map (λ (s : Slot). s.words) L

abbrev pub Legal : ℕ → ℕ → List Slot → Type 0
Legal b k L = LegalWords b k (words_in L)

-- of buffers and writes, so many slots are filled as there are of both
pub filled_short : (A : List ℕ) (D : List Words) → (length (filled A D) ≤ length A) × (length (filled A D) ≤ length D)
unfolding filled
filled_short A [] = (omega arith, omega arith)
filled_short [] (x ∷ D) = (omega arith, omega arith)
filled_short (a ∷ A) (x ∷ D) = let h = filled_short A D in (omega arith, omega arith)

-- what take sees where these are the whole packets
abbrev pub first : List (List Slot) → Look
first [] = refuse NotYet
first (p ∷ ps) = whole p

first_joined : (s : Slot) (ps : List (List Slot)) → and_then s (first ps) ≡ first (joined s ps)
unfolding and_then joined
first_joined s [] = refl
first_joined s (p ∷ ps) = refl

scan_unwritten : (b k : ℕ) (A : List ℕ) → scan b k (map unwritten A) ≡ refuse NotYet
unfolding scan unwritten
scan_unwritten b k [] = refl
scan_unwritten b k (a ∷ A) = refl

-- one slot written by the rules is not refused
not_refused : (d a : Bool) (seen : Look) → T (d && a) → cond (not d) (refuse NotYet) (cond (not a) (refuse Contradiction) seen) ≡ seen
not_refused true true seen t = refl
not_refused true false seen t = absurd t
not_refused false a seen t = absurd t

-- take sees the first whole packet of what is written, and where there is none it says 4
pub scan_legal : (b k : ℕ) (L : List Slot) (A : List ℕ) → Legal b k L → scan b k (L ++ map unwritten A) ≡ first (packets L)
unfolding scan packets writable part_after
scan_legal b k [] A h = scan_unwritten b k A
scan_legal b k (s ∷ r) A h =
    not_refused (dd s.words) (allowed b k s.words) _ h.0
    ∙ go (eop s.words) h.1 (λ h'. scan_legal b (suc k) r A h')
  where
    go : (e : Bool) → Legal b (cond e 0 (suc k)) r → (Legal b (suc k) r → scan b (suc k) (r ++ map unwritten A) ≡ first (packets r))
        → cond e (whole (s ∷ [])) (and_then s (scan b (suc k) (r ++ map unwritten A))) ≡ first (cond e ((s ∷ []) ∷ packets r) (joined s (packets r)))
    go true l ih = refl
    go false l ih = rw (ih l) (first_joined s (packets r))

-- a run with a whole packet, cut behind the first one
pub record Cut (b k : ℕ) (L : List Slot) : Type 0 where
  pub head : List Slot
  pub rest : List Slot
  pub run : L ≡ head ++ rest
  pub legal : Legal b 0 rest
  pub closed : open_after k (words_in head) ≡ 0
  pub alone : (X : List Slot) → packets (head ++ X) ≡ head ∷ packets X

pub cut : (b k : ℕ) (L : List Slot) → Legal b k L → (packets L ≡ []) ⊎ Cut b k L
unfolding packets part_after joined
cut b k [] h = inl refl
cut b k (s ∷ r) h = go (eop s.words) refl h.1 (λ h'. cut b (suc k) r h')
  where
    go : (e : Bool) → eop s.words ≡ e → Legal b (cond e 0 (suc k)) r → (Legal b (suc k) r → (packets r ≡ []) ⊎ Cut b (suc k) r)
        → (packets (s ∷ r) ≡ []) ⊎ Cut b k (s ∷ r)
    go true q l ih =
        inr (record { head = s ∷ []; rest = r; run = refl; legal = l; closed = rw q; alone = λ X. rw q })
    go false q l ih = under (ih l)
      where
        under : (packets r ≡ []) ⊎ Cut b (suc k) r → (packets (s ∷ r) ≡ []) ⊎ Cut b k (s ∷ r)
        under (inl n) = inl (rw (q, n))
        under (inr c) =
            inr (record {
              head = s ∷ c.head;
              rest = c.rest;
              run = ap (λ (l : List Slot). s ∷ l) c.run;
              legal = c.legal;
              closed = ap (λ (e : Bool). open_after (cond e 0 (suc k)) (words_in c.head)) q ∙ c.closed;
              alone = λ X. rw (q, c.alone X);
            })

pub cut_more : (b k : ℕ) (L : List Slot) (c : Cut b k L) (X : List Slot) → packets (L ++ X) ≡ c.head ∷ packets (c.rest ++ X)
cut_more b k L c X = rw (c.run, append_assoc) (c.alone (c.rest ++ X))

pub cut_first : (b k : ℕ) (L : List Slot) (c : Cut b k L) → packets L ≡ c.head ∷ packets c.rest
cut_first b k L c = rw c.run (c.alone c.rest)

pub open_append : (k : ℕ) (D E : List Words) → open_after k (D ++ E) ≡ open_after (open_after k D) E
open_append k [] E = refl
open_append k (x ∷ D) E = open_append (part_after k x) D E

pub legal_append : (b k : ℕ) (D E : List Words) → LegalWords b k D → LegalWords b (open_after k D) E → LegalWords b k (D ++ E)
legal_append b k [] E h t = t
legal_append b k (x ∷ D) E h t = (h.0, legal_append b (part_after k x) D E h.1 t)

pub legal_split : (b k : ℕ) (D E : List Words) → LegalWords b k (D ++ E) → LegalWords b k D × LegalWords b (open_after k D) E
legal_split b k [] E h = (tt, h)
legal_split b k (x ∷ D) E h = let t = legal_split b (part_after k x) D E h.1 in ((h.0, t.0), t.1)
