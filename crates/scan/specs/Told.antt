-- What a scan gives back: what is told of the slots of the packet, or zeros (01, "Receiving").
-- Assumes nothing.
use Rattle.std.specs.Prelude.{ℕ, Result, Err, ⊤, ◌+◌, List, [], ◌∷◌, ◌++◌, map, length, take, replicate}
use Rattle.rules.specs.declared.Refusal.{Refusal}
use Rattle.rules.specs.Rules.{done}
use Rattle.ring.specs.declared.Queue.{Queue}
use Rattle.ring.specs.Queue.{advanced}
use Rattle.places.specs.Words.{Words, length_of}
use Rattle.scan.specs.declared.Seen.{Seen}
use Rattle.scan.specs.Slots.{Slot}
use Rattle.scan.specs.Scan.{packet_slots, Look, refuse, whole}

-- ---- what is told of a packet's slots: unused places are 0

unfoldable pub sum : List ℕ → ℕ
sum [] = 0
sum (n ∷ ns) = n + sum ns

unfoldable pub padded : List ℕ → List ℕ
padded ns = take packet_slots (ns ++ replicate packet_slots 0)

abbrev pub addresses_of : List Slot → List ℕ
addresses_of p = map (λ (s : Slot). s.address) p

abbrev pub lengths_of : List Slot → List ℕ
lengths_of p = map (λ (s : Slot). length_of s.words) p

unfoldable pub last_words : List Slot → Words
last_words [] = record { word0 = 0; word1 = 0 }
last_words (s ∷ []) = s.words
last_words (s ∷ (t ∷ r)) = last_words (t ∷ r)

-- the answer and the record, the slot count, the total length, each slot's posted address and length, and the last slot's words
unfoldable pub seen_of : {R : Type 0} → Result ⊤ R → Queue → List Slot → Seen R
seen_of a q p =
    record {
      answer = a;
      queue = q;
      count = length p;
      total = sum (lengths_of p);
      addresses = padded (addresses_of p);
      lengths = padded (lengths_of p);
      word0 = (last_words p).word0;
      word1 = (last_words p).word1;
    }

-- a refusal gives the record as it came and zeros; with a packet head moves on by its slots, and posted falls by them
unfoldable pub seen_by : Look → Queue → Seen Refusal
seen_by (refuse r) q = seen_of (Err r) q []
seen_by (whole p) q = seen_of done (advanced q (length p)) p
