-- What the descriptors of a packet say, read at their places (01, "Sending").
-- Assumes nothing.
use Rattle.std.specs.Prelude.{ℕ, ◌+◌, ◌*◌, ◌<◌, ◌≡◌, Bool, true, List, eqb, length, get_or}
use Rattle.slots.specs.Slots.{slot_at}
use Rattle.field.specs.Field.{read_at}
use Rattle.descriptor.specs.Words.{type_line, read_data, read_context}
use Rattle.request.specs.declared.Request.{Request}
use Rattle.request.specs.Request.{slots_of, context_of, request_of}
use Rattle.fill.specs.Descriptors.{is_last}

-- word 0 and word 1 of slot s
abbrev pub word0 : List ℕ → ℕ → ℕ
word0 ring s = get_or ring (2 * s) 0

abbrev pub word1 : List ℕ → ℕ → ℕ
word1 ring s = get_or ring (2 * s + 1) 0

-- a context descriptor has type 1
abbrev pub is_context : List ℕ → ℕ → Bool
is_context ring s = eqb (read_at type_line (word1 ring s)) 1

-- the offload request of a packet, from its first slot and a slot with one of its data descriptors
abbrev pub request_at : List ℕ → ℕ → ℕ → Request
request_at ring first s = request_of (is_context ring first) (read_context (word1 ring first)) (read_data (word1 ring s))

-- the slot of piece i of a packet, after the context descriptor if there is one
abbrev pub piece_slot : ℕ → ℕ → Request → ℕ → ℕ
piece_slot size first request i = slot_at first size (slots_of request i)

module _ (ring : List ℕ) (size first : ℕ) (addresses lengths : List ℕ) (request : Request) where
  -- the slots from `first` on give back these pieces in their order and this request; EOP and RS stand on the last alone
  pub record Says : Type 0 where
    pub address_at_lem : (i : ℕ) → i < length lengths → word0 ring (piece_slot size first request i) ≡ get_or addresses i 0
    pub length_at : (i : ℕ) → i < length lengths → (read_data (word1 ring (piece_slot size first request i))).length ≡ get_or lengths i 0
    pub eop_at : (i : ℕ) → i < length lengths → (read_data (word1 ring (piece_slot size first request i))).eop ≡ is_last lengths i
    pub rs_at : (i : ℕ) → i < length lengths → (read_data (word1 ring (piece_slot size first request i))).rs ≡ is_last lengths i
    pub request_at_lem : (i : ℕ) → i < length lengths → request_at ring first (piece_slot size first request i) ≡ request
    pub context_at : request.segmented ≡ true → (word0 ring first ≡ 0) × (read_context (word1 ring first) ≡ context_of request)
