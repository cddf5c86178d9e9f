-- Interrupt words (01, "Interrupt words"; Intel's Sections 7.2.2.1 and 7.2.2.2): which requests are wrong, the register's offset, its word,
-- and the word read back.
-- Assumes nothing.
use Rattle.std.specs.Prelude.{ℕ, ◌+◌, ◌-◌, ◌*◌, ◌/◌, ◌%◌, Bool, true, false, not, ◌&&◌, cond, List, [], ◌∷◌, ltb, eqb, is_ok, ◌≡◌, ◌<◌, Result, MatchResult}
use Rattle.rules.specs.Rules.{Answer as Answered, Check, each, answer_of}
use Rattle.field.specs.Field.{Part, part, Line, read_at, is_set, word_of, bit}
use Rattle.interrupt.specs.declared.Enable.{Enable}
use Rattle.interrupt.specs.declared.Enable.TheVariants.{On, Off, Leave}
use Rattle.interrupt.specs.declared.UnknownEnable.{UnknownEnable}
use Rattle.interrupt.specs.declared.Request.{Request}
use Rattle.interrupt.specs.declared.Answer.{Answer}
use Rattle.interrupt.specs.declared.Fields.{Fields}

-- the largest vector and index, and the index that stands for no ITR
abbrev pub most_vector : ℕ
most_vector = 64

abbrev pub most_index : ℕ
most_index = 3

abbrev pub no_itr : ℕ
no_itr = 3

-- the largest interval in microseconds, and the register's unit
abbrev pub most_interval : ℕ
most_interval = 8160

abbrev pub interval_unit : ℕ
interval_unit = 2

-- the registers of vector 0 and of vector 1
abbrev pub dyn_ctl0 : ℕ
dyn_ctl0 = 0x5C00

abbrev pub dyn_ctl_n : ℕ
dyn_ctl_n = 0x3800

abbrev pub is_on : Enable → Bool
is_on On = true
is_on Off = false
is_on Leave = false

abbrev pub is_off : Enable → Bool
is_off On = false
is_off Off = true
is_off Leave = false

abbrev pub is_leave : Enable → Bool
is_leave On = false
is_leave Off = false
is_leave Leave = true

-- the numbers of off, on and leave; the paper has none
abbrev pub enable_number : Enable → ℕ
enable_number Off = 0
enable_number On = 1
enable_number Leave = 2

-- the result is what this number stands for; a number above 2 stands for nothing, and is handed back
abbrev pub EnableAt : ℕ → Result Enable UnknownEnable → Type 0
EnableAt n result = MatchResult result (λ enable. enable_number enable ≡ n) (λ unknown. (unknown.0 ≡ n) × (2 < n))

-- the causes of 9: vector above 64, an index above 3, an interval out of range or odd, an interval not 0 with index 3, a trigger index
-- not 0 without a trigger, write-back-on-ITR with on or leave
abbrev pub wrongs : Request → List Bool
wrongs q =
    ltb most_vector q.vector
    ∷ ltb most_index q.index
    ∷ ltb most_index q.trigger_index
    ∷ ltb most_interval q.interval
    ∷ not (eqb (q.interval % interval_unit) 0)
    ∷ (not (eqb q.interval 0) && eqb q.index no_itr)
    ∷ (not (eqb q.trigger_index 0) && not q.trigger)
    ∷ (q.write_back && not (is_off q.enable))
    ∷ []

-- a check for each of them
abbrev pub interrupt_checks : Request → List Check
interrupt_checks q = each 9 (wrongs q)

abbrev pub interrupt_answer : Request → Answered
interrupt_answer q = answer_of (interrupt_checks q)

-- vector 0 at 0x5C00, vectors 1 to 64 at 0x3800 + 4 x (vector - 1)
abbrev pub offset_of : ℕ → ℕ
offset_of v = cond (eqb v 0) dyn_ctl0 (dyn_ctl_n + 4 * (v - 1))

-- the register's fields
abbrev pub intena_line : Line
intena_line v = part 0 1 v

abbrev pub clearpba_line : Line
clearpba_line v = part 1 1 v

abbrev pub swint_trig_line : Line
swint_trig_line v = part 2 1 v

abbrev pub itr_indx_line : Line
itr_indx_line v = part 3 2 v

abbrev pub interval_line : Line
interval_line v = part 5 12 v

abbrev pub sw_itr_indx_ena_line : Line
sw_itr_indx_ena_line v = part 24 1 v

abbrev pub sw_itr_indx_line : Line
sw_itr_indx_line v = part 25 2 v

abbrev pub wb_on_itr_line : Line
wb_on_itr_line v = part 30 1 v

abbrev pub intena_msk_line : Line
intena_msk_line v = part 31 1 v

-- what a request asks of each: leave sets INTENA_MSK, INTENA 0; a trigger sets SW_ITR_INDX_ENA; INTERVAL is in 2 microsecond units
abbrev pub told : Request → Fields
told q =
    record {
      intena = is_on q.enable;
      clearpba = q.clear;
      swint_trig = q.trigger;
      itr_indx = q.index;
      interval = q.interval / interval_unit;
      sw_itr_indx_ena = q.trigger;
      sw_itr_indx = q.trigger_index;
      wb_on_itr = q.write_back;
      intena_msk = is_leave q.enable;
    }

abbrev pub lines : Fields → List Part
lines f =
    intena_line (bit f.intena)
    ∷ clearpba_line (bit f.clearpba)
    ∷ swint_trig_line (bit f.swint_trig)
    ∷ itr_indx_line f.itr_indx
    ∷ interval_line f.interval
    ∷ sw_itr_indx_ena_line (bit f.sw_itr_indx_ena)
    ∷ sw_itr_indx_line f.sw_itr_indx
    ∷ wb_on_itr_line (bit f.wb_on_itr)
    ∷ intena_msk_line (bit f.intena_msk)
    ∷ []

abbrev pub interrupt_word : Request → ℕ
interrupt_word q = word_of (lines (told q))

-- the answer, and where it is done the register's offset and word; zeros come with 9
unfoldable pub interrupt_of : Request → Answer
interrupt_of q =
    record {
      answer = interrupt_answer q;
      offset = cond (is_ok (interrupt_answer q)) (offset_of q.vector) 0;
      word = cond (is_ok (interrupt_answer q)) (interrupt_word q) 0;
    }

-- a word, read field for field
unfoldable pub fields_of : ℕ → Fields
fields_of w =
    record {
      intena = is_set intena_line w;
      clearpba = is_set clearpba_line w;
      swint_trig = is_set swint_trig_line w;
      itr_indx = read_at itr_indx_line w;
      interval = read_at interval_line w;
      sw_itr_indx_ena = is_set sw_itr_indx_ena_line w;
      sw_itr_indx = read_at sw_itr_indx_line w;
      wb_on_itr = is_set wb_on_itr_line w;
      intena_msk = is_set intena_msk_line w;
    }

-- what INTENA and INTENA_MSK ask for, and the vector of a register's offset
abbrev pub enable_of : Bool → Bool → Enable
enable_of intena masked = cond masked Leave (cond intena On Off)

abbrev pub vector_at : ℕ → ℕ
vector_at offset = cond (eqb offset dyn_ctl0) 0 ((offset - dyn_ctl_n) / 4 + 1)

-- the request that a register's offset and fields stand for
abbrev pub request_at : ℕ → Fields → Request
request_at offset f =
    record {
      vector = vector_at offset;
      enable = enable_of f.intena f.intena_msk;
      write_back = f.wb_on_itr;
      clear = f.clearpba;
      trigger = f.swint_trig;
      trigger_index = f.sw_itr_indx;
      index = f.itr_indx;
      interval = interval_unit * f.interval;
    }
