-- An accepted request reads back from its register and word; bits of no field are 0, and the word has 32 bits.
-- Assumes nothing.
use Rattle.std.proofs.Common.{ℕ, ◌+◌, ◌*◌, ◌/◌, ◌%◌, ◌^◌, ◌≤◌, ◌<◌, ◌≡◌, refl, div-add-mod', arith, ltb-false, eqb-true, T, eqb}
use borrow.Author.Tests.{not-false}
use Rattle.rules.specs.Rules.{all_below, done}
use Rattle.rules.proofs.Tests.{all_each}
use Rattle.rules.proofs.Checks.{passed}
use Rattle.field.specs.Field.{field_of, free}
use Rattle.field.proofs.Laws.{reads, reads_free, word_below, flag_back, fit_back}
use Rattle.interrupt.specs.declared.Enable.{Enable}
use Rattle.interrupt.specs.declared.Enable.TheVariants.{On, Off, Leave}
use Rattle.interrupt.specs.declared.Request.{Request}
use Rattle.interrupt.specs.Interrupt.{most_vector, most_index, most_interval, interval_unit, is_on, is_leave, interrupt_checks, offset_of, itr_indx_line, interval_line, sw_itr_indx_line, told, lines, interrupt_word, interrupt_answer, interrupt_of, fields_of, enable_of, vector_at, request_at}

-- what an accepted request keeps
record Right (q : Request) : Type 0 where
  pub vector : q.vector ≤ most_vector
  pub index : q.index ≤ most_index
  pub trigger_index : q.trigger_index ≤ most_index
  pub interval : q.interval ≤ most_interval
  pub even : q.interval % interval_unit ≡ 0

right : (q : Request) → interrupt_answer q ≡ done → Right q
right q e =
    let n = passed (interrupt_checks q) tt e in
    record {
      vector = ltb-false _ _ (n 0);
      index = ltb-false _ _ (n 1);
      trigger_index = ltb-false _ _ (n 2);
      interval = ltb-false _ _ (n 3);
      even = eqb-true _ _ (not-false _ (n 4));
    }

-- each field of an accepted request's word reads as the request has it
pub says : (q : Request) → (interrupt_of q).answer ≡ done → fields_of (interrupt_word q) ≡ told q
unfolding fields_of interrupt_of
says q e =
    let f = right q e in
    let r = reads (lines (told q)) tt in
    λ i.
    record {
      intena = flag_back (is_on q.enable) (r 0 tt) i;
      clearpba = flag_back q.clear (r 1 tt) i;
      swint_trig = flag_back q.trigger (r 2 tt) i;
      itr_indx = fit_back itr_indx_line (omega (arith, f.index)) (r 3 tt) i;
      interval = fit_back interval_line (omega (arith, div-add-mod' q.interval interval_unit, f.interval)) (r 4 tt) i;
      sw_itr_indx_ena = flag_back q.trigger (r 5 tt) i;
      sw_itr_indx = fit_back sw_itr_indx_line (omega (arith, f.trigger_index)) (r 6 tt) i;
      wb_on_itr = flag_back q.write_back (r 7 tt) i;
      intena_msk = flag_back (is_leave q.enable) (r 8 tt) i;
    }

enable_back : (e : Enable) → enable_of (is_on e) (is_leave e) ≡ e
enable_back On = refl
enable_back Off = refl
enable_back Leave = refl

-- the 65 registers are 65 different ones: computed
vector_back : (v : ℕ) → v ≤ most_vector → vector_at (offset_of v) ≡ v
unfolding all_below
vector_back v h = eqb-true _ _ (all_each (λ n. eqb (vector_at (offset_of n)) n) (most_vector + 1) refl v (omega arith))

-- the request, from the offset and the word that were answered
pub reads_back : (q : Request) → (interrupt_of q).answer ≡ done → request_at (interrupt_of q).offset (fields_of (interrupt_of q).word) ≡ q
unfolding interrupt_of
reads_back q a = rw (a, says q a) (back (right q a))
  where
    back : Right q → request_at (offset_of q.vector) (told q) ≡ q
    back f =
        let even : interval_unit * (q.interval / interval_unit) ≡ q.interval = omega (arith, div-add-mod' q.interval interval_unit, f.even) in
        λ i.
        record {
          vector = vector_back q.vector f.vector i;
          enable = enable_back q.enable i;
          write_back = q.write_back;
          clear = q.clear;
          trigger = q.trigger;
          trigger_index = q.trigger_index;
          index = q.index;
          interval = even i;
        }

-- bits that no field has are 0: 23:17, 29:27 and everything from 32 on
pub others_zero : (q : Request) (at k : ℕ) → T (free at k (lines (told q))) → field_of at k (interrupt_word q) ≡ 0
others_zero q at k t = reads_free at k (lines (told q)) tt t

pub gaps : (q : Request) → (field_of 17 7 (interrupt_word q) ≡ 0) × (field_of 27 3 (interrupt_word q) ≡ 0)
gaps q = (others_zero q 17 7 tt, others_zero q 27 3 tt)

pub fits_register : (q : Request) → interrupt_word q < 2 ^ 32
fits_register q = word_below (lines (told q)) tt
