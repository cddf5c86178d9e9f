-- One walk over the pieces: what holds of those passed.
-- Assumes nothing.
use Rattle.std.proofs.Common.{Option, Some, ℕ, ◌+◌, ◌*◌, ◌≤◌, ◌<◌, ◌≡◌, refl, sym, ◌∙◌, Bool, true, false, not, ◌&&◌, List, arith, length, get_or}
use Rattle.rules.specs.Rules.{within, all_below}
use Rattle.rules.specs.Address.{address_wrong}
use Rattle.rules.proofs.Tests.{and_both, within_is, all_none, all_more, all_no}
use Rattle.segments.specs.Touch.{start_of}
use Rattle.segments.proofs.Starts.{start_zero, start_step}
use Rattle.request.specs.declared.Request.{Request}
use Rattle.request.specs.Sound.{most_length}
use Rattle.pieces.specs.declared.Found.{Found}
use Rattle.pieces.specs.Pieces.{lengths_ok, total_ok, addresses_ok, found_if}

abbrev pub length_at : List ℕ → ℕ → Bool
length_at lengths i = within 1 most_length (get_or lengths i 0)

-- a length that is wrong
pub stopped : (lengths : List ℕ) (i : ℕ) → i < length lengths → length_at lengths i ≡ false → lengths_ok lengths ≡ false
stopped lengths i l e = all_no (length_at lengths) (length lengths) i l e

module _ (addresses lengths : List ℕ) where
  abbrev address_at : ℕ → Bool
  address_at i = not (address_wrong (get_or addresses i 0) (get_or lengths i 0))

  pub record Passed (addresses_ok_lem : Bool) (sum i : ℕ) : Type 0 where
    pub upto : i ≤ length lengths
    pub right : true ≡ all_below i (length_at lengths)
    pub addresses_is : addresses_ok_lem ≡ all_below i address_at
    pub sum_is : sum ≡ start_of lengths i
    pub small : sum ≤ most_length * i

  pub first : Passed true 0 0
  first = record { upto = omega arith; right = all_none _; addresses_is = all_none _; sum_is = sym (start_zero lengths); small = omega arith }

  pub next : {addresses_ok_lem wrong : Bool} {sum i : ℕ} → Passed addresses_ok_lem sum i → i < length lengths → length_at lengths i ≡ true → wrong ≡ address_wrong (get_or addresses i 0) (get_or lengths i 0)
      → Passed (not wrong && addresses_ok_lem) (sum + get_or lengths i 0) (i + 1)
  next {addresses_ok_lem} {wrong} {sum} {i} p l e f =
      record {
        upto = omega arith;
        right = sym (and_both e refl) ∙ all_more (length_at lengths) i p.right;
        addresses_is = rw f (all_more address_at i p.addresses_is);
        sum_is = start_step lengths sum i p.sum_is;
        small = omega (arith, within_is 1 most_length (get_or lengths i 0) e);
      }

  pub last : {addresses_ok_lem whole : Bool} {sum : ℕ} (maximum : ℕ) (q : Request) → Passed addresses_ok_lem sum (length lengths) → whole ≡ total_ok sum maximum q
      → ◌≡◌ {A = Option Found} (Some (record { total_ok = whole; addresses_ok = addresses_ok_lem; total = sum })) (found_if (lengths_ok lengths) addresses lengths maximum q)
  unfolding addresses_ok
  last maximum q p t = rw (sym p.right, t, p.addresses_is, p.sum_is)
