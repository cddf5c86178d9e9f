-- What the tests of a send's pieces say of its numbers.
-- Assumes nothing.
use Rattle.std.proofs.Common.{Some, None, refl, ℕ, zero, suc, ◌+◌, ◌*◌, ◌^◌, ◌≤◌, ◌<◌, ◌≡◌, sym, ap, ◌∙◌, Bool, true, false, ◌&&◌, true≢false, List, [], ◌∷◌, arith, eqb-true, ltb-false, ltb, eqb, length, get_or}
use borrow.Author.Tests.{eqb-false, not-true}
use Rattle.rules.specs.Rules.{within}
use Rattle.rules.proofs.Tests.{both, by_test, within_is, none, all_each}
use Rattle.segments.specs.Touch.{start_of, total}
use Rattle.segments.specs.Steps.{sum_limit}
use Rattle.segments.proofs.Starts.{start_zero, start_next}
use Rattle.request.specs.declared.Request.{Request}
use Rattle.request.specs.Request.{header_of}
use Rattle.request.specs.Sound.{most_length}
use Rattle.pieces.specs.declared.Found.{Found}
use Rattle.pieces.specs.Pieces.{plain_pieces, most_pieces, most_pieces_of, count_ok, lengths_ok, total_ok, pieces_ok, addresses_ok, found_if, found_of}

module _ (lengths : List ℕ) where
  pub lengths_each : lengths_ok lengths ≡ true → (i : ℕ) → i < length lengths → (1 ≤ get_or lengths i 0) × (get_or lengths i 0 ≤ most_length)
  lengths_each e i l = within_is 1 most_length (get_or lengths i 0) (all_each _ (length lengths) e i l)

  lengths_sum : lengths_ok lengths ≡ true → (i : ℕ) → i ≤ length lengths → start_of lengths i ≤ most_length * i
  lengths_sum e zero l = omega (arith, start_zero lengths)
  lengths_sum e (suc i) l = omega (arith, start_next lengths i, lengths_each e i l, lengths_sum e i (omega arith))

pub most_is : (segmented : Bool) → most_pieces_of segmented ≤ most_pieces
most_is true = omega arith
most_is false = omega arith

-- what the tests before the total say: the sum is small
pub record Counted (addresses lengths : List ℕ) : Type 0 where
  pub paired : length addresses ≡ length lengths
  pub some : 1 ≤ length lengths
  pub few : length lengths ≤ most_pieces
  pub each : (i : ℕ) → i < length lengths → (1 ≤ get_or lengths i 0) × (get_or lengths i 0 ≤ most_length)
  pub small : total lengths < sum_limit

module _ (addresses lengths : List ℕ) where
  pub counted : (segmented : Bool) → count_ok addresses lengths segmented && lengths_ok lengths ≡ true → Counted addresses lengths
  counted segmented e =
      let a = both (count_ok addresses lengths segmented) (lengths_ok lengths) e in
      let b = both (eqb (length addresses) (length lengths)) (within 1 (most_pieces_of segmented) (length lengths)) a.0 in
      let w = within_is 1 (most_pieces_of segmented) (length lengths) b.1 in
      record {
        paired = eqb-true _ _ b.0;
        some = w.0;
        few = omega (arith, most_is segmented);
        each = lengths_each lengths a.1;
        small = omega (arith, most_is segmented, lengths_sum lengths a.1 (length lengths) (omega arith));
      }

  module _ (maximum : ℕ) (q : Request) (e : pieces_ok addresses lengths maximum q ≡ true) where
    apart : (count_ok addresses lengths q.segmented && lengths_ok lengths ≡ true) × (total_ok (total lengths) maximum q ≡ true)
    unfolding pieces_ok
    apart = both (count_ok addresses lengths q.segmented && lengths_ok lengths) _ e

    pub pieces_are : Counted addresses lengths
    pieces_are = counted q.segmented apart.0

    pub pieces_whole : q.segmented ≡ true → total lengths ≡ header_of q + q.tlen
    pieces_whole s = by_test q.segmented _ _ apart.1 (λ _ h. eqb-true _ _ h) (λ f _. absurd (true≢false (sym s ∙ f)))

    pub plain_few : q.segmented ≡ false → length lengths ≤ plain_pieces
    plain_few s =
        let b = both (count_ok addresses lengths q.segmented) (lengths_ok lengths) apart.0 in
        let w : length lengths ≤ most_pieces_of q.segmented = (within_is 1 (most_pieces_of q.segmented) (length lengths) (both (eqb (length addresses) (length lengths)) _ b.0).1).1 in
        rw s at w

-- ---- 2

pub addresses_each : (addresses lengths : List ℕ) → addresses_ok addresses lengths ≡ true → (i : ℕ) → i < length lengths
    → (1 ≤ get_or addresses i 0) × (get_or addresses i 0 + get_or lengths i 0 ≤ 2 ^ 64)
unfolding addresses_ok
addresses_each addresses lengths e i l =
    let a = get_or addresses i 0 in
    let w = none (eqb a 0 ∷ ltb (2 ^ 64) (a + get_or lengths i 0) ∷ []) (not-true _ (all_each _ (length lengths) e i l)) in
    let z = eqb-false a 0 (w 0) in
    (omega arith, ltb-false _ _ (w 1))

-- ---- what is found

-- what is known of what is found, where the count and the lengths are right
pub record Looked (addresses lengths : List ℕ) (maximum : ℕ) (q : Request) (f : Found) : Type 0 where
  pub pieces_is : f.total_ok ≡ pieces_ok addresses lengths maximum q
  pub addresses_is : f.addresses_ok ≡ addresses_ok addresses lengths
  pub total_is : f.total ≡ total lengths

module _ (addresses lengths : List ℕ) (maximum : ℕ) (q : Request) where
  looked : {f : Found} (counted : Bool) → count_ok addresses lengths q.segmented && lengths_ok lengths ≡ counted
      → found_if counted addresses lengths maximum q ≡ Some f → Looked addresses lengths maximum q f
  unfolding pieces_ok
  looked {f} true p e =
      let g : record { total_ok = total_ok (total lengths) maximum q; addresses_ok = addresses_ok addresses lengths; total = total lengths } ≡ f = cc in
      record {
        pieces_is = rw p (sym (ap (λ (f : Found). f.total_ok) g));
        addresses_is = sym (ap (λ (f : Found). f.addresses_ok) g);
        total_is = sym (ap (λ (f : Found). f.total) g);
      }
  looked false p e = absurd (cc)

  missed : (counted : Bool) → count_ok addresses lengths q.segmented && lengths_ok lengths ≡ counted
      → found_if counted addresses lengths maximum q ≡ None → pieces_ok addresses lengths maximum q ≡ false
  unfolding pieces_ok
  missed true p e = absurd (cc)
  missed false p e = rw p

  pub found_is : {f : Found} → found_of addresses lengths maximum q ≡ Some f → Looked addresses lengths maximum q f
  unfolding found_of
  found_is e = looked (count_ok addresses lengths q.segmented && lengths_ok lengths) refl e

  pub none_is : found_of addresses lengths maximum q ≡ None → pieces_ok addresses lengths maximum q ≡ false
  unfolding found_of
  none_is e = missed (count_ok addresses lengths q.segmented && lengths_ok lengths) refl e
