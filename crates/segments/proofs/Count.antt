-- Counting the numbers below n that pass a test. Assumes nothing.
use Rattle.std.proofs.Common.{ℕ, zero, suc, ◌+◌, ◌-◌, ◌≤◌, ◌<◌, ◌≡◌, refl, Bool, true, false, cond, ◌||◌, ◌↔◌, arith}
use mathlib.Core.Bool.{or-true, false≢true}
use native.Mathlib.Decide.{le_ind}
use Rattle.segments.specs.Touch.{count_below, some_below}

-- one below n passes exactly if there is a k that does
pub some_is : (t : ℕ → Bool) (n : ℕ) → (some_below n t ≡ true) ↔ ((k : ℕ) × (k < n) × (t k ≡ true))
unfolding some_below
some_is t n = (there n, λ (k, h, e). le_ind {n = suc k} (λ m. some_below m t ≡ true) (rw e) (λ m _ r. rw r (or-true (t m))) n h)
  where
    there : (n : ℕ) → some_below n t ≡ true → (k : ℕ) × (k < n) × (t k ≡ true)
    there zero e = absurd (false≢true e)
    there (suc n) e = by (t n) refl e (there n)
      where
        by : (b : Bool) → t n ≡ b → b || some_below n t ≡ true → (some_below n t ≡ true → (k : ℕ) × (k < n) × (t k ≡ true)) → (k : ℕ) × (k < suc n) × (t k ≡ true)
        by true p e r = (n, omega arith, p)
        by false p e r = let (k, h, q) = r e in (k, omega arith, q)

module _ (t : ℕ → Bool) where
  pub count_le : (n : ℕ) → count_below n t ≤ n
  unfolding count_below
  count_le zero = omega arith
  count_le (suc n) = by (t n) (count_le n)
    where
      by : (b : Bool) → count_below n t ≤ n → cond b 1 0 + count_below n t ≤ suc n
      by true h = omega arith
      by false h = omega arith

  pub count_up : {a : ℕ} (b : ℕ) → a ≤ b → count_below a t ≤ count_below b t
  unfolding count_below
  count_up {a} = le_ind (λ b. count_below a t ≤ count_below b t) (omega arith) (λ m h r. omega arith)

  -- each of a, .. b - 1 passes
  pub count_run : {a : ℕ} (b : ℕ) → a ≤ b → ((j : ℕ) → a ≤ j → j < b → t j ≡ true) → count_below a t + (b - a) ≤ count_below b t
  unfolding count_below
  count_run {a} =
      le_ind (λ b. ((j : ℕ) → a ≤ j → j < b → t j ≡ true) → count_below a t + (b - a) ≤ count_below b t) (λ all. omega arith)
      (λ m h r all. rw (all m h (omega arith)) (let s = r (λ j g l. all j g (omega arith)) in omega arith))

-- L holds at some i, from h on, and U at i + m, below n
module _ (L U : ℕ → Type 0) (h m n : ℕ) where
  pub record Run : Type 0 where
    pub i : ℕ
    pub from : h ≤ i
    pub to : i + m < n
    pub low : L i
    pub high : U (i + m)

-- The test passes below h, and from h on exactly where L and U both hold; L stays true going up, and U going down.
-- Then more than h + m numbers below n pass exactly if there is a run.
module _ (t : ℕ → Bool) (L U : ℕ → Type 0) (h : ℕ) where
  pub record Band : Type 0 where
    pub head : (i : ℕ) → i < h → t i ≡ true
    pub apart : (i : ℕ) → h ≤ i → t i ≡ true → L i × U i
    pub join : (i : ℕ) → h ≤ i → L i → U i → t i ≡ true
    pub upward : (i j : ℕ) → i ≤ j → L i → L j
    pub downward : (i j : ℕ) → i ≤ j → U j → U i

  pub run_counted : (n m : ℕ) → Band → Run L U h m n → h + m < count_below n t
  run_counted n m b r =
      let i = r.i in
      let c₁ = count_run t {a = 0} h (omega arith) (λ j _ l. b.head j l) in
      let c₂ = count_up t i r.from in
      let c₃ = count_run t {a = i} (suc (i + m)) (omega arith) (λ j g l. b.join j (omega arith) (b.upward i j g r.low) (b.downward j (i + m) (omega arith) r.high)) in
      let c₄ = count_up t n r.to in
      omega arith

  pub counted_run : (n m : ℕ) → Band → h + m < count_below n t → Run L U h m n
  unfolding count_below
  counted_run zero m b p = absurd (omega arith)
  counted_run (suc n) m b p = by (t n) refl m p (λ m. counted_run n m b)
    where
      by : (v : Bool) → t n ≡ v → (m : ℕ) → h + m < cond v 1 0 + count_below n t → ((m : ℕ) → h + m < count_below n t → Run L U h m n) → Run L U h m (suc n)
      by true e zero p ih =
          let g : h ≤ n = omega (arith, count_le t n) in
          let (l, u) = b.apart n g e in
          record { i = n; from = g; to = omega arith; low = l; high = b.downward (n + 0) n (omega arith) u }
      by true e (suc m) p ih =
          let r = ih m (omega arith) in
          let (l, u) = b.apart n (omega arith) e in
          record { i = r.i; from = r.from; to = omega arith; low = r.low; high = b.downward (r.i + suc m) n (omega arith) u }
      by false e m p ih =
          let r = ih m (omega arith) in
          record { i = r.i; from = r.from; to = omega arith; low = r.low; high = r.high }
