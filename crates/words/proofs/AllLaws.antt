-- Laws of `all_b` and `first_b`: how a loop that tests every index, or looks for the first, finds it, and what it says of each index.
-- Assumes nothing.
use mathlib.Core.Path.{◌≡◌, refl, sym, ap, subst, ◌∙◌}
use mathlib.Core.Bool.{Bool, true, false, ◌&&◌, and-false}
use mathlib.Core.Logic.{⊎_elim, ◌⊎◌}
use Prim.Native.Nat.{ℕ, zero, suc, ◌+◌, ◌≤◌, ◌<◌}
use native.Mathlib.Nat.{le_antisymm, eq-or-lt_of_le}
use native.Mathlib.Numerals.{add-one}
use native.Mathlib.Omega.{arith}
use Rattle.words.specs.All.{all_b, first_b}
use lib.Dec.{ltb}
use borrow.Author.Tests.{lt-ltb, le-ltb, ltb-true, ltb-false}
use Rattle.integers.proofs.Bools.{and_left, and_right, and_both, decide, clash}

-- ---- a loop that tests every index

pub all_none : (p : ℕ → Bool) → all_b 0 p ≡ true
unfolding all_b
all_none p = refl

pub all_more : (p : ℕ → Bool) (i : ℕ) → all_b i p ≡ true → p i ≡ true → all_b (i + 1) p ≡ true
unfolding all_b
all_more p i e f = rw add-one (and_both (all_b i p) (p i) e f)

-- below `n + 1` is at `n` or below it
pub below_suc : (i n : ℕ) → i < suc n → (i ≡ n) ⊎ (i < n)
below_suc i n h = eq-or-lt_of_le (omega arith)

-- ---- what it says of each index

pub all_at : (p : ℕ → Bool) (n : ℕ) → all_b n p ≡ true → (i : ℕ) → i < n → p i ≡ true
unfolding all_b
all_at p zero e i h = absurd (omega arith)
all_at p (suc n) e i h =
    ⊎_elim (λ q. subst (λ (k : ℕ). p k ≡ true) (sym q) (and_right (all_b n p) (p n) e)) (λ l. all_at p n (and_left (all_b n p) (p n) e) i l) (below_suc i n h)

pub all_make : (p : ℕ → Bool) (n : ℕ) → ((i : ℕ) → i < n → p i ≡ true) → all_b n p ≡ true
unfolding all_b
all_make p zero f = refl
all_make p (suc n) f = and_both (all_b n p) (p n) (all_make p n (λ i h. f i (omega arith))) (f n (omega arith))

pub all_stop : (p : ℕ → Bool) (i n : ℕ) → i < n → p i ≡ false → false ≡ all_b n p
unfolding all_b
all_stop p i zero h e = absurd (omega arith)
all_stop p i (suc n) h e =
    ⊎_elim (λ q. sym (ap (λ (b : Bool). all_b n p && b) (ap p (sym q) ∙ e) ∙ and-false (all_b n p))) (λ l. rw (← all_stop p i n l e)) (below_suc i n h)

pub all_done : (p : ℕ → Bool) (i n : ℕ) → i ≤ n → n ≤ i → all_b i p ≡ true → true ≡ all_b n p
all_done p i n h k e = sym e ∙ ap (λ (j : ℕ). all_b j p) (le_antisymm h k)

-- ---- a loop that looks for the first index

pub first_none : (p : ℕ → Bool) → first_b 0 p ≡ 0
unfolding first_b
first_none p = refl

pub first_more : (p : ℕ → Bool) (i : ℕ) → first_b i p ≡ i → p i ≡ false → first_b (i + 1) p ≡ i + 1
unfolding first_b
first_more p i e f = rw (add-one, e, le-ltb i i (omega arith), f)

pub first_stop : (p : ℕ → Bool) (i k : ℕ) → first_b i p ≡ i → p i ≡ true → i < k → i ≡ first_b k p
unfolding first_b
first_stop p i zero e f h = absurd (omega arith)
first_stop p i (suc k) e f h =
    ⊎_elim
    (λ (q : i ≡ k). rw (← q, e, le-ltb i i (omega arith), f))
    (λ (l : i < k). let z = first_stop p i k e f l in rw (← z, lt-ltb i k l))
    (below_suc i k h)

pub first_le : (p : ℕ → Bool) (k : ℕ) → first_b k p ≤ k
unfolding first_b
first_le p zero = omega arith
first_le p (suc k) =
    ⊎_elim
    (λ (e : ltb (first_b k p) k ≡ true). rw e (omega (arith, ltb-true (first_b k p) k e)))
    (λ (e : ltb (first_b k p) k ≡ false). ⊎_elim (λ (f : p k ≡ true). rw (e, f) (omega arith)) (λ (f : p k ≡ false). rw (e, f) (omega arith)) (decide (p k)))
    (decide (ltb (first_b k p) k))

-- where it is below the bound, the test holds
pub first_hit : (p : ℕ → Bool) (k : ℕ) → first_b k p < k → p (first_b k p) ≡ true
unfolding first_b
first_hit p zero h = absurd (omega arith)
first_hit p (suc k) h =
    ⊎_elim
    (λ (e : ltb (first_b k p) k ≡ true). rw e (first_hit p k (ltb-true (first_b k p) k e)))
    (λ (e : ltb (first_b k p) k ≡ false).
    ⊎_elim (λ (f : p k ≡ true). rw (e, f) f) (λ (f : p k ≡ false). let z : suc k < suc k = rw (e, f) at h in absurd (omega arith)) (decide (p k)))
    (decide (ltb (first_b k p) k))

-- below the first number at which a test holds, it does not
pub first_before : (p : ℕ → Bool) (k i : ℕ) → i < first_b k p → p i ≡ false
unfolding first_b
first_before p zero i h = absurd (omega arith)
first_before p (suc k) i h =
    ⊎_elim
    (λ (e : ltb (first_b k p) k ≡ true). first_before p k i (rw e at h))
    (λ (e : ltb (first_b k p) k ≡ false).
    ⊎_elim
    (λ (f : p k ≡ true). first_before p k i (let z : i < k = rw (e, f) at h in omega (arith, ltb-false (first_b k p) k e)))
    (λ (f : p k ≡ false).
    ⊎_elim
    (λ (x : i ≡ k). rw x f)
    (λ (x : i < k). first_before p k i (omega (arith, ltb-false (first_b k p) k e)))
    (below_suc i k (rw (e, f) at h)))
    (decide (p k)))
    (decide (ltb (first_b k p) k))

-- where a test holds somewhere below a bound, its first place is below it
pub first_in : (p : ℕ → Bool) (k j : ℕ) → j < k → p j ≡ true → first_b k p < k
first_in p k j h e =
    ⊎_elim (λ (x : first_b k p ≡ k). clash e (first_before p k j (omega arith))) (λ (x : first_b k p < k). x) (eq-or-lt_of_le (first_le p k))
