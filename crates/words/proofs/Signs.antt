-- Laws of signed words: what a test on one says, and what a range gives of the count.
-- Assumes nothing.
use mathlib.Core.Path.{◌≡◌, refl, sym, ap, ◌∙◌}
use mathlib.Core.Bool.{Bool, true, false, not, true≢false}
use Prim.Native.Nat.{ℕ, ◌≤◌, ◌<◌}
use native.Mathlib.Omega.{arith}
use lib.Dec.{T, eqb, leb, ltb}
use lib.IntN.{ℤ, pos, negsuc, nat_abs}
use lib.Signed.{le_z, lt_z, non_neg, mag}
use mir.Syntax.{w32, w64}
use mir.ValLaws.{to_z-of_z}
use mir.Val.{Fits, SFits, to_z, of_z}
use borrow.Author.Tests.{ltb-true, leb-true, eqb-true, eqb-false, eq-eqb, ne_eqb}
use Rattle.integers.proofs.Bools.{and_left, and_right}
use Rattle.integers.proofs.Order.{zl, le_z_not}
use Rattle.words.specs.Word.{eq_z, within, num, is_below}

-- the count of a negative word, and of another
pub num_neg : (x y : ℤ) → y ≡ x → lt_z y (pos 0) ≡ true → ◌≡◌ {A = ℕ} 0 (num x)
unfolding num
num_neg (pos n) y e t = let t' : ltb n 0 ≡ true = rw e at t in let h = ltb-true n 0 t' in omega arith
num_neg (negsuc n) y e t = refl

pub num_abs : (x y : ℤ) → y ≡ x → lt_z y (pos 0) ≡ false → nat_abs y ≡ num x
unfolding num
num_abs (pos n) y e t = ap nat_abs e
num_abs (negsuc n) y e t = let t' : true ≡ false = rw e at t in absurd (true≢false t')

-- a word that is not negative may be cast to a usize
pub cast_ok : (x y : ℤ) → y ≡ x → SFits w32 x → lt_z y (pos 0) ≡ false → T (non_neg y) × Fits w64 (nat_abs y)
cast_ok (pos n) y e f t = rw e (tt, record { fits = omega (arith, f.sfits) })
cast_ok (negsuc n) y e f t = let t' : true ≡ false = rw e at t in absurd (true≢false t')

-- the two ends of a range
pub within_low : (lo hi x : ℤ) → lt_z x lo ≡ true → false ≡ within lo hi x
unfolding within
within_low lo hi x t = rw (le_z_not lo x, t)

pub within_high : (lo hi x : ℤ) → lt_z x lo ≡ false → lt_z hi x ≡ true → false ≡ within lo hi x
unfolding within
within_high lo hi x s t = rw (le_z_not lo x, s, le_z_not x hi, t)

pub within_yes : (lo hi x : ℤ) → lt_z x lo ≡ false → lt_z hi x ≡ false → true ≡ within lo hi x
unfolding within
within_yes lo hi x s t = rw (le_z_not lo x, s, le_z_not x hi, t)

-- equal bits are equal words
pub same_bits : (a b : ℤ) → SFits w32 a → SFits w32 b → eqb (of_z w32 a) (of_z w32 b) ≡ eq_z a b
unfolding eq_z
same_bits (pos a) (pos b) f g = refl
same_bits (pos a) (negsuc b) f g = ne_eqb a (of_z w32 (negsuc b)) (λ e. omega (arith, f.sfits, g.sfits))
same_bits (negsuc a) (pos b) f g = ne_eqb (of_z w32 (negsuc a)) b (λ e. omega (arith, f.sfits, g.sfits))
same_bits (negsuc a) (negsuc b) f g = go (eqb a b) refl
  where
    go : (t : Bool) → eqb a b ≡ t → eqb (of_z w32 (negsuc a)) (of_z w32 (negsuc b)) ≡ t
    go true e = let h = eqb-true a b e in eq-eqb (of_z w32 (negsuc a)) (of_z w32 (negsuc b)) (rw h refl)
    go false e = ne_eqb (of_z w32 (negsuc a)) (of_z w32 (negsuc b)) (λ h. eqb-false a b e (omega (arith, f.sfits, g.sfits)))

-- a word against a count
pub is_neg : (a y : ℤ) (k : ℕ) → y ≡ a → lt_z y (pos 0) ≡ true → false ≡ eq_z a (pos k)
unfolding eq_z
is_neg (pos n) y k e t = let t' : ltb n 0 ≡ true = rw e at t in let h = ltb-true n 0 t' in absurd (omega arith)
is_neg (negsuc n) y k e t = refl

pub is_abs : (a y : ℤ) (k : ℕ) → y ≡ a → lt_z y (pos 0) ≡ false → eqb (nat_abs y) k ≡ eq_z a (pos k)
unfolding eq_z
is_abs (pos n) y k e t = rw e
is_abs (negsuc n) y k e t = let t' : true ≡ false = rw e at t in absurd (true≢false t')

pub num_short : (x : ℤ) → SFits w32 x → num x < 2147483648
unfolding num
num_short (pos n) f = omega (arith, f.sfits)
num_short (negsuc n) f = omega arith

-- a word that was handed to a call is the word
pub handed : {x y : ℤ} → mag x < 2147483648 → x ≡ y → to_z w32 (of_z w32 x) ≡ y
handed {x} f e = to_z-of_z w32 x (record { sfits = f }) ∙ e

-- a word below a count
pub below_neg : (a y : ℤ) (k : ℕ) → y ≡ a → lt_z y (pos 0) ≡ true → false ≡ is_below k a
unfolding is_below
below_neg (pos n) y k e t = let t' : ltb n 0 ≡ true = rw e at t in let h = ltb-true n 0 t' in absurd (omega arith)
below_neg (negsuc n) y k e t = refl

pub below_abs : (a y : ℤ) (k : ℕ) → y ≡ a → lt_z y (pos 0) ≡ false → ltb (nat_abs y) k ≡ is_below k a
unfolding is_below
below_abs (pos n) y k e t = rw e
below_abs (negsuc n) y k e t = let t' : true ≡ false = rw e at t in absurd (true≢false t')

-- ---- from a test that holds to a fact of the count

pub below_num : (n : ℕ) (z : ℤ) → is_below n z ≡ true → num z < n
unfolding is_below num
below_num n (pos k) e = ltb-true k n e
below_num n (negsuc k) e = absurd (true≢false (sym e))

pub is_num : (z : ℤ) (k : ℕ) → eq_z z (pos k) ≡ true → num z ≡ k
unfolding eq_z num
is_num (pos a) k e = eqb-true a k e
is_num (negsuc a) k e = absurd (true≢false (sym e))

pub is_word : (z : ℤ) (k : ℕ) → eq_z z (pos k) ≡ true → z ≡ pos k
unfolding eq_z
is_word (pos a) k e = ap pos (eqb-true a k e)
is_word (negsuc a) k e = absurd (true≢false (sym e))

pub within_num : (lo hi : ℕ) (z : ℤ) → within (pos lo) (pos hi) z ≡ true → (lo ≤ num z) × (num z ≤ hi)
unfolding within num
within_num lo hi (pos a) e = (leb-true lo a (and_left (leb lo a) (leb a hi) e), leb-true a hi (and_right (leb lo a) (leb a hi) e))
within_num lo hi (negsuc a) e = absurd (true≢false (sym e))

pub eq_z_eq : (a b : ℤ) → eq_z a b ≡ true → a ≡ b
unfolding eq_z
eq_z_eq (pos a) (pos b) e = ap pos (eqb-true a b e)
eq_z_eq (pos a) (negsuc b) e = absurd (true≢false (sym e))
eq_z_eq (negsuc a) (pos b) e = absurd (true≢false (sym e))
eq_z_eq (negsuc a) (negsuc b) e = ap negsuc (eqb-true a b e)

eq_z_self : (a : ℤ) → eq_z a a ≡ true
unfolding eq_z
eq_z_self (pos a) = eq-eqb a a refl
eq_z_self (negsuc a) = eq-eqb a a refl

pub eq_eq_z : (a b : ℤ) → a ≡ b → eq_z a b ≡ true
eq_eq_z a b e = ap (eq_z a) (sym e) ∙ eq_z_self a

-- ---- the order

pub le_z_refl : (a : ℤ) → le_z a a ≡ true
le_z_refl a = omega zl

pub le_z_trans : (a b c : ℤ) → le_z a b ≡ true → le_z b c ≡ true → le_z a c ≡ true
le_z_trans a b c e f = omega zl

-- a test that holds strictly holds
pub words_lt_le : (a b : ℤ) → lt_z a b ≡ true → le_z a b ≡ true
words_lt_le a b e = omega zl

pub not_lt_le : (a b : ℤ) → lt_z a b ≡ false → le_z b a ≡ true
not_lt_le a b e = le_z_not b a ∙ ap not e

-- the test that a word is not negative
pub up_from : {x y : ℤ} → y ≡ x → le_z (pos 0) y ≡ true → lt_z y (pos 0) ≡ false
up_from e t = omega zl

pub down_from : {x y : ℤ} → y ≡ x → le_z (pos 0) y ≡ false → lt_z y (pos 0) ≡ true
down_from e t = omega zl
