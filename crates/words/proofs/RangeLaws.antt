-- Laws of the ranges: what a test of a word says of the number, and what the functions that test need.
-- Assumes nothing.
use mathlib.Core.Path.{◌≡◌, refl, sym, subst}
use mathlib.Core.Bool.{true, false, true≢false}
use Prim.Native.Nat.{ℕ, zero, suc, ◌≤◌}
use native.Mathlib.Omega.{arith}
use lib.Dec.{T, leb, ltb}
use lib.IntN.{ℤ, pos, negsuc, neg_ℤ, nat_abs, ◌-ℤ◌}
use lib.Signed.{le_z, lt_z, non_neg, ◌≤ℤ◌}
use mir.Syntax.{w32}
use mir.Val.{Fits, SFits}
use borrow.Author.Tests.{leb-true, le-leb, ltb-true}
use Rattle.integers.proofs.Bools.{and_left, and_right, and_both, test_iff}
use Rattle.integers.specs.Bounds.{Within}
use Rattle.integers.proofs.Order.{zl, diff, Neq, pp_neg, nn_neg, in_between}
use Rattle.words.specs.Word.{within, num}
use Rattle.words.specs.Range.{last_id, last_edition, id_word, edition_word, coord_word, id_ok, edition_ok}

-- ---- a word and its number

pub id_num : (z : ℤ) → id_word z ≡ true → id_ok (num z) ≡ true
unfolding id_word id_ok within num
id_num (pos k) e = e
id_num (negsuc k) e = e

pub edition_pos : (k : ℕ) → edition_word (pos k) ≡ edition_ok k
unfolding edition_word edition_ok within
edition_pos k = refl

-- a word that is an id is its number
pub id_is : (z : ℤ) → id_word z ≡ true → z ≡ pos (num z)
unfolding id_word within num
id_is (pos k) e = refl
id_is (negsuc k) e = absurd (true≢false (sym e))

-- ---- what the tests say

pub id_bounds : (k : ℕ) → id_ok k ≡ true → (1 ≤ k) × (k ≤ 2000000000)
unfolding id_ok
id_bounds k e = (leb-true 1 k (and_left (leb 1 k) (leb k last_id) e), leb-true k last_id (and_right (leb 1 k) (leb k last_id) e))

pub id_make : (k : ℕ) → 1 ≤ k → k ≤ 2000000000 → id_ok k ≡ true
unfolding id_ok
id_make k h l = and_both (leb 1 k) (leb k last_id) (le-leb 1 k h) (le-leb k last_id l)

pub edition_bounds : (k : ℕ) → edition_ok k ≡ true → (1 ≤ k) × (k ≤ 1000000000)
unfolding edition_ok
edition_bounds k e = (leb-true 1 k (and_left (leb 1 k) (leb k last_edition) e), leb-true k last_edition (and_right (leb 1 k) (leb k last_edition) e))

-- what is in the range of a limit is in that of a greater one
pub coord_wider : (c d z : ℤ) → c ≤ℤ d → coord_word c z ≡ true → coord_word d z ≡ true
unfolding coord_word within
coord_wider c d z h e =
    let l = and_left (le_z (neg_ℤ c) z) (le_z z c) e in
    let r = and_right (le_z (neg_ℤ c) z) (le_z z c) e in
    and_both _ _ (low l) (high r)
  where
    low : le_z (neg_ℤ c) z ≡ true → le_z (neg_ℤ d) z ≡ true
    low t = omega (zl, pp_neg c, nn_neg c, pp_neg d, nn_neg d)

    high : le_z z c ≡ true → le_z z d ≡ true
    high t = omega zl

-- a coordinate of a form is within any bound of its limit
pub coord_in : (c z : ℤ) (n : ℕ) → c ≤ℤ pos n → coord_word c z ≡ true → Within n z
unfolding coord_word within
coord_in c z n h e = in_between (low (and_left (le_z (neg_ℤ c) z) (le_z z c) e)) (high (and_right (le_z (neg_ℤ c) z) (le_z z c) e))
  where
    low : le_z (neg_ℤ c) z ≡ true → neg_ℤ (pos n) ≤ℤ z
    low t = omega (zl, pp_neg c, nn_neg c, pp_neg (pos n), nn_neg (pos n))

    high : le_z z c ≡ true → z ≤ℤ pos n
    high t = omega zl

-- ---- the functions

pub id_neg : (x y : ℤ) → y ≡ x → lt_z y (pos 0) ≡ true → false ≡ id_word x
unfolding id_word within
id_neg (pos n) y e t = let t' : ltb n 0 ≡ true = rw e at t in let h = ltb-true n 0 t' in absurd (omega arith)
id_neg (negsuc n) y e t = refl

pub id_abs : (x y : ℤ) → y ≡ x → lt_z y (pos 0) ≡ false → id_ok (nat_abs y) ≡ id_word x
unfolding id_word id_ok within
id_abs (pos n) y e t = rw e
id_abs (negsuc n) y e t = let t' : true ≡ false = rw e at t in absurd (true≢false t')

pub edition_neg : (x y : ℤ) → y ≡ x → lt_z y (pos 0) ≡ true → false ≡ edition_word x
unfolding edition_word within
edition_neg (pos n) y e t = let t' : ltb n 0 ≡ true = rw e at t in let h = ltb-true n 0 t' in absurd (omega arith)
edition_neg (negsuc n) y e t = refl

pub edition_abs : (x y : ℤ) → y ≡ x → lt_z y (pos 0) ≡ false → edition_ok (nat_abs y) ≡ edition_word x
unfolding edition_word edition_ok within
edition_abs (pos n) y e t = rw e
edition_abs (negsuc n) y e t = let t' : true ≡ false = rw e at t in absurd (true≢false t')

-- a word that is not negative may be cast to a u32
pub cast_short : (x y : ℤ) → y ≡ x → SFits w32 x → lt_z y (pos 0) ≡ false → T (non_neg y) × Fits w32 (nat_abs y)
cast_short (pos n) y e f t = rw e (tt, record { fits = omega (arith, f.sfits) })
cast_short (negsuc n) y e f t = let t' : true ≡ false = rw e at t in absurd (true≢false t')

pub upto_neg : (a y : ℤ) (k : ℕ) → y ≡ a → lt_z y (pos 0) ≡ true → false ≡ within (pos 0) (pos k) a
unfolding within
upto_neg (pos n) y k e t = let t' : ltb n 0 ≡ true = rw e at t in let h = ltb-true n 0 t' in absurd (omega arith)
upto_neg (negsuc n) y k e t = refl

pub upto_abs : (a y : ℤ) (k : ℕ) → y ≡ a → lt_z y (pos 0) ≡ false → leb (nat_abs y) k ≡ within (pos 0) (pos k) a
unfolding within
upto_abs (pos n) y k e t = rw (e, le-leb 0 n (omega arith))
upto_abs (negsuc n) y k e t = let t' : true ≡ false = rw e at t in absurd (true≢false t')

-- from -c to c: none, where c is negative
pub range_none : (c x : ℤ) → lt_z c (pos 0) ≡ true → false ≡ coord_word c x
unfolding coord_word within
range_none c x h = test_iff _ _ (λ e. absurd (true≢false (sym e))) (λ e. absurd (no (and_left (le_z (neg_ℤ c) x) (le_z x c) e) (and_right (le_z (neg_ℤ c) x) (le_z x c) e)))
  where
    no : le_z (neg_ℤ c) x ≡ true → le_z x c ≡ true → ⊥
    no s t = omega (zl, pp_neg c, nn_neg c)

-- the lower end of a range from -c to c
pub low_end : (c : ℤ) → pos 0 -ℤ c ≡ neg_ℤ c
low_end c = Neq (pos 0 -ℤ c) (neg_ℤ c) (omega (arith, diff (pos 0) c, pp_neg c, nn_neg c))

pub low_fits : (c : ℤ) → SFits w32 c → lt_z c (pos 0) ≡ false → SFits w32 (pos 0 -ℤ c)
low_fits c f g = subst (SFits w32) (sym (low_end c)) (go c f g)
  where
    go : (c : ℤ) → SFits w32 c → lt_z c (pos 0) ≡ false → SFits w32 (neg_ℤ c)
    go (pos zero) f g = f
    go (pos (suc k)) f g = record { sfits = omega (arith, f.sfits) }
    go (negsuc k) f g = absurd (true≢false g)
