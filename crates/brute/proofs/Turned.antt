-- Why the map is turned: there the sum of the distances on the two axes is the greater of them.
--     turned_sum       of any two numbers
--     turned_most      the greater distance on the turned map is the sum of the distances on the map
--     turned_fences    and the square is "the sum of the absolute differences of 2x and a+b, over both coordinates, is at most the sum of the absolute differences of a and b"
-- Assumes nothing.
use mathlib.Core.Path.{◌≡◌, refl, ap₂, ◌∙◌}
use mathlib.Core.Bool.{true, false, ◌&&◌}
use mathlib.Core.Logic.{◌⊎◌, inl, inr, ⊎_elim}
use Prim.Native.Nat.{ℕ, suc, ◌+◌, ◌≤◌}
use native.Mathlib.Omega.{arith}
use lib.Dec.{leb, ltb}
use lib.IntN.{ℤ, pos, negsuc, nat_abs, ◌+ℤ◌, ◌-ℤ◌, ◌*ℤ◌}
use borrow.Author.Tests.{ltb-true, ltb-false, leb-true, le-leb}
use Rattle.integers.proofs.Bools.{decide, test_iff, and_left, and_right, and_both}
use Rattle.integers.proofs.Order.{pp, nn, sum, diff, abs_n, abs_of}
use Rattle.integers.proofs.Solver.{con, ◌:+◌, ◌:-◌, ◌:*◌}
use Rattle.integers.proofs.Solve.{◌:=◌, solve₄, solve₆}
use Rattle.brute.specs.declared.Place.{Place}
use Rattle.brute.specs.Brute.{off, turn, larger, most, fences}

-- ---- the greater of two

larger_is : (u v m : ℕ) → u ≤ m → v ≤ m → (u ≡ m) ⊎ (v ≡ m) → larger u v ≡ m
unfolding larger
larger_is u v m hu hv e =
    ⊎_elim
    (λ (t : ltb u v ≡ true). let l = ltb-true u v t in rw t (⊎_elim (λ (x : u ≡ m). omega arith) (λ (x : v ≡ m). x) e))
    (λ (t : ltb u v ≡ false). let l = ltb-false u v t in rw t (⊎_elim (λ (x : u ≡ m). x) (λ (x : v ≡ m). omega arith) e))
    (decide (ltb u v))

larger_le : (u v m : ℕ) → (leb u m && leb v m) ≡ leb (larger u v) m
unfolding larger
larger_le u v m =
    ⊎_elim
    (λ (t : ltb u v ≡ true). let l = ltb-true u v t in rw t (test_iff _ _ (and_right (leb u m) (leb v m)) (λ e. let k = leb-true v m e in and_both (leb u m) (leb v m) (le-leb u m (omega arith)) e)))
    (λ (t : ltb u v ≡ false). let l = ltb-false u v t in rw t (test_iff _ _ (and_left (leb u m) (leb v m)) (λ e. let k = leb-true u m e in and_both (leb u m) (leb v m) e (le-leb v m (omega arith)))))
    (decide (ltb u v))

-- ---- of any two numbers

negative : (d : ℤ) (m : ℕ) → nn d ≡ pp d + m → nat_abs d ≡ m
negative (pos k) m h = omega arith
negative (negsuc k) m h = omega arith

one_is : (x y : ℤ) → (nat_abs (x +ℤ y) ≡ nat_abs x + nat_abs y) ⊎ (nat_abs (x -ℤ y) ≡ nat_abs x + nat_abs y)
one_is (pos a) (pos b) = inl refl
one_is (pos a) (negsuc b) = inr refl
one_is (negsuc a) (pos b) = inr (negative (negsuc a -ℤ pos b) (suc a + b) (omega (arith, diff (negsuc a) (pos b))))
one_is (negsuc a) (negsuc b) = inl (negative (negsuc a +ℤ negsuc b) (suc a + suc b) (omega (arith, sum (negsuc a) (negsuc b))))

pub turned_sum : (x y : ℤ) → larger (nat_abs (x +ℤ y)) (nat_abs (x -ℤ y)) ≡ nat_abs x + nat_abs y
turned_sum x y =
    let m = nat_abs x + nat_abs y in
    larger_is (nat_abs (x +ℤ y)) (nat_abs (x -ℤ y)) m
    (abs_of (x +ℤ y) m (omega (arith, sum x y, abs_n x, abs_n y)) (omega (arith, sum x y, abs_n x, abs_n y)))
    (abs_of (x -ℤ y) m (omega (arith, diff x y, abs_n x, abs_n y)) (omega (arith, diff x y, abs_n x, abs_n y)))
    (one_is x y)

-- ---- of places

pub turned_most : (a b : Place) → most (turn a) (turn b) ≡ nat_abs (a.x -ℤ b.x) + nat_abs (a.y -ℤ b.y)
unfolding most
turned_most a b =
    ap₂ (λ (u v : ℤ). larger (nat_abs u) (nat_abs v))
    (solve₄ (λ p q r s. p :+ q :- (r :+ s) := p :- r :+ (q :- s)) refl a.x a.y b.x b.y)
    (solve₄ (λ p q r s. p :- q :- (r :- s) := p :- r :- (q :- s)) refl a.x a.y b.x b.y)
    ∙ turned_sum (a.x -ℤ b.x) (a.y -ℤ b.y)

pub turned_fences : (a b z : Place) → fences (turn a) (turn b) (turn z) ≡ leb (off a.x b.x z.x + off a.y b.y z.y) (nat_abs (a.x -ℤ b.x) + nat_abs (a.y -ℤ b.y))
unfolding fences
turned_fences a b z =
    larger_le (off (turn a).x (turn b).x (turn z).x) (off (turn a).y (turn b).y (turn z).y) (most (turn a) (turn b))
    ∙ ap₂ leb
    (ap₂ (λ (u v : ℤ). larger (nat_abs u) (nat_abs v))
    (solve₆ (λ p q r s t w. con (pos 2) :* (t :+ w) :- (p :+ q :+ (r :+ s)) := con (pos 2) :* t :- (p :+ r) :+ (con (pos 2) :* w :- (q :+ s))) refl a.x a.y b.x b.y z.x z.y)
    (solve₆ (λ p q r s t w. con (pos 2) :* (t :- w) :- (p :- q :+ (r :- s)) := con (pos 2) :* t :- (p :+ r) :- (con (pos 2) :* w :- (q :+ s))) refl a.x a.y b.x b.y z.x z.y)
    ∙ turned_sum (pos 2 *ℤ z.x -ℤ (a.x +ℤ b.x)) (pos 2 *ℤ z.y -ℤ (a.y +ℤ b.y)))
    (turned_most a b)
