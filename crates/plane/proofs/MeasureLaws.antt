-- The box rules of any measure that grows: a far box holds no place that blocks, and on a side whose two corners lie strictly inside every place does. Both measures grow,
-- and what the squares of the distances say is what document 01 says of the circle.
-- Assumes nothing.
use mathlib.Core.Path.{◌≡◌, refl, sym, ap, subst, ◌∙◌}
use mathlib.Core.Bool.{Bool, true, false, not, cond, ◌&&◌}
use mathlib.Core.Logic.{◌⊎◌, inl, inr, ⊎_elim}
use Prim.Native.Nat.{ℕ, zero, suc, ◌+◌, ◌*◌, ◌≤◌, ◌<◌}
use native.Mathlib.Omega.{arith}
use native.Mathlib.Nat.{mul-le-mul, le_antisymm}
use lib.Dec.{leb, ltb}
use lib.IntN.{ℤ, pos, negsuc, nat_abs, ◌+ℤ◌, ◌-ℤ◌, ◌*ℤ◌}
use lib.Signed.{le_z, lt_z, ◌≤ℤ◌, ◌<ℤ◌}
use borrow.Author.Tests.{ltb-true, lt-leb, le-leb, leb-true, lt-ltb}
use Rattle.integers.proofs.Order.{zl, total, diff, sum, abs_n, abs_of}
use Rattle.integers.proofs.Linear.{pp_scale, nn_scale}
use Rattle.integers.proofs.Solver.{con, ◌:+◌, ◌:-◌, ◌:*◌}
use Rattle.integers.proofs.Solve.{◌:=◌, solve₃}
use Rattle.integers.proofs.Bools.{and_left, and_right, test_iff}
use Rattle.plane.specs.declared.Spot.{Spot}
use Rattle.plane.specs.declared.Boxed.{Boxed}
use Rattle.plane.specs.Rule.{spot, sq, dot, same_spot, blocks, size, out, far, inside, OnSide}
use Rattle.plane.specs.Profile.{Measure, streets, across, centre, away, blocks_by, far_by, inside_by, corners_in}
use Rattle.plane.proofs.Plane.{In, disk}
use Rattle.plane.proofs.RuleLaws.{same_self, not_same}

-- more on an axis is not less in all: the one law that the box rules need
pub record Grows (m : Measure) : Type 0 where
  pub grows : (u u' v v' : ℕ) → u ≤ u' → v ≤ v' → m.joined u v ≤ m.joined u' v'

-- the circle's: the squares of the distances, added
abbrev pub squares : Measure
squares = record { joined = λ u v. u * u + v * v }

-- ---- both grow

pub streets_grow : Grows streets
streets_grow = record { grows = λ u u' v v' h k. omega arith }

pub squares_grow : Grows squares
squares_grow = record { grows = λ u u' v v' h k. omega (arith, mul-le-mul h h, mul-le-mul k k) }

-- ---- one axis

double : (a b : ℤ) → a ≤ℤ b → (pos 2 *ℤ a) ≤ℤ (pos 2 *ℤ b)
double a b h = omega (zl, pp_scale 2 a, nn_scale 2 a, pp_scale 2 b, nn_scale 2 b)

-- how far c is outside of lo to hi is no more than how far it is from any t between
out_least : (lo hi c t : ℤ) → lo ≤ℤ t → t ≤ℤ hi → nat_abs (out lo hi c) ≤ nat_abs (t -ℤ c)
out_least lo hi c t l u = go (lt_z c lo) (lt_z hi c) refl refl
  where
    below : (lo t c : ℤ) → c <ℤ lo → lo ≤ℤ t → nat_abs (lo -ℤ c) ≤ nat_abs (t -ℤ c)
    below lo t c h l = abs_of (lo -ℤ c) (nat_abs (t -ℤ c)) (omega (zl, diff lo c, diff t c, abs_n (t -ℤ c))) (omega (zl, diff lo c, abs_n (t -ℤ c)))

    above : (hi t c : ℤ) → hi <ℤ c → t ≤ℤ hi → nat_abs (c -ℤ hi) ≤ nat_abs (t -ℤ c)
    above hi t c h u = abs_of (c -ℤ hi) (nat_abs (t -ℤ c)) (omega (zl, diff c hi, diff t c, abs_n (t -ℤ c))) (omega (zl, diff c hi, abs_n (t -ℤ c)))

    go : (s r : Bool) → lt_z c lo ≡ s → lt_z hi c ≡ r → nat_abs (cond s (lo -ℤ c) (cond r (c -ℤ hi) (pos 0))) ≤ nat_abs (t -ℤ c)
    go true r e f = let h : c <ℤ lo = omega zl in below lo t c h l
    go false true e f = let h : hi <ℤ c = omega zl in above hi t c h u
    go false false e f = omega arith

-- of t between lo and hi, c is no farther than from one of the two
nearer_end : (lo hi c t : ℤ) → lo ≤ℤ t → t ≤ℤ hi → (nat_abs (t -ℤ c) ≤ nat_abs (lo -ℤ c)) ⊎ (nat_abs (t -ℤ c) ≤ nat_abs (hi -ℤ c))
nearer_end lo hi c t l u =
    ⊎_elim
    (λ (h : c ≤ℤ t). inr (abs_of (t -ℤ c) (nat_abs (hi -ℤ c)) (omega (zl, diff t c, diff hi c, abs_n (hi -ℤ c))) (omega (zl, diff t c))))
    (λ (h : t <ℤ c). inl (abs_of (t -ℤ c) (nat_abs (lo -ℤ c)) (omega (zl, diff t c)) (omega (zl, diff t c, diff lo c, abs_n (lo -ℤ c)))))
    (total c t)

-- twice an end is as far from the sum as the ends are from each other
twice_left : (a b : ℤ) → pos 2 *ℤ a -ℤ (a +ℤ b) ≡ a -ℤ b
twice_left a b = solve₃ (λ a b c. con (pos 2) :* a :- (a :+ b) := a :- b) refl a b (pos 0)

twice_right : (a b : ℤ) → nat_abs (pos 2 *ℤ b -ℤ (a +ℤ b)) ≡ nat_abs (a -ℤ b)
twice_right a b = ap nat_abs (solve₃ (λ a b c. con (pos 2) :* b :- (a :+ b) := b :- a) refl a b (pos 0)) ∙ swap
  where
    half : (a b : ℤ) → nat_abs (b -ℤ a) ≤ nat_abs (a -ℤ b)
    half a b = abs_of (b -ℤ a) (nat_abs (a -ℤ b)) (omega (arith, diff a b, diff b a, abs_n (a -ℤ b))) (omega (arith, diff a b, diff b a, abs_n (a -ℤ b)))

    swap : nat_abs (b -ℤ a) ≡ nat_abs (a -ℤ b)
    swap = le_antisymm (half a b) (half b a)

and_off : (t : Bool) → (t && false) ≡ false
and_off true = refl
and_off false = refl

-- ---- the rules, of any measure that grows

module _ (m : Measure) (g : Grows m) where
  -- rule (1): a far box holds no point that blocks
  pub far_clear_by : (a b : Spot) (o : Boxed) (z : Spot) → far_by m a b o ≡ true → In o z → blocks_by m a b z ≡ false
  unfolding far_by blocks_by
  far_clear_by a b o z e i =
      let x = out_least (pos 2 *ℤ o.xmin) (pos 2 *ℤ o.xmax) (a.x +ℤ b.x) (pos 2 *ℤ z.x) (double _ _ i.left) (double _ _ i.right) in
      let y = out_least (pos 2 *ℤ o.ymin) (pos 2 *ℤ o.ymax) (a.y +ℤ b.y) (pos 2 *ℤ z.y) (double _ _ i.low) (double _ _ i.high) in
      let h = g.grows _ _ _ _ x y in
      let k = ltb-true (across m a b) (away m a b o) e in
      rw (lt-leb (centre m a b z) (across m a b) (omega arith))

  Strict : Spot → Spot → Spot → Type 0
  Strict a b z = centre m a b z < across m a b

  -- along y, along x
  side_up : (a b : Spot) (x y₁ y₂ y : ℤ) → Strict a b (spot x y₁) → Strict a b (spot x y₂) → y₁ ≤ℤ y → y ≤ℤ y₂ → Strict a b (spot x y)
  unfolding Strict
  side_up a b x y₁ y₂ y h₁ h₂ l u =
      let c = nat_abs (pos 2 *ℤ x -ℤ (a.x +ℤ b.x)) in
      ⊎_elim
      (λ s. let k = g.grows c c _ _ (omega arith) s in omega arith)
      (λ s. let k = g.grows c c _ _ (omega arith) s in omega arith)
      (nearer_end (pos 2 *ℤ y₁) (pos 2 *ℤ y₂) (a.y +ℤ b.y) (pos 2 *ℤ y) (double _ _ l) (double _ _ u))

  side_along : (a b : Spot) (y x₁ x₂ x : ℤ) → Strict a b (spot x₁ y) → Strict a b (spot x₂ y) → x₁ ≤ℤ x → x ≤ℤ x₂ → Strict a b (spot x y)
  unfolding Strict
  side_along a b y x₁ x₂ x h₁ h₂ l u =
      let c = nat_abs (pos 2 *ℤ y -ℤ (a.y +ℤ b.y)) in
      ⊎_elim
      (λ s. let k = g.grows _ _ c c s (omega arith) in omega arith)
      (λ s. let k = g.grows _ _ c c s (omega arith) in omega arith)
      (nearer_end (pos 2 *ℤ x₁) (pos 2 *ℤ x₂) (a.x +ℤ b.x) (pos 2 *ℤ x) (double _ _ l) (double _ _ u))

  both_in : (a b c d : Spot) → (inside_by m a b c && inside_by m a b d) ≡ true → Strict a b c × Strict a b d
  unfolding inside_by Strict
  both_in a b c d e = (ltb-true _ _ (and_left (inside_by m a b c) (inside_by m a b d) e), ltb-true _ _ (and_right (inside_by m a b c) (inside_by m a b d) e))

  -- an end is not strictly inside
  not_left : (a b z : Spot) → Strict a b z → z ≡ a → ⊥
  unfolding Strict
  not_left a b z h e =
      let s : centre m a b a ≡ across m a b = λ i. m.joined (nat_abs (twice_left a.x b.x i)) (nat_abs (twice_left a.y b.y i)) in
      let t = ap (centre m a b) e ∙ s in
      omega arith

  not_right : (a b z : Spot) → Strict a b z → z ≡ b → ⊥
  unfolding Strict
  not_right a b z h e =
      let s : centre m a b b ≡ across m a b = λ i. m.joined (twice_right a.x b.x i) (twice_right a.y b.y i) in
      let t = ap (centre m a b) e ∙ s in
      omega arith

  -- what is strictly inside blocks
  strict_blocks_by : (a b z : Spot) → Strict a b z → blocks_by m a b z ≡ true
  unfolding blocks_by Strict
  strict_blocks_by a b z h = rw (le-leb (centre m a b z) (across m a b) (omega arith), not_same z a (not_left a b z h), not_same z b (not_right a b z h))

  -- the tests of the two corners of side s
  abbrev corners_of : Spot → Spot → Boxed → ℕ → Bool
  corners_of = corners_in (record { blocks = blocks_by m; far = far_by m; inside = inside_by m; size = λ a b. 0; reach = 0; most = 0; half = false })

  corners_strict : (a b : Spot) (o : Boxed) (s : ℕ) → corners_of a b o s ≡ true → (z : Spot) → In o z → OnSide s o z → Strict a b z
  unfolding OnSide
  corners_strict a b o zero e z i on =
      let h = both_in a b (spot o.xmin o.ymin) (spot o.xmin o.ymax) e in
      subst (λ (x : ℤ). Strict a b (spot x z.y)) (sym on) (side_up a b o.xmin o.ymin o.ymax z.y h.0 h.1 i.low i.high)
  corners_strict a b o (suc zero) e z i on =
      let h = both_in a b (spot o.xmin o.ymin) (spot o.xmax o.ymin) e in
      subst (λ (y : ℤ). Strict a b (spot z.x y)) (sym on) (side_along a b o.ymin o.xmin o.xmax z.x h.0 h.1 i.left i.right)
  corners_strict a b o (suc (suc zero)) e z i on =
      let h = both_in a b (spot o.xmax o.ymin) (spot o.xmax o.ymax) e in
      subst (λ (x : ℤ). Strict a b (spot x z.y)) (sym on) (side_up a b o.xmax o.ymin o.ymax z.y h.0 h.1 i.low i.high)
  corners_strict a b o (suc (suc (suc s))) e z i on =
      let h = both_in a b (spot o.xmin o.ymax) (spot o.xmax o.ymax) e in
      subst (λ (y : ℤ). Strict a b (spot z.x y)) (sym on) (side_along a b o.ymax o.xmin o.xmax z.x h.0 h.1 i.left i.right)

  -- rule (2): a record on a side whose two corners lie strictly inside blocks
  pub side_blocks_by : (a b : Spot) (o : Boxed) (s : ℕ) → corners_of a b o s ≡ true → (z : Spot) → In o z → OnSide s o z → blocks_by m a b z ≡ true
  side_blocks_by a b o s e z i on = strict_blocks_by a b z (corners_strict a b o s e z i on)

  -- an end never blocks
  pub end_clear_by : (a b z : Spot) → (z ≡ a) ⊎ (z ≡ b) → blocks_by m a b z ≡ false
  unfolding blocks_by
  end_clear_by a b z (inl e) = let s : same_spot z a ≡ true = rw e (same_self a) in rw (s, and_off (leb (centre m a b z) (across m a b)))
  end_clear_by a b z (inr e) =
      let s : same_spot z b ≡ true = rw e (same_self b) in
      ap (λ (t : Bool). leb (centre m a b z) (across m a b) && not (same_spot z a) && not t) s ∙ and_off (leb (centre m a b z) (across m a b) && not (same_spot z a))

-- ---- the circle's rules are document 01's

square_is : (t : ℤ) → pos (nat_abs t * nat_abs t) ≡ sq t
square_is (pos n) = refl
square_is (negsuc n) = refl

module _ (a b z : Spot) where
  centre_sum : pos (centre squares a b z) ≡ pos 4 *ℤ dot a b z +ℤ size a b
  centre_sum = (λ i. square_is (pos 2 *ℤ z.x -ℤ (a.x +ℤ b.x)) i +ℤ square_is (pos 2 *ℤ z.y -ℤ (a.y +ℤ b.y)) i) ∙ disk a b z

  across_sum : pos (across squares a b) ≡ size a b
  across_sum = λ i. square_is (a.x -ℤ b.x) i +ℤ square_is (a.y -ℤ b.y) i

  -- c ≤ d, of c = 4p + d, exactly if p ≤ 0; and strictly
  le_by : (c d : ℕ) (p s : ℤ) → pos c ≡ pos 4 *ℤ p +ℤ s → pos d ≡ s → leb c d ≡ le_z p (pos 0)
  le_by c d p s e f =
      test_iff _ _
      (λ t. let h = leb-true c d t in omega (zl, sum (pos 4 *ℤ p) s, pp_scale 4 p, nn_scale 4 p))
      (λ t. le-leb c d (omega (zl, sum (pos 4 *ℤ p) s, pp_scale 4 p, nn_scale 4 p)))

  lt_by : (c d : ℕ) (p s : ℤ) → pos c ≡ pos 4 *ℤ p +ℤ s → pos d ≡ s → ltb c d ≡ lt_z p (pos 0)
  lt_by c d p s e f =
      test_iff _ _
      (λ t. let h = ltb-true c d t in omega (zl, sum (pos 4 *ℤ p) s, pp_scale 4 p, nn_scale 4 p))
      (λ t. lt-ltb c d (omega (zl, sum (pos 4 *ℤ p) s, pp_scale 4 p, nn_scale 4 p)))

  pub circle_blocks : blocks_by squares a b z ≡ blocks a b z
  unfolding blocks_by blocks
  circle_blocks = ap (λ (t : Bool). t && not (same_spot z a) && not (same_spot z b)) (le_by (centre squares a b z) (across squares a b) (dot a b z) (size a b) centre_sum across_sum)

  pub circle_inside : inside_by squares a b z ≡ inside a b z
  unfolding inside_by inside
  circle_inside = lt_by (centre squares a b z) (across squares a b) (dot a b z) (size a b) centre_sum across_sum

pub circle_far : (a b : Spot) (o : Boxed) → far_by squares a b o ≡ far a b o
unfolding far_by far
circle_far a b o =
    lt_pos (across squares a b) (away squares a b o)
    ∙ (λ i. lt_z (across_sum a b a i) (square_is (out (pos 2 *ℤ o.xmin) (pos 2 *ℤ o.xmax) (a.x +ℤ b.x)) i +ℤ square_is (out (pos 2 *ℤ o.ymin) (pos 2 *ℤ o.ymax) (a.y +ℤ b.y)) i))
  where
    lt_pos : (c d : ℕ) → ltb c d ≡ lt_z (pos c) (pos d)
    lt_pos c d = refl
