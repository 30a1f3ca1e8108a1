-- What all that goes by a profile needs of it, `Lawful`, and that both profiles have it.
-- Assumes nothing.
use mathlib.Core.Path.{◌≡◌, refl, sym, ap₂, ◌∙◌}
use mathlib.Core.Bool.{Bool, true, false, cond, ◌&&◌}
use mathlib.Core.Logic.{inl, inr}
use Prim.Native.Nat.{ℕ, zero, suc, ◌≤◌, ◌<◌}
use native.Mathlib.Nat.{mul-le-mul}
use Rattle.integers.proofs.Order.{in-+, in--, in-*, in_up}
use Rattle.integers.proofs.Bools.{clash}
use native.Mathlib.Omega.{arith}
use Rattle.plane.specs.declared.Spot.{Spot}
use Rattle.plane.specs.declared.Boxed.{Boxed}
use Rattle.plane.specs.Rule.{SpotTo, spot, drops, OnSide}
use Rattle.plane.specs.Profile.{Profile, circle, grid, streets, across, Measure, profile_of, blocks_by, far_by, inside_by, corners_in, side_in, FirstSide}
use Rattle.plane.proofs.Plane.{In}
use Rattle.plane.proofs.MeasureLaws.{Grows, squares, streets_grow, squares_grow, far_clear_by, side_blocks_by, end_clear_by, circle_blocks, circle_inside, circle_far}

-- rule (1): a far box holds no place that blocks; rule (2): on a side whose two corners lie strictly inside every place of the box blocks; an end never does; and where the
-- half-plane filter is used, what drops a place blocks its pair; and the size of two places in reach is in range
pub record Lawful (f : Profile) : Type 0 where
  pub far_clear : (a b : Spot) (o : Boxed) (z : Spot) → f.far a b o ≡ true → In o z → f.blocks a b z ≡ false
  pub side_blocks : (a b : Spot) (o : Boxed) (s : ℕ) → corners_in f a b o s ≡ true → (z : Spot) → In o z → OnSide s o z → f.blocks a b z ≡ true
  pub left_clear : (a b : Spot) → f.blocks a b a ≡ false
  pub right_clear : (a b : Spot) → f.blocks a b b ≡ false
  pub dropped_blocks : f.half ≡ true → (q p z : Spot) → drops q p z ≡ true → f.blocks q z p ≡ true
  pub size_most : (a b : Spot) → SpotTo f.reach a → SpotTo f.reach b → f.size a b ≤ f.most

-- a profile whose tests are those of a measure that grows, and which drops only what is blocked
by_measure : (m : Measure) → Grows m → (f : Profile) → ((a b z : Spot) → blocks_by m a b z ≡ f.blocks a b z) → ((a b z : Spot) → inside_by m a b z ≡ f.inside a b z) → ((a b : Spot) (o : Boxed) → far_by m a b o ≡ f.far a b o) → (f.half ≡ true → (q p z : Spot) → drops q p z ≡ true → f.blocks q z p ≡ true) → ((a b : Spot) → SpotTo f.reach a → SpotTo f.reach b → f.size a b ≤ f.most) → Lawful f
by_measure m g f eb ei ef d s =
    record {
      far_clear = λ a b o z e i. sym (eb a b z) ∙ far_clear_by m g a b o z (ef a b o ∙ e) i;
      side_blocks = λ a b o s e z i on. sym (eb a b z) ∙ side_blocks_by m g a b o s (corners a b o s ∙ e) z i on;
      left_clear = λ a b. sym (eb a b a) ∙ end_clear_by m g a b a (inl refl);
      right_clear = λ a b. sym (eb a b b) ∙ end_clear_by m g a b b (inr refl);
      dropped_blocks = d;
      size_most = s;
    }
  where
    both : (a b c d : Spot) → (inside_by m a b c && inside_by m a b d) ≡ (f.inside a b c && f.inside a b d)
    both a b c d = ap₂ ◌&&◌ (ei a b c) (ei a b d)

    corners : (a b : Spot) (o : Boxed) (s : ℕ) → corners_in (record { blocks = blocks_by m; far = far_by m; inside = inside_by m; size = λ a b. 0; reach = 0; most = 0; half = false }) a b o s ≡ corners_in f a b o s
    corners a b o zero = both a b (spot o.xmin o.ymin) (spot o.xmin o.ymax)
    corners a b o (suc zero) = both a b (spot o.xmin o.ymin) (spot o.xmax o.ymin)
    corners a b o (suc (suc zero)) = both a b (spot o.xmax o.ymin) (spot o.xmax o.ymax)
    corners a b o (suc (suc (suc s))) = both a b (spot o.xmin o.ymax) (spot o.xmax o.ymax)

pub circle_lawful : Lawful circle
unfolding drops
circle_lawful = by_measure squares squares_grow circle circle_blocks circle_inside circle_far (λ h q p z e. e)
    (λ a b h k.
    let x = in-- h.x_in k.x_in in
    let y = in-- h.y_in k.y_in in
    (in_up (in-+ (in-* x x) (in-* y y)) tt).abs)

pub grid_lawful : Lawful grid
grid_lawful = by_measure streets streets_grow grid (λ a b z. refl) (λ a b z. refl) (λ a b o. refl) (λ h q p z e. clash h refl)
    (λ a b h k.
    let d : across streets a b ≤ 4_000_000 = omega (arith, (in-- h.x_in k.x_in).abs, (in-- h.y_in k.y_in).abs) in
    omega (arith, mul-le-mul d d))

pub profile_lawful : (g : Bool) → Lawful (profile_of g)
profile_lawful false = circle_lawful
profile_lawful true = grid_lawful

-- ---- rule (2)

-- places on the four sides of a box
pub record OnSides (o : Boxed) (t : ℕ → Spot) : Type 0 where
  pub within : (q : ℕ) → q < 4 → In o (t q)
  pub left : (t 0).x ≡ o.xmin
  pub bottom : (t 1).y ≡ o.ymin
  pub right : (t 2).x ≡ o.xmax
  pub top : (t 3).y ≡ o.ymax

-- the first of four tests that holds, and 4 where none does
abbrev pub first : Bool → Bool → Bool → Bool → ℕ
first s₀ s₁ s₂ s₃ = cond s₀ 0 (cond s₁ 1 (cond s₂ 2 (cond s₃ 3 4)))

-- the side that rule (2) names is the first that qualifies
pub side_first : (f : Profile) (a b : Spot) (o : Boxed) → side_in f a b o < 4 → FirstSide f a b o (side_in f a b o)
unfolding side_in
side_first f a b o = go (test 0) (test 1) (test 2) (test 3) refl refl refl refl
  where
    test : ℕ → Bool
    test s = corners_in f a b o s

    -- no test before s holds, where none of the first three before s does
    before : (s : ℕ) → s < 4 → (0 < s → test 0 ≡ false) → (1 < s → test 1 ≡ false) → (2 < s → test 2 ≡ false) → (t : ℕ) → t < s → test t ≡ false
    before s h e₀ e₁ e₂ zero l = e₀ l
    before s h e₀ e₁ e₂ (suc zero) l = e₁ l
    before s h e₀ e₁ e₂ (suc (suc zero)) l = e₂ l
    before s h e₀ e₁ e₂ (suc (suc (suc t))) l = absurd (omega arith)

    go : (s₀ s₁ s₂ s₃ : Bool) → test 0 ≡ s₀ → test 1 ≡ s₁ → test 2 ≡ s₂ → test 3 ≡ s₃ → first s₀ s₁ s₂ s₃ < 4 → FirstSide f a b o (first s₀ s₁ s₂ s₃)
    go true s₁ s₂ s₃ e₀ e₁ e₂ e₃ h = record { one_of_four = h; qualifies = e₀; none_before = λ t l. absurd (omega arith) }
    go false true s₂ s₃ e₀ e₁ e₂ e₃ h = record { one_of_four = h; qualifies = e₁; none_before = before 1 h (λ l. e₀) (λ l. absurd (omega arith)) (λ l. absurd (omega arith)) }
    go false false true s₃ e₀ e₁ e₂ e₃ h = record { one_of_four = h; qualifies = e₂; none_before = before 2 h (λ l. e₀) (λ l. e₁) (λ l. absurd (omega arith)) }
    go false false false true e₀ e₁ e₂ e₃ h = record { one_of_four = h; qualifies = e₃; none_before = before 3 h (λ l. e₀) (λ l. e₁) (λ l. e₂) }
    go false false false false e₀ e₁ e₂ e₃ h = absurd (omega arith)

-- each of places that stand on the four sides is on its side
pub on_side : (o : Boxed) (t : ℕ → Spot) → OnSides o t → (s : ℕ) → s < 4 → OnSide s o (t s)
unfolding OnSide
on_side o t on zero h = on.left
on_side o t on (suc zero) h = on.bottom
on_side o t on (suc (suc zero)) h = on.right
on_side o t on (suc (suc (suc zero))) h = on.top
on_side o t on (suc (suc (suc (suc s)))) h = absurd (omega arith)

-- so of places that stand on the four sides the one on the side that rule (2) names blocks
pub side_met : (f : Profile) → Lawful f → (a b : Spot) (o : Boxed) (t : ℕ → Spot) → OnSides o t → side_in f a b o < 4 → f.blocks a b (t (side_in f a b o)) ≡ true
side_met f l a b o t on h = l.side_blocks a b o (side_in f a b o) (side_first f a b o h).qualifies (t (side_in f a b o)) (on.within (side_in f a b o) h) (on_side o t on (side_in f a b o) h)

-- ---- the first side, from the tests of the four corners

pub side_is : (f : Profile) (a b : Spot) (o : Boxed) (ll lh hl hh : Bool) → ll ≡ f.inside a b (spot o.xmin o.ymin) → lh ≡ f.inside a b (spot o.xmin o.ymax) → hl ≡ f.inside a b (spot o.xmax o.ymin) → hh ≡ f.inside a b (spot o.xmax o.ymax) → first (ll && lh) (ll && hl) (hl && hh) (lh && hh) ≡ side_in f a b o
unfolding side_in
side_is f a b o ll lh hl hh e₀ e₁ e₂ e₃ = rw (e₀, e₁, e₂, e₃)
