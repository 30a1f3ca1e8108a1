-- Laws of boxes: the test from the table, a node's box against those of the nodes that it covers, is the document's, against the points below it.
-- Assumes nothing.
use mathlib.Core.Path.{◌≡◌, refl, sym, ap, ◌∙◌}
use mathlib.Core.Bool.{Bool, true, false, ◌&&◌}
use mathlib.Core.Logic.{⊎_elim}
use mathlib.Core.List.{List}
use Prim.Native.Nat.{ℕ, zero, suc, ◌+◌, ◌*◌, ◌-◌, ◌<◌, ◌≤◌}
use native.Mathlib.Numerals.{add-one}
use native.Mathlib.Omega.{arith}
use lib.Dec.{eqb}
use lib.IntN.{ℤ, pos}
use lib.ListN.{length}
use lib.Signed.{mag}
use mir.Syntax.{w32}
use mir.Val.{to_z, of_z}
use borrow.Author.Tests.{eq-eqb, ne_eqb, eqb-true, eqb-false}
use Rattle.words.specs.Word.{at, eq_z}
use Rattle.words.specs.All.{all_b}
use Rattle.integers.proofs.Bools.{decide, test_iff}
use Rattle.words.proofs.Signs.{eq_z_eq, eq_eq_z, handed}
use Rattle.words.proofs.AllLaws.{all_at, all_make}
use Rattle.sheet.specs.declared.Sides.{Sides}
use Rattle.sheet.specs.Order.{order_of, order_ok}
use Rattle.sheet.specs.Nodes.{level_word, level_of, first_of, count_of, table_ok}
use Rattle.sheet.specs.Boxes.{side_of, coord_of, better, best, part_of, tight_side, tight_ok, side_ok, part_sides, around, best_sides, sides_are, Readable, box_ok, boxes_ok}
use Rattle.sheet.proofs.TreeLaws.{run_at, child, leaf}

best_more : (q : ℕ) (v : ℕ → ℤ) (a i : ℕ) → better q (best q v a i) (v (a + (i + 1))) ≡ best q v a (i + 1)
unfolding best
best_more q v a i = rw add-one

-- one part more, all four sides
pub around_more : (w : List ℤ) (n : ℕ) (leaf : Bool) (a i : ℕ) {o p r : Sides} → r ≡ around o p → o ≡ best_sides w n leaf a i → p ≡ part_sides w n leaf (a + (i + 1)) → r ≡ best_sides w n leaf a (i + 1)
unfolding around best_sides part_sides
around_more w n leaf a i e f g =
    e ∙ rw (f, g)
    (λ x. record { xmin = best_more 0 (part_of w n leaf 0) a i x; ymin = best_more 1 (part_of w n leaf 1) a i x; xmax = best_more 2 (part_of w n leaf 2) a i x; ymax = best_more 3 (part_of w n leaf 3) a i x })

-- the first alone
pub around_one : (w : List ℤ) (n : ℕ) (leaf : Bool) (a : ℕ) → part_sides w n leaf a ≡ best_sides w n leaf a 0
unfolding part_sides best_sides best
around_one w n leaf a = refl

-- what can be read up to a part can be read before it
pub readable_fewer : (w : List ℤ) (n : ℕ) (leaf : Bool) (i k : ℕ) → i ≤ k → Readable w n leaf k → Readable w n leaf i
readable_fewer w n leaf i k h r =
    record { place = λ e. let x = r.place e in (x.0, x.1, omega arith); node = λ e. let x = r.node e in (omega arith, omega arith) }

pub readable_few : (w : List ℤ) (n : ℕ) (leaf : Bool) (k : ℕ) → n ≤ 60000 → Readable w n leaf k → k < 60000
readable_few w n leaf k h r = ⊎_elim (λ e. let x = r.place e in omega arith) (λ e. let x = r.node e in omega arith) (decide leaf)

-- the sides of a leaf's part, from the two words at h, and of any other's, from the four
pub place_sides : (w : List ℤ) (n k h : ℕ) {x y : ℤ} → h ≡ 3 * order_of w n k + 1 → x ≡ at w h → y ≡ at w (h + 1) → record { xmin = x; ymin = y; xmax = x; ymax = y } ≡ part_sides w n true k
unfolding part_sides part_of coord_of
place_sides w n k h e f g =
    let x : h ≡ 3 * order_of w n k + 1 + 0 = omega arith in
    let y : h + 1 ≡ 3 * order_of w n k + 1 + 1 = omega arith in
    rw (f, g, y, x)

pub node_sides : (w : List ℤ) (n k h : ℕ) {x y u v : ℤ} → h ≡ 5 * n + 7 * k + 3 → x ≡ at w (h + 0) → y ≡ at w (h + 1) → u ≡ at w (h + 2) → v ≡ at w (h + 3) → record { xmin = x; ymin = y; xmax = u; ymax = v } ≡ part_sides w n false k
unfolding part_sides part_of side_of
node_sides w n k h e f₀ f₁ f₂ f₃ = rw (f₀, f₁, f₂, f₃, e)

-- a side, as it is read from the struct
pub back : (z : ℤ) → mag z < 2147483648 → to_z w32 (of_z w32 z) ≡ z
back z f = handed f refl

-- node j has the sides o, side by side
pub sides_same : (w : List ℤ) (n j : ℕ) (o p : Sides) {a b c d : Bool} → p ≡ part_sides w n false j → a ≡ eq_z p.xmin o.xmin → b ≡ eq_z p.ymin o.ymin → c ≡ eq_z p.xmax o.xmax → d ≡ eq_z p.ymax o.ymax → (a && b && c && d) ≡ sides_are w n j o
unfolding sides_are part_sides part_of
sides_same w n j o p e f₀ f₁ f₂ f₃ = rw (f₀, f₁, f₂, f₃, e)

-- the four sides found in one pass are the four tests
pub box_is : (w : List ℤ) (n j : ℕ) (leaf : Bool) (a c : ℕ) {o : Sides} {r : Bool} → r ≡ sides_are w n j o → o ≡ best_sides w n leaf a c → leaf ≡ eq_z (level_word w n j) (pos 0) → a ≡ first_of w n j → c ≡ count_of w n j - 1 → r ≡ box_ok w n j
unfolding best_sides sides_are box_ok side_ok all_b
box_is w n j leaf a c s t e f g = s ∙ rw (t, e, f, g)

-- equal parts have an equal best
pub best_cong : (q : ℕ) (u v : ℕ → ℤ) (a c : ℕ) → ((k : ℕ) → a ≤ k → k ≤ a + c → u k ≡ v k) → best q u a c ≡ best q v a c
unfolding best
best_cong q u v a zero f = f a (omega arith) (omega arith)
best_cong q u v a (suc c) f =
    let x = best_cong q u v a c (λ k g h. f k g (omega arith)) in
    let y = f (a + suc c) (omega arith) (omega arith) in
    rw (x, y)

-- each side is the best of its parts, and each is the tightest
Best : List ℤ → ℕ → ℕ → Type 0
Best w n m = (j q : ℕ) → j < m → q < 4 → side_of w n q j ≡ best q (part_of w n (eq_z (level_word w n j) (pos 0)) q) (first_of w n j) (count_of w n j - 1)

abbrev pub Tight : List ℤ → ℕ → ℕ → Type 0
Tight w n m = (j q : ℕ) → j < m → q < 4 → side_of w n q j ≡ tight_side w n q (level_of w n j) j

module _ (w : List ℤ) (n m : ℕ) (ok : table_ok w n m ≡ true) where
  -- the test for a leaf
  leaf_test : (j : ℕ) → j < m → eq_z (level_word w n j) (pos 0) ≡ eqb (level_of w n j) 0
  unfolding eq_z
  leaf_test j h = let r = run_at w n m ok j h in rw (r.word, r.level)

  -- the last place that a leaf covers is below n, and the last node that another covers stands before it
  leaf_run : (j a c : ℕ) → j < m → eq_z (level_word w n j) (pos 0) ≡ true → a ≡ first_of w n j → c ≡ count_of w n j - 1 → a + c < n
  leaf_run j a c h e f g =
      let r = run_at w n m ok j h in
      leaf w n m ok j h (eqb-true (level_of w n j) 0 (sym (leaf_test j h) ∙ e)) (a + c) (omega (arith, r.some))

  inner_run : (j a c : ℕ) → j < m → eq_z (level_word w n j) (pos 0) ≡ false → a ≡ first_of w n j → c ≡ count_of w n j - 1 → a + c < j
  inner_run j a c h e f g =
      let r = run_at w n m ok j h in
      (child w n m ok j (level_of w n j - 1) h (up (level_of w n j) (eqb-false (level_of w n j) 0 (sym (leaf_test j h) ∙ e))) (a + c) (omega arith) (omega (arith, r.some))).1
    where
      up : (l : ℕ) → (l ≡ 0 → ⊥) → l ≡ suc (l - 1)
      up zero z = absurd (z refl)
      up (suc l) z = omega arith

  -- so what a node covers can be read
  pub parts_run : n ≤ 60000 → m ≤ 24000 → length w ≡ 5 * n + 7 * m + 6 → order_ok w n ≡ true → (j a c : ℕ) (leaf : Bool) → j < m → leaf ≡ eq_z (level_word w n j) (pos 0) → a ≡ first_of w n j → c ≡ count_of w n j - 1 → Readable w n leaf (a + c)
  parts_run x y z o j a c leaf h e f g =
      record {
        place = λ t. (omega arith, o, leaf_run j a c h (sym e ∙ t) f g);
        node = λ t. let b = inner_run j a c h (sym e ∙ t) f g in (omega arith, omega arith);
      }

  -- the best of a leaf's parts is that of its points, and of another node's that of the boxes that it covers
  best_leaf : (j q : ℕ) → j < m → level_of w n j ≡ 0 → (a c : ℕ) → best q (part_of w n (eq_z (level_word w n j) (pos 0)) q) a c ≡ best q (coord_of w n q) a c
  unfolding part_of
  best_leaf j q h e a c = best_cong q _ _ a c (λ k f g. rw (leaf_test j h ∙ eq-eqb (level_of w n j) 0 e))

  best_up : (j q l : ℕ) → j < m → level_of w n j ≡ suc l → (a c : ℕ) → best q (part_of w n (eq_z (level_word w n j) (pos 0)) q) a c ≡ best q (side_of w n q) a c
  unfolding part_of
  best_up j q l h e a c = best_cong q _ _ a c (λ k f g. rw (leaf_test j h ∙ ne_eqb (level_of w n j) 0 (λ z. omega arith)))

  -- where the nodes below have their tightest boxes, a node's best is its tightest box
  best_tight : (q l j : ℕ) → j < m → level_of w n j ≡ l → ((k : ℕ) → k < j → suc (level_of w n k) ≡ l → side_of w n q k ≡ tight_side w n q (level_of w n k) k) → best q (part_of w n (eq_z (level_word w n j) (pos 0)) q) (first_of w n j) (count_of w n j - 1) ≡ tight_side w n q l j
  unfolding tight_side
  best_tight q zero j h e f = best_leaf j q h e _ _
  best_tight q (suc l) j h e f =
      best_up j q l h e _ _
      ∙ best_cong q _ _ (first_of w n j) (count_of w n j - 1)
      (λ k a b.
      let r = run_at w n m ok j h in
      let x = child w n m ok j l h e k a (omega (arith, r.some)) in
      f k x.1 (omega (arith, x.0)) ∙ ap (λ (i : ℕ). tight_side w n q i k) x.0)

  tight_best : Tight w n m → Best w n m
  unfolding Best
  tight_best t j q h g = t j q h g ∙ sym (best_tight q (level_of w n j) j h refl (λ k b e. t k q (omega arith) g))

  best_tight_at : Best w n m → (l j q : ℕ) → j < m → q < 4 → level_of w n j ≡ l → side_of w n q j ≡ tight_side w n q l j
  unfolding Best
  best_tight_at b zero j q h g e = b j q h g ∙ best_tight q zero j h e (λ k x z. absurd (omega arith))
  best_tight_at b (suc l) j q h g e =
      b j q h g
      ∙ best_tight q (suc l) j h e
      (λ k x z.
      let y : level_of w n k ≡ l = omega arith in
      best_tight_at b l k q (omega arith) g y ∙ ap (λ (i : ℕ). tight_side w n q i k) (sym y))

  best_all : boxes_ok w n m ≡ true → Best w n m
  unfolding boxes_ok box_ok side_ok Best
  best_all e j q h g = eq_z_eq _ _ (all_at (side_ok w n j) 4 (all_at (box_ok w n) m e j h) q g)

  all_best : Best w n m → boxes_ok w n m ≡ true
  unfolding boxes_ok box_ok side_ok Best
  all_best b = all_make (box_ok w n) m (λ j h. all_make (side_ok w n j) 4 (λ q g. eq_eq_z _ _ (b j q h g)))

  pub tight_all : tight_ok w n m ≡ true → Tight w n m
  unfolding tight_ok
  tight_all e j q h g = eq_z_eq _ _ (all_at _ 4 (all_at _ m e j h) q g)

  all_tight : Tight w n m → tight_ok w n m ≡ true
  unfolding tight_ok
  all_tight t = all_make _ m (λ j h. all_make _ 4 (λ q g. eq_eq_z _ _ (t j q h g)))

  -- the two tests are one
  pub boxes_tight : boxes_ok w n m ≡ tight_ok w n m
  boxes_tight =
      test_iff _ _
      (λ e. all_tight (λ j q h g. best_tight_at (best_all e) (level_of w n j) j q h g refl))
      (λ e. all_best (tight_best (tight_all e)))
