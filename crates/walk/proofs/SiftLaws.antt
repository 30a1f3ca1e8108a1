-- Kept bits that are ring-walked one after the other: those whose walk is not clear are taken out, the others counted.
-- What walk a bit stands for is any function of the bit.
-- Assumes nothing.
use mathlib.Core.Path.{◌≡◌, refl, sym, ap, ◌∙◌}
use mathlib.Core.Bool.{Bool, true, false, cond, ◌&&◌}
use mathlib.Core.Logic.{⊎_elim}
use mathlib.Core.List.{List}
use Prim.Native.Nat.{ℕ, zero, suc, ◌+◌, ◌*◌, ◌<◌, ◌≤◌}
use native.Mathlib.Omega.{arith}
use native.Mathlib.Nat.{le_refl, eq-or-lt_of_le}
use lib.Dec.{ltb}
use lib.ListN.{length}
use borrow.Author.Tests.{ltb-true, ltb-false, lt-ltb, le-ltb}
use Rattle.integers.proofs.Bools.{decide, clash, test_iff}
use Rattle.bits.specs.Set.{kept, without, next_from}
use Rattle.bits.proofs.SetLaws.{without_length, gone_same, gone_other}
use Rattle.bits.proofs.NextLaws.{from_le, from_kept, from_skip}
use Rattle.sheet.specs.Boxes.{sum_over}
use Rattle.sheet.proofs.SizeLaws.{sum_join}
use Rattle.walk.specs.declared.Answer.{Answer}
use Rattle.walk.specs.RingWalk.{clear}

-- 1 where a test holds: what it adds to a count
abbrev pub one_if : Bool → ℕ
one_if t = cond t 1 0

-- ---- sums

pub sum_next : (f : ℕ → ℕ) (x : ℕ) → sum_over f 0 (x + 1) ≡ sum_over f 0 x + f x
unfolding sum_over
sum_next f x =
    let z : 0 + x + 0 ≡ x = omega arith in
    sum_join f 0 x 1 ∙ omega (arith, ap f z)

pub sum_same : (f g : ℕ → ℕ) (a c : ℕ) → ((x : ℕ) → x < c → f (a + x) ≡ g (a + x)) → sum_over f a c ≡ sum_over g a c
unfolding sum_over
sum_same f g a zero h = refl
sum_same f g a (suc c) h = omega (arith, sum_same f g a c (λ x l. h x (omega arith)), h c (omega arith))

-- what is 0 from n on adds nothing past n
pub sum_past : (f : ℕ → ℕ) (n u : ℕ) → n ≤ u → ((x : ℕ) → n ≤ x → x < u → f x ≡ 0) → sum_over f 0 u ≡ sum_over f 0 n
unfolding sum_over
sum_past f n zero l h = let z : n ≡ 0 = omega arith in rw z
sum_past f n (suc u) l h =
    ⊎_elim
    (λ (e : n ≡ suc u). ap (sum_over f 0) (sym e))
    (λ (k : n < suc u). let z : 0 + u ≡ u = omega arith in omega (arith, sum_past f n u (omega arith) (λ x a b. h x a (omega arith)), ap f z, h u (omega arith) (omega arith)))
    (eq-or-lt_of_le l)

pub sum_cap : (f : ℕ → ℕ) (b c : ℕ) → ((x : ℕ) → f x ≤ b) → sum_over f 0 c ≤ c * b
unfolding sum_over
sum_cap f b zero h = omega arith
sum_cap f b (suc c) h = let e : c * b + b ≡ suc c * b = omega arith in omega (arith, sum_cap f b c h, h (0 + c))

-- no bit is kept before the next one that is
from_between : (ws : List ℕ) (i j : ℕ) → j ≡ next_from ws i → (x : ℕ) → i ≤ x → x < j → kept ws x ≡ false
from_between ws i j e x a b =
    ⊎_elim
    (λ (t : kept ws x ≡ true).
    clash (lt-ltb x j b)
    (sym (from_skip ws (ltb x)
    (λ y f.
    test_iff _ _
    (λ s. lt-ltb x (y + 1) (omega (arith, ltb-true x y s)))
    (λ s.
    ⊎_elim
    (λ (z : x ≡ y). clash t (ap (kept ws) z ∙ f))
    (λ (z : x < y). lt-ltb x y z)
    (eq-or-lt_of_le {n = x} {m = y} (omega (arith, ltb-true x (y + 1) s)))))
    i j e)
    ∙ le-ltb x i a))
    (λ (t : kept ws x ≡ false). t)
    (decide (kept ws x))

-- ---- the loop over the kept bits

module _ (walkAt : ℕ → Answer) (b₀ : List ℕ) where
  -- a bit of those kept at first stays if its ring walk is clear
  unfoldable pub stays : ℕ → Bool
  stays x = kept b₀ x && clear (walkAt x).hit

  -- the nodes that this opens
  unfoldable pub spends : ℕ → ℕ
  spends x = cond (kept b₀ x) (walkAt x).opened 0

  pub stays_not : (x : ℕ) → kept b₀ x ≡ false → stays x ≡ false
  unfolding stays
  stays_not x e = rw e

  pub spends_not : (x : ℕ) → kept b₀ x ≡ false → spends x ≡ 0
  unfolding spends
  spends_not x e = rw e

  -- the bits before x are settled, with so many pairs found and so many nodes opened, o of them by the filter walk
  pub record Sifted (o : ℕ) (b : List ℕ) (count opened x : ℕ) : Type 0 where
    pub long : length b ≡ length b₀
    pub below : (y : ℕ) → y < x → kept b y ≡ stays y
    pub above : (y : ℕ) → x ≤ y → kept b y ≡ kept b₀ y
    pub counted : count ≡ sum_over (λ y. one_if (stays y)) 0 x
    pub spent : opened ≡ o + sum_over spends 0 x

  -- the same, and x is the next kept bit
  pub record Sifts (o : ℕ) (b : List ℕ) (count opened x : ℕ) : Type 0 where
    pub sifted : Sifted o b count opened x
    pub here : x < 64 * length b₀ → kept b₀ x ≡ true

  -- on to the next kept bit
  pub sift_next : (o : ℕ) (b : List ℕ) (count opened x u : ℕ) → u ≡ next_from b x → Sifted o b count opened x → Sifts o b count opened u
  sift_next o b count opened x u e s =
      record {
        sifted =
            record {
              long = s.long;
              below = λ y l.
                  ⊎_elim
                  (λ (t : ltb y x ≡ true). s.below y (ltb-true y x t))
                  (λ (t : ltb y x ≡ false). from_between b x u e y (ltb-false y x t) l ∙ sym (stays_not y (quiet y (ltb-false y x t) l)))
                  (decide (ltb y x));
              above = λ y l. s.above y (omega (arith, from_le b x u e));
              counted = s.counted ∙ sym (sum_past _ x u (from_le b x u e) (λ y h l. ap one_if (stays_not y (quiet y h l))));
              spent = s.spent ∙ ap (λ (a : ℕ). o + a) (sym (sum_past _ x u (from_le b x u e) (λ y h l. spends_not y (quiet y h l))));
            };
        here = λ l. sym (s.above u (from_le b x u e)) ∙ from_kept b x u e (omega (arith, s.long));
      }
    where
      quiet : (y : ℕ) → x ≤ y → y < u → kept b₀ y ≡ false
      quiet y h l = sym (s.above y h) ∙ from_between b x u e y h l

  pub walk_sift_start : (o : ℕ) (b : List ℕ) (opened u : ℕ) → b ≡ b₀ → opened ≡ o → u ≡ next_from b 0 → Sifts o b 0 opened u
  unfolding sum_over
  walk_sift_start o b opened u e f g = sift_next o b 0 opened 0 u g (record { long = ap length e; below = λ y l. absurd (omega arith); above = λ y l. ap (λ (ws : List ℕ). kept ws y) e; counted = refl; spent = omega arith })

  -- one turn
  module _ (o : ℕ) (b : List ℕ) (count opened x : ℕ) (s : Sifts o b count opened x) (l : x < 64 * length b₀) (a : Answer) (e : a ≡ walkAt x) (t : Bool) (g : t ≡ clear a.hit) where
    stays_is : stays x ≡ t
    unfolding stays
    stays_is = rw (s.here l) (sym (g ∙ ap (λ (y : Answer). clear y.hit) e))

    spends_is : spends x ≡ a.opened
    unfolding spends
    spends_is = rw (s.here l) (sym (ap (λ (y : Answer). y.opened) e))

    more_spent : opened + a.opened ≡ o + sum_over spends 0 (x + 1)
    more_spent = omega (arith, s.sifted.spent, sum_next spends x, spends_is)

    -- the ring walk is clear: the bit stays, and counts
    pub sift_clear : t ≡ true → Sifted o b (count + 1) (opened + a.opened) (x + 1)
    sift_clear y =
        record {
          long = s.sifted.long;
          below = λ z h.
              ⊎_elim
              (λ (q : z ≡ x). ap (kept b) q ∙ s.sifted.above x (le_refl x) ∙ s.here l ∙ sym (ap stays q ∙ stays_is ∙ y))
              (λ (q : z < x). s.sifted.below z q)
              (eq-or-lt_of_le {n = z} {m = x} (omega arith));
          above = λ z h. s.sifted.above z (omega arith);
          counted = omega (arith, s.sifted.counted, sum_next (λ y. one_if (stays y)) x, ap one_if (stays_is ∙ y));
          spent = more_spent;
        }

    -- it is not: the bit is taken out
    pub sift_gone : t ≡ false → Sifted o (without b x) count (opened + a.opened) (x + 1)
    sift_gone n =
        let fits : x < 64 * length b = omega (arith, s.sifted.long) in
        record {
          long = without_length b x ∙ s.sifted.long;
          below = λ z h.
              ⊎_elim
              (λ (q : z ≡ x). ap (kept (without b x)) q ∙ gone_same b x fits ∙ sym (ap stays q ∙ stays_is ∙ n))
              (λ (q : z < x). gone_other b x z fits (λ w. omega arith) ∙ s.sifted.below z q)
              (eq-or-lt_of_le {n = z} {m = x} (omega arith));
          above = λ z h. gone_other b x z fits (λ w. omega arith) ∙ s.sifted.above z (omega arith);
          counted = omega (arith, s.sifted.counted, sum_next (λ y. one_if (stays y)) x, ap one_if (stays_is ∙ n));
          spent = more_spent;
        }

  -- room for the counts
  pub sift_few : (o : ℕ) (b : List ℕ) (count opened x : ℕ) → Sifts o b count opened x → count ≤ x
  sift_few o b count opened x s = omega (arith, s.sifted.counted, sum_cap (λ y. one_if (stays y)) 1 x (λ y. one (stays y)))
    where
      one : (t : Bool) → one_if t ≤ 1
      one true = omega arith
      one false = omega arith

  pub sift_room : (o : ℕ) (b : List ℕ) (count opened x : ℕ) → Sifts o b count opened x → (m : ℕ) → ((y : ℕ) → (walkAt y).opened ≤ m) → opened ≤ o + x * m
  unfolding spends
  sift_room o b count opened x s m h = omega (arith, s.sifted.spent, sum_cap spends m x (λ y. few y (kept b₀ y)))
    where
      few : (y : ℕ) (t : Bool) → cond t (walkAt y).opened 0 ≤ m
      few y true = h y
      few y false = omega arith
