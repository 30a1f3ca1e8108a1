-- A chamber's candidates, judged one after the other: those that stay are its pairs.
-- Assumes nothing.
use mathlib.Core.Path.{◌≡◌, refl, sym, ap, ap₂, subst, ◌∙◌}
use mathlib.Core.Bool.{Bool, true, false, not, ◌&&◌, ◌||◌}
use mathlib.Core.Logic.{◌⊎◌, ⊎_elim}
use mathlib.Core.List.{List, [], ◌∷◌}
use Prim.Native.Nat.{ℕ, zero, suc, ◌+◌, ◌-◌, ◌*◌, ◌≤◌, ◌<◌}
use native.Mathlib.Omega.{arith}
use native.Mathlib.Decide.{ℕ_discrete}
use lib.Dec.{leb, ltb}
use lib.IntN.{ℤ, pos, negsuc}
use lib.ListN.{length}
use borrow.Author.Tests.{ltb-true, ltb-false, lt-ltb, le-ltb, leb-true}
use Rattle.integers.proofs.Bools.{and_left, and_right, decide, clash, test_iff, failed, passed}
use Rattle.plane.specs.declared.Spot.{Spot}
use Rattle.plane.specs.Rule.{SpotIn, same, same_spot}
use Rattle.plane.specs.Point.{id_at, spot_at}
use Rattle.sheet.specs.Layout.{points}
use Rattle.sheet.specs.Open.{Opens}
use Rattle.sheet.specs.Places.{spot_of, points_of}
use Rattle.sheet.proofs.RangeLaws.{spot_in}
use Rattle.sheet.proofs.PointsLaws.{spot_of_lem}
use Rattle.bits.specs.Set.{kept, without, next_from}
use Rattle.bits.proofs.SetLaws.{without_length, gone_same, gone_other}
use Rattle.bits.proofs.NextLaws.{from_skip}
use Rattle.list.specs.declared.Pair.{Pair}
use Rattle.list.specs.declared.Terms.{Terms}
use Rattle.list.specs.Rows.{row}
use Rattle.list.specs.RingList.{unblocked, ring_pair_by, pair_by}
use Rattle.list.specs.Terms.{profile_for, pair_for}
use Rattle.join.specs.Sheets.{Alone}
use Rattle.seeds.specs.Covers.{Covers}
use Rattle.chamber.specs.Sized.{small_for}
use Rattle.chamber.specs.Chamber.{free_of, Right, PairsOn}

-- ---- places that are one

same_number : (a b : ℤ) → same a b ≡ true → a ≡ b
same_number (pos a) (pos b) e = ap pos (omega (arith, leb-true a b (and_left (leb a b) (leb b a) e), leb-true b a (and_right (leb a b) (leb b a) e)))
same_number (pos a) (negsuc b) e = clash e refl
same_number (negsuc a) (pos b) e = clash e refl
same_number (negsuc a) (negsuc b) e = ap negsuc (omega (arith, leb-true b a (and_left (leb b a) (leb a b) e), leb-true a b (and_right (leb b a) (leb a b) e)))

same_place : (a b : Spot) → same_spot a b ≡ true → a ≡ b
unfolding same_spot
same_place a b e =
    let x = same_number a.x b.x (and_left (same a.x b.x) (same a.y b.y) e) in
    let y = same_number a.y b.y (and_right (same a.x b.x) (same a.y b.y) e) in
    λ i. record { x = x i; y = y i }

-- ---- whether a pair is free

module _ (t : Terms) (P Q : List ℤ) (a b : Spot) (u : Bool) (e : u ≡ unblocked (profile_for t) (points_of Q) a b) where
  pub free_no : not u ≡ true → false ≡ free_of t P Q a b
  unfolding free_of
  free_no h = rw (failed e h)

  pub free_own : not u ≡ false → Alone t P Q → t.own ≡ true → true ≡ free_of t P Q a b
  unfolding free_of
  free_own h al o =
      let q = passed e h in
      let p = ap (λ (w : List ℤ). unblocked (profile_for t) (points_of w) a b) (al.one o) ∙ q in
      rw (q, p)

  pub free_both : not u ≡ false → (v : Bool) → v ≡ unblocked (profile_for t) (points_of P) a b → v ≡ free_of t P Q a b
  unfolding free_of
  free_both h v f = rw (passed e h) f

module _ (t : Terms) (P Q : List ℤ) (a : Spot) where
  pub right_start : (z : Spot) → SpotIn z → Right t P Q a false z false
  right_start z n = record { near = n; is = λ e. clash e refl }

  pub right_new : (b : Spot) → SpotIn b → (c : Bool) → c ≡ free_of t P Q a b → Right t P Q a true b c
  right_new b n c e = record { near = n; is = λ x. e }

  -- the place found last is the one asked for
  pub right_same : (known : Bool) (at : Spot) (c : Bool) → Right t P Q a known at c → (b : Spot) (r : Bool) → r ≡ (known && same_spot at b) → r ≡ true → c ≡ free_of t P Q a b
  right_same known at c r b s e h = let y = sym e ∙ h in r.is (and_left known (same_spot at b) y) ∙ ap (free_of t P Q a) (same_place at b (and_right known (same_spot at b) y))

-- the chamber stands in range
pub chamber_spot_in : (Q : List ℤ) (n m : ℕ) → Opens Q n m → (j : ℕ) → j < n → (a : Spot) → a ≡ spot_at (points_of Q) j → SpotIn a
chamber_spot_in Q n m o j h a e = subst SpotIn (sym (e ∙ spot_of_lem Q j (omega (arith, o.n_is)))) (spot_in o j h)

-- ---- whether a pair is asked for

pub may_is : (t : Terms) (P Q : List ℤ) (j i big : ℕ) (v : Pair) → v ≡ pair_by (profile_for t) (points_of P) (points_of Q) j i
    → ((not t.own || ltb v.q v.p) && leb v.size big) ≡ ((not t.own || ltb (id_at (points_of Q) j) (id_at (points_of P) i)) && leb ((profile_for t).size (spot_at (points_of Q) j) (spot_at (points_of P) i)) big)
may_is t P Q j i big v e = ap (λ (x : Pair). (not t.own || ltb x.q x.p) && leb x.size big) e

module _ (big : ℕ) (t : Terms) (P Q : List ℤ) (j i : ℕ) (m : Bool)
    (e : m ≡ ((not t.own || ltb (id_at (points_of Q) j) (id_at (points_of P) i)) && leb ((profile_for t).size (spot_at (points_of Q) j) (spot_at (points_of P) i)) big)) where
  apart : (x y z : Bool) → ((x && y) && z) ≡ ((x && z) && y)
  apart true y true = and_end y
    where
      and_end : (y : Bool) → (y && true) ≡ y
      and_end true = refl
      and_end false = refl
  apart true true false = refl
  apart true false false = refl
  apart false y z = refl

  -- the rule is what was asked first, and that the pair is a ring pair
  small_is : small_for big t (points_of P) (points_of Q) j i ≡ (m && ring_pair_by (profile_for t) (points_of P) (points_of Q) j i)
  unfolding small_for pair_for
  small_is =
      apart (not t.own || ltb (id_at (points_of Q) j) (id_at (points_of P) i)) (ring_pair_by (profile_for t) (points_of P) (points_of Q) j i) (leb ((profile_for t).size (spot_at (points_of Q) j) (spot_at (points_of P) i)) big)
      ∙ ap (λ (x : Bool). x && ring_pair_by (profile_for t) (points_of P) (points_of Q) j i) (sym e)

  pub small_not : not m ≡ true → false ≡ small_for big t (points_of P) (points_of Q) j i
  small_not h = let z : m ≡ false = failed refl h in sym (small_is ∙ ap (λ (x : Bool). x && ring_pair_by (profile_for t) (points_of P) (points_of Q) j i) z)

  pub small_free : (np mp : ℕ) → Opens P np mp → i < np → not m ≡ false → (a b : Spot) → a ≡ spot_at (points_of Q) j → b ≡ spot_of P i → (c : Bool) → c ≡ free_of t P Q a b → c ≡ small_for big t (points_of P) (points_of Q) j i
  unfolding free_of ring_pair_by
  small_free np mp o l h a b ea eb c f =
      let z : m ≡ true = passed refl h in
      let y : b ≡ spot_at (points_of P) i = eb ∙ sym (spot_of_lem P i (omega (arith, o.n_is))) in
      f ∙ ap₂ (λ (u v : Spot). unblocked (profile_for t) (points_of Q) u v && unblocked (profile_for t) (points_of P) u v) ea y
      ∙ sym (small_is ∙ ap (λ (x : Bool). x && ring_pair_by (profile_for t) (points_of P) (points_of Q) j i) z)

-- a ring partner is among the candidates, and so is what the rule holds of
pub small_covered : (big : ℕ) (t : Terms) (P Q : List ℤ) (j : ℕ) (b : List ℕ) → Covers t.grid P Q j b → (i : ℕ) → i < points P → small_for big t (points_of P) (points_of Q) j i ≡ true → kept b i ≡ true
unfolding small_for pair_for
small_covered big t P Q j b c i h e = c.partner i h (and_right (not t.own || ltb (id_at (points_of Q) j) (id_at (points_of P) i)) (ring_pair_by (profile_for t) (points_of P) (points_of Q) j i) (and_left (pair_for t (points_of P) (points_of Q) j i) (leb ((profile_for t).size (spot_at (points_of Q) j) (spot_at (points_of P) i)) big) e))

-- ---- the loop

-- between a position and the next kept one none is kept
pub between : (ws : List ℕ) (x u : ℕ) → u ≡ next_from ws x → (y : ℕ) → x ≤ y → y < u → kept ws y ≡ true → ⊥
between ws x u e y l h k = clash (lt-ltb y u h) (sym (from_skip ws (ltb y) (λ z f. go z f (ℕ_discrete y z)) x u e) ∙ le-ltb y x l)
  where
    go : (z : ℕ) → kept ws z ≡ false → Dec (y ≡ z) → ltb y z ≡ ltb y (z + 1)
    go z f (yes s) = clash k (ap (kept ws) s ∙ f)
    go z f (no s) = test_iff _ _ (λ t. lt-ltb y (z + 1) (omega (arith, ltb-true y z t))) (λ t. lt-ltb y z (omega (arith, ltb-true y (z + 1) t)))

module _ (rule : ℕ → ℕ → Bool) (pair : ℕ → ℕ → Pair) where
  pub row_yes : (j k i : ℕ) → rule j i ≡ true → row rule pair j (suc k) i ≡ pair j i ∷ row rule pair j k (i + 1)
  unfolding row
  row_yes j k i e = rw e

  pub row_no : (j k i : ℕ) → rule j i ≡ false → row rule pair j (suc k) i ≡ row rule pair j k (i + 1)
  unfolding row
  row_no j k i e = rw e

  pub row_nil : (j i : ℕ) → row rule pair j 0 i ≡ []
  unfolding row
  row_nil j i = refl

  pub row_short : (j k i : ℕ) → length (row rule pair j k i) ≤ k
  row_short j zero i = omega (arith, ap length (row_nil j i))
  row_short j (suc k) i =
      ⊎_elim
      (λ (e : rule j i ≡ true). omega (arith, ap length (row_yes j k i e), row_short j k (i + 1)))
      (λ (e : rule j i ≡ false). omega (arith, ap length (row_no j k i e), row_short j k (i + 1)))
      (decide (rule j i))

  -- what is left of a row from position i on
  abbrev pub rest : ℕ → ℕ → ℕ → List Pair
  rest j n i = row rule pair j (n - i) i

  pub rest_yes : (j n i : ℕ) → i < n → rule j i ≡ true → rest j n i ≡ pair j i ∷ rest j n (i + 1)
  rest_yes j n i h e = let s : n - i ≡ suc (n - (i + 1)) = omega arith in ap (λ (k : ℕ). row rule pair j k i) s ∙ row_yes j (n - (i + 1)) i e

  pub rest_no : (j n i : ℕ) → i < n → rule j i ≡ false → rest j n i ≡ rest j n (i + 1)
  rest_no j n i h e = let s : n - i ≡ suc (n - (i + 1)) = omega arith in ap (λ (k : ℕ). row rule pair j k i) s ∙ row_no j (n - (i + 1)) i e

  pub chamber_rest_end : (j n i : ℕ) → n ≤ i → rest j n i ≡ []
  chamber_rest_end j n i h = let s : n - i ≡ 0 = omega arith in ap (λ (k : ℕ). row rule pair j k i) s ∙ row_nil j i

  -- on to the next kept position nothing of it is passed over
  pub rest_skip : (j n : ℕ) (ws : List ℕ) → ((y : ℕ) → y < n → rule j y ≡ true → kept ws y ≡ true) → (x u : ℕ) → u ≡ next_from ws x → rest j n x ≡ rest j n u
  rest_skip j n ws sure x u e = from_skip ws (rest j n) (λ y f. go y f (decide (ltb y n))) x u e
    where
      go : (y : ℕ) → kept ws y ≡ false → (ltb y n ≡ true) ⊎ (ltb y n ≡ false) → rest j n y ≡ rest j n (y + 1)
      go y f t =
          ⊎_elim
          (λ (a : ltb y n ≡ true). rest_no j n y (ltb-true y n a) (⊎_elim (λ (x : rule j y ≡ true). clash (sure y (ltb-true y n a) x) f) (λ (x : rule j y ≡ false). x) (decide (rule j y))))
          (λ (a : ltb y n ≡ false). let l = ltb-false y n a in chamber_rest_end j n y l ∙ sym (chamber_rest_end j n (y + 1) (omega arith)))
          t

  module _ (j n : ℕ) where
    pub record Keeping (b₀ b : List ℕ) (count i : ℕ) : Type 0 where
      pub long : length b ≡ length b₀
      pub sure : (y : ℕ) → y < n → rule j y ≡ true → kept b y ≡ true
      pub settled : (y : ℕ) → y < i → y < n → kept b y ≡ true → rule j y ≡ true
      pub left : count + length (rest j n i) ≡ length (row rule pair j n 0)

    -- on to the next kept position
    pub keep_next : (b₀ b : List ℕ) (count x u : ℕ) → u ≡ next_from b x → Keeping b₀ b count x → Keeping b₀ b count u
    keep_next b₀ b count x u e s =
        record {
          long = s.long;
          sure = s.sure;
          settled = λ y h l k. ⊎_elim (λ (t : ltb y x ≡ true). s.settled y (ltb-true y x t) l k) (λ (t : ltb y x ≡ false). absurd (between b x u e y (ltb-false y x t) h k)) (decide (ltb y x));
          left = omega (arith, s.left, ap length (rest_skip j n b s.sure x u e));
        }

    pub chamber_keep_start : (b : List ℕ) (u : ℕ) → ((y : ℕ) → y < n → rule j y ≡ true → kept b y ≡ true) → u ≡ next_from b 0 → Keeping b b 0 u
    chamber_keep_start b u sure e =
        let z : n - 0 ≡ n = omega arith in
        keep_next b b 0 0 u e (record { long = refl; sure = sure; settled = λ y h l k. absurd (omega arith); left = omega (arith, ap (λ (k : ℕ). length (row rule pair j k 0)) z) })

    module _ (b₀ b : List ℕ) (count i : ℕ) (s : Keeping b₀ b count i) (h : i < n) where
      -- one turn: the rule holds, and the position stays; or it doesn't, and it is taken out
      pub keep_yes : (b' : List ℕ) (c : ℕ) → rule j i ≡ true → b' ≡ b → c ≡ count + 1 → Keeping b₀ b' c (i + 1)
      keep_yes b' c e f g =
          subst (λ (v : List ℕ). Keeping b₀ v c (i + 1)) (sym f)
          (record {
            long = s.long;
            sure = s.sure;
            settled = λ y l m k. go y l m k (ℕ_discrete y i);
            left = omega (arith, s.left, ap length (rest_yes j n i h e));
          })
        where
          go : (y : ℕ) → y < i + 1 → y < n → kept b y ≡ true → Dec (y ≡ i) → rule j y ≡ true
          go y l m k (yes x) = ap (rule j) x ∙ e
          go y l m k (no x) = s.settled y (omega arith) m k

      pub keep_no : i < 64 * length b → (b' : List ℕ) (c : ℕ) → rule j i ≡ false → b' ≡ without b i → c ≡ count → Keeping b₀ b' c (i + 1)
      keep_no fits b' c e f g =
          subst (λ (v : List ℕ). Keeping b₀ v c (i + 1)) (sym f)
          (record {
            long = without_length b i ∙ s.long;
            sure = λ y l x. sure y l x (ℕ_discrete y i);
            settled = λ y l m k. go y l m k (ℕ_discrete y i);
            left = omega (arith, s.left, ap length (rest_no j n i h e));
          })
        where
          sure : (y : ℕ) → y < n → rule j y ≡ true → Dec (y ≡ i) → kept (without b i) y ≡ true
          sure y l x (yes z) = clash x (ap (rule j) z ∙ e)
          sure y l x (no z) = gone_other b i y fits z ∙ s.sure y l x

          go : (y : ℕ) → y < i + 1 → y < n → kept (without b i) y ≡ true → Dec (y ≡ i) → rule j y ≡ true
          go y l m k (yes z) = clash k (ap (kept (without b i)) z ∙ gone_same b i fits)
          go y l m k (no z) = s.settled y (omega arith) m (sym (gone_other b i y fits z) ∙ k)

    pub chamber_keep_few : (b₀ b : List ℕ) (count i : ℕ) → Keeping b₀ b count i → count ≤ n
    chamber_keep_few b₀ b count i s = omega (arith, s.left, row_short j n 0)

    pub keep_end : (b₀ b : List ℕ) (count i : ℕ) → n ≤ i → Keeping b₀ b count i → PairsOn rule pair j n b count
    keep_end b₀ b count i h s =
        record {
          held = λ y l. test_iff _ _ (s.settled y (omega arith) l) (s.sure y l);
          counted = omega (arith, s.left, ap length (chamber_rest_end j n i h));
        }
