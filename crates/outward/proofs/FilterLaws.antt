-- What the filter that goes nearest first brings about: every position is kept or dropped by another that is kept, no position past the points is kept, and at most m nodes are opened.
-- Assumes nothing.
use mathlib.Core.Path.{◌≡◌, refl, subst, ◌∙◌}
use mathlib.Core.Bool.{Bool, true, false, cond}
use mathlib.Core.Logic.{◌⊎◌, inl, inr, ⊎_elim}
use mathlib.Core.List.{List, [], ◌∷◌}
use Prim.Native.Nat.{ℕ, ◌+◌, ◌-◌, ◌*◌, ◌<◌, ◌≤◌}
use native.Mathlib.Omega.{arith}
use native.Mathlib.Nat.{pos_of_ne-zero}
use lib.Dec.{eqb}
use lib.IntN.{ℤ}
use lib.ListN.{length}
use borrow.Author.Tests.{eqb-true, eqb-false}
use Rattle.integers.proofs.Bools.{clash}
use Rattle.plane.specs.declared.Spot.{Spot}
use Rattle.plane.specs.Rule.{drops}
use Rattle.plane.proofs.RuleLaws.{box_drops}
use Rattle.plane.proofs.Plane.{In}
use Rattle.sheet.specs.Layout.{points, nodes}
use Rattle.sheet.specs.Order.{order_of}
use Rattle.sheet.specs.Nodes.{level_of, first_of, count_of}
use Rattle.sheet.specs.Places.{spot_of, box_of}
use Rattle.sheet.specs.Open.{Opens}
use Rattle.sheet.proofs.PlaceLaws.{in_box_lem}
use Rattle.bits.specs.Set.{kept, with, none}
use Rattle.bits.proofs.SetLaws.{with_length, kept_same, kept_more, kept_only, none_kept, none_length}
use Rattle.bits.proofs.SomeLaws.{some_one}
use Rattle.walk.specs.FilterWalk.{Kept, so_far, dropped, shut, consider}
use Rattle.walk.specs.Claims.{Dropper}
use Rattle.walk.proofs.FilterLaws.{Right, Settled}
use Rattle.outward.specs.Waiting.{box_entry, point_entry, covered, with_covered}
use Rattle.outward.specs.NearWalk.{root_waits, near_kept}
use Rattle.outward.proofs.MassLaws.{at_place}
use Rattle.outward.proofs.ListLaws.{Some, here, some_cases, near_some_none, total, insert_some, run_keeps, run_here}
use Rattle.outward.proofs.EntryLaws.{weigh, Under, itself, below, under_node, under_root}
use Rattle.outward.proofs.NearLaws.{sum_ones, sum_zero, covers_total, root_total, all_keep}

-- a settled position stays so as more is kept
grown : (w : List ℤ) (n : ℕ) (q : Spot) (b b' : List ℕ) → ((i : ℕ) → kept b i ≡ true → kept b' i ≡ true) → (i : ℕ) → Settled w n q b i → Settled w n q b' i
grown w n q b b' more i x =
    ⊎_elim
    (λ (e : kept b i ≡ true). inl (more i e))
    (λ (d : Dropper w n q b i). inr (record { by = d.by; below = d.below; is_kept = more d.by d.is_kept; dropping = d.dropping }))
    x

-- a kept one that drops position i settles it
settle : (w : List ℤ) (n : ℕ) (q : Spot) (b : List ℕ) (i j : ℕ) → j < n → kept b j ≡ true → drops q (spot_of w j) (spot_of w i) ≡ true → Settled w n q b i
settle w n q b i j h e d = inr (record { by = j; below = h; is_kept = e; dropping = d })

-- once position i is looked at, it is settled, and what was kept is kept
pub record Looked (words : ℕ) (w : List ℤ) (n : ℕ) (q : Spot) (i : ℕ) (k k' : Kept) : Type 0 where
  pub right : Right words n k'
  pub more : (x : ℕ) → kept k.bits x ≡ true → kept k'.bits x ≡ true
  pub settled : Settled w n q k'.bits i

looked : (words : ℕ) (w : List ℤ) (n : ℕ) (q : Spot) (i : ℕ) → n ≤ 64 * words → i < n → (k : Kept) → Right words n k → Looked words w n q i k (so_far (consider w n q i k.bits) k.opened)
unfolding consider dropped
looked words w n q i enough h k g = go (dropped w n q i b) refl
  where
    b : List ℕ
    b = k.bits

    fits : i < 64 * length b
    fits = omega (arith, g.long)

    go : (t : Bool) → dropped w n q i b ≡ t → Looked words w n q i k (so_far (cond t b (with b i)) k.opened)
    go true e =
        record {
          right = record { long = g.long; low = g.low };
          more = λ x y. y;
          settled = let x = some_one b _ n 0 e in settle w n q b i x.0 (omega (arith, x.2)) x.3 x.4;
        }
    go false e =
        record {
          right = record { long = with_length b i ∙ g.long; low = λ j x. ⊎_elim (λ (z : j ≡ i). omega arith) (λ (z : kept b j ≡ true). g.low j z) (kept_only b i j fits x) };
          more = λ x y. kept_more b i x fits y;
          settled = inl (kept_same b i fits);
        }

-- with l waiting, k is a right kept set: each position is settled, or below something that waits
pub record Sifted (words : ℕ) (w : List ℤ) (n m : ℕ) (q : Spot) (l : List ℕ) (k : Kept) : Type 0 where
  pub right : Right words n k
  pub met : (i : ℕ) → i < n → Settled w n q k.bits i ⊎ Some (λ e. Under w n m e i) l
  pub counted : k.opened + total (weigh w n m (λ i. 0) (λ j. 1)) l ≤ m

module _ (words : ℕ) (w : List ℤ) (n m : ℕ) (q : Spot) (enough : n ≤ 64 * words) (o : Opens w n m) where
  skip_sifted : (j : ℕ) → j < m → (l : List ℕ) (k : Kept) → shut w n q j k.bits ≡ true → Sifted words w n m q (box_entry j ∷ l) k → Sifted words w n m q l k
  unfolding shut total
  skip_sifted j h l k t x =
      record {
        right = x.right;
        met = λ i b.
            ⊎_elim
            (λ (s : Settled w n q k.bits i). inl s)
            (λ (u : Some (λ e. Under w n m e i) (box_entry j ∷ l)). ⊎_elim (λ (y : Under w n m (box_entry j) i). inl (found i y)) (λ (y : Some (λ e. Under w n m e i) l). inr y) (some_cases u))
            (x.met i b);
        counted = omega (arith, x.counted);
      }
    where
      found : (i : ℕ) → Under w n m (box_entry j) i → Settled w n q k.bits i
      found i (itself z) = absurd (omega arith)
      found i (below j' h' z r b p) =
          let s = some_one k.bits _ n 0 t in
          let same : j' ≡ j = omega arith in
          let here : In (box_of w n j) (spot_of w (order_of w n r)) = subst (λ (v : ℕ). In (box_of w n v) (spot_of w (order_of w n r))) same (in_box_lem w n m o.table o.tight (level_of w n j') j' h' refl r b) in
          subst (Settled w n q k.bits) p
          (settle w n q k.bits (order_of w n r) s.0 (omega (arith, s.2)) s.3 (box_drops q (spot_of w s.0) (box_of w n j) (spot_of w (order_of w n r)) s.4 here))

  open_sifted : (j : ℕ) → j < m → (l : List ℕ) (k : Kept) → Sifted words w n m q (box_entry j ∷ l) k → Sifted words w n m q (with_covered w n m q j l) (so_far k.bits (k.opened + 1))
  unfolding with_covered
  open_sifted j h l k x =
      record {
        right = record { long = x.right.long; low = x.right.low };
        met = λ i b.
            ⊎_elim
            (λ (s : Settled w n q k.bits i). inl s)
            (λ (u : Some (λ e. Under w n m e i) (box_entry j ∷ l)).
            inr
            (⊎_elim
            (λ (y : Under w n m (box_entry j) i).
            let v = under_node w n m o j h i y in
            run_here w n m q (covered w n m j) {P = λ e. Under w n m e i} (count_of w n j) (first_of w n j) v.0 v.1.low v.1.high v.2 l)
            (λ (y : Some (λ e. Under w n m e i) l). run_keeps w n m q (covered w n m j) (Some (λ e. Under w n m e i)) (count_of w n j) (first_of w n j) (λ r a c l' s. insert_some w n m q (covered w n m j r) l' s) l y)
            (some_cases u)))
            (x.met i b);
        counted = omega (arith, x.counted, covers_total w n m o q j h (λ i. 0) (λ i. 1) l);
      }

  meet_sifted : (i : ℕ) → i < n → (l : List ℕ) (k : Kept) → Sifted words w n m q (point_entry m i ∷ l) k → Sifted words w n m q l (so_far (consider w n q i k.bits) k.opened)
  unfolding total
  meet_sifted i h l k x =
      record {
        right = y.right;
        met = λ a b.
            ⊎_elim
            (λ (s : Settled w n q k.bits a). inl (grown w n q k.bits _ y.more a s))
            (λ (u : Some (λ e. Under w n m e a) (point_entry m i ∷ l)). ⊎_elim (λ (v : Under w n m (point_entry m i) a). inl (itself_only a v)) (λ (v : Some (λ e. Under w n m e a) l). inr v) (some_cases u))
            (x.met a b);
        counted = omega (arith, x.counted);
      }
    where
      y : Looked words w n q i k (so_far (consider w n q i k.bits) k.opened)
      y = looked words w n q i enough h k x.right

      itself_only : (a : ℕ) → Under w n m (point_entry m i) a → Settled w n q (consider w n q i k.bits) a
      itself_only a (itself z) = let e : i ≡ a = omega arith in subst (Settled w n q (consider w n q i k.bits)) e y.settled
      itself_only a (below j b z r u p) = absurd (omega arith)

  root_sifted : Sifted words w n m q (root_waits m) (so_far (none words) 0)
  unfolding root_waits at_place
  root_sifted =
      record {
        right = record { long = none_length words; low = λ i e. clash e (none_kept words i) };
        met = λ i b. inr (go (eqb m 0) refl i b);
        counted = omega (arith, root_total w n m o (λ i. 0) (λ j. 1), sum_ones (λ j. 1) (λ k. refl) m, sum_zero n);
      }
    where
      go : (t : Bool) → eqb m 0 ≡ t → (i : ℕ) → i < n → Some (λ e. Under w n m e i) (cond t [] (box_entry (m - 1) ∷ []))
      go true z i b = absurd (omega (arith, o.empty (eqb-true m 0 z)))
      go false z i b = here (under_root w n m o (pos_of_ne-zero (eqb-false m 0 z)) i b)

-- ---- the sheet

module _ (words : ℕ) (w : List ℤ) (q : Spot) (o : Opens w (points w) (nodes w)) (enough : points w ≤ 64 * words) where
  whole : Sifted words w (points w) (nodes w) q [] (near_kept words w q)
  unfolding near_kept
  whole =
      all_keep w (points w) (nodes w) q _ _ _ o (Sifted words w (points w) (nodes w) q)
      (λ j h l k a t x. skip_sifted words w (points w) (nodes w) q enough o j h l k t x)
      (λ j h l k a t x. open_sifted words w (points w) (nodes w) q enough o j h l k x)
      (λ i h l k a x. meet_sifted words w (points w) (nodes w) q enough o i h l k x)
      (so_far (none words) 0) (root_sifted words w (points w) (nodes w) q enough o)

  -- the words are as many as were lent
  pub near_long : length (near_kept words w q).bits ≡ words
  near_long = whole.right.long

  -- every kept position is below n
  pub near_below : (i : ℕ) → kept (near_kept words w q).bits i ≡ true → i < points w
  near_below = whole.right.low

  -- every position below n is kept, or another that is kept drops it
  pub near_settled : (i : ℕ) → i < points w → Settled w (points w) q (near_kept words w q).bits i
  near_settled i h =
      ⊎_elim (λ (s : Settled w (points w) q (near_kept words w q).bits i). s) (λ (u : Some (λ e. Under w (points w) (nodes w) e i) []). absurd (near_some_none u refl)) (whole.met i h)

  -- at most m nodes are opened
  pub near_walk_opened : (near_kept words w q).opened ≤ nodes w
  near_walk_opened = omega (arith, whole.counted)
