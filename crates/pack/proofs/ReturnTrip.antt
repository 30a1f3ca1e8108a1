-- The return trip: what the packer writes is opened, and has the same points. For any limits that leave room for the tree.
-- Assumes nothing.
use mathlib.Core.Path.{◌≡◌, refl, sym, ap, subst, ◌∙◌}
use mathlib.Core.Bool.{Bool, true, false, cond, beq}
use mathlib.Core.Logic.{⊎_elim}
use mathlib.Core.List.{List}
use Prim.Native.Nat.{ℕ, zero, suc, ◌+◌, ◌*◌, ◌-◌, ◌<◌, ◌≤◌}
use native.Mathlib.Omega.{arith}
use lib.Dec.{eqb}
use lib.IntN.{ℤ, pos}
use lib.ListN.{length}
use borrow.Author.Tests.{le-ltb, le-leb, eq-eqb, ne_eqb, eqb-true, eqb-false}
use Rattle.integers.proofs.Bools.{and_both, decide}
use Rattle.words.specs.Word.{at, eq_z, within}
use Rattle.words.specs.Range.{edition_ok, edition_word}
use Rattle.words.specs.All.{tab}
use Rattle.words.proofs.Signs.{eq_eq_z}
use Rattle.words.proofs.AllLaws.{all_at, all_make}
use Rattle.words.proofs.TabLaws.{tab_same}
use Rattle.words.proofs.RangeLaws.{edition_pos}
use Rattle.sheet.specs.declared.Limits.{Limits}
use Rattle.sheet.specs.Limits.{form1, form2, limits_of}
use Rattle.words.specs.First.{given, first}
use Rattle.sheet.specs.Layout.{form, edition, m_word, n_word, root, span, points, nodes, root_word, counts_ok, layout_ok, trailer_no}
use Rattle.sheet.specs.Points.{fields_ok, rises_ok, point_ok, points_ok}
use Rattle.sheet.specs.Places.{spot_of, point_of, points_of}
use Rattle.sheet.specs.Nodes.{nodes_ok}
use Rattle.sheet.specs.Boxes.{tight_side, tight_ok}
use Rattle.sheet.specs.Open.{body_no, open_no}
use Rattle.sheet.proofs.BoxLaws.{best_cong}
use Rattle.pack.specs.Tree.{one_left, nodes_from, nodes_for, plan_of}
use Rattle.pack.specs.Order.{order_list_ok}
use Rattle.pack.specs.Packed.{box_side, trailer_word, packed}
use Rattle.pack.specs.Pack.{form_ok, points_in, pack_no, pack_out}
use Rattle.pack.specs.Claims.{Roomy, Returned}
use Rattle.pack.proofs.PackLaws.{range_few, range_edition, within_facts, form_cases, pack_formed, pack_within, out_refused, out_packed}
use Rattle.pack.proofs.TableLaws.{num_of, plan_few, plan_some, plan_child, plan_leaf, table_right, node_stood, count_range, level_is, first_is, pack_count_is}
use Rattle.pack.proofs.PackedLaws.{point_word, order_right, holds_fewer, packed_size, packed_body, packed_trail, packed_plan, coord_read, side_read}

in_range : (a b : ℕ) → a ≤ b → within (pos 0) (pos b) (pos a) ≡ true
unfolding within
in_range a b g = rw (le-leb 0 a (omega arith), le-leb a b g)

module _ (f : ℕ) (p o : List ℤ) (n ed : ℕ) where
  point_same : (i : ℕ) → i < 3 * n → at (packed f p o n ed) i ≡ at p i
  point_same i h = (packed_body f p o n ed).word i (omega arith) ∙ point_word p o n i h

  -- ---- the trailer

  form_is : form (packed f p o n ed) ≡ pos f
  unfolding trailer_word
  form_is = packed_trail f p o n ed _ 5 (omega arith) (omega (arith, packed_size f p o n ed))

  pub edition_is : edition (packed f p o n ed) ≡ pos ed
  unfolding trailer_word
  edition_is = packed_trail f p o n ed _ 4 (omega arith) (omega (arith, packed_size f p o n ed))

  m_is : m_word (packed f p o n ed) ≡ pos (nodes_for n)
  unfolding trailer_word
  m_is = packed_trail f p o n ed _ 3 (omega arith) (omega (arith, packed_size f p o n ed))

  n_is : n_word (packed f p o n ed) ≡ pos n
  unfolding trailer_word
  n_is = packed_trail f p o n ed _ 2 (omega arith) (omega (arith, packed_size f p o n ed))

  root_is : root (packed f p o n ed) ≡ pos (root_word (nodes_for n))
  unfolding trailer_word
  root_is = packed_trail f p o n ed _ 1 (omega arith) (omega (arith, packed_size f p o n ed))

  span_is : span (packed f p o n ed) ≡ pos (5 * n + 7 * nodes_for n)
  unfolding trailer_word
  span_is = packed_trail f p o n ed _ 0 (omega arith) (omega (arith, packed_size f p o n ed))

  pub points_is : points (packed f p o n ed) ≡ n
  points_is = num_of _ _ n_is

  pub nodes_is : nodes (packed f p o n ed) ≡ nodes_for n
  nodes_is = num_of _ _ m_is

  layout_right : layout_ok (packed f p o n ed) ≡ true
  unfolding layout_ok
  layout_right = and_both _ _ (and_both _ _ (eq_eq_z _ _ (span_is ∙ ap pos z)) (eq_eq_z _ _ (root_is ∙ ap (λ (a : ℕ). pos (root_word a)) (sym nodes_is)))) (eq-eqb _ _ (packed_size f p o n ed ∙ ap (λ (a : ℕ). a + 6) z))
    where
      z : 5 * n + 7 * nodes_for n ≡ 5 * points (packed f p o n ed) + 7 * nodes (packed f p o n ed)
      z = omega (arith, points_is, nodes_is)

  -- ---- points, order and nodes

  module _ (lim : Limits) (roomy : Roomy lim) (named : f ≡ lim.form) (few : n ≤ lim.points) (ranged : edition_ok ed ≡ true) where
    counts_right : counts_ok lim (packed f p o n ed) ≡ true
    unfolding counts_ok
    counts_right =
        and_both _ _
        (and_both _ _
        (ap (within (pos 0) (pos lim.points)) n_is ∙ in_range n lim.points few)
        (ap (within (pos 0) (pos lim.nodes)) m_is ∙ in_range (nodes_for n) lim.nodes (omega (arith, plan_few n, roomy.nodes_enough))))
        (ap edition_word edition_is ∙ edition_pos ed ∙ ranged)

    trailer_right : trailer_no lim (packed f p o n ed) ≡ 0
    unfolding trailer_no first given
    trailer_right = rw (le-ltb (length (packed f p o n ed)) 6 (omega (arith, packed_size f p o n ed)), eq_eq_z _ _ (form_is ∙ ap pos named), counts_right, layout_right)

  points_right : (lim : Limits) → points_ok lim p n ≡ true → points_ok lim (packed f p o n ed) n ≡ true
  unfolding points_ok point_ok fields_ok rises_ok
  points_right lim e = all_make (point_ok lim (packed f p o n ed)) n (λ i h. same i h ∙ all_at (point_ok lim p) n e i h)
    where
      same : (i : ℕ) → i < n → point_ok lim (packed f p o n ed) i ≡ point_ok lim p i
      same i h = rw (point_same (3 * i) (omega arith), point_same (3 * i + 1) (omega arith), point_same (3 * i + 2) (omega arith), point_same (3 * (i - 1)) (omega arith))

  module _ (ok : order_list_ok o n ≡ true) where
    -- the packer's box is the tightest
    side_tight : n ≤ 4294967296 → (q l j : ℕ) → j < nodes_for n → (plan_of n j).level ≡ l → box_side p o n q l j ≡ tight_side (packed f p o n ed) n q l j
    unfolding box_side tight_side
    side_tight g q zero j h e =
        let w = packed f p o n ed in
        let pl = packed_plan f p o n ed in
        let c = count_range (plan_of n j) (node_stood n j h).some in
        rw (first_is w n pl j h, pack_count_is w n pl j h)
        (best_cong q _ _ _ _ (λ k x y. sym (coord_read p o w n (nodes_for n) ok (packed_body f p o n ed) q k (plan_leaf w n pl g j h e k (omega arith)))))
    side_tight g q (suc l) j h e =
        let w = packed f p o n ed in
        let pl = packed_plan f p o n ed in
        let c = count_range (plan_of n j) (node_stood n j h).some in
        rw (first_is w n pl j h, pack_count_is w n pl j h)
        (best_cong q _ _ _ _
        (λ k x y.
        let d = plan_child w n pl g j l h e k x (omega arith) in
        side_tight g q l k (omega (arith, d.1)) d.0))

    boxes_right : n ≤ 4294967296 → tight_ok (packed f p o n ed) n (nodes_for n) ≡ true
    unfolding tight_ok
    boxes_right g =
        all_make _ (nodes_for n)
        (λ j h. all_make _ 4
        (λ q b.
        let w = packed f p o n ed in
        let e = level_is w n (packed_plan f p o n ed) j h in
        eq_eq_z _ _
        (side_read p o w n (nodes_for n) ok (packed_body f p o n ed) q j b h
        ∙ side_tight g q (plan_of n j).level j h refl
        ∙ ap (λ (l : ℕ). tight_side w n q l j) (sym e))))

  -- n = 0 goes with m = 0 and no other way
  zero_right : beq (eqb n 0) (eqb (nodes_for n) 0) ≡ true
  unfolding nodes_for one_left nodes_from
  zero_right =
      ⊎_elim
      (λ (e : eqb n 0 ≡ true). let z = eqb-true n 0 e in rw (e, eq-eqb (nodes_for n) 0 (ap nodes_for z ∙ none)))
      (λ (e : eqb n 0 ≡ false).
      let f = eqb-false n 0 e in
      rw (e, ne_eqb (nodes_for n) 0 (λ (y : nodes_for n ≡ 0). absurd (no f y))))
      (decide (eqb n 0))
    where
      none : nodes_for 0 ≡ 0
      none = refl

      no : (n ≡ 0 → ⊥) → nodes_for n ≡ 0 → ⊥
      no f y = f (zero_of n y)
        where
          zero_of : (k : ℕ) → nodes_for k ≡ 0 → k ≡ 0
          zero_of zero y = refl
          zero_of (suc k) y = absurd (omega (arith, plan_some (suc k) (omega arith)))

  -- what the packer writes is opened
  pub packed_opens : (lim : Limits) → Roomy lim → f ≡ lim.form → n ≤ lim.points → edition_ok ed ≡ true → points_ok lim p n ≡ true → order_list_ok o n ≡ true → open_no lim (packed f p o n ed) ≡ 0
  unfolding open_no body_no nodes_ok first given
  packed_opens lim r a h e d g =
      let le : n ≤ 4294967296 = omega (arith, r.low) in
      rw (trailer_right lim r a h e, points_is, nodes_is, points_right lim d, order_right p o (packed f p o n ed) n (holds_fewer _ _ _ _ (omega arith) (packed_body f p o n ed)) g, zero_right, table_right (packed f p o n ed) n (packed_plan f p o n ed) le, boxes_right g le)

  -- with the same points, in the same order
  pub packed_points : points_of (packed f p o n ed) ≡ points_in n p
  unfolding points_of spot_of points_in
  packed_points = ap (λ (k : ℕ). tab k (point_of (packed f p o n ed))) points_is ∙ tab_same n _ _ (λ i h. same i h)
    where
      same : (i : ℕ) → i < n → point_of (packed f p o n ed) i ≡ point_of p i
      same i h = rw (point_same (3 * i) (omega arith), point_same (3 * i + 1) (omega arith), point_same (3 * i + 2) (omega arith))

-- ---- of the call

form1_roomy : Roomy form1
unfolding form1
form1_roomy = record { low = omega arith; nodes_enough = omega arith }

form2_roomy : Roomy form2
unfolding form2
form2_roomy = record { low = omega arith; nodes_enough = omega arith }

-- the limits of either form leave room for the tree, and those of a form that the packer takes bear its number
limits_roomy : (z : ℤ) → Roomy (limits_of z)
unfolding limits_of
limits_roomy z = go (eq_z z (pos 2))
  where
    go : (t : Bool) → Roomy (cond t form2 form1)
    go true = form2_roomy
    go false = form1_roomy

limits_named : (f : ℕ) → form_ok f ≡ true → f ≡ (limits_of (pos f)).form
unfolding limits_of eq_z form1 form2
limits_named f e =
    ⊎_elim
    (λ (t : f ≡ 1). subst (λ (k : ℕ). k ≡ (limits_of (pos k)).form) (sym t) refl)
    (λ (t : f ≡ 2). subst (λ (k : ℕ). k ≡ (limits_of (pos k)).form) (sym t) refl)
    (form_cases f e)

-- From the promise of `pack` alone: `r` is its answer, and `out'` are the lent words at its exit. Where it answers 0 these open, are of the form that was asked
-- for, and their points are the given ones, in order.
pub pack_return_trip : (f n : ℕ) (p o : List ℤ) (ed : ℕ) (out : List ℤ) (r : ℕ) (out' : List ℤ) → r ≡ pack_no f n p o ed (length out) → out' ≡ pack_out f n p o ed out → r ≡ 0 → Returned f n p ed out'
pack_return_trip f n p o ed out r out' e g z =
    let k = sym e ∙ z in
    let lim : Limits = limits_of (pos f) in
    let named = limits_named f (pack_formed f n p o ed (length out) k) in
    let s = within_facts lim n p o ed (length out) (pack_within f n p o ed (length out) k) in
    let w : List ℤ = packed f p o n ed in
    subst (Returned f n p ed) (out_packed f n p o ed out k ∙ sym g)
    (record {
      opens = ap (λ (y : ℤ). open_no (limits_of y) w) (form_is f p o n ed)
          ∙ packed_opens f p o n ed lim (limits_roomy (pos f)) named (range_few lim n ed s.ranged) (range_edition lim n ed s.ranged) s.pointed s.ordered;
      same_form = form_is f p o n ed;
      same_points = packed_points f p o n ed;
      same_number = points_is f p o n ed;
      same_edition = edition_is f p o n ed;
      made_nodes = nodes_is f p o n ed;
    })

-- and where it answers a number of refusal they are as they were
pub refused_same : (f n : ℕ) (p o : List ℤ) (ed : ℕ) (out : List ℤ) (r : ℕ) (out' : List ℤ) → r ≡ pack_no f n p o ed (length out) → out' ≡ pack_out f n p o ed out → (r ≡ 0 → ⊥) → out' ≡ out
refused_same f n p o ed out r out' e g z = g ∙ sym (out_refused f n p o ed out (λ k. z (e ∙ k)))
