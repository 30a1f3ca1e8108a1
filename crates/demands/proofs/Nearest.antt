-- Request 10: "For a single chamber on a screen, walk P by source document 004's order [..]. Give the pump houses one after another in that order, up to a size of 16. Then use the
-- same walk as a second filter [..]. Pairs made with its kept set equal the list." For every two sheets that open and the id of a chamber, which stands at position j of Q, and in terms of what
-- the shipped calls answer for them; `enough` says that as many numbers are lent as P has points and nodes, `words` that as many words are as its points need.
--
--     nearest_given      the call is served, and gives as many pump houses as are asked for, or all where P has fewer; unused ones are two zeros; the first n + m lent numbers are 0, and the rest as they were
--     nearest_each       pump house a is that at the position which stands there in the order of the walk, with its id and its squared distance to the chamber
--     nearest_order      that order: by squared distance, on a tie by position, so by id.  order_each: each pump house stands once in it. So none that is not given comes before one that is
--     near_filter_given  the filter is served, and the lent numbers are left the same way
--     near_filter_pairs  a pump house is a ring partner of the chamber exactly if the lent words keep it and its ring walk is clear: these pairs are the list's
--     near_opened        it opens at most the nodes of P
-- Assumes nothing.
use Rattle.std.specs.Prelude.{Result}
use Rattle.ring.proofs.PageLaws.{circle_any_form}
use Rattle.plane.proofs.ProfileLaws.{circle_lawful}
use Rattle.plane.specs.Profile.{circle}
use mathlib.Core.Path.{◌≡◌, refl, sym, ap, subst, ◌∙◌}
use mathlib.Core.Bool.{Bool, ◌&&◌, false}
use mathlib.Core.List.{List}
use Prim.Native.Nat.{ℕ, min, ◌+◌, ◌-◌, ◌≤◌, ◌<◌}
use native.Mathlib.Omega.{arith}
use lib.IntN.{ℤ}
use lib.ListN.{length, drop, get_or, replicate}
use Rattle.plane.specs.declared.Spot.{Spot}
use Rattle.plane.specs.Point.{id_at}
use Rattle.sheet.specs.Layout.{points, nodes}
use Rattle.sheet.specs.Places.{spot_of, points_of}
use Rattle.sheet.specs.Open.{Opens}
use Rattle.sheet.proofs.SheetLaws.{sheet_facts}
use Rattle.list.specs.Rows.{list_by}
use Rattle.list.specs.RingList.{ring_pair, pair_at, ring_list}
use Rattle.bits.specs.Set.{kept, wiped}
use Rattle.bits.proofs.LentLaws.{words_enough}
use Rattle.walk.specs.FilterWalk.{Kept}
use Rattle.walk.specs.RingWalk.{clear, pair_walk}
use Rattle.outward.specs.NearWalk.{near_order, near_kept}
use Rattle.outward.specs.Claims.{NotAfter, times}
use Rattle.outward.proofs.Meaning as of-near
use Rattle.walk.proofs.Meaning as of-walk
use Rattle.ring.specs.declared.Filtered.{Filtered}
use Rattle.ring.specs.Lent.{need}
use Rattle.ring.specs.Answers.{filtered_to, walked_clear}
use Rattle.nearest.specs.declared.Found.{Found}
use Rattle.nearest.specs.Nearest.{near_filter_no, stands_at, no_point, near_at, nearest_at, near_kept_for}
use Rattle.nearest.proofs.Meaning as of-nearest
use Rattle.demands.specs.Promises.{RingAnswers, NearestAnswers, NearFilterAnswers}
use Rattle.demands.proofs.Demand1.{near_filter_no_lem}
use Rattle.demands.proofs.Lent.{front_kept, near_left}
use Rattle.demands.proofs.Demand2.{WellFormed, sheets, clear_iff, made_list}
use Rattle.walk.specs.declared.Answer.{Answer}

-- the order in which the pump houses stand for a place: by squared distance to it, on a tie by position
module _ (P : List ℤ) (opens : WellFormed P) (q : Spot) where
  -- [G1]
  pub nearest_order : (a b : ℕ) → a ≤ b → b < points P → NotAfter P q (get_or (near_order P q) a 0) (get_or (near_order P q) b 0)
  nearest_order a b h g =
      let o = sheet_facts P opens in
      of-near.near_ascends P q o a b h (omega (arith, of-near.near_all P q o))

  -- [G3]
  pub order_each : (i : ℕ) → i < points P → times i (near_order P q) ≡ 1
  order_each = of-near.near_once P q (sheet_facts P opens)

module _ (P Q : List ℤ) (p_opens : WellFormed P) (q_opens : WellFormed Q) (id j : ℕ) (j_in : j < points Q) (named : id_at (points_of Q) j ≡ id) (ws : List ℕ) (enough : points P + nodes P ≤ length ws) where
  p_facts : Opens P (points P) (nodes P)
  p_facts = sheet_facts P p_opens

  q_facts : Opens Q (points Q) (nodes Q)
  q_facts = sheet_facts Q q_opens

  at : stands_at Q id ≡ spot_of Q j
  at = of-nearest.stands_is Q q_facts id j j_in named

  module _ (size : ℕ) (some : 1 ≤ size) (most : size ≤ 16) (r : Found) (t : List ℕ) (a : NearestAnswers P Q id size ws r t) where
    is : r ≡ nearest_at P (spot_of Q j) size
    is =
        a.promised.0
        ∙ of-nearest.nearest_call_given P Q id size (length ws) (of-nearest.nearest_served P Q id (length ws) (sheets P Q p_opens q_opens) j j_in named enough size some most)
        ∙ ap (λ (q : Spot). nearest_at P q size) at

    -- [G3, G7, G8]
    pub nearest_given : (r.number ≡ 0) × (r.count ≡ min size (points P)) × (drop r.count r.points ≡ replicate (16 - r.count) no_point) × (t ≡ wiped (points P + nodes P) ws)
    unfolding nearest_at
    nearest_given = (
      ap (λ (x : Found). x.number) is,
      ap (λ (x : Found). x.count) is ∙ of-nearest.nearest_count P (spot_of Q j) size p_facts,
      subst (λ (x : Found). drop x.count x.points ≡ replicate (16 - x.count) no_point) (sym is) (of-nearest.nearest_unused P (spot_of Q j) size),
      a.promised.1 ∙ of-nearest.waited_given _ P ws (of-nearest.nearest_served P Q id (length ws) (sheets P Q p_opens q_opens) j j_in named enough size some most),
    )

    -- [G3]
    pub nearest_each : (b : ℕ) → b < r.count → get_or r.points b no_point ≡ near_at P (spot_of Q j) (get_or (near_order P (spot_of Q j)) b 0)
    nearest_each b = subst (λ (x : Found). b < x.count → get_or x.points b no_point ≡ near_at P (spot_of Q j) (get_or (near_order P (spot_of Q j)) b 0)) (sym is) (of-nearest.nearest_at_lem P (spot_of Q j) size b)

  module _ (w : List ℕ) (words : need P ≤ length w) (r : Filtered) (t w' : List ℕ) (a : NearFilterAnswers P Q id ws w r t w') where
    filter_served : near_filter_no P Q id (length w) (length ws) ≡ 0
    filter_served = of-nearest.near_filter_served P Q id (length ws) (sheets P Q p_opens q_opens) j j_in named enough (length w) words

    same_set : near_kept_for P Q id ≡ near_kept (need P) P (spot_of Q j)
    same_set = ap (near_kept (need P) P) at

    kept_is : r ≡ filtered_to (near_kept (need P) P (spot_of Q j))
    kept_is = a.promised.0 ∙ of-nearest.near_filter_call_given P Q id (length w) (length ws) filter_served ∙ ap filtered_to same_set

    -- what it keeps stands in the first words
    bits_are : (i : ℕ) → i < points P → kept w' i ≡ kept (near_kept (need P) P (spot_of Q j)).bits i
    bits_are i h =
        let l = near_left P Q id ws w r t w' a ((near_filter_no_lem P Q id ws w r t w' a).0 ∙ filter_served) in
        front_kept (near_kept_for P Q id).bits w w' (need P) l.0 l.1 i (omega (arith, words_enough (points P))) ∙ ap (λ (k : Kept). kept k.bits i) same_set

    -- [G7, G8]
    pub near_filter_given : (r.number ≡ 0) × (t ≡ wiped (points P + nodes P) ws)
    unfolding filtered_to
    near_filter_given = (ap (λ (x : Filtered). x.number) kept_is, a.promised.1 ∙ of-nearest.waited_given _ P ws filter_served)

    -- [G5]
    pub near_filter_pairs : (i : ℕ) → i < points P → ring_pair (points_of P) (points_of Q) j i ≡ (kept w' i && clear (pair_walk P Q j i).hit)
    near_filter_pairs i i_in =
        of-nearest.near_pairs P Q p_facts q_facts j i j_in i_in ∙ ap (λ (k : Bool). k && clear (pair_walk P Q j i).hit) (sym (bits_are i i_in))

    -- [G4]
    pub near_opened : r.opened ≤ nodes P
    unfolding filtered_to
    near_opened = subst (λ (x : Filtered). x.opened ≤ nodes P) (sym kept_is) (of-near.near_opened_at_most_m (need P) P (spot_of Q j) p_facts (words_enough (points P)))

-- "Pairs made with its kept set equal the list", as lists: of the filter that goes nearest first, asked for each chamber j with words `w j`, and the ring walk. [G5]
pub near_filter_list : (P Q : List ℤ) (p_opens : WellFormed P) (q_opens : WellFormed Q) (ws : List ℕ) → points P + nodes P ≤ length ws → (w : ℕ → List ℕ) → ((j : ℕ) → need P ≤ length (w j))
    → (f : ℕ → Filtered) (t w' : ℕ → List ℕ) (r : ℕ → ℕ → Result Answer ℕ)
    → ((j : ℕ) → j < points Q → NearFilterAnswers P Q (id_at (points_of Q) j) ws (w j) (f j) (t j) (w' j)) → ((j i : ℕ) → j < points Q → i < points P → RingAnswers P Q j i false (r j i))
    → list_by (λ j i. kept (w' j) i && walked_clear (r j i)) (pair_at (points_of P) (points_of Q)) (points P) (points Q) ≡ ring_list (points_of P) (points_of Q)
near_filter_list P Q p_opens q_opens ws enough w words f t w' r a b =
    made_list P Q p_opens q_opens (λ j i. kept (w' j) i) (λ j i. walked_clear (r j i))
    (λ j i h g.
    near_filter_pairs P Q p_opens q_opens (id_at (points_of Q) j) j h refl ws enough (w j) (words j) (f j) (t j) (w' j) (a j h) i g
    ∙ ap (λ (c : Bool). kept (w' j) i && c) (of-walk.pair_clear circle circle_lawful P Q (sheet_facts P p_opens) (sheet_facts Q q_opens) j i h g ∙ sym (clear_iff P Q p_opens q_opens j h i g false (circle_any_form P Q) (r j i) (b j i h g))))
