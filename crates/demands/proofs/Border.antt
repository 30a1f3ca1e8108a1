-- Beyond one sheet. A country's pump houses and chambers are two sets of points, more than a sheet may hold. A province's two sheets hold all that stand in a box R of the map, and no others. What the
-- shipped calls answer for these sheets, of the country's own ring pairs: `ring_pair_by` of list/specs/RingList, over all records of the country. `circle_in` and `part_of` stand in border/specs/Border, on points alone.
-- q is position j of the country's chambers, p is position i of its pump houses. Of either profile.
--
--     border_pages       a chamber and a pump house whose circle lies in R are in the province's pages, followed from (0, 0), exactly if they are a ring pair of the country: with these ids and this size
--     border_found       a ring pair of the country with both ends in R is in the province's pages, wherever its circle reaches. So what they do not hold is none of the country
--     border_walk        the ring walk of a chamber and a pump house whose circle lies in R is clear exactly if they are a ring pair of the country: how one pair is asked of a larger sheet
--     border_core        R is a core and a margin. Both ends in the core, at most two margins apart: as border_pages says.  border_chamber: or the chamber in the core, at most one margin apart
--     country_pairs      so of a country that is cut into cores, all with one margin: a chamber and a pump house at most a margin apart are a ring pair of it exactly if the pages of the province in whose
--                        core the chamber stands hold them
--     province_visits    of the chambers that a province keeps, which are settled there (by its own records alone), its pages hold the ring pairs of the country, however long: all, and no others; province_only: nor anything else
--     country_visits     so of a country of which each chamber is kept by one province, each ring pair is in the pages of exactly one province, and nothing else is in any
--     country_had        such a country and such a province can be had.  chamber_settled: and a chamber that is settled in it, though a pump house and a chamber stand outside
-- Assumes nothing.
use Rattle.std.specs.Prelude.{Result}
use mathlib.Core.Path.{◌≡◌, refl, sym, ap, ap₂, subst, ◌∙◌}
use mathlib.Core.Bool.{Bool, true, false}
use mathlib.Core.Logic.{◌↔◌, inl, ⊎_elim}
use mathlib.Core.List.{List, [], ◌∷◌, Memᴰ}
use Prim.Native.Nat.{ℕ, zero, suc, ◌+◌, ◌*◌, ◌≤◌, ◌<◌}
use native.Mathlib.Omega.{arith}
use lib.IntN.{ℤ, pos, neg_ℤ}
use lib.Signed.{◌≤ℤ◌, ◌<ℤ◌}
use lib.ListN.{length, get_or}
use Rattle.words.specs.Word.{num}
use Rattle.words.specs.All.{all_b, tab}
use Rattle.integers.proofs.Order.{zl, total}
use Rattle.integers.proofs.Bools.{clash}
use Rattle.plane.specs.declared.Boxed.{Boxed}
use Rattle.plane.specs.declared.Spot.{Spot}
use Rattle.plane.specs.Rule.{spot, same_spot, in_box, blocks, drops_box}
use Rattle.plane.proofs.RuleLaws.{box_holds}
use Rattle.plane.specs.Profile.{circle, profile_of}
use Rattle.plane.specs.Point.{Point, point_at, id_at, spot_at}
use Rattle.sheet.specs.Places.{spot_of, points_of}
use Rattle.sheet.specs.Layout.{points}
use Rattle.sheet.proofs.PointsLaws.{length_points}
use Rattle.list.specs.declared.Key.{Key}
use Rattle.list.specs.declared.Pair.{Pair}
use Rattle.list.specs.declared.Terms.{Terms}
use Rattle.list.specs.Pairs.{start}
use Rattle.list.specs.Pages.{size_no, followed, last_threshold}
use Rattle.list.specs.Rows.{Rising}
use Rattle.list.specs.RingList.{unblocked, ring_pair_by, ring_pair, pair_by}
use Rattle.list.specs.Terms.{full, with_by, of_contractor, list_for}
use Rattle.list.proofs.RowLaws.{ring_iff}
use Rattle.list.proofs.TermsLaws.{full_ring_list, for_only}
use Rattle.border.specs.Border.{part_of, circle_in, widened, Settled}
use Rattle.border.proofs.BorderLaws as of-border
use Rattle.border.proofs.SettledLaws as of-settled
use Rattle.ring.specs.Lent.{need}
use Rattle.ring.specs.Numbers.{grid_no}
use Rattle.ring.specs.Answers.{walked_clear}
use Rattle.ring.specs.declared.Paged.{Paged}
use Rattle.demands.specs.Promises.{RingAnswers, TermsAnswers}
use Rattle.demands.proofs.Demand2.{WellFormed, Whose, pages_list, contractor_ring, clear_iff}
use Rattle.demands.proofs.Worlds.{document_p, document_q, p_opens, q_opens}
use Rattle.walk.specs.declared.Answer.{Answer}

-- A country: its pump houses and its chambers, by ids that ascend, as many as there may be.
pub record Country (pumps chambers : List Point) : Type 0 where
  pub pumps_rise : Rising (id_at pumps) (length pumps)
  pub chambers_rise : Rising (id_at chambers) (length chambers)

-- The sheets P and Q of the province with box r: each opens, and holds the records of the country that stand in the box.
pub record Province (pumps chambers : List Point) (r : Boxed) (P Q : List ℤ) : Type 0 where
  pub p_opens : WellFormed P
  pub q_opens : WellFormed Q
  pub pumps_are : points_of P ≡ part_of r pumps
  pub chambers_are : points_of Q ≡ part_of r chambers

-- l are the pairs of the pages that the page request of some terms and owner bytes answers for two sheets, followed from (0, 0), with words enough, whatever the sizes from 1 to 16.
pub record Pages (a : Terms) (o : List ℕ) (P Q : List ℤ) (l : List Pair) : Type 0 where
  -- the request is in range: the owner bytes of a contractor, of the street grid sheets of form 1, t
  pub whose : Whose a.contractor o (points Q)
  pub forms : grid_no a.grid P Q ≡ 0
  pub fair : a.threshold ≤ last_threshold
  pub lent : Key → ℕ → List ℕ
  pub enough : (key : Key) (size : ℕ) → need P ≤ length (lent key size)
  pub ask : Key → ℕ → Paged
  pub left : Key → ℕ → List ℕ
  pub answers : (key : Key) (size : ℕ) → TermsAnswers a o P Q key size (lent key size) (ask key size) (left key size)
  pub sizes : ℕ → ℕ
  pub sizes_in : (k : ℕ) → size_no (sizes k) ≡ 0
  pub is : l ≡ followed (length (list_for a o (points_of P) (points_of Q))) sizes (λ key size. (ask key size).page) start

-- they are the list of the terms
pages_are : (pumps chambers : List Point) (r : Boxed) (P Q : List ℤ) → Province pumps chambers r P Q → (a : Terms) (o : List ℕ) (l : List Pair) → Pages a o P Q l → l ≡ list_for a o (points_of P) (points_of Q)
pages_are pumps chambers r P Q province a o l y =
    y.is ∙ pages_list P Q province.p_opens province.q_opens a o y.whose y.forms y.fair y.lent y.enough y.ask y.left y.answers y.sizes y.sizes_in

module _ (pumps chambers : List Point) (country : Country pumps chambers) (g : Bool) where
  -- the pair of two positions of the country: ids and size
  abbrev pub Visit : ℕ → ℕ → Pair
  Visit j i = pair_by (profile_of g) pumps chambers j i

  -- they are a ring pair of the country: no other record of it blocks them
  abbrev pub IsPair : ℕ → ℕ → Type 0
  IsPair j i = ring_pair_by (profile_of g) pumps chambers j i ≡ true

  whole_iff : (j i : ℕ) → j < length chambers → i < length pumps → Memᴰ (Visit j i) (list_for (with_by g 0) [] pumps chambers) ↔ IsPair j i
  whole_iff j i a b = rw (full_ring_list g [] pumps chambers) (ring_iff (profile_of g) pumps chambers country.pumps_rise country.chambers_rise j i a b)

  module _ (r : Boxed) (P Q : List ℤ) (province : Province pumps chambers r P Q) where
    -- the province's pages are the list of the part
    part_pages : (l : List Pair) → Pages (with_by g 0) [] P Q l → l ≡ list_for (with_by g 0) [] (part_of r pumps) (part_of r chambers)
    part_pages l y = pages_are pumps chambers r P Q province (with_by g 0) [] l y ∙ ap₂ (list_for (with_by g 0) []) province.pumps_are province.chambers_are

    -- A chamber and a pump house of the country whose circle lies in R are in the province's pages exactly if they are a ring pair of the country. [Q1]
    pub border_pages : (l : List Pair) → Pages (with_by g 0) [] P Q l → (j i : ℕ) → j < length chambers → i < length pumps → circle_in (profile_of g) r (spot_at chambers j) (spot_at pumps i) ≡ true → Memᴰ (Visit j i) l ↔ IsPair j i
    border_pages l y j i j_in i_in c =
        let e = part_pages l y in
        let b = of-border.border_list g r pumps chambers country.pumps_rise country.chambers_rise j i j_in i_in c in
        let w = whole_iff j i j_in i_in in
        (λ m. w.0 (b.1 (subst (Memᴰ (Visit j i)) e m)), λ x. subst (Memᴰ (Visit j i)) (sym e) (b.0 (w.1 x)))

    -- No ring pair of the country with both ends in R is lost: the province's pages hold it, wherever its circle reaches. [Q2]
    pub border_found : (l : List Pair) → Pages (with_by g 0) [] P Q l → (j i : ℕ) → j < length chambers → i < length pumps → in_box r (spot_at chambers j) ≡ true → in_box r (spot_at pumps i) ≡ true → IsPair j i → Memᴰ (Visit j i) l
    border_found l y j i j_in i_in q_in p_in x =
        subst (Memᴰ (Visit j i)) (sym (part_pages l y)) (of-border.border_listed g r pumps chambers country.pumps_rise country.chambers_rise j i j_in i_in q_in p_in ((whole_iff j i j_in i_in).1 x))

    -- The ring walk of the two records, at positions j' and i' of the province's sheets, is clear exactly if they are a ring pair of the country, where their circle lies in R.
    -- [Q1]
    pub border_walk : (j i j' i' : ℕ) → j' < points Q → i' < points P → point_at chambers j ≡ point_at (points_of Q) j' → point_at pumps i ≡ point_at (points_of P) i' → circle_in (profile_of g) r (spot_at chambers j) (spot_at pumps i) ≡ true
        → grid_no g P Q ≡ 0 → (a : Result Answer ℕ) → RingAnswers P Q j' i' g a → walked_clear a ≡ ring_pair_by (profile_of g) pumps chambers j i
    border_walk j i j' i' j'-in i'-in same_q same_p c forms a x =
        clear_iff P Q province.p_opens province.q_opens j' j'-in i' i'-in g forms a x
        ∙ ap₂ (λ (s t : List Point). ring_pair_by (profile_of g) s t j' i') province.pumps_are province.chambers_are
        ∙ sym (of-border.border_pair g r pumps chambers j i j' i' (same_q ∙ ap (λ (s : List Point). point_at s j') province.chambers_are) (same_p ∙ ap (λ (s : List Point). point_at s i') province.pumps_are) c)

  -- ---- a core and its margin m

  module _ (core : Boxed) (m : ℕ) (P Q : List ℤ) (province : Province pumps chambers (widened m core) P Q) (l : List Pair) (pages : Pages (with_by g 0) [] P Q l) (j i : ℕ) (j_in : j < length chambers) (i_in : i < length pumps) where
    -- Both ends stand in the core and are at most two margins apart: their size, the square of the distance, is at most that of two margins. [Q3]
    pub border_core : in_box core (spot_at chambers j) ≡ true → in_box core (spot_at pumps i) ≡ true → (Visit j i).size ≤ (2 * m) * (2 * m) → Memᴰ (Visit j i) l ↔ IsPair j i
    border_core q_in p_in d = border_pages (widened m core) P Q province l pages j i j_in i_in (of-border.margin_enough g core m (spot_at chambers j) (spot_at pumps i) q_in p_in d)

    -- The chamber stands in the core, the pump house anywhere, at most one margin from it. [Q3]
    pub border_chamber : in_box core (spot_at chambers j) ≡ true → (Visit j i).size ≤ m * m → Memᴰ (Visit j i) l ↔ IsPair j i
    border_chamber q_in d = border_pages (widened m core) P Q province l pages j i j_in i_in (of-border.margin_chamber g core m (spot_at chambers j) (spot_at pumps i) q_in d)

  -- A country cut into provinces, each with a core, its sheets and its pages, all with one margin m: `home` names one in whose core a chamber stands. Each pair that is no longer than the margin is asked of one
  -- province, and the answer is the country's. [Q4]
  pub country_pairs : (m : ℕ) (core : ℕ → Boxed) (P Q : ℕ → List ℤ) (l : ℕ → List Pair) → ((k : ℕ) → Province pumps chambers (widened m (core k)) (P k) (Q k)) → ((k : ℕ) → Pages (with_by g 0) [] (P k) (Q k) (l k))
      → (home : ℕ → ℕ) → ((j : ℕ) → j < length chambers → in_box (core (home j)) (spot_at chambers j) ≡ true)
      → (j i : ℕ) → j < length chambers → i < length pumps → (Visit j i).size ≤ m * m → Memᴰ (Visit j i) (l (home j)) ↔ IsPair j i
  country_pairs m core P Q l province pages home at j i j_in i_in d = border_chamber (core (home j)) m (P (home j)) (Q (home j)) (province (home j)) (l (home j)) (pages (home j)) j i j_in i_in (at j j_in) d

-- ---- each visit of the country once: of the circle

-- A province keeps some chambers of its part: their owner bytes are a contractor's, 0 or 1, and those of the others are not, so that the list of what it keeps is that contractor's, in which all records still
-- block. Of each that it keeps it has seen that it is settled: all of the map outside R is behind records of the part, and the circle of each pair that it has in the part lies in R. l are the pairs of its pages.
pub record Share (pumps chambers : List Point) (map : Boxed) : Type 0 where
  pub r : Boxed
  pub P : List ℤ
  pub Q : List ℤ
  pub province : Province pumps chambers r P Q
  pub whom : ℕ
  pub one : whom < 2
  pub o : List ℕ
  pub l : List Pair
  pub pages : Pages (of_contractor whom full) o P Q l
  pub settled : (k : ℕ) → k < points Q → get_or o k 2 ≡ whom → Settled map r (points_of P) (points_of Q) k

-- the chamber at position j of the country is one that the province keeps
pub record Keeps (pumps chambers : List Point) (map : Boxed) (s : Share pumps chambers map) (j : ℕ) : Type 0 where
  pub at : ℕ
  pub here : at < points s.Q
  pub is : point_at chambers j ≡ point_at (points_of s.Q) at
  pub byte : get_or s.o at 2 ≡ s.whom

-- of n provinces one keeps it, and no other
pub record KeptOnce (pumps chambers : List Point) (map : Boxed) (shares : ℕ → Share pumps chambers map) (n j : ℕ) : Type 0 where
  pub by : ℕ
  pub by_in : by < n
  pub keeps : Keeps pumps chambers map (shares by) j
  pub only : (k : ℕ) → k < n → Keeps pumps chambers map (shares k) j → k ≡ by

-- of n provinces' pages those of one have the pair, and no others
pub record InOnePart (pumps chambers : List Point) (map : Boxed) (shares : ℕ → Share pumps chambers map) (n : ℕ) (v : Pair) : Type 0 where
  pub part : ℕ
  pub part_in : part < n
  pub in_pages : Memᴰ v (shares part).l
  pub only : (k : ℕ) → k < n → Memᴰ v (shares k).l → k ≡ part

-- all pump houses of the country stand on the map
module _ (pumps chambers : List Point) (country : Country pumps chambers) (map : Boxed) (on-map : (i : ℕ) → i < length pumps → in_box map (spot_at pumps i) ≡ true) where
  module _ (s : Share pumps chambers map) where
    -- the points of the two sheets are those of the part
    abbrev P' : List Point
    P' = part_of s.r pumps

    abbrev Q' : List Point
    Q' = part_of s.r chambers

    many_p : length P' ≡ points s.P
    many_p = ap length (sym s.province.pumps_are) ∙ length_points s.P

    many_q : length Q' ≡ points s.Q
    many_q = ap length (sym s.province.chambers_are) ∙ length_points s.Q

    kept_list : s.l ≡ list_for (of_contractor s.whom full) s.o P' Q'
    kept_list = pages_are pumps chambers s.r s.P s.Q s.province (of_contractor s.whom full) s.o s.l s.pages ∙ ap₂ (list_for (of_contractor s.whom full) s.o) s.province.pumps_are s.province.chambers_are

    part_settled : (k : ℕ) → k < length Q' → get_or s.o k 2 ≡ s.whom → Settled map s.r P' Q' k
    part_settled k h b =
        subst (λ (x : List Point). Settled map s.r x Q' k) s.province.pumps_are
        (subst (λ (x : List Point). Settled map s.r (points_of s.P) x k) s.province.chambers_are (s.settled k (omega (arith, h, many_q)) b))

    kept_iff : (k h : ℕ) → k < length Q' → h < length P' → Memᴰ (pair_by circle P' Q' k h) (list_for (of_contractor s.whom full) s.o P' Q') ↔ ((ring_pair_by circle P' Q' k h ≡ true) × (get_or s.o k 2 ≡ s.whom))
    kept_iff k h k-in h-in =
        rw (← s.province.pumps_are, ← s.province.chambers_are)
        (contractor_ring s.P s.Q s.province.p_opens s.province.q_opens false s.whom s.one s.o k h (omega (arith, k-in, many_q)) (omega (arith, h-in, many_p)))

    -- The pages of what a province keeps hold a chamber and a pump house of the country exactly if they are a ring pair of the country and the province keeps the chamber, however far apart they are.
    -- [Q5]
    pub province_visits : (j i : ℕ) → j < length chambers → i < length pumps → Memᴰ (pair_by circle pumps chambers j i) s.l ↔ ((ring_pair_by circle pumps chambers j i ≡ true) × Keeps pumps chambers map s j)
    province_visits j i j_in i_in = (there, back)
      where
        there : Memᴰ (pair_by circle pumps chambers j i) s.l → (ring_pair_by circle pumps chambers j i ≡ true) × Keeps pumps chambers map s j
        there m =
            let n = subst (Memᴰ (pair_by circle pumps chambers j i)) kept_list m in
            let z = of-settled.visit_at (of_contractor s.whom full) s.o s.r pumps chambers country.pumps_rise country.chambers_rise j i j_in i_in n in
            let w = (kept_iff z.at_q z.at_p z.q_in z.p_in).0 (subst (λ (v : Pair). Memᴰ v (list_for (of_contractor s.whom full) s.o P' Q')) z.is n) in (
              of-settled.settled_pair map s.r pumps chambers j z.at_q z.same_q (part_settled z.at_q z.q_in w.1) i z.at_p z.p_in z.same_p ∙ w.0,
              record { at = z.at_q; here = omega (arith, z.q_in, many_q); is = z.same_q ∙ ap (λ (x : List Point). point_at x z.at_q) (sym s.province.chambers_are); byte = w.1 },
            )

        back : (ring_pair_by circle pumps chambers j i ≡ true) × Keeps pumps chambers map s j → Memᴰ (pair_by circle pumps chambers j i) s.l
        back x =
            let k = x.1 in
            let k-in : k.at < length Q' = omega (arith, k.here, many_q) in
            let same_q : point_at chambers j ≡ point_at Q' k.at = k.is ∙ ap (λ (y : List Point). point_at y k.at) s.province.chambers_are in
            let settled = part_settled k.at k-in k.byte in
            let y = of-border.part_has s.r pumps i i_in (of-settled.settled_here map s.r pumps chambers j k.at same_q settled i (on-map i i_in) x.0) in
            let e : ring_pair_by circle P' Q' k.at y.at ≡ true = sym (of-settled.settled_pair map s.r pumps chambers j k.at same_q settled i y.at y.here (sym y.is)) ∙ x.0 in
            subst (Memᴰ (pair_by circle pumps chambers j i)) (sym kept_list)
            (subst (λ (v : Pair). Memᴰ v (list_for (of_contractor s.whom full) s.o P' Q')) (sym (of-border.same_pair false s.r pumps chambers j i k.at y.at same_q (sym y.is)))
            ((kept_iff k.at y.at k-in y.here).1 (e, k.byte)))

    -- And they hold nothing else: each of their pairs is that of two records of the country, with their ids and their size. [Q5, Q6]
    pub province_only : (v : Pair) → Memᴰ v s.l → (j : ℕ) × (i : ℕ) × (j < length chambers) × (i < length pumps) × (v ≡ pair_by circle pumps chambers j i)
    province_only v m =
        let z = for_only (of_contractor s.whom full) s.o P' Q' (of-border.part_rises s.r pumps country.pumps_rise) (of-border.part_rises s.r chambers country.chambers_rise) v (subst (Memᴰ v) kept_list m) in
        let y = (of-border.part_within s.r chambers z.at_q z.q_in).0 in
        let x = (of-border.part_within s.r pumps z.at_p z.p_in).0 in
        (y.at, x.at, y.here, x.here, z.is ∙ sym (of-border.same_pair false s.r pumps chambers y.at x.at z.at_q z.at_p y.is x.is))

  -- So of a country of which each chamber is kept by one of n provinces: a chamber and a pump house are a ring pair of it exactly if the pages of one province hold them, and no other's do.
  -- [Q6]
  pub country_visits : (shares : ℕ → Share pumps chambers map) (n : ℕ) → ((j : ℕ) → j < length chambers → KeptOnce pumps chambers map shares n j)
      → (j i : ℕ) → j < length chambers → i < length pumps → (ring_pair_by circle pumps chambers j i ≡ true) ↔ InOnePart pumps chambers map shares n (pair_by circle pumps chambers j i)
  country_visits shares n once j i j_in i_in = (
    λ e.
        let x = once j j_in in
        record {
          part = x.by;
          part_in = x.by_in;
          in_pages = (province_visits (shares x.by) j i j_in i_in).1 (e, x.keeps);
          only = λ k h m. x.only k h ((province_visits (shares k) j i j_in i_in).0 m).1;
        },
    λ y. ((province_visits (shares y.part) j i j_in i_in).0 y.in_pages).0,
  )

-- ---- such a country can be had: the document's two sheets are those of a province of it

abbrev at : ℕ → ℕ → ℕ → Point
at i x y = record { id = i; spot = spot (pos x) (pos y) }

-- a pump house and a chamber stand outside
abbrev pub all_pumps : List Point
all_pumps = at 1 0 0 ∷ at 2 10 0 ∷ at 3 100 0 ∷ []

abbrev pub all_chambers : List Point
all_chambers = at 5 4 0 ∷ at 6 16 1 ∷ at 7 200 0 ∷ []

abbrev pub around_both : Boxed
around_both = record { xmin = neg_ℤ (pos 10); ymin = neg_ℤ (pos 10); xmax = pos 30; ymax = pos 10 }

-- three ids that ascend
three_rise : (id : ℕ → ℕ) → 0 < id 0 → id 0 < id 1 → id 1 < id 2 → id 2 ≤ 2000000000 → Rising id 3
three_rise id a b c d = record { rises = rises; low = low; high = high }
  where
    rises : (i : ℕ) → i + 1 < 3 → id i < id (i + 1)
    rises zero h = b
    rises (suc zero) h = c
    rises (suc (suc i)) h = absurd (omega arith)

    low : (i : ℕ) → i < 3 → 0 < id i
    low zero h = a
    low (suc zero) h = omega arith
    low (suc (suc zero)) h = omega arith
    low (suc (suc (suc i))) h = absurd (omega arith)

    high : (i : ℕ) → i < 3 → id i ≤ 2000000000
    high zero h = omega arith
    high (suc zero) h = omega arith
    high (suc (suc zero)) h = d
    high (suc (suc (suc i))) h = absurd (omega arith)

-- and the circles of the document's three pairs lie in the box [Q4]
pub country_had :
    Country all_pumps all_chambers × Province all_pumps all_chambers around_both document_p document_q
    × (circle_in circle around_both (spot_at all_chambers 0) (spot_at all_pumps 0) ≡ true) × (circle_in circle around_both (spot_at all_chambers 0) (spot_at all_pumps 1) ≡ true) × (circle_in circle around_both (spot_at all_chambers 1) (spot_at all_pumps 1) ≡ true)
unfolding circle_in part_of in_box points_of spot_of tab num document_p document_q
country_had = (
  record { pumps_rise = three_rise (id_at all_pumps) (omega arith) (omega arith) (omega arith) (omega arith); chambers_rise = three_rise (id_at all_chambers) (omega arith) (omega arith) (omega arith) (omega arith) },
  record { p_opens = p_opens; q_opens = q_opens; pumps_are = refl; chambers_are = refl },
  refl,
  refl,
  refl,
)

-- Chamber 5 is settled there: on the map, of which all to the right of the box is behind pump house 2. Chamber 6 is not, and has a pair with pump house 3 outside.
abbrev pub whole_map : Boxed
whole_map = record { xmin = neg_ℤ (pos 10); ymin = neg_ℤ (pos 10); xmax = pos 200; ymax = pos 10 }

abbrev right_of : Boxed
right_of = record { xmin = pos 31; ymin = neg_ℤ (pos 10); xmax = pos 200; ymax = pos 10 }

right_of_lem : (z : Spot) → in_box whole_map z ≡ true → in_box around_both z ≡ false → in_box right_of z ≡ true
right_of_lem z on off =
    let i = box_holds whole_map z on in
    ⊎_elim
    (λ (h : z.x ≤ℤ pos 30). clash (of-border.box_has around_both z (record { left = i.left; right = h; low = i.low; high = i.high })) off)
    (λ (h : pos 30 <ℤ z.x). of-border.box_has right_of z (record { left = omega zl; right = i.right; low = i.low; high = i.high }))
    (total z.x (pos 30))

-- [Q5]
pub chamber_settled : Settled whole_map around_both (points_of document_p) (points_of document_q) 0 × (ring_pair_by circle all_pumps all_chambers 1 2 ≡ true)
unfolding points_of spot_of tab num document_p document_q ring_pair_by unblocked all_b same_spot blocks circle_in
chamber_settled = (
  record {
    shut = record { shut = λ z on off. inl (of-border.behind_box (points_of document_p) (spot_at all_chambers 0) right_of 1 (omega arith) (unfold drops_box in_box in refl) z (right_of_lem z on off)) };
    sure = sure;
  },
  refl,
)
  where
    sure : (i : ℕ) → i < 2 → ring_pair (at 1 0 0 ∷ at 2 10 0 ∷ []) (at 5 4 0 ∷ at 6 16 1 ∷ []) 0 i ≡ true → circle_in circle around_both (spot_at all_chambers 0) (spot_at (at 1 0 0 ∷ at 2 10 0 ∷ []) i) ≡ true
    sure zero h e = refl
    sure (suc zero) h e = refl
    sure (suc (suc i)) h e = absurd (omega arith)
