-- Demand 2: "The list holds a pump house and a chamber exactly if the ring rule makes them a pair, each once, by ids. It depends on the points alone."
-- For every two sheets that open, and in terms of what the shipped calls answer for them. P are the words of the pump houses' sheet, Q those of the chambers';
-- q is position j of Q, p is position i of P. The ring rule and the list stand in list/specs/RingList, on lists of points, with no tree in them.
-- The two sheets may be of different forms.
-- Where a call is lent words w for kept sets, `enough` says that they are as many as it needs; w' are the words at its exit, of which Lent says more.
--
--     kept_partner       the filter walk keeps every ring partner.  kept_count, kept_unused: its count is that of the positions kept, and unused bits are 0
--     clear_iff          the ring walk is clear exactly for a ring pair; point_blocks, side_blocks: what it names does block, and a side that it names is the first that qualifies
--     pair_exact         a ring pair is a kept position whose ring walk is clear, and no other
--     made_list          the pairs made with exact kept sets and ring walks are the list, as lists; filter_list: with those of the filter walk and the ring walk
--     page_pairs_lem         a page of any terms (t, kind, contractor) is that of their list: pairs, number, end mark.  page_opened_lem: the count beside it is that of the defined walks
--     pair_size          each pair that a page shows has the squared diameter of the places of its two records
--     pages_list         following the pages from (0, 0) gives the list.  list_ascends, list_once: it runs by q id, then p id, each once, by ids.  list_only: nothing else is in it
--     threshold_exact    a pair stands in t's list exactly if it stands in the full list and its chamber has at least t pairs there.  threshold_whole: such a chamber has all its pairs in it.  full_list: the list of 0 is the full list
--     partners_exact     the single question: the smaller of t and the number of the chamber's pairs in the list, and a yes exactly when that is t.  partners_yes: exactly when there are at least t
--     list_exact         two records are in the full list exactly if they are a ring pair
--     contractor_exact   two records are in a contractor's list exactly if they are in the undivided list and the chamber is the contractor's.  contractor_ring: and so, of no t, if they are a ring pair and it is
--     list_divided       each pair of the undivided list is in exactly one of the two contractors' lists, where the bytes are one 0 or 1 a chamber, and list_divided_only: nothing else is.  list_undivided: the list of 2 is that of all chambers
--     list_by_points     sheets with the same points give the same list, and the same pairs, number and end mark of every page
--     nearest_listed     a chamber and a pump house at the least distance are a pair.  never_empty, first-visit: so of two sheets that are not empty the list is not, and its first page shows a pair
--     opened_at_most_m   one walk of one sheet opens at most its nodes
--     run_pairs          a leaf's run stores the ring pairs of its chambers, by place, then p id, and touches no other slot.  run_exact, run_only: these and no others.  run-order: in this order.  run-size: each with its squared diameter
--     run_opened         the count beside it is that of the defined walks.  run-at-most-m: its walk of P opens at most the nodes of P
--     run_ruled          what the walk keeps for a chamber no other chamber of the leaf rules out.  run_skipped, run-opens: a box is skipped exactly when each chamber skips it
--     runs_list          a pair is listed exactly if the run of one leaf has it, and then no other leaf's has it.  stored-once: no run has it twice
--     own_exact          the self join of one sheet: two different records, lower id first, exactly if no other record blocks.  own-low: never the higher id first
--     length_lent        where pack answers 0, it was lent exactly as many words as a caller is told of n points
--     return_trip        pack, then open, gives the same points back, in the form that was asked for
-- Assumes nothing. [O6]
use Rattle.std.specs.Prelude.{Result, Ok}
use Rattle.plane.proofs.ProfileLaws.{circle_lawful, profile_lawful}
use Rattle.plane.specs.Profile.{circle, profile_of}
use mathlib.Core.Path.{◌≡◌, refl, sym, ap, ap₂, subst, ◌∙◌}
use mathlib.Core.Bool.{Bool, true, false, cond, not, ◌&&◌}
use mathlib.Core.Logic.{◌↔◌, ⊎_elim}
use mathlib.Core.List.{List, [], ◌++◌, Memᴰ}
use Prim.Native.Nat.{ℕ, ◌+◌, ◌*◌, ◌≤◌, ◌<◌}
use native.Mathlib.Omega.{arith}
use lib.Dec.{eqb, leb, ltb}
use lib.IntN.{ℤ, pos}
use lib.ListN.{length, get_or, take, drop, length-take}
use borrow.Author.Tests.{eq-eqb, eqb-true, le-leb, leb-true}
use Rattle.integers.proofs.Bools.{decide}
use Rattle.words.specs.Range.{last_id}
use Rattle.words.proofs.TabLaws.{at_tab}
use Rattle.plane.specs.Point.{Point, point_at, id_at, spot_at}
use Rattle.plane.specs.Rule.{drops}
use Rattle.sheet.specs.Layout.{points, nodes, edition, form}
use Rattle.sheet.specs.Nodes.{level_of, count_of}
use Rattle.sheet.specs.Places.{spot_of, point_of, points_of}
use Rattle.sheet.specs.Open.{sheet_no, Opens}
use Rattle.sheet.proofs.SheetLaws.{sheet_facts}
use Rattle.sheet.proofs.PointsLaws.{length_points, point_at_lem, spot_of_lem}
use Rattle.bits.specs.Set.{at, kept, card_in}
use Rattle.bits.proofs.LentLaws.{words_enough}
use Rattle.list.specs.declared.Key.{Key}
use Rattle.list.specs.declared.Pair.{Pair}
use Rattle.list.specs.declared.Page.{Page}
use Rattle.list.specs.declared.Terms.{Terms}
use Rattle.list.specs.Pairs.{start, none, key_of, ascends, after, chamber_pairs}
use Rattle.list.specs.Pages.{size_no, owners_no, page_of, page_pairs, shown, followed, last_threshold}
use Rattle.list.specs.Rows.{list_by, at_least, Rising}
use Rattle.list.specs.RingList.{ring_pair, size_of, pair_at, ring_list, ring_pair_by, pair_by, ring_list_by}
use Rattle.list.specs.Contractor.{one_each}
use Rattle.list.specs.Terms.{full, request_of, pair_for, listed_for, list_for, with_by, alone_by, of_contractor, profile_for}
use Rattle.list.proofs.ContractorLaws as of-contractor
use Rattle.list.proofs.ContractorLaws.{OneOf, mine_is, is_mine, contractor_most, owners_none}
use Rattle.list.proofs.PageLaws.{size_fits, page_shows, shown_member}
use Rattle.list.specs.Nearest.{Nearest}
use Rattle.list.proofs.Order.{after_all}
use Rattle.list.proofs.NearestLaws as of-nearest
use Rattle.list.proofs.TermsLaws as of-terms
use Rattle.list.proofs.TermsLaws.{kind_of, for_ascends, for_once, for_only, for_size, threshold_pairs, threshold_iff}
use Rattle.list.proofs.RowLaws.{list_same, Placed, ring_ascends, ring_iff, ring_size}
use Rattle.walk.specs.declared.Blocker.{Blocker}
use Rattle.walk.specs.declared.Edge.{Edge}
use Rattle.walk.specs.declared.Hit.TheVariants.{Point as PointHit, Side}
use Rattle.walk.specs.declared.Answer.{Answer}
use Rattle.walk.specs.FilterWalk.{Kept, so_far, filter_keeps, keeps_by, keeps_opened}
use Rattle.walk.specs.SelfWalk.{pass_keeps_by, pass_opened}
use Rattle.walk.specs.RingWalk.{pair_walk_by}
use Rattle.walk.specs.Claims.{BlocksPair, BlocksPairBySide, over_p, over_q}
use Rattle.walk.proofs.Meaning as of-walk
use Rattle.join.specs.Work.{page_opened}
use Rattle.join.specs.Sheets.{walks_by}
use Rattle.join.specs.Threshold.{smaller}
use Rattle.join.specs.Only.{page_walks}
use Rattle.join.proofs.Meaning as of-join
use Rattle.ring.specs.Lent.{need}
use Rattle.ring.specs.Numbers.{sheets_no, position_no, point_no, filter_no, ring_no, grid_no}
use Rattle.ring.specs.Answers.{asset_of, kept_for, filtered_to, walked_clear}
use Rattle.ring.specs.Page.{page_no, source_of, page_given}
use Rattle.ring.specs.Own.{own_no}
use Rattle.ring.specs.Partners.{partners_count, partners_given}
use Rattle.ring.specs.declared.Filtered.{Filtered}
use Rattle.ring.specs.declared.Paged.{Paged}
use Rattle.pack.proofs.PackLaws as of-lent
use Rattle.ring.specs.declared.Partnered.{Partnered}
use Rattle.words.proofs.FirstLaws.{none_applies, first_passes, first_last, answer_given}
use Rattle.ring.proofs.HeadLaws.{sheets_both, sheets_open}
use Rattle.ring.proofs.LentLaws.{bits_enough}
use Rattle.ring.proofs.NumberLaws.{ring_position_in}
use Rattle.ring.proofs.FilterLaws.{filter_given}
use Rattle.ring.proofs.RingLaws.{ring_given}
use Rattle.ring.proofs.PointLaws.{point_given}
use Rattle.ring.proofs.PageLaws as of-page
use Rattle.ring.proofs.OwnLaws as of-own
use Rattle.ring.proofs.PartnersLaws as of-partners
use Rattle.pack.specs.Pack.{points_in}
use Rattle.pack.specs.Claims.{Returned}
use Rattle.pack.proofs.ReturnTrip as of-pack
use Rattle.leaf.specs.LeafWalk.{chamber_at, chamber_spot, skips, leaf_visit, leaf_kept, leaf_keeps}
use Rattle.leaf.specs.LeafRun.{leaf_list, leaf_opened}
use Rattle.leaf.proofs.LeafLaws.{chamber_in, leaf_few, leaf_free, box_skipped, box_opened, leaf_opened_lem}
use Rattle.leaf.proofs.RunLaws as of-leaf
use Rattle.runs.specs.declared.Run.{Run}
use Rattle.runs.specs.Run.{leaf_no, run_need, run_no, run_given, run_answer}
use Rattle.runs.proofs.DecideLaws.{leaf_here}
use Rattle.runs.proofs.Meaning as of-run
use Rattle.runs.proofs.Once as of-runs
use Rattle.demands.specs.Promises.{OpenAnswers, PointAnswers, FilterAnswers, RingAnswers, PageAnswers, OwnAnswers, OfKind, TermsAnswers, PartnersAnswers, PackAnswers, LengthAnswers, RunAnswers}
use Rattle.demands.proofs.Demand1.{filter_no_lem}
use Rattle.demands.proofs.Lent.{walk_left, front_at, front_kept, front_card}
use Rattle.demands.proofs.ByRow.{InTurn, in_turn}
use Rattle.ring.specs.declared.Asset.{Asset}

-- the words are a sheet: "every well-formed sheet"
abbrev pub WellFormed : List ℤ → Type 0
WellFormed w = sheet_no w ≡ 0

-- a key with ids 0 to 2,000,000,000, a size 1 to 16, and a t 0 to 60,000
pub record InRange (key : Key) (size t : ℕ) : Type 0 where
  pub q_in : key.q ≤ last_id
  pub p_in : key.p ≤ last_id
  pub some : 1 ≤ size
  pub most : size ≤ 16
  pub fair : t ≤ last_threshold

-- a contractor 0 to 2, with one 0 or 1 a chamber, of n chambers, or for 2 with no bytes
pub record Whose (c : ℕ) (o : List ℕ) (n : ℕ) : Type 0 where
  pub whose : c ≤ 2
  pub bytes : owners_no c o n ≡ 0

pub whose_all : (n : ℕ) → Whose 2 [] n
whose_all n = record { whose = omega arith; bytes = sym (owners_none 2 [] n refl refl) }

facts : (w : List ℤ) → WellFormed w → Opens w (points w) (nodes w)
facts w e = sheet_facts w e

module _ (P Q : List ℤ) (p_opens : WellFormed P) (q_opens : WellFormed Q) where
  -- no number applies to either
  pub sheets : sheets_no P Q ≡ 0
  sheets = sheets_both P Q p_opens q_opens

  -- ---- the filter walk for q

  module _ (j : ℕ) (j_in : j < points Q) where
    module _ (w : List ℕ) (enough : need P ≤ length w) (r : Filtered) (w' : List ℕ) (a : FilterAnswers P Q j w r w') where
      filter_served : filter_no P Q j (length w) ≡ 0
      unfolding filter_no
      filter_served = sheets_open P Q _ sheets ∙ first_passes (position_no Q j) _ (ring_position_in Q j j_in) ∙ first_last _ ∙ bits_enough (need P) (length w) enough

      filter_is : r ≡ filtered_to (kept_for P Q j)
      filter_is = a.promised.0 ∙ sym (filter_given P Q j w filter_served).0

      -- what it keeps stands in the first words
      set_is : (length (kept_for P Q j).bits ≡ need P) × (w' ≡ (kept_for P Q j).bits ++ drop (need P) w)
      set_is = walk_left P Q j w r w' a ((filter_no_lem P Q j w r w' a).0 ∙ filter_served)

      bits_are : (i : ℕ) → i < points P → kept w' i ≡ filter_keeps (need P) P (spot_of Q j) i
      bits_are i h = front_kept (kept_for P Q j).bits w w' (need P) set_is.0 set_is.1 i (omega (arith, words_enough (points P)))

      -- "For every position, a ring partner of q is kept." [W8]
      pub kept_partner : (i : ℕ) → i < points P → ring_pair (points_of P) (points_of Q) j i ≡ true → kept w' i ≡ true
      kept_partner i i_in e = bits_are i i_in ∙ of-walk.walk_kept_partner circle circle_lawful refl (need P) P Q (facts P p_opens) (words_enough (points P)) j i j_in i_in e

      -- "with the number of bits set": the number of positions of P that are kept; "unused bits are 0", of the words that are needed. [W6]
      pub kept_count : r.count ≡ card_in w' (points P) 0
      unfolding filtered_to
      kept_count =
          ap (λ (x : Filtered). x.count) filter_is
          ∙ of-walk.count_kept (need P) P (spot_of Q j) (facts P p_opens) (words_enough (points P))
          ∙ sym (front_card (kept_for P Q j).bits w w' (need P) set_is.0 set_is.1 (points P) 0 (omega (arith, words_enough (points P))))

      -- [W7]
      pub kept_unused : (i : ℕ) → points P ≤ i → i < 64 * need P → at w' i ≡ 0
      kept_unused i h g =
          front_at (kept_for P Q j).bits w w' (need P) set_is.0 set_is.1 i g
          ∙ of-walk.unused_zero (need P) P (spot_of Q j) (facts P p_opens) (words_enough (points P)) i h

      -- "nodes opened never exceed m in one walk of one sheet": the filter walk's. [W22]
      pub opened_at_most_m : r.opened ≤ nodes P
      unfolding filtered_to
      opened_at_most_m = subst (λ (x : Filtered). x.opened ≤ nodes P) (sym filter_is) (of-walk.filter_opened_at_most_m (need P) P (spot_of Q j) (facts P p_opens))

    -- ---- the ring walk for q and p

    -- of either profile: of the street grid for sheets of form 1
    module _ (i : ℕ) (i_in : i < points P) (g : Bool) (forms : grid_no g P Q ≡ 0) where
      ring_is : (r : Result Answer ℕ) → RingAnswers P Q j i g r → r ≡ Ok (pair_walk_by (profile_of g) P Q j i)
      unfolding ring_no
      ring_is r a =
          a.promised
          ∙ sym (ring_given P Q j i g (pair_walk_by (profile_of g) P Q j i) (sheets_open P Q _ sheets ∙ first_passes (grid_no g P Q) _ forms ∙ first_passes (position_no Q j) _ (ring_position_in Q j j_in) ∙ first_last _ ∙ ring_position_in P i i_in) refl)

      answer : (s : Answer) → RingAnswers P Q j i g (Ok s) → s ≡ pair_walk_by (profile_of g) P Q j i
      answer s a = let z = ring_is (Ok s) a in cc

      -- "(q, p) is a ring pair when no other record of P or Q blocks it": the ring walk is clear exactly then. [W16]
      pub clear_iff : (r : Result Answer ℕ) → RingAnswers P Q j i g r → walked_clear r ≡ ring_pair_by (profile_of g) (points_of P) (points_of Q) j i
      clear_iff r a = ap walked_clear (ring_is r a) ∙ of-walk.pair_clear (profile_of g) (profile_lawful g) P Q (facts P p_opens) (facts Q q_opens) j i j_in i_in

      -- "blocked by a point (its set and position)": the record that it names blocks, and so stands at the place of neither end. [W16, E2]
      pub point_blocks : (s : Answer) (x : Blocker) → RingAnswers P Q j i g (Ok s) → s.hit ≡ PointHit x → BlocksPair (profile_of g) P Q j i x.set x.position
      point_blocks s x a e = of-walk.pair_point (profile_of g) (profile_lawful g) P Q (facts P p_opens) (facts Q q_opens) j i x (ap (λ (z : Answer). z.hit) (sym (answer s a)) ∙ e)

      -- "or by a box side (its set and node number)"; "Where a box side blocks, the answer shall also name the side, the first that qualifies of left, bottom, right,
      -- top": of the node's box that it names, both corners of the side that it names lie strictly inside, those of no side before it do, and on it stands such a record.
      -- [W14, E1, A5]
      pub side_blocks : (s : Answer) (x : Edge) → RingAnswers P Q j i g (Ok s) → s.hit ≡ Side x → BlocksPairBySide (profile_of g) P Q j i x.set x.node x.side
      side_blocks s x a e = of-walk.pair_side (profile_of g) (profile_lawful g) P Q (facts P p_opens) (facts Q q_opens) j i x (ap (λ (z : Answer). z.hit) (sym (answer s a)) ∙ e)

      -- "Q is walked first, then P if Q is clear; the counts add up": each of the two opens at most the nodes of its sheet, and the answer's count is at most the nodes of both.
      -- [W22]
      pub ring_opened_at_most_m : (s : Answer) → RingAnswers P Q j i g (Ok s) → ((over_q (profile_of g) P Q j i).opened ≤ nodes Q) × ((over_p (profile_of g) P Q j i).opened ≤ nodes P) × (s.opened ≤ nodes P + nodes Q)
      ring_opened_at_most_m s a =
          (of-walk.walk_ring_opened_at_most_m (profile_of g) (profile_lawful g) 1 Q (facts Q q_opens) (spot_of Q j) (spot_of P i), of-walk.walk_ring_opened_at_most_m (profile_of g) (profile_lawful g) 0 P (facts P p_opens) (spot_of Q j) (spot_of P i), subst (λ (x : Answer). x.opened ≤ nodes P + nodes Q) (sym (answer s a)) (of-walk.pair_opened (profile_of g) (profile_lawful g) P Q (facts P p_opens) (facts Q q_opens) j i))

    -- what the circle keeps is what the filter walk keeps
    keeps_are : (i : ℕ) → i < points P → (w : List ℕ) → need P ≤ length w → (f : Filtered) (w' : List ℕ) → FilterAnswers P Q j w f w' → keeps_by circle (need P) P (spot_of Q j) i ≡ kept w' i
    unfolding keeps_by
    keeps_are i i_in w enough f w' a = sym (bits_are w enough f w' a i i_in)

    -- A ring pair of the circle is a kept position whose ring walk is clear, and no other is.
    pub pair_exact : (i : ℕ) → i < points P → (w : List ℕ) → need P ≤ length w → (f : Filtered) (w' : List ℕ) (r : Result Answer ℕ) → FilterAnswers P Q j w f w' → RingAnswers P Q j i false r
        → ring_pair (points_of P) (points_of Q) j i ≡ (kept w' i && walked_clear r)
    pair_exact i i_in w enough f w' r a b =
        of-walk.walk_pair_exact circle circle_lawful P Q (facts P p_opens) (facts Q q_opens) j i j_in i_in (need P) (words_enough (points P))
        ∙ ap₂ ◌&&◌ (keeps_are i i_in w enough f w' a) (sym (ap walked_clear (ring_is i i_in false (of-page.circle_any_form P Q) r b)))

  -- ---- pages

  rise_p : Rising (id_at (points_of P)) (length (points_of P))
  rise_p = of-join.points_rise (facts P p_opens)

  rise_q : Rising (id_at (points_of Q)) (length (points_of Q))
  rise_q = of-join.points_rise (facts Q q_opens)

  -- So the pairs made with kept sets and ring walks, chamber by chamber, are the list: an equation of lists, of whatever kept sets and walks are exact. [W8]
  pub made_list : (keeps clears : ℕ → ℕ → Bool) → ((j i : ℕ) → j < points Q → i < points P → ring_pair (points_of P) (points_of Q) j i ≡ (keeps j i && clears j i))
      → list_by (λ j i. keeps j i && clears j i) (pair_at (points_of P) (points_of Q)) (points P) (points Q) ≡ ring_list (points_of P) (points_of Q)
  unfolding ring_list_by
  made_list keeps clears exact =
      list_same (λ j i. keeps j i && clears j i) (ring_pair (points_of P) (points_of Q)) (pair_at (points_of P) (points_of Q)) (points P) (points Q) (λ j i h g. sym (exact j i h g))
      ∙ ap₂ (λ (n m : ℕ). list_by (ring_pair (points_of P) (points_of Q)) (pair_at (points_of P) (points_of Q)) n m) (sym (length_points P)) (sym (length_points Q))

  -- of the filter walk, for each chamber j lent the words `w j`, which are `w' j` after it [W8]
  pub filter_list : (w : ℕ → List ℕ) → ((j : ℕ) → need P ≤ length (w j)) → (f : ℕ → Filtered) (w' : ℕ → List ℕ) (r : ℕ → ℕ → Result Answer ℕ)
      → ((j : ℕ) → j < points Q → FilterAnswers P Q j (w j) (f j) (w' j)) → ((j i : ℕ) → j < points Q → i < points P → RingAnswers P Q j i false (r j i))
      → list_by (λ j i. kept (w' j) i && walked_clear (r j i)) (pair_at (points_of P) (points_of Q)) (points P) (points Q) ≡ ring_list (points_of P) (points_of Q)
  filter_list w enough f w' r a b =
      made_list (λ j i. kept (w' j) i) (λ j i. walked_clear (r j i)) (λ j i h g. pair_exact j h i g (w j) (enough j) (f j) (w' j) (r j i) (a j h) (b j i h g))

  -- ---- pages, of any terms: of two sheets, the full list or that of t; or of one sheet in both places, the self join

  module _ (a : Terms) (o : List ℕ) where
    -- the list of the terms, of these points, by the owner bytes o
    abbrev pub List-of : List Pair
    List-of = list_for a o (points_of P) (points_of Q)

    module _ (key : Key) (size : ℕ) (w : List ℕ) (r : Paged) (w' : List ℕ) (answers : TermsAnswers a o P Q key size w r w') where
      -- what is answered with 0, and what is in range with words enough, is the page of the list with the count of the walks
      pub answered : r.number ≡ 0 → (1 ≤ size) × (size ≤ 16) × (a.contractor ≤ 2) × (r ≡ page_given a o P Q key size)
      unfolding page_no own_no
      answered fine = go a.own refl answers
        where
          go : (k : Bool) → a.own ≡ k → OfKind k a o P Q key size w r w' → (1 ≤ size) × (size ≤ 16) × (a.contractor ≤ 2) × (r ≡ page_given a o P Q key size)
          go false e x =
              let ask = request_of a key size in
              let no : page_no P Q o ask (length w) ≡ 0 = sym (of-page.ring_page_no P Q o ask (length w)) ∙ sym (ap (λ (y : Paged). y.number) x.promised.0) ∙ fine in
              let s = size_fits size ((none_applies _).0 no 6) in
              (s.0, s.1, contractor_most false a.contractor ((none_applies _).0 no 2), x.promised.0 ∙ of-page.page_answered P Q o ask (length w) no ∙ ap (λ (y : Terms). page_given y o P Q key size) (kind_of a false e))
          go true e x =
              let no : own_no P key size a.grid (length w) ≡ 0 = sym (of-own.ring_own_no P key size a.grid (length w)) ∙ sym (ap (λ (y : Paged). y.number) x.4.promised.0) ∙ fine in
              let s = size_fits size ((none_applies _).0 no 3) in
              (s.0, s.1, omega (arith, x.2), x.4.promised.0 ∙ of-own.own_answered P key size a.grid (length w) no ∙ ap₂ (λ (y : List ℤ) (b : List ℕ). page_given (alone_by a.grid) b P y key size) x.0 (sym x.3) ∙ ap (λ (y : Terms). page_given y o P Q key size) (λ i. record { threshold = sym x.1 i; contractor = sym x.2 i; own = sym e i; grid = a.grid }))

      module _ (h : InRange key size a.threshold) (of-whom : Whose a.contractor o (points Q)) (forms : grid_no a.grid P Q ≡ 0) (enough : need P ≤ length w) where
        -- a key, a size, a t and a contractor in range are served, with the owner bytes of a contractor, of sheets of form 1 for the street grid, with words enough
        pub page_served : r.number ≡ 0
        page_served = go a.own answers
          where
            go : (k : Bool) → OfKind k a o P Q key size w r w' → r.number ≡ 0
            go false x = unfold page_given in ap (λ (y : Paged). y.number) (x.promised.0 ∙ of-page.ring_page_served P Q o (request_of a key size) (length w) sheets of-whom.whose of-whom.bytes forms h.q_in h.p_in h.some h.most h.fair enough)
            go true x = unfold page_given in ap (λ (y : Paged). y.number) (x.4.promised.0 ∙ of-own.own_served P key size a.grid (length w) p_opens (subst (λ (R : List ℤ). grid_no a.grid P R ≡ 0) (sym x.0) forms) h.q_in h.p_in h.some h.most enough)

        page_is : r ≡ page_given a o P Q key size
        page_is = (answered page_served).3

        -- "The page holds both editions, the key, the first `size` ring pairs strictly after the key (fewer if fewer follow), their number and an end mark, set exactly
        -- when no ring pair follows the last one shown, or follows the key if none is shown." "Unused pairs are three zeros." "Pages and books now carry t, 0 for the full
        -- list"; of a self join "with one edition in both fields and t 0"; "Pages and books carry the contractor, or 2 for an undivided list". [P3, P4, T4, J4, J5, U9, U11, D2]
        pub page_pairs_lem : (r.number ≡ 0) × (r.page ≡ page_of (source_of P Q a) List-of key size)
        unfolding page_given
        page_pairs_lem = (ap (λ (x : Paged). x.number) page_is, ap (λ (x : Paged). x.page) page_is)

        -- "Each pair in pages [..] now has its squared diameter beside the ids", of the street grid "the squared sum of absolute differences": that of the places of the two records
        -- with these ids. [Z1]
        pub pair_size : (v : Pair) → Memᴰ v (page_pairs r.page)
            → (j i : ℕ) → j < points Q → i < points P → id_at (points_of Q) j ≡ v.q → id_at (points_of P) i ≡ v.p → v.size ≡ (profile_for a).size (spot_of Q j) (spot_of P i)
        pair_size v m j i j_in i_in e f =
            let s : page_pairs r.page ≡ shown List-of key size = ap page_pairs page_pairs_lem.1 ∙ page_shows key (source_of P Q a) List-of size in
            for_size a o (points_of P) (points_of Q) rise_p rise_q v (shown_member List-of key size v (subst (Memᴰ v) s m)) j i (omega (arith, length_points Q)) (omega (arith, length_points P)) e f
            ∙ ap₂ (profile_for a).size (spot_of_lem Q j j_in) (spot_of_lem P i i_in)

        -- "Beside the page stands its count of nodes opened": that of the walks as they are defined, the filter walks' kept sets on the words that are needed.
        -- "With t above 0 a page's count takes in all kept partners of each chamber reached, the last one too": `walksFor` of join/specs/Threshold.
        -- Of a self join "the filter passes over q, and kept partners of higher id get one ring walk": `walksBy` of join/specs/Sheets.
        -- Of a contractor's list "Only its own chambers are filtered and counted": `pageWalks` of join/specs/Only. [P8, T7, J4, J9, U7]
        pub page_opened_lem : r.opened ≡ page_opened (page_walks a o (need P) P Q (points P)) key size (points P) (points Q)
        unfolding page_given
        page_opened_lem = ap (λ (x : Paged). x.opened) page_is

    -- Of a profile that the half-plane filter is not used for, the street grid: "all of P is kept and no filter nodes are counted". So a page's count is that of ring walks alone.
    -- [A6, A7]
    pub unfiltered_count : (profile_for a).half ≡ false → a.own ≡ false → (words j i : ℕ) → ((walks_by a words P Q).kept j i ≡ ltb i (points P)) × ((walks_by a words P Q).kept_opened j ≡ 0)
    unfolding keeps_by keeps_opened
    unfiltered_count h two words j i = rw (two, h) (refl, refl)

    -- The same of a self join: all of its sheet is kept but q itself, and of these the ones of a higher id are q's partners; no filter nodes are counted. [A6, A7]
    pub own_unfiltered_count : (profile_for a).half ≡ false → a.own ≡ true → (words j i : ℕ)
        → ((walks_by a words P Q).kept j i ≡ (ltb i (points P) && not (eqb i j)) && ltb (id_at (points_of Q) j) (id_at (points_of P) i)) × ((walks_by a words P Q).kept_opened j ≡ 0)
    unfolding pass_keeps_by pass_opened
    own_unfiltered_count h one words j i = rw (one, h) (refl, refl)

    -- Following the pages from (0, 0), each next key the last pair shown, whatever the sizes from 1 to 16, gives the whole list, each pair once. `ask` is the page
    -- request: for every key and size it gives an answer that the promise admits, for some words that are lent then, enough of them. [P4, T4, J4, A10, U11, D2]
    pub pages_list : Whose a.contractor o (points Q) → grid_no a.grid P Q ≡ 0 → a.threshold ≤ last_threshold → (w : Key → ℕ → List ℕ) → ((key : Key) (size : ℕ) → need P ≤ length (w key size)) → (ask : Key → ℕ → Paged) (w' : Key → ℕ → List ℕ)
        → ((key : Key) (size : ℕ) → TermsAnswers a o P Q key size (w key size) (ask key size) (w' key size))
        → (sizes : ℕ → ℕ) → ((k : ℕ) → size_no (sizes k) ≡ 0)
        → followed (length List-of) sizes (λ key size. (ask key size).page) start ≡ List-of
    pages_list of-whom forms most w enough ask w' x sizes s =
        of-page.followed_list a o P Q (facts P p_opens) (facts Q q_opens) ask
        (λ k n qi pi some few. page_is k n (w k n) (ask k n) (w' k n) (x k n) (record { q_in = qi; p_in = pi; some = some; most = few; fair = most }) of-whom forms (enough k n)) sizes s

    -- "The list runs by q id, then p id": each pair stands strictly after the one before it, [R4, J2, U11, D2]
    pub list_ascends : ascends start List-of ≡ true
    list_ascends = for_ascends a o (points_of P) (points_of Q) rise_p rise_q

    -- so "each once, by ids": no two pairs of it have the same ids. [R5, J2, U11, D2]
    pub list_once : (k h : ℕ) → k < h → h < length List-of → key_of (get_or List-of k none) ≡ key_of (get_or List-of h none) → ⊥
    list_once = for_once a o (points_of P) (points_of Q) rise_p rise_q

    -- It holds no pair but those that the rule of the terms makes of two records, each with the size of their places. [R3, U11, D2]
    pub list_only : (v : Pair) → Memᴰ v List-of → Placed (listed_for a o (points_of P) (points_of Q)) (pair_by (profile_for a) (points_of P) (points_of Q)) (length (points_of P)) (length (points_of Q)) v
    list_only = for_only a o (points_of P) (points_of Q) rise_p rise_q

    -- ---- two contractors

    -- "A contractor's list is the ring pairs of its own chambers": of any terms, two records stand in a contractor's list exactly if they stand in the undivided list of the same other terms, and the
    -- chamber's byte says that it is the contractor's. [U1, U2, U11]
    pub contractor_exact : a.contractor < 2 → (j i : ℕ) → j < points Q → i < points P
        → Memᴰ (pair_by (profile_for a) (points_of P) (points_of Q) j i) List-of
        ↔ (Memᴰ (pair_by (profile_for a) (points_of P) (points_of Q) j i) (list_for (of_contractor 2 a) [] (points_of P) (points_of Q)) × (get_or o j 2 ≡ a.contractor))
    contractor_exact one j i j_in i_in =
        let z = of-contractor.contractor_iff a o (points_of P) (points_of Q) rise_p rise_q j i (omega (arith, length_points Q)) (omega (arith, length_points P)) in
        (λ m. ((z.0 m).0, mine_is a.contractor one o j (z.0 m).1), λ m. z.1 (m.0, is_mine a.contractor one o j m.1))

    -- Each pair of the undivided list stands in exactly one of the two contractors' lists, where the bytes are one 0 or 1 a chamber; no other pair does. [U3]
    pub list_divided : one_each o (points Q) ≡ true → (v : Pair) → Memᴰ v (list_for (of_contractor 2 a) [] (points_of P) (points_of Q))
        → OneOf (Memᴰ v (list_for (of_contractor 0 a) o (points_of P) (points_of Q))) (Memᴰ v (list_for (of_contractor 1 a) o (points_of P) (points_of Q)))
    list_divided each = of-contractor.divided a o (points_of P) (points_of Q) rise_p rise_q (ap (one_each o) (length_points Q) ∙ each)

    -- [U3]
    pub list_divided_only : (v : Pair) → Memᴰ v List-of → Memᴰ v (list_for (of_contractor 2 a) [] (points_of P) (points_of Q))
    list_divided_only = of-contractor.contractor_within a o (points_of P) (points_of Q) rise_p rise_q

    -- "or 2 for an undivided list": the list of all chambers, whatever the bytes [U4]
    pub list_undivided : a.contractor ≡ 2
        → List-of ≡ list_by (at_least (pair_for a (points_of P) (points_of Q)) (pair_by (profile_for a) (points_of P) (points_of Q)) a.threshold (length (points_of P))) (pair_by (profile_for a) (points_of P) (points_of Q)) (length (points_of P)) (length (points_of Q))
    list_undivided = of-contractor.undivided a o (points_of P) (points_of Q)

  -- "0 for the full list" [T5]
  pub full_list : (g : Bool) → list_for (with_by g 0) [] (points_of P) (points_of Q) ≡ ring_list_by (profile_of g) (points_of P) (points_of Q)
  full_list g = of-terms.full_ring_list g [] (points_of P) (points_of Q)

  -- ---- which chambers have at least t partners

  -- the pairs of the chamber with this id in the full list
  abbrev pub pairs_with : ℕ → List Pair
  pairs_with id = chamber_pairs id (ring_list (points_of P) (points_of Q))

  -- the size of a listed pair, by the words of the sheets
  listed_size : (v : Pair) → Memᴰ v (ring_list (points_of P) (points_of Q))
      → (j i : ℕ) → j < points Q → i < points P → id_at (points_of Q) j ≡ v.q → id_at (points_of P) i ≡ v.p → v.size ≡ size_of (spot_of Q j) (spot_of P i)
  listed_size v m j i j_in i_in e f =
      ring_size circle (points_of P) (points_of Q) rise_p rise_q v m j i (omega (arith, length_points Q)) (omega (arith, length_points P)) e f
      ∙ ap₂ size_of (spot_of_lem Q j j_in) (spot_of_lem P i i_in)

  -- A pair stands in the list of t exactly if it stands in the full list of its profile and its chamber has at least t pairs there. [T3]
  pub threshold_exact : (g : Bool) (t : ℕ) (v : Pair) → Memᴰ v (list_for (with_by g t) [] (points_of P) (points_of Q))
      ↔ (Memᴰ v (ring_list_by (profile_of g) (points_of P) (points_of Q)) × (t ≤ length (chamber_pairs v.q (ring_list_by (profile_of g) (points_of P) (points_of Q)))))
  threshold_exact g t v = threshold_iff (points_of P) (points_of Q) rise_p rise_q g t [] v

  -- "list all such chambers by id with all their pairs": of a chamber that has at least t pairs the list of t has them all, of another none. [T3]
  pub threshold_whole : (g : Bool) (t j : ℕ) → j < points Q
      → chamber_pairs (id_at (points_of Q) j) (list_for (with_by g t) [] (points_of P) (points_of Q))
      ≡ cond (leb t (length (chamber_pairs (id_at (points_of Q) j) (ring_list_by (profile_of g) (points_of P) (points_of Q))))) (chamber_pairs (id_at (points_of Q) j) (ring_list_by (profile_of g) (points_of P) (points_of Q))) []
  threshold_whole g t j j_in = threshold_pairs (points_of P) (points_of Q) rise_p rise_q g t [] j (omega (arith, length_points Q))

  -- "For one q id and a t, give the smaller of t and the number of its pairs in the list, and a yes exactly when that is t."
  module _ (id t : ℕ) (w : List ℕ) (r : Partnered) (w' : List ℕ) (a : PartnersAnswers P Q id t w r w') (j : ℕ) (j_in : j < points Q) (named : id_at (points_of Q) j ≡ id) (some : 1 ≤ t) (most : t ≤ last_threshold) (enough : need P ≤ length w) where
    partners_are : r ≡ partners_given P Q id t
    partners_are = a.promised.0 ∙ of-partners.partners_served P Q id t (length w) sheets j (omega (arith, length_points Q)) named some most enough

    -- [T1, T2]
    pub partners_exact : (r.number ≡ 0) × (r.count ≡ smaller t (length (pairs_with id))) × (r.enough ≡ eqb r.count t)
    unfolding partners_given partners_count
    partners_exact = (
      ap (λ (x : Partnered). x.number) partners_are,
      ap (λ (x : Partnered). x.count) partners_are,
      subst (λ (x : Partnered). x.enough ≡ eqb x.count t) (sym partners_are) refl,
    )

    -- so the yes says that the chamber has at least t pairs in the list [T2]
    pub partners_yes : (r.enough ≡ true) ↔ (t ≤ length (pairs_with id))
    unfolding smaller
    partners_yes = (λ e. there (eqb-true r.count t (sym partners_exact.2 ∙ e)), λ l. partners_exact.2 ∙ eq-eqb r.count t (partners_exact.1 ∙ back l))
      where
        back : t ≤ length (pairs_with id) → smaller t (length (pairs_with id)) ≡ t
        back l = rw (le-leb t (length (pairs_with id)) l)

        there : r.count ≡ t → t ≤ length (pairs_with id)
        there e =
            ⊎_elim
            (λ (x : leb t (length (pairs_with id)) ≡ true). leb-true t (length (pairs_with id)) x)
            (λ (x : leb t (length (pairs_with id)) ≡ false).
            let z : smaller t (length (pairs_with id)) ≡ length (pairs_with id) = rw x in
            omega (arith, z, partners_exact.1, e))
            (decide (leb t (length (pairs_with id))))

  -- ---- the list

  -- "The list holds a pump house and a chamber exactly if the ring rule makes them a pair", of either profile: [R3, Y3, A10, D2]
  pub list_exact : (g : Bool) (j i : ℕ) → j < points Q → i < points P
      → Memᴰ (pair_by (profile_of g) (points_of P) (points_of Q) j i) (ring_list_by (profile_of g) (points_of P) (points_of Q)) ↔ (ring_pair_by (profile_of g) (points_of P) (points_of Q) j i ≡ true)
  list_exact g j i j_in i_in =
      ring_iff (profile_of g) (points_of P) (points_of Q) rise_p rise_q j i (omega (arith, length_points Q)) (omega (arith, length_points P))

  -- "A contractor's list is the ring pairs of its own chambers; all points still block for both": of no t, in the words of the ring rule, which asks nothing of the owners
  -- [U1, U2]
  pub contractor_ring : (g : Bool) (c : ℕ) → c < 2 → (o : List ℕ) (j i : ℕ) → j < points Q → i < points P
      → Memᴰ (pair_by (profile_of g) (points_of P) (points_of Q) j i) (list_for (of_contractor c (with_by g 0)) o (points_of P) (points_of Q))
      ↔ ((ring_pair_by (profile_of g) (points_of P) (points_of Q) j i ≡ true) × (get_or o j 2 ≡ c))
  contractor_ring g c one o j i j_in i_in =
      let v = pair_by (profile_of g) (points_of P) (points_of Q) j i in
      let z = contractor_exact (of_contractor c (with_by g 0)) o one j i j_in i_in in
      let e = list_exact g j i j_in i_in in
      (λ m. (e.0 (subst (Memᴰ v) (full_list g) (z.0 m).0), (z.0 m).1), λ x. z.1 (subst (Memᴰ v) (sym (full_list g)) (e.1 x.0), x.1))

  -- ---- nobody is left with an empty sheet: of the circle. Of the street grid it is not so: `always-visit-wrong` of refuted has two pump houses and a chamber with no visit.

  -- "every pump house and chamber at the least distance of all such couples is a ring pair", and so it is listed; [R6]
  pub nearest_listed : (j i : ℕ) → Nearest (points_of P) (points_of Q) j i
      → (ring_pair (points_of P) (points_of Q) j i ≡ true) × Memᴰ (pair_at (points_of P) (points_of Q) j i) (ring_list (points_of P) (points_of Q))
  nearest_listed j i n =
      let e = of-nearest.nearest_pair (points_of P) (points_of Q) j i n in
      (e, (list_exact false j i (omega (arith, n.q_in, length_points Q)) (omega (arith, n.p_in, length_points P))).1 e)

  -- "so the list is not empty", of two sheets that are not,
  module _ (some-p : 0 < points P) (some-q : 0 < points Q) where
    -- [R7]
    pub never_empty : 0 < length (ring_list (points_of P) (points_of Q))
    never_empty = of-nearest.list_never_empty (points_of P) (points_of Q) (omega (arith, length_points P)) (omega (arith, length_points Q))

    -- and its first page shows a pair. [R7]
    pub first_visit : (size : ℕ) (w : List ℕ) → need P ≤ length w → (r : Paged) (w' : List ℕ) → InRange start size 0 → PageAnswers P Q [] (request_of full start size) w r w' → 0 < r.page.count
    unfolding page_of shown
    first_visit size w enough r w' h a =
        let l = ring_list (points_of P) (points_of Q) in
        let all : after start l ≡ l = after_all start l (ring_ascends circle (points_of P) (points_of Q) (of-join.points_rise (facts P p_opens)) (of-join.points_rise (facts Q q_opens))) in
        let e : r.page.count ≡ length (take size l) = ap (λ (g : Page). g.count) ((page_pairs_lem full [] start size w r w' a h (whose_all (points Q)) (of-page.circle_any_form P Q) enough).1 ∙ ap (λ (x : List Pair). page_of (source_of P Q full) x start size) (full_list false)) ∙ ap (λ (x : List Pair). length (take size x)) all in
        omega (arith, e, length-take size l, never_empty, h.some)

  -- ---- one run per leaf

  -- v is a leaf of Q, "named by node number"
  pub record LeafOf (v : ℕ) : Type 0 where
    pub here : v < nodes Q
    pub level : level_of Q (points Q) v ≡ 0

  -- "another chamber of the leaf rules out a partner just as a kept pump house does": what the leaf's walk, whose nodes are counted, keeps for a chamber is ruled out by no
  -- other chamber of the leaf. [L4]
  pub run_ruled : (v : ℕ) → LeafOf v → (k i : ℕ) → k < count_of Q (points Q) v → i < points P → leaf_keeps (chamber_spot Q v) (count_of Q (points Q) v) (need P) P k i ≡ true
      → (h : ℕ) → h < count_of Q (points Q) v → (h ≡ k → ⊥) → drops (chamber_spot Q v k) (chamber_spot Q v h) (spot_of P i) ≡ false
  run_ruled v o k i k-in i_in =
      leaf_free (chamber_spot Q v) (count_of Q (points Q) v) (need P) P (facts P p_opens) (leaf_few Q (facts Q q_opens) v o.here o.level) (words_enough (points P)) k i k-in (omega (arith, words_enough (points P)))

  -- "A box is skipped exactly when each chamber of the leaf skips it": then no node is opened and nothing is kept; as soon as one does not, it is opened and counted. [L5]
  pub run_skipped : (v j : ℕ) (go : Kept → Kept) (s : Kept) → ((k : ℕ) → k < count_of Q (points Q) v → skips (chamber_spot Q v) (count_of Q (points Q) v) (need P) P (points P) j s.bits k ≡ true)
      → leaf_visit (chamber_spot Q v) (count_of Q (points Q) v) (need P) P (points P) j go s ≡ s
  run_skipped v = box_skipped (chamber_spot Q v) (count_of Q (points Q) v) (need P) P (points P)

  -- [L5]
  pub run_opens : (v j : ℕ) (go : Kept → Kept) (s : Kept) (k : ℕ) → k < count_of Q (points Q) v → skips (chamber_spot Q v) (count_of Q (points Q) v) (need P) P (points P) j s.bits k ≡ false
      → leaf_visit (chamber_spot Q v) (count_of Q (points Q) v) (need P) P (points P) j go s ≡ go (so_far s.bits (s.opened + 1))
  run_opens v = box_opened (chamber_spot Q v) (count_of Q (points Q) v) (need P) P (points P)

  module _ (v : ℕ) (o : LeafOf v) (slots : List Pair) (w : List ℕ) (r : Run) (slots' : List Pair) (w' : List ℕ) (a : RunAnswers P Q v slots w r slots' w') where
    leaf_there : leaf_no Q v ≡ 0
    leaf_there = sym (leaf_here Q v (facts Q q_opens) refl o.here o.level)

    number_is : r.number ≡ run_no P Q v (length slots) (length w)
    number_is = ap (λ (x : Run). x.number) a.0 ∙ of-runs.run_call_no P Q v (length slots) (length w)

    -- "24 bit slice too short": exactly when fewer words are lent than sixteen times as many as the points of P need
    pub run_short : (r.number ≡ 24) ↔ (length w < run_need P)
    run_short = let t = of-run.run_call_short P Q v (length slots) (length w) sheets leaf_there in (λ x. t.0 (sym number_is ∙ x), λ x. number_is ∙ t.1 x)

    -- "then 16 exactly when the pairs outnumber the slots", with words enough [L9]
    pub run_sixteen : run_need P ≤ length w → (r.number ≡ 16) ↔ (length slots < length (leaf_list P Q v))
    run_sixteen enough = let t = of-run.run_call_sixteen P Q v (length slots) (length w) sheets leaf_there enough in (λ x. t.0 (sym number_is ∙ x), λ x. number_is ∙ t.1 x)

    -- with words enough, and a slot for each pair
    module _ (enough : run_need P ≤ length w) (room : length (leaf_list P Q v) ≤ length slots) where
      served : run_no P Q v (length slots) (length w) ≡ 0
      served = of-run.run_served P Q v (length slots) (length w) sheets leaf_there enough room

      given : run_answer P Q v (length slots) (length w) ≡ run_given P Q v
      unfolding run_answer
      given = answer_given _ _ _ served

      count_is : r.count ≡ length (leaf_list P Q v)
      unfolding run_given
      count_is = ap (λ (x : Run). x.count) (a.0 ∙ given)

      stored : take r.count slots' ≡ leaf_list P Q v
      stored = ap₂ take count_is a.1 ∙ of-run.run_first P Q v slots w served

      -- "give the ring pairs of its points by place, then p id, in a lent slice of pairs; the rest of the slice isn't touched" [L1, L2]
      pub run_pairs : (r.number ≡ 0) × (r.count ≡ length (leaf_list P Q v)) × (take r.count slots' ≡ leaf_list P Q v) × (drop r.count slots' ≡ drop r.count slots)
      run_pairs = (
        number_is ∙ served,
        count_is,
        stored,
        ap₂ drop count_is a.1 ∙ of-run.run_rest P Q v slots w served ∙ ap (λ (k : ℕ). drop k slots) (sym count_is),
      )

      -- a chamber of the leaf and a pump house are stored exactly if the ring rule makes them a pair, whatever the walk has skipped .. [L1]
      pub run_exact : (k i : ℕ) → k < count_of Q (points Q) v → i < points P
          → Memᴰ (pair_at (points_of P) (points_of Q) (chamber_at Q v k) i) (take r.count slots') ↔ (ring_pair (points_of P) (points_of Q) (chamber_at Q v k) i ≡ true)
      run_exact k i k-in i_in = (
        λ m.
            (list_exact false (chamber_at Q v k) i (chamber_in Q (facts Q q_opens) v o.here o.level k k-in) i_in).0
            (of-leaf.run_listed P Q (facts P p_opens) (facts Q q_opens) v o.here o.level _ (subst (Memᴰ (pair_at (points_of P) (points_of Q) (chamber_at Q v k) i)) stored m)),
        λ e.
            subst (Memᴰ (pair_at (points_of P) (points_of Q) (chamber_at Q v k) i)) (sym stored)
            (of-leaf.run_holds P Q (facts P p_opens) (facts Q q_opens) v o.here o.level k i k-in i_in e),
      )

      -- .. nothing else is .. [L1]
      pub run_only : (x : Pair) → Memᴰ x (take r.count slots')
          → Placed (λ k i. ring_pair (points_of P) (points_of Q) (chamber_at Q v k) i) (λ k i. pair_at (points_of P) (points_of Q) (chamber_at Q v k) i) (points P) (count_of Q (points Q) v) x
      run_only x m = of-leaf.run_placed P Q (facts P p_opens) (facts Q q_opens) v o.here o.level x (subst (Memᴰ x) stored m)

      -- .. and nothing twice [L6]
      pub stored_once : (b c : ℕ) → b < c → c < r.count → get_or (take r.count slots') b none ≡ get_or (take r.count slots') c none → ⊥
      stored_once b c h k e =
          of-leaf.leaf_run_once P Q (facts P p_opens) (facts Q q_opens) v o.here o.level b c h (omega (arith, k, count_is))
          (subst (λ (l : List Pair). get_or l b none ≡ get_or l c none) stored e)

      -- "Each pair in [..] leaf runs now has its squared diameter beside the ids": that of the places of the two records with these ids [Z1]
      pub run_size : (x : Pair) → Memᴰ x (take r.count slots')
          → (j i : ℕ) → j < points Q → i < points P → id_at (points_of Q) j ≡ x.q → id_at (points_of P) i ≡ x.p → x.size ≡ size_of (spot_of Q j) (spot_of P i)
      run_size x m = listed_size x (of-leaf.run_listed P Q (facts P p_opens) (facts Q q_opens) v o.here o.level x (subst (Memᴰ x) stored m))

      -- "by place, then p id": of two stored pairs, the first is of a chamber at an earlier place of the leaf, or of the same chamber and has the lower p id [L1]
      pub run_order : (b c : ℕ) → b < c → c < r.count → InTurn (λ k. id_at (points_of Q) (chamber_at Q v k)) (count_of Q (points Q) v) (get_or (take r.count slots') b none) (get_or (take r.count slots') c none)
      unfolding leaf_list
      run_order b c h k =
          subst (λ (l : List Pair). InTurn (λ k. id_at (points_of Q) (chamber_at Q v k)) (count_of Q (points Q) v) (get_or l b none) (get_or l c none)) (sym stored)
          (in_turn (λ k i. ring_pair (points_of P) (points_of Q) (chamber_at Q v k) i) (λ k. id_at (points_of Q) (chamber_at Q v k)) (id_at (points_of P)) (λ k i. size_of (spot_at (points_of Q) (chamber_at Q v k)) (spot_at (points_of P) i)) (points P) (count_of Q (points Q) v)
          (omega (arith, leaf_few Q (facts Q q_opens) v o.here o.level))
          (subst (Rising (id_at (points_of P))) (length_points P) (of-join.points_rise (facts P p_opens)))
          b c h (omega (arith, k, count_is)))

      -- "Its count is that walk's opened nodes plus those of each kept partner's ring walk", the kept sets on as many words as are needed [L7]
      pub run_opened : r.opened ≡ leaf_opened (need P) P Q v
      unfolding run_given
      run_opened = ap (λ (x : Run). x.opened) (a.0 ∙ given)

      -- "nodes opened never exceed m in one walk of one sheet": nor do those of the "one walk of P [that] serves all points of the leaf", which the answer counts in [L7]
      pub run_at_most_m : ((leaf_kept (chamber_spot Q v) (count_of Q (points Q) v) (need P) P).opened ≤ nodes P) × ((leaf_kept (chamber_spot Q v) (count_of Q (points Q) v) (need P) P).opened ≤ r.opened)
      unfolding leaf_opened
      run_at_most_m = (leaf_opened_lem (chamber_spot Q v) (count_of Q (points Q) v) (need P) P (facts P p_opens), omega (arith, run_opened))

  -- of all these runs, that of one leaf has the pair, and no other
  pub record InOneRun (runs : ℕ → List Pair) (x : Pair) : Type 0 where
    pub leaf : ℕ
    pub is_leaf : LeafOf leaf
    pub in_run : Memᴰ x (runs leaf)
    pub only : (u : ℕ) → LeafOf u → Memᴰ x (runs u) → u ≡ leaf

  -- "Over all leaves the pairs are 01's list, each once." For each leaf v of Q, `lent v` are the slots lent, one at least for each pair, `w v` are the words
  -- lent, enough of them, `run v` is what the call answered, and `after v` and `w' v` are the slots and the words after it. [L6]
  pub runs_list : (lent : ℕ → List Pair) (w : ℕ → List ℕ) (run : ℕ → Run) (after : ℕ → List Pair) (w' : ℕ → List ℕ)
      → ((v : ℕ) → LeafOf v → RunAnswers P Q v (lent v) (w v) (run v) (after v) (w' v)) → ((v : ℕ) → LeafOf v → run_need P ≤ length (w v)) → ((v : ℕ) → LeafOf v → length (leaf_list P Q v) ≤ length (lent v))
      → (x : Pair) → Memᴰ x (ring_list (points_of P) (points_of Q)) ↔ InOneRun (λ v. take (run v).count (after v)) x
  runs_list lent w run after w' a enough room x = (there, back)
    where
      is : (v : ℕ) → LeafOf v → take (run v).count (after v) ≡ leaf_list P Q v
      is v o = stored v o (lent v) (w v) (run v) (after v) (w' v) (a v o) (enough v o) (room v o)

      there : Memᴰ x (ring_list (points_of P) (points_of Q)) → InOneRun (λ v. take (run v).count (after v)) x
      there m =
          let y = of-leaf.listed_run P Q (facts P p_opens) (facts Q q_opens) x m in
          let o : LeafOf y.leaf = record { here = y.here; level = y.level } in
          record { leaf = y.leaf; is_leaf = o; in_run = subst (Memᴰ x) (sym (is y.leaf o)) y.in_run; only = λ u l n. y.only u l.here l.level (subst (Memᴰ x) (is u l) n) }

      back : InOneRun (λ v. take (run v).count (after v)) x → Memᴰ x (ring_list (points_of P) (points_of Q))
      back y =
          of-leaf.run_listed P Q (facts P p_opens) (facts Q q_opens) y.leaf y.is_leaf.here y.is_leaf.level x (subst (Memᴰ x) (is y.leaf y.is_leaf) y.in_run)

-- "It depends on the points alone": whatever the forms, the editions, the orders and the trees of two pairs of sheets; of any terms.
module _ (P P' Q Q' : List ℤ) (p_opens : WellFormed P) (p-opens' : WellFormed P') (q_opens : WellFormed Q) (q-opens' : WellFormed Q') (same_p : points_of P ≡ points_of P') (same_q : points_of Q ≡ points_of Q') (a : Terms) (o : List ℕ) where
  -- [U11, D3]
  pub same_list : list_for a o (points_of P) (points_of Q) ≡ list_for a o (points_of P') (points_of Q')
  same_list = of-join.join_same_list P P' Q Q' same_p same_q a o

  -- [P12, J6, Y3, D3]
  pub list_by_points : (key : Key) (size : ℕ) (w v : List ℕ) → need P ≤ length w → need P' ≤ length v → (r r' : Paged) (w' v' : List ℕ) → InRange key size a.threshold → Whose a.contractor o (points Q) → grid_no a.grid P Q ≡ 0 → grid_no a.grid P' Q' ≡ 0
      → TermsAnswers a o P Q key size w r w' → TermsAnswers a o P' Q' key size v r' v'
      → (r.page.pairs ≡ r'.page.pairs) × (r.page.count ≡ r'.page.count) × (r.page.end ≡ r'.page.end)
  list_by_points key size w v enough enough' r r' w' v' h of-whom forms forms' x y =
      let as_many : points Q ≡ points Q' = sym (length_points Q) ∙ ap length same_q ∙ length_points Q' in
      of-page.given_by_points a o P P' Q Q' key size same_p same_q r r' (page_is P Q p_opens q_opens a o key size w r w' x h of-whom forms enough) (page_is P' Q' p-opens' q-opens' a o key size v r' v' y h (subst (Whose a.contractor o) as_many of-whom) forms' enough')

-- ---- the self join of one sheet

-- "pairs of two different records of one sheet, lower id first, in order of lower then higher id, blocked by the other records of that sheet under request 3's rule". Its
-- pages, their counts, and following them: `page-pairs`, `page-opened`, `pages-list` of the terms `alone`, of the sheet in both places.
module _ (S : List ℤ) (opens : WellFormed S) (g : Bool) where
  -- Two records, of which the first has the lower id, are listed exactly if no other record of the sheet blocks their pair. [J1, J3, J6]
  pub own_exact : (j i : ℕ) → j < length (points_of S) → i < length (points_of S) → id_at (points_of S) j < id_at (points_of S) i
      → Memᴰ (pair_by (profile_of g) (points_of S) (points_of S) j i) (list_for (alone_by g) [] (points_of S) (points_of S))
      ↔ ((k : ℕ) → k < length (points_of S) → (k ≡ j → ⊥) → (k ≡ i → ⊥) → (profile_of g).blocks (spot_at (points_of S) j) (spot_at (points_of S) i) (spot_at (points_of S) k) ≡ false)
  own_exact = of-terms.self_exact g [] (points_of S) (of-join.points_rise (facts S opens))

  -- A listed pair has the lower id first: a record is never listed with itself, nor two records both ways. [J1, J6]
  pub own_low : (v : Pair) → Memᴰ v (list_for (alone_by g) [] (points_of S) (points_of S)) → v.q < v.p
  own_low = of-terms.self_low g [] (points_of S) (of-join.points_rise (facts S opens))

  -- The self join's page request answers as that of its terms. [J4, J6]
  pub own_answers : (key : Key) (size : ℕ) (w : List ℕ) (r : Paged) (w' : List ℕ) → OwnAnswers S key size g w r w' → TermsAnswers (alone_by g) [] S S key size w r w'
  own_answers key size w r w' x = (refl, refl, refl, refl, x)

-- ---- the return trip

module _ (f n : ℕ) (p order : List ℤ) (ed : ℕ) (out : List ℤ) (out' : List ℤ) (packs : PackAnswers f n p order ed out 0 out') where
  returned : Returned f n p ed out'
  returned = of-pack.pack_return_trip f n p order ed out 0 out' packs.promised.0 packs.promised.1 refl

  -- the words that were lent to it are as many as a caller is told of n points [S29]
  pub length_lent : (r : ℕ) → LengthAnswers n r → length out ≡ r
  length_lent r a = of-lent.pack_lent f n p order ed (length out) (sym packs.promised.0) ∙ sym a.promised

  -- "packing one from a point list", then "opening": what pack leaves where it answers 0 opens, its points are the given ones, in order, and so are its form
  -- and its edition. [S25, Y4]
  pub return_trip : (k : ℕ) → OpenAnswers out' k → (k ≡ 0) × (form out' ≡ pos f) × (points_of out' ≡ points_in n p) × (points out' ≡ n) × (edition out' ≡ pos ed)
  return_trip k a = (a.promised ∙ returned.opens, returned.same_form, returned.same_points, returned.same_number, returned.same_edition)

  -- So the point reader gives back each record that was handed to pack. [S25]
  pub return_point : (i : ℕ) → i < n → (r : Result Asset ℕ) → PointAnswers out' i r → r ≡ Ok (asset_of p i)
  unfolding point_no points_in asset_of spot_of
  return_point i h r a =
      let inside : i < points out' = omega (arith, returned.same_number) in
      let same : point_of out' i ≡ point_of p i = sym (point_at_lem out' i inside) ∙ ap (λ (l : List Point). point_at l i) returned.same_points ∙ at_tab n (point_of p) _ i h in
      a.promised
      ∙ sym (point_given out' i (asset_of out' i) (first_passes (sheet_no out') _ returned.opens ∙ first_last _ ∙ ring_position_in out' i inside) refl)
      ∙ ap (λ (x : Point). Ok record { id = x.id; x = x.spot.x; y = x.spot.y }) same
