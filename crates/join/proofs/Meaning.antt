-- What the page maker makes, for every two sheets that open, in any form: P of np points, Q of nq, the kept sets on words that have a position for each of np.
--
--     points_rise       the ids of a sheet's points ascend, from 1 to 2,000,000,000: what the laws of the list ask for
--     points_sound      and they stand where a sheet's points may: what demand 3 asks for
--     join_page_pairs        the pairs, their number and the end mark are those of the page of the terms' list, `list_for a o (points_of P) (points_of Q)`, o having the owner bytes
--     join_page_opened       the count is that of the walks, `page_opened` of `page_walks`: of the contractor's own chambers alone
--     sheet_pages       following the pages from (0, 0), whatever their sizes, gives the list
--     join_list_by_points    sheets with the same points give the same list, and the same pairs, number and end mark of every page
-- Assumes nothing.
use mathlib.Core.Path.{◌≡◌, refl, sym, ap, subst, ◌∙◌}
use mathlib.Core.Bool.{Bool, true, false, ◌&&◌}
use mathlib.Core.List.{List}
use Prim.Native.Nat.{ℕ, ◌*◌, ◌≤◌, ◌<◌}
use native.Mathlib.Omega.{arith}
use lib.IntN.{ℤ}
use lib.ListN.{length}
use Rattle.plane.proofs.ProfileLaws.{profile_lawful}
use Rattle.plane.specs.Point.{Point, id_at}
use Rattle.sheet.specs.Layout.{points}
use Rattle.sheet.specs.Places.{points_of}
use Rattle.sheet.specs.Open.{sheet_no, Opens}
use Rattle.sheet.proofs.PointsLaws.{length_points, spot_of_lem, id_low, id_high, id_rises}
use Rattle.walk.proofs.Meaning.{walk_pair_exact}
use Rattle.walk.proofs.SelfLaws.{self_walked}
use Rattle.list.specs.declared.Key.{Key}
use Rattle.list.specs.declared.Pair.{Pair}
use Rattle.list.specs.declared.Source.{Source}
use Rattle.list.specs.Pairs.{start}
use Rattle.list.specs.Pages.{page_of, followed}
use Rattle.list.specs.Rows.{at_least, list_by, Rising}
use Rattle.list.specs.RingList.{pair_by, Sound}
use Rattle.list.specs.declared.Terms.{Terms}
use Rattle.list.specs.Contractor.{mine}
use Rattle.list.specs.Terms.{of_kind, profile_for, pair_for, listed_for, list_for}
use Rattle.list.proofs.RowLaws.{named}
use Rattle.list.proofs.TermsLaws.{kind_of, for_pages}
use Rattle.join.specs.Work.{page_opened}
use Rattle.join.specs.Maker.{page_made, page_from}
use Rattle.join.specs.Sheets.{walks_by, Alone}
use Rattle.join.specs.Threshold.{walks_for}
use Rattle.join.specs.Only.{only_for, page_walks}
use Rattle.join.proofs.MakerLaws.{Exact, maker_page}
use Rattle.join.proofs.WorkLaws.{maker_opened}
use Rattle.join.proofs.ThresholdLaws.{exact_for, for_named, for_rising, for_pair}
use Rattle.join.proofs.OnlyLaws.{exact_only, only_named, only_rising, only_pair}
use Rattle.sheet.proofs.SheetLaws.{sheet_facts, by_counts}
use Rattle.sheet.proofs.RangeLaws.{spot_in}

module _ {w : List ℤ} {n m : ℕ} (o : Opens w n m) where
  pub points_rise : Rising (id_at (points_of w)) (length (points_of w))
  points_rise = record { rises = id_rises o; low = id_low o; high = id_high o }

  pub ids_rise : Rising (id_at (points_of w)) n
  ids_rise = subst (Rising (id_at (points_of w))) (length_points w ∙ o.n_is) points_rise

-- the points of a sheet are sound: their ids ascend strictly, and they stand where a sheet's points may
pub points_sound : (w : List ℤ) → sheet_no w ≡ 0 → Sound (points_of w)
points_sound w e =
    let o = sheet_facts w e in
    record { rising = points_rise o; near = λ i h. let k : i < points w = omega (arith, length_points w) in rw (spot_of_lem w i k) (spot_in o i k) }

-- what holds of two sheets, and of one in both places, holds of the terms
pub by_kind : (F : Terms → List ℤ → Type 0) (a : Terms) (P Q : List ℤ) → Alone a P Q → ((t : Terms) → F (of_kind false t) Q) → ((t : Terms) → F (of_kind true t) P) → F a Q
by_kind F a P Q al two one = go a.own refl
  where
    go : (k : Bool) → a.own ≡ k → F a Q
    go true e = subst (F a) (al.one e) (subst (λ (x : Terms). F x P) (kind_of a true e) (one a))
    go false e = subst (λ (x : Terms). F x Q) (kind_of a false e) (two a)

module _ {P Q : List ℤ} {np mp nq mq : ℕ} (p_opens : Opens P np mp) (q_opens : Opens Q nq mq) where
  module _ (a : Terms) (al : Alone a P Q) (words : ℕ) (enough : np ≤ 64 * words) where
    -- the walks find what the rule makes
    exact : Exact (walks_by a words P Q) (pair_for a (points_of P) (points_of Q)) np nq
    unfolding pair_for
    exact j i hj hi =
        by_kind (λ t R. j < points R → pair_for t (points_of P) (points_of R) j i ≡ ((walks_by t words P R).kept j i && (walks_by t words P R).clear j i)) a P Q al
        (λ t h. walk_pair_exact (profile_for t) (profile_lawful t.grid) P Q (by_counts p_opens) (by_counts q_opens) j i h (omega (arith, p_opens.n_is)) words (omega (arith, p_opens.n_is)))
        (λ t h. self_walked words P (by_counts p_opens) (omega (arith, p_opens.n_is)) j t.grid i h (omega (arith, p_opens.n_is)))
        (omega (arith, q_opens.n_is))

    module _ (o : List ℕ) where
      -- the rule of the list, with so many positions of P
      abbrev rule : ℕ → ℕ → ℕ → Bool
      rule n j i = mine a.contractor o j && at_least (pair_for a (points_of P) (points_of Q)) (pair_by (profile_for a) (points_of P) (points_of Q)) a.threshold n j i

      list_is : list_by (rule np) (pair_by (profile_for a) (points_of P) (points_of Q)) np nq ≡ list_for a o (points_of P) (points_of Q)
      unfolding list_for listed_for
      list_is =
          let l : ℕ → ℕ → List Pair = λ n m. list_by (rule n) (pair_by (profile_for a) (points_of P) (points_of Q)) n m in
          ap (λ (k : ℕ). l k nq) (sym (length_points P ∙ p_opens.n_is)) ∙ ap (λ (k : ℕ). l (length (points_of P)) k) (sym (length_points Q ∙ q_opens.n_is))

      pub join_page_pairs : (s : Source) (key : Key) (size : ℕ) → size ≤ 16 → page_from s key (page_made (page_walks a o words P Q np) key size np nq) ≡ page_of s (list_for a o (points_of P) (points_of Q)) key size
      join_page_pairs s key size h =
          let all = walks_by a words P Q in
          let t = a.threshold in
          let w = walks_for all np t in
          let m = mine a.contractor o in
          let free = at_least (pair_for a (points_of P) (points_of Q)) (pair_by (profile_for a) (points_of P) (points_of Q)) t np in
          maker_page (only_for m w) key size (rule np) np nq (exact_only m w free np nq (exact_for all (pair_for a (points_of P) (points_of Q)) np nq exact t)) (id_at (points_of P))
          (only_named m w (id_at (points_of P)) (for_named all np t (id_at (points_of P)) (named (profile_for a) (points_of P) (points_of Q)))) s
          (only_rising m w nq (for_rising all np t nq (ids_rise q_opens))) (ids_rise p_opens) h
          ∙ ap (λ (pair : ℕ → ℕ → Pair). page_of s (list_by (rule np) pair np nq) key size) (only_pair m w ∙ for_pair all np t)
          ∙ ap (λ (l : List Pair). page_of s l key size) list_is

      pub join_page_opened : (key : Key) (size : ℕ) → (page_made (page_walks a o words P Q np) key size np nq).opened ≡ page_opened (page_walks a o words P Q np) key size np nq
      join_page_opened key size = maker_opened (page_walks a o words P Q np) key size np nq

  pub sheet_pages : (a : Terms) (o : List ℕ) (sizes : ℕ → ℕ) (s : Source) → ((k : ℕ) → 0 < sizes k)
      → followed (length (list_for a o (points_of P) (points_of Q))) sizes (page_of s (list_for a o (points_of P) (points_of Q))) start ≡ list_for a o (points_of P) (points_of Q)
  sheet_pages a o sizes s some = for_pages a o (points_of P) (points_of Q) (points_rise p_opens) (points_rise q_opens) sizes s some

module _ (P P' Q Q' : List ℤ) (ep : points_of P ≡ points_of P') (eq : points_of Q ≡ points_of Q') (a : Terms) (o : List ℕ) where
  pub join_same_list : list_for a o (points_of P) (points_of Q) ≡ list_for a o (points_of P') (points_of Q')
  join_same_list = ap (λ (x : List Point). list_for a o x (points_of Q)) ep ∙ ap (list_for a o (points_of P')) eq

  -- whatever the editions and the trees
  pub join_list_by_points : (s s' : Source) (key : Key) (size : ℕ)
      → ((page_of s (list_for a o (points_of P) (points_of Q)) key size).pairs ≡ (page_of s' (list_for a o (points_of P') (points_of Q')) key size).pairs)
      × ((page_of s (list_for a o (points_of P) (points_of Q)) key size).count ≡ (page_of s' (list_for a o (points_of P') (points_of Q')) key size).count)
      × ((page_of s (list_for a o (points_of P) (points_of Q)) key size).end ≡ (page_of s' (list_for a o (points_of P') (points_of Q')) key size).end)
  unfolding page_of
  join_list_by_points s s' key size =
      (ap (λ (l : List Pair). (page_of s l key size).pairs) join_same_list, ap (λ (l : List Pair). (page_of s l key size).count) join_same_list, ap (λ (l : List Pair). (page_of s l key size).end) join_same_list)
