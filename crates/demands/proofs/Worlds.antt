-- The premises of demand 3 can be had. `Editions`: the empty sheet opens, and may stand for every edition number that was never given out. And histories that are not empty. With
-- the document's two sheets, of editions 7 and 9, a book begun for them asks, takes, and comes to be closed:
--     document_closed     with the document's three pairs
--     document_divided    of two contractors, each with its own pairs
--     streets_closed      of the street grid, with three pairs and their sizes along the streets
--     alone_closed        of the self join of the chambers, with the pair of the two
--     wide_closed         of two sheets of form 2, with places that no sheet of form 1 has
-- And the premises of `blind_page`, two runs that differ in an id of the other contractor's: `document-renamed`.
-- Assumes nothing.
use mathlib.Core.Path.{◌≡◌, refl, sym, ap, ◌∙◌}
use mathlib.Core.Bool.{true, true≢false, false}
use mathlib.Core.List.{List, [], ◌∷◌}
use Prim.Native.Nat.{ℕ, zero, suc, ◌≤◌, ◌<◌}
use native.Mathlib.Omega.{arith}
use lib.IntN.{ℤ, pos}
use lib.ListN.{length, take, drop, get_or, replicate, length-replicate}
use Rattle.std.specs.Prelude.{Ok}
use Rattle.words.specs.Word.{eq_z, within, before, num, is_below, min_z, max_z}
use Rattle.words.specs.Range.{id_word, edition_word, coord_word, edition_ok}
use Rattle.words.specs.All.{all_b, tab}
use Rattle.sheet.specs.Limits.{form1, form2, limits_of}
use Rattle.words.specs.First.{given, first, answer}
use Rattle.sheet.specs.Layout.{points, root_word, counts_ok, layout_ok, trailer_no}
use Rattle.sheet.specs.Points.{fields_ok, rises_ok, point_ok, points_ok}
use Rattle.sheet.specs.Order.{order_of, rank_of, place_ok, order_ok}
use Rattle.sheet.specs.Nodes.{level_of, first_of, count_of, same_level, due_next, due_of, run_ok, is_last, end_ok, node_rule, node_ok, table_ok, nodes_ok}
use Rattle.sheet.specs.Boxes.{side_of, coord_of, better, best, tight_side, tight_ok}
use Rattle.sheet.specs.Open.{body_no, open_no, sheet_no}
use Rattle.plane.specs.Point.{id_at, spot_at}
use Rattle.plane.specs.Profile.{blocks_by}
use Rattle.plane.specs.Rule.{same_spot, blocks}
use Rattle.sheet.specs.Places.{spot_of, points_of}
use Rattle.list.specs.declared.Pair.{Pair}
use Rattle.list.specs.declared.Source.{Source}
use Rattle.list.specs.declared.Terms.{Terms}
use Rattle.list.specs.Pairs.{none}
use Rattle.list.specs.Pages.{threshold_no, contractor_no, owners_no}
use Rattle.list.specs.Contractor.{one_each, Renamed}
use Rattle.list.specs.RingList.{unblocked, ring_list, ring_pair_by, ring_list_by}
use Rattle.list.specs.Rows.{row, rows, at_least, list_by}
use Rattle.list.specs.Terms.{full, with_by, alone_by, of_contractor, pair_for, listed_for, list_for}
use Rattle.list.proofs.ContractorLaws.{owners_none, owners_good}
use Rattle.list.proofs.TermsLaws.{full_ring_list}
use Rattle.book.specs.declared.Book.{Book}
use Rattle.ring.specs.Blind.{SameSeen}
use Rattle.ring.specs.Numbers.{grid_no}
use Rattle.ring.specs.Page.{source_of}
use Rattle.ring.proofs.PageLaws.{circle_any_form}
use Rattle.book.specs.Rules.{begin_no, begun_book, begun_for}
use Rattle.demands.specs.Promises.{BeginAnswers}
use Rattle.demands.specs.World.{Editions, Sheets, HandsIn, pumps_of, chambers_of, book_list, History, began}
use Rattle.demands.proofs.Demand3.{goes_on, closed_all, can_close}

-- span, root, n, m, edition, form number
unfoldable pub empty_sheet : List ℤ
empty_sheet = pos 0 ∷ pos 0 ∷ pos 0 ∷ pos 0 ∷ pos 1 ∷ pos 1 ∷ []

pub empty_opens : sheet_no empty_sheet ≡ 0
unfolding limits_of form1 edition_word eq_z within num all_b root_word counts_ok layout_ok trailer_no points_ok order_ok table_ok nodes_ok tight_ok given first body_no open_no empty_sheet
empty_opens = refl

pub empty_world : Editions
empty_world = record { pumps = λ e. empty_sheet; chambers = λ e. empty_sheet; owners = λ e. []; assets = λ e. empty_sheet; pumps_open = λ e. empty_opens; chambers_open = λ e. empty_opens; assets_open = λ e. empty_opens }

-- ---- the document's two sheets

unfoldable pub document_p : List ℤ
document_p = pos 1 ∷ pos 0 ∷ pos 0 ∷ pos 2 ∷ pos 10 ∷ pos 0 ∷ pos 0 ∷ pos 1 ∷ pos 0 ∷ pos 1 ∷ pos 0 ∷ pos 0 ∷ pos 2 ∷ pos 0 ∷ pos 0 ∷ pos 10 ∷ pos 0 ∷ pos 17 ∷ pos 7 ∷ pos 2 ∷ pos 1 ∷ pos 7 ∷ pos 1 ∷ []

unfoldable pub document_q : List ℤ
document_q = pos 5 ∷ pos 4 ∷ pos 0 ∷ pos 6 ∷ pos 16 ∷ pos 1 ∷ pos 0 ∷ pos 1 ∷ pos 0 ∷ pos 1 ∷ pos 0 ∷ pos 0 ∷ pos 2 ∷ pos 4 ∷ pos 0 ∷ pos 16 ∷ pos 1 ∷ pos 17 ∷ pos 7 ∷ pos 2 ∷ pos 1 ∷ pos 9 ∷ pos 1 ∷ []

pub p_opens : sheet_no document_p ≡ 0
unfolding limits_of form1 id_word edition_word coord_word eq_z within before num is_below min_z max_z all_b root_word counts_ok layout_ok trailer_no fields_ok rises_ok point_ok points_ok order_of rank_of place_ok order_ok level_of first_of count_of same_level due_next due_of run_ok is_last end_ok node_rule node_ok table_ok nodes_ok side_of coord_of better best tight_side tight_ok given first body_no open_no document_p
p_opens = refl

pub q_opens : sheet_no document_q ≡ 0
unfolding limits_of form1 id_word edition_word coord_word eq_z within before num is_below min_z max_z all_b root_word counts_ok layout_ok trailer_no fields_ok rises_ok point_ok points_ok order_of rank_of place_ok order_ok level_of first_of count_of same_level due_next due_of run_ok is_last end_ok node_rule node_ok table_ok nodes_ok side_of coord_of better best tight_side tight_ok given first body_no open_no document_q
q_opens = refl

-- chamber 5 is contractor 0's, chamber 6 is contractor 1's
abbrev pub document_owners : List ℕ
document_owners = 0 ∷ 1 ∷ []

-- every edition number has these; books are begun for 7 and 9, and self joins are of the chambers
unfoldable pub document_world : Editions
document_world = record { pumps = λ e. document_p; chambers = λ e. document_q; owners = λ e. document_owners; assets = λ e. document_q; pumps_open = λ e. p_opens; chambers_open = λ e. q_opens; assets_open = λ e. q_opens }

-- what list a book is of: its two editions and its terms
abbrev pub source : ℕ → ℕ → Terms → Source
source e f a = record { p_edition = e; q_edition = f; terms = a }

-- of a contractor, or 2 for the undivided list
abbrev pub document_of : ℕ → Source
document_of c = source 7 9 (of_contractor c full)

abbrev pub document_source : Source
document_source = document_of 2

abbrev pub three_pairs : List Pair
three_pairs = record { q = 5; p = 1; size = 16 } ∷ record { q = 5; p = 2; size = 36 } ∷ record { q = 6; p = 2; size = 37 } ∷ []

source_is : (a : Terms) → source_of document_p document_q a ≡ source 7 9 a
unfolding source_of num document_p document_q
source_is a = refl

-- a book that came to be closed with these pairs, begun empty for this list
abbrev pub ClosedWith : Editions → Source → List Pair → Type 0
ClosedWith w of pairs = (b : Book) × (s : List Pair) × History w b s × (b.closed ≡ true) × (b.held ≡ length pairs) × (take (length pairs) s ≡ pairs) × (b.source ≡ of)

-- With a slot for each pair of the list a book can ask and take until it is closed: in any world, of any terms, for two sheets of its editions, or the one of a self join.
closes_with : (w : Editions) (a : Terms) (e f : ℕ) (P Q : List ℤ) → Sheets w a P Q → source_of P Q a ≡ source e f a → (a.own ≡ true → P ≡ Q) → grid_no a.grid P Q ≡ 0
    → (o : List ℕ) → HandsIn w a Q o → owners_no a.contractor o (points Q) ≡ 0 → BeginAnswers (source e f a) (Ok (begun_book (source e f a)))
    → (pairs : List Pair) → list_for a (w.owners f) (pumps_of w (source e f a)) (chambers_of w (source e f a)) ≡ pairs → ClosedWith w (source e f a) pairs
unfolding begun_book
closes_with w a e f P Q sheets of alike forms o handed bytes begun-for pairs list_is =
    let s : Source = source e f a in
    let slots : List Pair = replicate (length pairs) none in
    let h : History w (begun_book s) slots = began s (begun_book s) slots begun-for in
    let room : length (book_list w (begun_book s)) ≤ length slots = rw list_is (omega (arith, length-replicate (length pairs) none)) in
    let m = can_close w h room P Q sheets o handed bytes forms alike of in
    let g = goes_on w h m.2 in
    let z = closed_all w g.0 m.3 in
    let l : book_list w m.0 ≡ pairs = ap (λ (x : Source). list_for x.terms (w.owners x.q_edition) (pumps_of w x) (chambers_of w x)) g.1 ∙ list_is in
    let n : m.0.held ≡ length pairs = z.0 ∙ ap length l in
    (m.0, m.1, g.0, m.3, n, ap (λ (k : ℕ). take k m.1) (sym n) ∙ z.1 ∙ l, g.1)

-- two sheets, and no self join
no_self : {A : Type 0} → false ≡ true → A
no_self e = absurd (true≢false (sym e))

-- of an undivided list no bytes are handed in
undivided_bytes : (w : Editions) (a : Terms) (Q : List ℤ) → a.contractor ≡ 2 → HandsIn w a Q []
undivided_bytes w a Q two = record { divided = λ l. absurd (omega (arith, l, two)); undivided = λ e. refl }

document_sheets : (a : Terms) → a.own ≡ false → Sheets document_world a document_p document_q
unfolding document_world
document_sheets a two = rw two (record { opens = p_opens; same = refl }, record { opens = q_opens; same = refl })

-- A book that is begun for editions 7 and 9, with a slot for each pair, can ask and take until it is closed, and then it holds the document's three pairs. [D6, D9]
pub document_closed : ClosedWith document_world document_source three_pairs
document_closed =
    closes_with document_world (of_contractor 2 full) 7 9 document_p document_q (document_sheets (of_contractor 2 full) refl) (source_is (of_contractor 2 full)) no_self (circle_any_form document_p document_q)
    [] (undivided_bytes document_world (of_contractor 2 full) document_q refl) (sym (owners_none 2 [] (points document_q) refl refl))
    (unfold begun_for begin_no first given answer begun_book edition_ok threshold_no contractor_no in record { promised = refl }) three_pairs (unfold document_world in list_is)
  where
    computed : ring_list (points_of document_p) (points_of document_q) ≡ three_pairs
    computed = unfold ring_list_by list_by rows row ring_pair_by unblocked all_b same_spot blocks points_of spot_of tab num document_p document_q in refl

    list_is : list_for (of_contractor 2 full) document_owners (points_of document_p) (points_of document_q) ≡ three_pairs
    list_is = full_ring_list false document_owners (points_of document_p) (points_of document_q) ∙ computed

-- And so can the books of the two contractors: that of 0 holds the two pairs of chamber 5 then, that of 1 the pair of chamber 6. [U12]
pub document_divided : ClosedWith document_world (document_of 0) (take 2 three_pairs) × ClosedWith document_world (document_of 1) (drop 2 three_pairs)
document_divided = (divided 0 (omega arith) (take 2 three_pairs) begun_0 first_is, divided 1 (omega arith) (drop 2 three_pairs) begun_1 second_is)
  where
    bytes : (c : ℕ) → c < 2 → owners_no c document_owners (points document_q) ≡ 0
    bytes c h = sym (owners_good c document_owners (points document_q) (λ e. omega (arith, e, h)) true (unfold one_each all_b num document_q in refl) refl)

    first_is : list_for (of_contractor 0 full) document_owners (points_of document_p) (points_of document_q) ≡ take 2 three_pairs
    first_is = unfold list_for listed_for pair_for at_least list_by rows row ring_pair_by unblocked all_b same_spot blocks points_of spot_of tab num document_p document_q in refl

    second_is : list_for (of_contractor 1 full) document_owners (points_of document_p) (points_of document_q) ≡ drop 2 three_pairs
    second_is = unfold list_for listed_for pair_for at_least list_by rows row ring_pair_by unblocked all_b same_spot blocks points_of spot_of tab num document_p document_q in refl

    begun_0 : BeginAnswers (document_of 0) (Ok (begun_book (document_of 0)))
    begun_0 = unfold begun_for begin_no first given answer begun_book edition_ok threshold_no contractor_no in record { promised = refl }

    begun_1 : BeginAnswers (document_of 1) (Ok (begun_book (document_of 1)))
    begun_1 = unfold begun_for begin_no first given answer begun_book edition_ok threshold_no contractor_no in record { promised = refl }

    divided : (c : ℕ) → c < 2 → (pairs : List Pair) → BeginAnswers (document_of c) (Ok (begun_book (document_of c)))
        → list_for (of_contractor c full) document_owners (points_of document_p) (points_of document_q) ≡ pairs → ClosedWith document_world (document_of c) pairs
    divided c h pairs begun-for list_is =
        closes_with document_world (of_contractor c full) 7 9 document_p document_q (document_sheets (of_contractor c full) refl) (source_is (of_contractor c full)) no_self (circle_any_form document_p document_q)
        document_owners (record { divided = λ l. unfold document_world in refl; undivided = λ e. absurd (omega (arith, e, h)) }) (bytes c h) begun-for pairs (unfold document_world in list_is)

-- The book of the street grid of the same two sheets: the same three couples are pairs, and the third has the size along the streets, 7 times 7.
abbrev pub street_pairs : List Pair
street_pairs = record { q = 5; p = 1; size = 16 } ∷ record { q = 5; p = 2; size = 36 } ∷ record { q = 6; p = 2; size = 49 } ∷ []

-- [A10, D9]
pub streets_closed : ClosedWith document_world (source 7 9 (with_by true 0)) street_pairs
streets_closed =
    closes_with document_world (with_by true 0) 7 9 document_p document_q (document_sheets (with_by true 0) refl) (source_is (with_by true 0)) no_self (unfold grid_no eq_z given document_p document_q in refl)
    [] (undivided_bytes document_world (with_by true 0) document_q refl) (sym (owners_none 2 [] (points document_q) refl refl))
    (unfold begun_for begin_no first given answer begun_book edition_ok threshold_no contractor_no in record { promised = refl }) street_pairs (unfold document_world in list_is)
  where
    list_is : list_for (with_by true 0) document_owners (points_of document_p) (points_of document_q) ≡ street_pairs
    list_is = unfold list_for listed_for pair_for at_least list_by rows row ring_pair_by unblocked all_b same_spot blocks_by points_of spot_of tab num document_p document_q in refl

-- The book of the self join of the chambers, of edition 9 in both places: chambers 5 and 6 are a pair.
abbrev pub alone_pairs : List Pair
alone_pairs = record { q = 5; p = 6; size = 145 } ∷ []

-- [J6, D9]
pub alone_closed : ClosedWith document_world (source 9 9 (alone_by false)) alone_pairs
alone_closed =
    closes_with document_world (alone_by false) 9 9 document_q document_q (unfold document_world in (record { opens = q_opens; same = refl }, record { opens = q_opens; same = refl })) (unfold source_of num document_q in refl) (λ e. refl) (circle_any_form document_q document_q)
    [] (undivided_bytes document_world (alone_by false) document_q refl) (sym (owners_none 2 [] (points document_q) refl refl))
    (unfold begun_for begin_no first given answer begun_book edition_ok threshold_no contractor_no in record { promised = refl }) alone_pairs (unfold document_world in list_is)
  where
    list_is : list_for (alone_by false) document_owners (points_of document_q) (points_of document_q) ≡ alone_pairs
    list_is = unfold list_for listed_for pair_for at_least list_by rows row ring_pair_by unblocked all_b same_spot blocks points_of spot_of tab num document_q in refl

-- ---- two sheets of form 2

-- pump houses at (0, 0) and (1,000,000,000, 0)
unfoldable pub wide_p : List ℤ
wide_p = pos 1 ∷ pos 0 ∷ pos 0 ∷ pos 2 ∷ pos 1000000000 ∷ pos 0 ∷ pos 0 ∷ pos 1 ∷ pos 0 ∷ pos 1 ∷ pos 0 ∷ pos 0 ∷ pos 2 ∷ pos 0 ∷ pos 0 ∷ pos 1000000000 ∷ pos 0 ∷ pos 17 ∷ pos 7 ∷ pos 2 ∷ pos 1 ∷ pos 7 ∷ pos 2 ∷ []

-- chambers at (400,000,000, 0) and (1,000,000,000, 100,000,000)
unfoldable pub wide_q : List ℤ
wide_q = pos 5 ∷ pos 400000000 ∷ pos 0 ∷ pos 6 ∷ pos 1000000000 ∷ pos 100000000 ∷ pos 0 ∷ pos 1 ∷ pos 0 ∷ pos 1 ∷ pos 0 ∷ pos 0 ∷ pos 2 ∷ pos 400000000 ∷ pos 0 ∷ pos 1000000000 ∷ pos 100000000 ∷ pos 17 ∷ pos 7 ∷ pos 2 ∷ pos 1 ∷ pos 9 ∷ pos 2 ∷ []

pub wide_p_opens : sheet_no wide_p ≡ 0
unfolding limits_of form2 id_word edition_word coord_word eq_z within before num is_below min_z max_z all_b root_word counts_ok layout_ok trailer_no fields_ok rises_ok point_ok points_ok order_of rank_of place_ok order_ok level_of first_of count_of same_level due_next due_of run_ok is_last end_ok node_rule node_ok table_ok nodes_ok side_of coord_of better best tight_side tight_ok given first body_no open_no wide_p
wide_p_opens = refl

pub wide_q_opens : sheet_no wide_q ≡ 0
unfolding limits_of form2 id_word edition_word coord_word eq_z within before num is_below min_z max_z all_b root_word counts_ok layout_ok trailer_no fields_ok rises_ok point_ok points_ok order_of rank_of place_ok order_ok level_of first_of count_of same_level due_next due_of run_ok is_last end_ok node_rule node_ok table_ok nodes_ok side_of coord_of better best tight_side tight_ok given first body_no open_no wide_q
wide_q_opens = refl

unfoldable pub wide_world : Editions
wide_world = record { pumps = λ e. wide_p; chambers = λ e. wide_q; owners = λ e. []; assets = λ e. wide_q; pumps_open = λ e. wide_p_opens; chambers_open = λ e. wide_q_opens; assets_open = λ e. wide_q_opens }

abbrev pub wide_pairs : List Pair
wide_pairs = record { q = 5; p = 1; size = 160000000000000000 } ∷ record { q = 5; p = 2; size = 360000000000000000 } ∷ record { q = 6; p = 2; size = 10000000000000000 } ∷ []

-- The book of two sheets of form 2, with places that no sheet of form 1 has. [Y1, D9]
pub wide_closed : ClosedWith wide_world document_source wide_pairs
wide_closed =
    closes_with wide_world (of_contractor 2 full) 7 9 wide_p wide_q (unfold wide_world in (record { opens = wide_p_opens; same = refl }, record { opens = wide_q_opens; same = refl })) (unfold source_of num wide_p wide_q in refl) no_self (circle_any_form wide_p wide_q)
    [] (undivided_bytes wide_world (of_contractor 2 full) wide_q refl) (sym (owners_none 2 [] (points wide_q) refl refl))
    (unfold begun_for begin_no first given answer begun_book edition_ok threshold_no contractor_no in record { promised = refl }) wide_pairs (unfold wide_world in list_is)
  where
    computed : ring_list (points_of wide_p) (points_of wide_q) ≡ wide_pairs
    computed = unfold ring_list_by list_by rows row ring_pair_by unblocked all_b same_spot blocks points_of spot_of tab num wide_p wide_q in refl

    list_is : list_for (of_contractor 2 full) [] (points_of wide_p) (points_of wide_q) ≡ wide_pairs
    list_is = full_ring_list false [] (points_of wide_p) (points_of wide_q) ∙ computed

-- ---- two runs that differ in an id of the other contractor's

-- the document's chambers, where contractor 1's chamber has id 3 instead of 6: so it comes first, and both positions move
unfoldable pub renamed_q : List ℤ
renamed_q = pos 3 ∷ pos 16 ∷ pos 1 ∷ pos 5 ∷ pos 4 ∷ pos 0 ∷ pos 0 ∷ pos 1 ∷ pos 0 ∷ pos 1 ∷ pos 0 ∷ pos 0 ∷ pos 2 ∷ pos 4 ∷ pos 0 ∷ pos 16 ∷ pos 1 ∷ pos 17 ∷ pos 7 ∷ pos 2 ∷ pos 1 ∷ pos 9 ∷ pos 1 ∷ []

pub renamed_opens : sheet_no renamed_q ≡ 0
unfolding limits_of form1 id_word edition_word coord_word eq_z within before num is_below min_z max_z all_b root_word counts_ok layout_ok trailer_no fields_ok rises_ok point_ok points_ok order_of rank_of place_ok order_ok level_of first_of count_of same_level due_next due_of run_ok is_last end_ok node_rule node_ok table_ok nodes_ok side_of coord_of better best tight_side tight_ok given first body_no open_no renamed_q
renamed_opens = refl

-- whose they are, by their new positions
abbrev pub renamed_owners : List ℕ
renamed_owners = 1 ∷ 0 ∷ []

-- where a position of one run stands in the other: the two change places
turned : ℕ → ℕ
turned zero = 1
turned (suc j) = 0

turned_in : (j : ℕ) → j < 2 → turned j < 2
unfolding turned
turned_in zero h = omega arith
turned_in (suc j) h = omega arith

turned_twice : (j : ℕ) → j < 2 → turned (turned j) ≡ j
unfolding turned
turned_twice zero h = refl
turned_twice (suc zero) h = refl
turned_twice (suc (suc j)) h = absurd (omega (arith, h))

same_place : (j : ℕ) → j < 2 → spot_at (points_of renamed_q) (turned j) ≡ spot_at (points_of document_q) j
unfolding points_of spot_of tab num document_q renamed_q turned
same_place zero h = refl
same_place (suc zero) h = refl
same_place (suc (suc j)) h = absurd (omega (arith, h))

same_owner : (j : ℕ) → j < 2 → get_or renamed_owners (turned j) 2 ≡ get_or document_owners j 2
unfolding turned
same_owner zero h = refl
same_owner (suc zero) h = refl
same_owner (suc (suc j)) h = absurd (omega (arith, h))

own_id : (j : ℕ) → j < 2 → get_or document_owners j 2 ≡ 0 → id_at (points_of renamed_q) (turned j) ≡ id_at (points_of document_q) j
unfolding points_of spot_of tab num document_q renamed_q turned
own_id zero h e = refl
own_id (suc zero) h e = absurd (omega (arith, e))
own_id (suc (suc j)) h e = absurd (omega (arith, h))

renamed : Renamed 0 (points_of document_q) document_owners (points_of renamed_q) renamed_owners
unfolding points_of spot_of tab num document_q renamed_q
renamed = record { to = turned; back = turned; to_in = turned_in; back_in = turned_in; to_back = turned_twice; back_to = turned_twice; place = same_place; owner = same_owner; own_id = own_id; as_many = refl }

-- All premises of `blind_page` for contractor 0, at once: the sheets open in both runs, P is the same, Q keeps its edition and its form and is renamed. The other's id did change,
-- from 6 to 3, and the contractor's own chamber 5 moved from the first position to the second. [U5]
pub document_renamed : (sheet_no document_p ≡ 0) × (sheet_no document_q ≡ 0) × (sheet_no renamed_q ≡ 0) × SameSeen document_p document_p × SameSeen document_q renamed_q
    × Renamed 0 (points_of document_q) document_owners (points_of renamed_q) renamed_owners
    × ((id_at (points_of document_q) 1 ≡ 6) × (id_at (points_of renamed_q) 0 ≡ 3)) × ((id_at (points_of document_q) 0 ≡ 5) × (id_at (points_of renamed_q) 1 ≡ 5))
document_renamed = (p_opens, q_opens, renamed_opens, record { editions = refl; forms = refl }, unfold document_q renamed_q in record { editions = refl; forms = refl }, renamed, changed, moved)
  where
    changed : (id_at (points_of document_q) 1 ≡ 6) × (id_at (points_of renamed_q) 0 ≡ 3)
    changed = unfold points_of spot_of tab num document_q renamed_q in (refl, refl)

    moved : (id_at (points_of document_q) 0 ≡ 5) × (id_at (points_of renamed_q) 1 ≡ 5)
    moved = unfold points_of spot_of tab num document_q renamed_q in (refl, refl)
