-- Demand 1: "Every call takes every input; what breaks the rules is refused by its number, and nothing that was lent has changed then."
-- "The first that applies, in the order listed. Every refusal gives only its number, with no view, page, marker or count, and leaves lent memory and book
-- state as they stood. An array or number in a refused answer is all zero, and a view there covers no words."
--
-- That every input is taken is proofs/Takes. Here is one theorem for each call: the number of its answer is the defined one, 0 where no rule is broken; and an
-- answer with another number is that number and nothing else. None has a premise but that the call answered. The definitions of the numbers stand in the
-- document's order: `sheet_no` of sheet/specs/Open, `pack_no` of pack/specs/Pack, `point_no`, `filter_no`, `ring_no` of ring/specs/Numbers, `page_no` of
-- ring/specs/Page, `own_no` of ring/specs/Own, `partners_no` of ring/specs/Partners, `short_no` of shortest/specs/Answer, `begin_no`, `next_no`, `take_no` of
-- book/specs/Rules, `mark_no` of marker/specs/Mark, `runNo` of runs/specs/Run, `nearestNo` and `nearFilterNo` of nearest/specs/Nearest, `pairsNo`, `ownPairsNo`,
-- `countNo` and `ownCountNo` of many/specs/Many.
-- For the calls through views and on arrays see proofs/Alike. What is lent as `&` cannot be written. What is lent as `&mut` is spoken of here: pack's words,
-- the slots of take, leaf_run, pairs and own_pairs, the numbers of nearest and near_filter, the words for kept sets of each call that filters. What an answer leaves there: Lent.
-- Assumes nothing. [N1, N2, D1]
use mathlib.Core.Path.{◌≡◌, refl, sym, ap, subst, ◌∙◌}
use mathlib.Core.Bool.{Bool, true, false}
use mathlib.Core.List.{List, [], ◌++◌}
use Prim.Native.Nat.{ℕ, ◌≤◌}
use lib.IntN.{ℤ, pos}
use lib.ListN.{length, take, drop, take-append-drop}
use borrow.Author.Tests.{le-ltb}
use Rattle.std.specs.Prelude.{Result, Ok, Err}
use Rattle.words.specs.First.{given, first, answer}
use Rattle.words.proofs.FirstLaws.{answer_refused, answer_number}
use denote.Ref.{Bor}
use Rattle.words.specs.Word.{eq_z}
use Rattle.words.proofs.Signs.{eq_z_eq}
use Rattle.sheet.specs.Limits.{form1, form2, limits_of}
use Rattle.sheet.specs.Layout.{form, points, nodes, trailer_no}
use Rattle.sheet.proofs.SheetLaws.{form1_as_before, form2_as_stated}
use Rattle.sheet.specs.Open.{open_no, sheet_no}
use Rattle.list.specs.declared.Key.{Key}
use Rattle.list.specs.declared.Pair.{Pair}
use Rattle.list.specs.declared.Request.{Request}
use Rattle.list.specs.declared.Source.{Source}
use Rattle.list.specs.declared.Page.{Page}
use Rattle.list.specs.Terms.{alone_by}
use Rattle.ring.specs.Numbers.{point_no, filter_no, ring_no}
use Rattle.ring.specs.Answers.{pointed_no, unfiltered, walked_no}
use Rattle.ring.specs.Lent.{need, wiped_by}
use Rattle.ring.specs.Page.{page_no, page_refused, page_bits}
use Rattle.ring.specs.Own.{own_no, own_bits}
use Rattle.ring.specs.Partners.{partners_no, partners_refused, partners_bits}
use Rattle.ring.specs.declared.Head.{Head}
use Rattle.ring.specs.declared.Filtered.{Filtered}
use Rattle.ring.specs.declared.Paged.{Paged}
use Rattle.ring.specs.declared.Partnered.{Partnered}
use Rattle.ring.proofs.HeadLaws.{head_number, head_shut}
use Rattle.ring.proofs.LentLaws.{wiped_refused}
use Rattle.ring.proofs.PointLaws.{point_refused}
use Rattle.ring.proofs.FilterLaws.{filter_refused}
use Rattle.ring.proofs.RingLaws.{ring_refused}
use Rattle.ring.proofs.PageLaws.{page_refused_lem}
use Rattle.ring.proofs.Once as of-ring
use Rattle.ring.proofs.PageLaws as of-page
use Rattle.ring.proofs.OwnLaws as of-own
use Rattle.ring.proofs.PartnersLaws as of-partners
use Rattle.view.specs.declared.Opened.{Opened}
use Rattle.view.specs.Shown.{shown}
use Rattle.view.proofs.Once as of-view
use Rattle.pack.specs.Pack.{pack_no}
use Rattle.pack.proofs.ReturnTrip.{refused_same}
use Rattle.book.specs.declared.Book.{Book}
use Rattle.book.specs.declared.Asked.{Asked}
use Rattle.book.specs.declared.Taken.{Taken}
use Rattle.book.specs.declared.TakenArray.{TakenArray}
use Rattle.list.specs.Lent.{lent_of}
use Rattle.book.specs.Rules.{begin_no, begun_no, next_no, next_case_no, take_no, taken_slots}
use Rattle.book.proofs.Once as of_book
use Rattle.depot.specs.declared.Form.{Form}
use Rattle.depot.specs.declared.Made.{Made}
use Rattle.depot.specs.declared.Depot.{Depot}
use Rattle.depot.specs.declared.Stored.{Stored}
use Rattle.depot.specs.Forms.{forms_no}
use Rattle.depot.specs.Depot.{store_no, outcome_no}
use Rattle.depot.proofs.TakeLaws as of-depot
use Rattle.book.proofs.TakeLaws as of-take
use Rattle.marker.specs.Mark.{mark_no, number_of, Middle, MiddleAt}
use Rattle.marker.specs.declared.Marker.{Marker}
use Rattle.shortest.specs.declared.Shortlist.{Shortlist}
use Rattle.shortest.specs.Answer.{short_no, short_refused}
use Rattle.shortest.proofs.AnswerLaws as of-shortest
use Rattle.nearest.specs.declared.Found.{Found}
use Rattle.nearest.specs.Nearest.{nearest_no, near_filter_no, nearest_refused}
use Rattle.nearest.proofs.Meaning as of-nearest
use Rattle.runs.specs.declared.Run.{Run}
use Rattle.runs.specs.declared.RunArray.{RunArray}
use Rattle.runs.specs.Run.{run_no, run_refused, run_answer, run_slots}
use Rattle.ranked.specs.declared.Question.{Question}
use Rattle.ranked.specs.declared.Rank.{Rank}
use Rattle.ranked.specs.declared.Busy.{Busy}
use Rattle.ranked.specs.declared.Urgent.{Urgent}
use Rattle.ranked.specs.Busiest.{busy_no, pump_no, busy_given, busy_refused, busiest_of, busiest_pumps, busy_answer, busy_bits, pump_answer, pump_bits}
use Rattle.ranked.specs.Urgent.{urgent_no, urgent_given, urgent_refused, urgent_of, urgent_answer, urgent_bits}
use Rattle.many.specs.declared.Which.{Which}
use Rattle.many.specs.declared.Wanted.{Wanted}
use Rattle.many.specs.declared.Counted.{Counted}
use Rattle.many.specs.declared.Many.{Many}
use Rattle.many.specs.Many.{pairs_no, own_pairs_no, count_no, own_count_no, pairs_list, own_list, many_given, many_refused, stored, pairs_answer, pairs_slots, pairs_bits, own_pairs_answer, own_pairs_slots, own_pairs_bits, count_given, count_refused, which_terms, count_answer, count_bits, own_count_answer, own_count_bits}
use Rattle.runs.proofs.Once as of-runs
use Rattle.runs.proofs.Meaning as of-run
use Rattle.demands.specs.Promises.{FormsAnswers, StoreAnswers, OpenAnswers, HeadAnswers, PointAnswers, FilterAnswers, RingAnswers, PageAnswers, ShortAnswers, PackAnswers, MarkAnswers, BeginAnswers, NextAnswers, TakeAnswers, TakeArrayAnswers, RunAnswers, RunArrayAnswers, ViewOpens, PartnersAnswers, NearestAnswers, NearFilterAnswers, OwnAnswers, PairsAnswers, OwnPairsAnswers, CountAnswers, OwnCountAnswers, BusyAnswers, PumpAnswers, UrgentAnswers}
use Rattle.demands.proofs.Alike.{take_array, take_array_slots, run_array_lem, run_array_slots}
use Rattle.ring.specs.declared.Asset.{Asset}
use Rattle.walk.specs.declared.Answer.{Answer}

-- the number k is one of refusal
abbrev pub Refuses : ℕ → Type 0
Refuses k = k ≡ 0 → ⊥

-- ---- open, 1 to 8

-- [N6, N7, N8, N9, N10, N11, N12, N13, N35, Y1]
pub open_no_lem : (w : List ℤ) (r : ℕ) → OpenAnswers w r → r ≡ sheet_no w
open_no_lem w r a = a.promised

-- "Form 1 sheets open as before under their own limits", those of form 2 under theirs; "2 for a form other than 1 or 2", of words that have their trailer [Y2]
pub open_first : (w : List ℤ) (r : ℕ) → OpenAnswers w r → form w ≡ pos 1 → r ≡ open_no form1 w
open_first w r a e = a.promised ∙ form1_as_before w e

-- [Y1]
pub open_second : (w : List ℤ) (r : ℕ) → OpenAnswers w r → form w ≡ pos 2 → r ≡ open_no form2 w
open_second w r a e = a.promised ∙ form2_as_stated w e

-- [N7, Y1]
pub open_other : (w : List ℤ) (r : ℕ) → OpenAnswers w r → 6 ≤ length w → (form w ≡ pos 1 → ⊥) → (form w ≡ pos 2 → ⊥) → r ≡ 2
unfolding limits_of form1 open_no trailer_no first given
open_other w r a long no-first no_second =
    a.promised ∙ rw (off (form w) (pos 2) no_second, le-ltb (length w) 6 long, off (form w) (pos 1) no-first)
  where
    off : (y z : ℤ) → (y ≡ z → ⊥) → eq_z y z ≡ false
    off y z ne = go (eq_z y z) refl
      where
        go : (t : Bool) → eq_z y z ≡ t → eq_z y z ≡ false
        go true e = absurd (ne (eq_z_eq y z e))
        go false e = e

pub head_no : (w : List ℤ) (h : Head) → HeadAnswers w h
    → (h.number ≡ sheet_no w) × (Refuses (sheet_no w) → h ≡ record { number = sheet_no w; len = 0; n = 0; m = 0 })
head_no w h a = (head_number w h a.promised, λ ne. a.promised ∙ sym (head_shut w (sheet_no w) refl ne))

-- through a view: "An opened sheet is read where the caller keeps its words, with no copy made", all of them; refused, "a view there covers no words" [N5]
pub view_no : (w : Bor (List ℤ)) (r : Opened) → ViewOpens w r
    → (r.number ≡ sheet_no w.now)
    × (Refuses (sheet_no w.now) → shown r ≡ record { number = sheet_no w.now; start = w.ref_ptr; covers = []; n = 0; m = 0 })
    × (sheet_no w.now ≡ 0 → shown r ≡ record { number = 0; start = w.ref_ptr; covers = w.now; n = points w.now; m = nodes w.now })
view_no w r a = (of-view.view_open_no w r a, λ ne. of-view.open_refused w r a ne, λ z. of-view.open_shows w r a z)

-- ---- pack, "18, 2, 3, 5, 6, 17": refused, the lent words are as they stood

-- [N3, N14, N15, N16, N17, Y4]
pub pack_no_lem : (form n : ℕ) (points order : List ℤ) (ed : ℕ) (out : List ℤ) (r : ℕ) (out' : List ℤ) → PackAnswers form n points order ed out r out'
    → (r ≡ pack_no form n points order ed (length out)) × (Refuses r → out' ≡ out)
pack_no_lem form n points order ed out r out' a = (a.promised.0, λ ne. refused_same form n points order ed out r out' a.promised.0 a.promised.1 ne)

-- ---- the point reader, 1 to 8, then 9

-- [F10]
pub point_no_lem : (w : List ℤ) (i : ℕ) (r : Result Asset ℕ) → PointAnswers w i r
    → (pointed_no r ≡ point_no w i) × (Refuses (point_no w i) → r ≡ Err (point_no w i))
point_no_lem w i r a = (ap pointed_no a.promised ∙ of-ring.ring_point_no w i, λ ne. a.promised ∙ sym (point_refused w i (point_no w i) refl ne))

-- ---- the filter walk, 1 to 8 for P, then for Q, then 9, then 24: refused, both counts are 0, and the lent words are as they were

-- [N4, Y15]
pub filter_no_lem : (P Q : List ℤ) (j : ℕ) (w : List ℕ) (r : Filtered) (w' : List ℕ) → FilterAnswers P Q j w r w'
    → (r.number ≡ filter_no P Q j (length w)) × (Refuses (filter_no P Q j (length w)) → (r ≡ unfiltered (filter_no P Q j (length w))) × (w' ≡ w))
filter_no_lem P Q j w r w' a = (
  ap (λ (x : Filtered). x.number) a.promised.0 ∙ of-ring.ring_filter_no P Q j (length w),
  λ ne.
      let z = filter_refused P Q j w _ refl ne in
      (a.promised.0 ∙ sym z.0, a.promised.1 ∙ sym z.1),
)

-- ---- the ring walk, 1 to 8 for P, then for Q, then 9

-- [A13, F10]
pub ring_no_lem : (P Q : List ℤ) (j i : ℕ) (g : Bool) (r : Result Answer ℕ) → RingAnswers P Q j i g r
    → (walked_no r ≡ ring_no P Q j i g) × (Refuses (ring_no P Q j i g) → r ≡ Err (ring_no P Q j i g))
ring_no_lem P Q j i g r a = (ap walked_no a.promised ∙ of-ring.ring_walk_no P Q j i g, λ ne. a.promised ∙ sym (ring_refused P Q j i g (ring_no P Q j i g) refl ne))

-- ---- the page request, 1 to 8 for P, then for Q, then 27, then 26, then 29, then 9, then 10, then 21, then 24: refused, the page is all zero, and so is its count, and the lent words
-- are as they were

-- [N4, T9, T10, Y13, Y15, A13, U13, U14]
pub page_no_lem : (P Q : List ℤ) (o : List ℕ) (ask : Request) (w : List ℕ) (r : Paged) (w' : List ℕ) → PageAnswers P Q o ask w r w'
    → (r.number ≡ page_no P Q o ask (length w)) × (Refuses (page_no P Q o ask (length w)) → (r ≡ page_refused (page_no P Q o ask (length w))) × (w' ≡ w))
unfolding page_bits
page_no_lem P Q o ask w r w' a = (
  ap (λ (x : Paged). x.number) a.promised.0 ∙ of-page.ring_page_no P Q o ask (length w),
  λ ne. (a.promised.0 ∙ page_refused_lem P Q o ask (length w) _ refl ne, a.promised.1 ∙ sym (wiped_refused w (need P) _ _ refl ne)),
)

-- ---- the page request of a self join, 1 to 8 for its sheet, then 9, then 10, then 24: refused, the page is all zero, and so is its count, and the lent words
-- are as they were

-- [J6, Y15, A13]
pub own_no_lem : (S : List ℤ) (key : Key) (size : ℕ) (g : Bool) (w : List ℕ) (r : Paged) (w' : List ℕ) → OwnAnswers S key size g w r w'
    → (r.number ≡ own_no S key size g (length w)) × (Refuses (own_no S key size g (length w)) → (r ≡ page_refused (own_no S key size g (length w))) × (w' ≡ w))
unfolding own_bits
own_no_lem S key size g w r w' a = (
  ap (λ (x : Paged). x.number) a.promised.0 ∙ of-own.ring_own_no S key size g (length w),
  λ ne. (a.promised.0 ∙ of-own.own_refused S key size g (length w) _ refl ne, a.promised.1 ∙ sym (wiped_refused w (need S) _ _ refl ne)),
)

-- ---- the shortest circles, 1 to 8 for P, then for Q, then 10, then 24: refused, the number of pairs is 0, each pair is three zeros, and the lent words are
-- as they were

-- [H5, Y15]
pub short_no_lem : (P Q : List ℤ) (k : ℕ) (w : List ℕ) (r : Shortlist) (w' : List ℕ) → ShortAnswers P Q k w r w'
    → (r.number ≡ short_no P Q k (length w)) × (Refuses (short_no P Q k (length w)) → (r ≡ short_refused (short_no P Q k (length w))) × (w' ≡ w))
short_no_lem P Q k w r w' a = (
  ap (λ (x : Shortlist). x.number) a.promised.0 ∙ of-shortest.short_call_no P Q k (length w),
  λ ne. (a.promised.0 ∙ of-shortest.short_refused_lem P Q k (length w) _ refl ne, a.promised.1 ∙ of-shortest.short_words_refused P Q k w ne),
)

-- ---- the question for a chamber's partners, 1 to 8 for P, then for Q, then 20, then 21, then 24: refused, the count is 0, there is no yes, and the lent words
-- are as they were

-- [T8, T9, T10, Y13, Y15]
pub partners_no_lem : (P Q : List ℤ) (id t : ℕ) (w : List ℕ) (r : Partnered) (w' : List ℕ) → PartnersAnswers P Q id t w r w'
    → (r.number ≡ partners_no P Q id t (length w)) × (Refuses (partners_no P Q id t (length w)) → (r ≡ partners_refused (partners_no P Q id t (length w))) × (w' ≡ w))
unfolding partners_bits
partners_no_lem P Q id t w r w' a = (
  ap (λ (x : Partnered). x.number) a.promised.0 ∙ of-partners.ring_partners_no P Q id t (length w),
  λ ne. (a.promised.0 ∙ of-partners.partners_refused_lem P Q id t (length w) _ refl ne, a.promised.1 ∙ sym (wiped_refused w (need P) _ _ refl ne)),
)

-- ---- nearest first, 1 to 8 for P, then for Q, then 20, then 10 (of the filter 24 instead), then 25: refused, all is zero, and the lent numbers and words are
-- as they were

-- [G9, G10, G11]
pub nearest_no_lem : (P Q : List ℤ) (id size : ℕ) (ws : List ℕ) (r : Found) (t : List ℕ) → NearestAnswers P Q id size ws r t
    → (r.number ≡ nearest_no P Q id size (length ws)) × (Refuses (nearest_no P Q id size (length ws)) → (r ≡ nearest_refused (nearest_no P Q id size (length ws))) × (t ≡ ws))
nearest_no_lem P Q id size ws r t a = (
  ap (λ (x : Found). x.number) a.promised.0 ∙ of-nearest.nearest_call_no P Q id size (length ws),
  λ ne. (a.promised.0 ∙ of-nearest.nearest_refused_lem P Q id size (length ws) _ refl ne, a.promised.1 ∙ of-nearest.waited_refused _ P ws ne),
)

-- [G9, G10, G11, Y15]
pub near_filter_no_lem : (P Q : List ℤ) (id : ℕ) (ws w : List ℕ) (r : Filtered) (t w' : List ℕ) → NearFilterAnswers P Q id ws w r t w'
    → (r.number ≡ near_filter_no P Q id (length w) (length ws))
    × (Refuses (near_filter_no P Q id (length w) (length ws)) → (r ≡ unfiltered (near_filter_no P Q id (length w) (length ws))) × (t ≡ ws) × (w' ≡ w))
near_filter_no_lem P Q id ws w r t w' a = (
  ap (λ (x : Filtered). x.number) a.promised.0 ∙ of-nearest.near_filter_call_no P Q id (length w) (length ws),
  λ ne.
      (a.promised.0 ∙ of-nearest.near_filter_refused P Q id (length w) (length ws) _ refl ne, a.promised.1 ∙ of-nearest.waited_refused _ P ws ne, a.promised.2 ∙ of-nearest.near_filter_words_refused P Q id (length ws) w ne),
)

-- ---- many pairs, 1 to 8 for P, then for Q, then 27, then 26, then 29, then 9, then 21, then 40, then 24; of a self join 1 to 8, then 29, then 9, then 40, then 24; their number without 9:
-- refused, the count is 0, nothing follows, and the lent slots and words are as they were

-- what an answer by its number has and leaves: the number is that one; where it is one of refusal, it is all, and what was lent is as it was
by_number : (nr len : ℕ) (l slots : List Pair) (n : ℕ) (w : List ℕ) (r : Many) (slots' : List Pair) (w' : List ℕ)
    → (r ≡ answer nr (many_given len l) many_refused) × (slots' ≡ answer nr (stored slots l) (λ k. slots)) × (w' ≡ wiped_by nr n w)
    → (r.number ≡ nr) × (Refuses nr → (r ≡ many_refused nr) × (slots' ≡ slots) × (w' ≡ w))
unfolding many_given many_refused
by_number nr len l slots n w r slots' w' a = (
  ap (λ (x : Many). x.number) a.0 ∙ answer_number (many_given len l) many_refused (λ (x : Many). x.number) refl (λ k. refl) nr,
  λ ne. (a.0 ∙ answer_refused (many_given len l) many_refused nr nr refl ne, a.1 ∙ answer_refused (stored slots l) (λ k. slots) nr nr refl ne, a.2 ∙ sym (wiped_refused w n nr nr refl ne)),
)

-- [MP13, MP14, MP15]
pub pairs_no_lem : (P Q : List ℤ) (o : List ℕ) (ask : Wanted) (slots : List Pair) (w : List ℕ) (r : Many) (slots' : List Pair) (w' : List ℕ) → PairsAnswers P Q o ask slots w r slots' w'
    → (r.number ≡ pairs_no P Q o ask (length w)) × (Refuses (pairs_no P Q o ask (length w)) → (r ≡ many_refused (pairs_no P Q o ask (length w))) × (slots' ≡ slots) × (w' ≡ w))
unfolding pairs_answer pairs_slots pairs_bits
pairs_no_lem P Q o ask slots w r slots' w' a = by_number (pairs_no P Q o ask (length w)) (length slots) (pairs_list P Q o ask) slots (need P) w r slots' w' a

-- [MP13, MP15]
pub own_pairs_no_lem : (S : List ℤ) (key : Key) (big : ℕ) (g : Bool) (slots : List Pair) (w : List ℕ) (r : Many) (slots' : List Pair) (w' : List ℕ) → OwnPairsAnswers S key big g slots w r slots' w'
    → (r.number ≡ own_pairs_no S key big g (length w)) × (Refuses (own_pairs_no S key big g (length w)) → (r ≡ many_refused (own_pairs_no S key big g (length w))) × (slots' ≡ slots) × (w' ≡ w))
unfolding own_pairs_answer own_pairs_slots own_pairs_bits
own_pairs_no_lem S key big g slots w r slots' w' a = by_number (own_pairs_no S key big g (length w)) (length slots) (own_list S key big g) slots (need S) w r slots' w' a

count_by : (nr n : ℕ) (good : Counted) → good.number ≡ 0 → (w : List ℕ) (r : Counted) (w' : List ℕ) → (r ≡ answer nr good count_refused) × (w' ≡ wiped_by nr n w)
    → (r.number ≡ nr) × (Refuses nr → (r ≡ count_refused nr) × (w' ≡ w))
unfolding count_refused
count_by nr n good z w r w' a = (
  ap (λ (x : Counted). x.number) a.0 ∙ answer_number good count_refused (λ (x : Counted). x.number) z (λ k. refl) nr,
  λ ne. (a.0 ∙ answer_refused good count_refused nr nr refl ne, a.1 ∙ sym (wiped_refused w n nr nr refl ne)),
)

-- [MP13, MP15]
pub count_no_lem : (P Q : List ℤ) (o : List ℕ) (which : Which) (w : List ℕ) (r : Counted) (w' : List ℕ) → CountAnswers P Q o which w r w'
    → (r.number ≡ count_no P Q o which (length w)) × (Refuses (count_no P Q o which (length w)) → (r ≡ count_refused (count_no P Q o which (length w))) × (w' ≡ w))
unfolding count_answer count_bits count_given
count_no_lem P Q o which w r w' a = count_by (count_no P Q o which (length w)) (need P) (count_given which.largest (which_terms which) o P Q) refl w r w' a.promised

-- [MP13, MP15]
pub own_count_no_lem : (S : List ℤ) (big : ℕ) (g : Bool) (w : List ℕ) (r : Counted) (w' : List ℕ) → OwnCountAnswers S big g w r w'
    → (r.number ≡ own_count_no S big g (length w)) × (Refuses (own_count_no S big g (length w)) → (r ≡ count_refused (own_count_no S big g (length w))) × (w' ≡ w))
unfolding own_count_answer own_count_bits count_given
own_count_no_lem S big g w r w' a = count_by (own_count_no S big g (length w)) (need S) (count_given big (alone_by g) [] S S) refl w r w' a.promised

-- ---- the busiest, 1 to 8 for P, then for Q, then 27, then 26, then 29, then 10, then 40, then 24, of pump houses without 27 and 26; the most urgent, as the busiest, and before 24 41 and 42:
-- refused, the rows are zeros, and so is their count, and the lent words are as they were

busy_by : (nr n : ℕ) (l : List Rank) (w : List ℕ) (r : Busy) (w' : List ℕ) → (r ≡ answer nr (busy_given l) busy_refused) × (w' ≡ wiped_by nr n w) → (r.number ≡ nr) × (Refuses nr → (r ≡ busy_refused nr) × (w' ≡ w))
unfolding busy_given busy_refused
busy_by nr n l w r w' a = (
  ap (λ (x : Busy). x.number) a.0 ∙ answer_number (busy_given l) busy_refused (λ (x : Busy). x.number) refl (λ k. refl) nr,
  λ ne. (a.0 ∙ answer_refused (busy_given l) busy_refused nr nr refl ne, a.1 ∙ sym (wiped_refused w n nr nr refl ne)),
)

-- [BU9, BU10]
pub busy_no_lem : (P Q : List ℤ) (o : List ℕ) (ask : Question) (w : List ℕ) (r : Busy) (w' : List ℕ) → BusyAnswers P Q o ask w r w'
    → (r.number ≡ busy_no P Q o ask (length w)) × (Refuses (busy_no P Q o ask (length w)) → (r ≡ busy_refused (busy_no P Q o ask (length w))) × (w' ≡ w))
unfolding busy_answer busy_bits
busy_no_lem P Q o ask w r w' a = busy_by (busy_no P Q o ask (length w)) (need P) (busiest_of P Q o ask) w r w' a.promised

-- [BU9, BU10]
pub pump_no_lem : (P Q : List ℤ) (k big : ℕ) (g : Bool) (w : List ℕ) (r : Busy) (w' : List ℕ) → PumpAnswers P Q k big g w r w'
    → (r.number ≡ pump_no P Q k big g (length w)) × (Refuses (pump_no P Q k big g (length w)) → (r ≡ busy_refused (pump_no P Q k big g (length w))) × (w' ≡ w))
unfolding pump_answer pump_bits
pump_no_lem P Q k big g w r w' a = busy_by (pump_no P Q k big g (length w)) (need Q) (busiest_pumps P Q k big g) w r w' a.promised

-- [BU9, BU10]
pub urgent_no_lem : (P Q : List ℤ) (o ps qs : List ℕ) (ask : Question) (w : List ℕ) (r : Urgent) (w' : List ℕ) → UrgentAnswers P Q o ps qs ask w r w'
    → (r.number ≡ urgent_no P Q o ps qs ask (length w)) × (Refuses (urgent_no P Q o ps qs ask (length w)) → (r ≡ urgent_refused (urgent_no P Q o ps qs ask (length w))) × (w' ≡ w))
unfolding urgent_answer urgent_bits urgent_given urgent_refused
urgent_no_lem P Q o ps qs ask w r w' a =
    let nr = urgent_no P Q o ps qs ask (length w) in
    let good = urgent_given (urgent_of P Q o ps qs ask) in (
      ap (λ (x : Urgent). x.number) a.promised.0 ∙ answer_number good urgent_refused (λ (x : Urgent). x.number) refl (λ k. refl) nr,
      λ ne. (a.promised.0 ∙ answer_refused good urgent_refused nr nr refl ne, a.promised.1 ∙ sym (wiped_refused w (need P) nr nr refl ne)),
    )

-- ---- begin, 3, then 21

only_begun : (k : ℕ) (r : Result Book ℕ) → begun_no r ≡ k → Refuses k → r ≡ Err k
unfolding begun_no
only_begun k (Ok b) e ne = absurd (ne (sym e))
only_begun k (Err n) e ne = ap Err e

-- [N24, T9, T10, J12, J13, Y13, U13, F10]
pub begin_no_lem : (s : Source) (r : Result Book ℕ) → BeginAnswers s r → (begun_no r ≡ begin_no s) × (Refuses (begin_no s) → r ≡ Err (begin_no s))
begin_no_lem s r a =
    let e : begun_no r ≡ begin_no s = ap begun_no a.promised ∙ of_book.book_begin_no s in
    (e, λ ne. only_begun (begin_no s) r e ne)

-- ---- the next key, 11: the book comes back as it went in

only_next : (k : ℕ) (r : Result Key ℕ) → next_case_no r ≡ k → Refuses k → r ≡ Err k
unfolding next_case_no
only_next k (Ok key) e ne = absurd (ne (sym e))
only_next k (Err n) e ne = ap Err e

-- [N25, N26, F10]
pub next_no_lem : (b : Book) (slots : List Pair) (r : Asked) → NextAnswers b slots r
    → (next_case_no r.next ≡ next_no b (length slots)) × (r.book ≡ b) × (Refuses (next_no b (length slots)) → r.next ≡ Err (next_no b (length slots)))
next_no_lem b slots r a =
    let e : next_case_no r.next ≡ next_no b (length slots) = ap (λ (x : Asked). next_case_no x.next) a ∙ of_book.book_next_no b slots in
    (e, ap (λ (x : Asked). x.book) a ∙ of_book.asked_book b slots, λ ne. only_next (next_no b (length slots)) r.next e ne)

-- ---- take, 11, 12, 22, 13, 31, 14, 15, 16: refused, the book comes back as it went in, and every slot is as it stood

-- [N3, N26, N27, N28, N29, N30, N31, N32, T11, J11, A14, U15]
pub take_no_lem : (b : Book) (slots : List Pair) (g : Page) (r : Taken) (slots' : List Pair) → TakeAnswers b slots g r slots'
    → (r.number ≡ take_no b slots g) × (Refuses (take_no b slots g) → (r.book ≡ b) × (slots' ≡ slots))
take_no_lem b slots g r slots' a =
    (ap (λ (x : Taken). x.number) a.0 ∙ of-take.book_take_no b slots g, λ ne. (ap (λ (x : Taken). x.book) a.0 ∙ of-take.refused_book b slots g ne, a.1 ∙ of-take.refused_slots b slots g ne))

-- and so where the slots are kept in an array
pub take_array_no : (slots : List Pair) (len : ℕ) (b : Book) (g : Page) (r : TakenArray) → TakeArrayAnswers slots len b g r
    → (r.taken.number ≡ take_no b (take (lent_of 64 len) slots) g) × (Refuses (take_no b (take (lent_of 64 len) slots) g) → (r.taken.book ≡ b) × (r.slots ≡ slots))
take_array_no slots len b g r a =
    let lent = take (lent_of 64 len) slots in
    let z = take_no_lem b lent g r.taken (taken_slots b lent g) (take_array slots len b g r a) in (
      z.0,
      λ ne.
          ((z.1 ne).0, take_array_slots slots len b g r a ∙ ap (λ (x : List Pair). x ++ drop (lent_of 64 len) slots) (z.1 ne).1 ∙ take-append-drop (lent_of 64 len) slots),
    )

-- ---- making forms, 11, 16: refused, nothing is made, and every place is as it stood

-- [I16]
pub make_no : (b : Book) (slots : List Pair) (out : List Form) (r : Made) (out' : List Form) → FormsAnswers b slots out r out'
    → (r.number ≡ forms_no b (length slots) (length out)) × (Refuses (forms_no b (length slots) (length out)) → (r.count ≡ 0) × (out' ≡ out))
make_no b slots out r out' a =
    let e = of-depot.forms_no_lem b slots out in
    (ap (λ (x : Made). x.number) a.0 ∙ e, λ ne. let z = of-depot.forms_refused b slots out (λ y. ne (sym e ∙ y)) in (ap (λ (x : Made). x.count) a.0 ∙ z.0, a.1 ∙ z.1))

-- ---- the depot's take, 11, 15, 16: refused, the depot comes back as it went in, and every slot is as it stood

-- [I14, I15]
pub store_no_lem : (d : Depot) (slots : List Form) (f : Form) (r : Stored) (slots' : List Form) → StoreAnswers d slots f r slots'
    → (outcome_no r.outcome ≡ store_no d slots f) × (Refuses (store_no d slots f) → (r.outcome ≡ Err (store_no d slots f)) × (r.depot ≡ d) × (slots' ≡ slots))
store_no_lem d slots f r slots' a = (
  ap (λ (x : Stored). outcome_no x.outcome) a.0 ∙ of-depot.stored_no d slots f,
  λ ne. let z = of-depot.not_taken d slots f ne in (ap (λ (x : Stored). x.outcome) a.0 ∙ z.0, ap (λ (x : Stored). x.depot) a.0 ∙ z.1, a.1 ∙ z.2),
)

-- ---- a leaf's run, 1 to 8 for P, then for Q, then 19, then 24, then 16: refused, both counts are 0, every slot is as it stood, and so is every lent word

only_run : (P Q : List ℤ) (v len bits : ℕ) → Refuses (run_no P Q v len bits) → run_answer P Q v len bits ≡ run_refused (run_no P Q v len bits)
unfolding run_answer
only_run P Q v len bits ne = answer_refused _ run_refused _ _ refl ne

-- [N3, L8, L9, L10, Y15]
pub run_no_lem : (P Q : List ℤ) (v : ℕ) (slots : List Pair) (w : List ℕ) (r : Run) (slots' : List Pair) (w' : List ℕ) → RunAnswers P Q v slots w r slots' w'
    → (r.number ≡ run_no P Q v (length slots) (length w))
    × (Refuses (run_no P Q v (length slots) (length w)) → (r ≡ run_refused (run_no P Q v (length slots) (length w))) × (slots' ≡ slots) × (w' ≡ w))
run_no_lem P Q v slots w r slots' w' a = (
  ap (λ (x : Run). x.number) a.0 ∙ of-runs.run_call_no P Q v (length slots) (length w),
  λ ne.
      let z = of-run.run_refused_lem P Q v slots w ne in
      (a.0 ∙ only_run P Q v (length slots) (length w) ne, a.1 ∙ z.0, a.2 ∙ z.1),
)

-- and so where the slots are kept in an array
pub run_array_no : (P Q : List ℤ) (v : ℕ) (slots : List Pair) (len : ℕ) (w : List ℕ) (r : RunArray) (w' : List ℕ) → RunArrayAnswers P Q v slots len w r w'
    → (r.run.number ≡ run_no P Q v (length (take (lent_of 256 len) slots)) (length w))
    × (Refuses (run_no P Q v (length (take (lent_of 256 len) slots)) (length w))
    → (r.run ≡ run_refused (run_no P Q v (length (take (lent_of 256 len) slots)) (length w))) × (r.slots ≡ slots) × (w' ≡ w))
run_array_no P Q v slots len w r w' a =
    let lent = take (lent_of 256 len) slots in
    let z = run_no_lem P Q v lent w r.run (run_slots P Q v lent (length w)) w' (run_array_lem P Q v slots len w r w' a) in (
      z.0,
      λ ne.
          ((z.1 ne).0, run_array_slots P Q v slots len w r w' a ∙ ap (λ (x : List Pair). x ++ drop (lent_of 256 len) slots) (z.1 ne).1 ∙ take-append-drop (lent_of 256 len) slots, (z.1 ne).2),
    )

-- ---- the marker, 5

only_marked : (k : ℕ) (r : Result Marker ℕ) → number_of r ≡ k → Refuses k → r ≡ Err k
only_marked k (Err n) e ne = ap Err e
only_marked k (Ok m) e ne = absurd (ne (sym e))

-- [N34, F10]
pub mark_no_lem : (ax ay bx by : ℤ) (r : Result Marker ℕ) → MarkAnswers ax ay bx by r
    → (number_of r ≡ mark_no ax ay bx by) × (Refuses (mark_no ax ay bx by) → r ≡ Err (mark_no ax ay bx by))
mark_no_lem ax ay bx by r a = (a.promised.number, λ ne. only_marked (mark_no ax ay bx by) r a.promised.number ne)

-- "doubled, each is exactly the sum of the two coordinates. A zero sum gives positive zero": a marker that is answered is the middle [M2, M3]
pub mark_middle : (ax ay bx by : ℤ) (m : Marker) → MarkAnswers ax ay bx by (Ok m) → Middle ax ay bx by m
mark_middle ax ay bx by m a = subst (λ (k : ℕ). MiddleAt k ax ay bx by (Ok m)) (sym a.promised.number) a.promised.marker
