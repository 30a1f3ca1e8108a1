-- "For each function open to callers, one input admits one result and one final state of what was lent, refusals too; prove it from the promise."
-- Each theorem starts from two answers that the call's promise admits for one input, and ends with their being one. (The calls over C: OverC.)
-- One exception, decision 32: of a view that `open` makes it says all that there is to see, the number, the words covered and where they stand, the counts; the name
-- that the logic gives to the borrow itself is not settled.
-- Assumes nothing. [D7, D8]
use mathlib.Core.Bool.{Bool}
use mathlib.Core.Path.{◌≡◌, refl, sym, ◌∙◌}
use mathlib.Core.List.{List}
use Prim.Native.Nat.{ℕ}
use lib.IntN.{ℤ}
use lib.ListN.{length}
use denote.Ref.{Bor}
use Rattle.std.specs.Prelude.{Result}
use Rattle.list.specs.declared.Key.{Key}
use Rattle.list.specs.declared.Pair.{Pair}
use Rattle.list.specs.declared.Request.{Request}
use Rattle.list.specs.declared.Source.{Source}
use Rattle.list.specs.declared.Page.{Page}
use Rattle.ring.specs.declared.Head.{Head}
use Rattle.ring.specs.declared.Filtered.{Filtered}
use Rattle.ring.specs.declared.Paged.{Paged}
use Rattle.ring.specs.declared.Partnered.{Partnered}
use Rattle.ring.specs.declared.Placed.{Placed}
use Rattle.view.specs.declared.Sheet.{Sheet}
use Rattle.view.specs.declared.Opened.{Opened}
use Rattle.view.specs.Shown.{shown}
use Rattle.book.specs.declared.Book.{Book}
use Rattle.book.specs.declared.Asked.{Asked}
use Rattle.book.specs.declared.Taken.{Taken}
use Rattle.book.specs.declared.TakenArray.{TakenArray}
use Rattle.depot.specs.declared.Form.{Form}
use Rattle.depot.specs.declared.Made.{Made}
use Rattle.depot.specs.declared.MadeArray.{MadeArray}
use Rattle.depot.specs.declared.Depot.{Depot}
use Rattle.depot.specs.declared.Stored.{Stored}
use Rattle.depot.specs.declared.StoredArray.{StoredArray}
use Rattle.shortest.specs.declared.Shortlist.{Shortlist}
use Rattle.nearest.specs.declared.Found.{Found}
use Rattle.runs.specs.declared.Run.{Run}
use Rattle.runs.specs.declared.RunArray.{RunArray}
use Rattle.ranked.specs.declared.Question.{Question}
use Rattle.ranked.specs.declared.Busy.{Busy}
use Rattle.ranked.specs.declared.Urgent.{Urgent}
use Rattle.many.specs.declared.Which.{Which}
use Rattle.many.specs.declared.Wanted.{Wanted}
use Rattle.many.specs.declared.Counted.{Counted}
use Rattle.many.specs.declared.Many.{Many}
use Rattle.ring.proofs.Once as of-ring
use Rattle.ring.proofs.PageLaws as of-page
use Rattle.ring.proofs.OwnLaws as of-own
use Rattle.shortest.proofs.AnswerLaws as of-shortest
use Rattle.ring.proofs.PartnersLaws as of-partners
use Rattle.ring.proofs.PositionLaws as of-position
use Rattle.nearest.proofs.Meaning as of-nearest
use Rattle.view.proofs.Once as of-view
use Rattle.book.proofs.Once as of_book
use Rattle.depot.proofs.TakeLaws as of-depot
use Rattle.pack.proofs.Once as of-pack
use Rattle.marker.proofs.Once as of-marker
use Rattle.runs.proofs.Once as of-runs
use Rattle.demands.specs.Promises.{LengthAnswers, PlaceAnswers, FormsAnswers, DepotBegins, StoreAnswers, FormsArrayAnswers, StoreArrayAnswers, OpenAnswers, HeadAnswers, PointAnswers, FilterAnswers, RingAnswers, PageAnswers, ShortAnswers, PackAnswers, MarkAnswers, BeginAnswers, NextAnswers, TakeAnswers, NextArrayAnswers, TakeArrayAnswers, RunAnswers, RunArrayAnswers, ViewOpens, ViewPoints, ViewFilters, ViewRings, ViewPages, OpenHead, PointOpened, PartnersAnswers, ViewPartners, NearestAnswers, NearFilterAnswers, OwnAnswers, ViewOwnPages, ViewRuns, ViewShortest, ViewNearest, ViewNearFilters, PairsAnswers, OwnPairsAnswers, CountAnswers, OwnCountAnswers, ViewMany, ViewOwnMany, ViewCounts, ViewOwnCounts, BusyAnswers, PumpAnswers, UrgentAnswers, ViewBusiest, ViewPumps, ViewUrgent}
use Rattle.marker.specs.declared.Marker.{Marker}
use Rattle.ring.specs.declared.Asset.{Asset}
use Rattle.walk.specs.declared.Answer.{Answer}

-- ---- ring

pub open_once : (w : List ℤ) (r r' : ℕ) → OpenAnswers w r → OpenAnswers w r' → r ≡ r'
open_once w r r' a b = of-ring.ring_open_once w r r' a.promised b.promised

pub head_once : (w : List ℤ) (r r' : Head) → HeadAnswers w r → HeadAnswers w r' → r ≡ r'
head_once w r r' a b = of-ring.ring_head_once w r r' a.promised b.promised

pub point_once : (w : List ℤ) (i : ℕ) (r r' : Result Asset ℕ) → PointAnswers w i r → PointAnswers w i r' → r ≡ r'
point_once w i r r' a b = of-ring.ring_point_once w i r r' a.promised b.promised

pub place_once : (w : List ℤ) (id : ℕ) (r r' : Placed) → PlaceAnswers w id r → PlaceAnswers w id r' → r ≡ r'
place_once w id r r' a b = of-position.ring_place_once w id r r' a.promised b.promised

pub ring_once : (P Q : List ℤ) (j i : ℕ) (g : Bool) (r r' : Result Answer ℕ) → RingAnswers P Q j i g r → RingAnswers P Q j i g r' → r ≡ r'
ring_once P Q j i g r r' a b = of-ring.ring_walk_once P Q j i g r r' a.promised b.promised

-- those that are lent words: one answer, and one final state of the words

pub filter_once : (P Q : List ℤ) (j : ℕ) (w : List ℕ) (r r' : Filtered) (t t' : List ℕ) → FilterAnswers P Q j w r t → FilterAnswers P Q j w r' t' → (r ≡ r') × (t ≡ t')
filter_once P Q j w r r' t t' a b = (of-ring.ring_filter_once P Q j (length w) r r' a.promised.0 b.promised.0, a.promised.1 ∙ sym b.promised.1)

pub page_once : (P Q : List ℤ) (o : List ℕ) (ask : Request) (w : List ℕ) (r r' : Paged) (t t' : List ℕ) → PageAnswers P Q o ask w r t → PageAnswers P Q o ask w r' t' → (r ≡ r') × (t ≡ t')
page_once P Q o ask w r r' t t' a b = (of-page.ring_page_once P Q o ask (length w) r r' a.promised.0 b.promised.0, a.promised.1 ∙ sym b.promised.1)

pub own_once : (S : List ℤ) (key : Key) (size : ℕ) (g : Bool) (w : List ℕ) (r r' : Paged) (t t' : List ℕ) → OwnAnswers S key size g w r t → OwnAnswers S key size g w r' t' → (r ≡ r') × (t ≡ t')
own_once S key size g w r r' t t' a b = (of-own.ring_own_once S key size g (length w) r r' a.promised.0 b.promised.0, a.promised.1 ∙ sym b.promised.1)

pub partners_once : (P Q : List ℤ) (id t : ℕ) (w : List ℕ) (r r' : Partnered) (u u' : List ℕ) → PartnersAnswers P Q id t w r u → PartnersAnswers P Q id t w r' u' → (r ≡ r') × (u ≡ u')
partners_once P Q id t w r r' u u' a b = (of-partners.ring_partners_once P Q id t (length w) r r' a.promised.0 b.promised.0, a.promised.1 ∙ sym b.promised.1)

pub shortest_once : (P Q : List ℤ) (k : ℕ) (w : List ℕ) (r r' : Shortlist) (t t' : List ℕ) → ShortAnswers P Q k w r t → ShortAnswers P Q k w r' t' → (r ≡ r') × (t ≡ t')
shortest_once P Q k w r r' t t' a b = of-shortest.short_once P Q k w r r' t t' a.promised b.promised

-- ---- nearest first: one answer, and one final state of the lent numbers, and of the lent words

pub nearest_once : (P Q : List ℤ) (id size : ℕ) (ws : List ℕ) (r r' : Found) (t t' : List ℕ) → NearestAnswers P Q id size ws r t → NearestAnswers P Q id size ws r' t' → (r ≡ r') × (t ≡ t')
nearest_once P Q id size ws r r' t t' a b = of-nearest.nearest_call_once P Q id size ws r r' t t' a.promised b.promised

pub near_filter_once : (P Q : List ℤ) (id : ℕ) (ws w : List ℕ) (r r' : Filtered) (t t' u u' : List ℕ) → NearFilterAnswers P Q id ws w r t u → NearFilterAnswers P Q id ws w r' t' u' → (r ≡ r') × (t ≡ t') × (u ≡ u')
near_filter_once P Q id ws w r r' t t' u u' a b = of-nearest.near_filter_call_once P Q id ws w r r' t t' u u' a.promised b.promised

-- ---- pack: one answer, and one final state of the lent words

pub pack_once : (form n : ℕ) (points order : List ℤ) (ed : ℕ) (out : List ℤ) (r r' : ℕ) (w w' : List ℤ)
    → PackAnswers form n points order ed out r w → PackAnswers form n points order ed out r' w' → (r ≡ r') × (w ≡ w')
pack_once form n points order ed out r r' w w' a b =
    (of-pack.pack_call_once form n points order ed out r r' a.promised.0 b.promised.0, of-pack.pack_words_once form n points order ed out w w' a.promised.1 b.promised.1)

pub length_once : (n r r' : ℕ) → LengthAnswers n r → LengthAnswers n r' → r ≡ r'
length_once n r r' a b = of-pack.length_call_once n r r' a.promised b.promised

-- ---- marker

-- [M2]
pub mark_once : (ax ay bx by : ℤ) (r r' : Result Marker ℕ) → MarkAnswers ax ay bx by r → MarkAnswers ax ay bx by r' → r ≡ r'
mark_once ax ay bx by r r' a b = of-marker.marker_call_once ax ay bx by r r' a.promised b.promised

-- ---- book: one answer with the book handed back in it, and one final state of the slots

-- [K8]
pub begin_once : (s : Source) (r r' : Result Book ℕ) → BeginAnswers s r → BeginAnswers s r' → r ≡ r'
begin_once s r r' a b = of_book.book_begin_once s r r' a.promised b.promised

pub next_once : (b : Book) (slots : List Pair) (r r' : Asked) → NextAnswers b slots r → NextAnswers b slots r' → r ≡ r'
next_once b slots r r' x y = of_book.book_next_once b slots r r' x y

pub take_once : (b : Book) (slots : List Pair) (g : Page) (r r' : Taken) (t t' : List Pair) → TakeAnswers b slots g r t → TakeAnswers b slots g r' t' → (r ≡ r') × (t ≡ t')
take_once b slots g r r' t t' x y = of_book.book_take_once b slots g r r' t t' x y

pub next_array_once : (slots : List Pair) (len : ℕ) (b : Book) (r r' : Asked) → NextArrayAnswers slots len b r → NextArrayAnswers slots len b r' → r ≡ r'
next_array_once slots len b r r' x y = of_book.book_next_array_once slots len b r r' x.promised y.promised

pub take_array_once : (slots : List Pair) (len : ℕ) (b : Book) (g : Page) (r r' : TakenArray) → TakeArrayAnswers slots len b g r → TakeArrayAnswers slots len b g r' → r ≡ r'
take_array_once slots len b g r r' x y = of_book.book_take_array_once slots len b g r r' x.promised y.promised

-- ---- the depot: one answer, and one final state of what was lent

pub forms_once : (b : Book) (slots : List Pair) (out : List Form) (r r' : Made) (t t' : List Form) → FormsAnswers b slots out r t → FormsAnswers b slots out r' t' → (r ≡ r') × (t ≡ t')
forms_once b slots out r r' t t' x y = of-depot.depot_forms_once b slots out r r' t t' x y

pub depot_begin_once : (d d' : Depot) → DepotBegins d → DepotBegins d' → d ≡ d'
depot_begin_once d d' x y = x.promised ∙ sym y.promised

pub store_once : (d : Depot) (slots : List Form) (f : Form) (r r' : Stored) (t t' : List Form) → StoreAnswers d slots f r t → StoreAnswers d slots f r' t' → (r ≡ r') × (t ≡ t')
store_once d slots f r r' t t' x y = of-depot.depot_take_once d slots f r r' t t' x y

pub forms_array_once : (slots : List Pair) (len : ℕ) (out : List Form) (room : ℕ) (b : Book) (r r' : MadeArray) → FormsArrayAnswers slots len out room b r → FormsArrayAnswers slots len out room b r' → r ≡ r'
forms_array_once slots len out room b r r' x y = of-depot.depot_forms_array_once slots len out room b r r' x.promised y.promised

pub store_array_once : (slots : List Form) (len : ℕ) (d : Depot) (f : Form) (r r' : StoredArray) → StoreArrayAnswers slots len d f r → StoreArrayAnswers slots len d f r' → r ≡ r'
store_array_once slots len d f r r' x y = of-depot.depot_take_array_once slots len d f r r' x.promised y.promised

-- ---- one run per leaf: one answer, and one final state of the slots and of the lent words

pub run_once : (P Q : List ℤ) (v : ℕ) (slots : List Pair) (w : List ℕ) (r r' : Run) (t t' : List Pair) (u u' : List ℕ) → RunAnswers P Q v slots w r t u → RunAnswers P Q v slots w r' t' u' → (r ≡ r') × (t ≡ t') × (u ≡ u')
run_once P Q v slots w r r' t t' u u' x y = of-runs.run_call_once P Q v slots w r r' t t' u u' x y

pub run_array_once : (P Q : List ℤ) (v : ℕ) (slots : List Pair) (len : ℕ) (w : List ℕ) (r r' : RunArray) (u u' : List ℕ) → RunArrayAnswers P Q v slots len w r u → RunArrayAnswers P Q v slots len w r' u' → (r ≡ r') × (u ≡ u')
run_array_once P Q v slots len w r r' u u' x y = of-runs.run_array_call_once P Q v slots w len r r' u u' x.promised y.promised

-- ---- many pairs: one answer, and one final state of the slots and of the lent words

pub pairs_once : (P Q : List ℤ) (o : List ℕ) (ask : Wanted) (slots : List Pair) (w : List ℕ) (r r' : Many) (t t' : List Pair) (u u' : List ℕ) → PairsAnswers P Q o ask slots w r t u → PairsAnswers P Q o ask slots w r' t' u'
    → (r ≡ r') × (t ≡ t') × (u ≡ u')
pairs_once P Q o ask slots w r r' t t' u u' x y = (x.0 ∙ sym y.0, x.1 ∙ sym y.1, x.2 ∙ sym y.2)

pub own_pairs_once : (S : List ℤ) (key : Key) (big : ℕ) (g : Bool) (slots : List Pair) (w : List ℕ) (r r' : Many) (t t' : List Pair) (u u' : List ℕ) → OwnPairsAnswers S key big g slots w r t u → OwnPairsAnswers S key big g slots w r' t' u'
    → (r ≡ r') × (t ≡ t') × (u ≡ u')
own_pairs_once S key big g slots w r r' t t' u u' x y = (x.0 ∙ sym y.0, x.1 ∙ sym y.1, x.2 ∙ sym y.2)

pub count_once : (P Q : List ℤ) (o : List ℕ) (which : Which) (w : List ℕ) (r r' : Counted) (t t' : List ℕ) → CountAnswers P Q o which w r t → CountAnswers P Q o which w r' t' → (r ≡ r') × (t ≡ t')
count_once P Q o which w r r' t t' a b = (a.promised.0 ∙ sym b.promised.0, a.promised.1 ∙ sym b.promised.1)

pub own_count_once : (S : List ℤ) (big : ℕ) (g : Bool) (w : List ℕ) (r r' : Counted) (t t' : List ℕ) → OwnCountAnswers S big g w r t → OwnCountAnswers S big g w r' t' → (r ≡ r') × (t ≡ t')
own_count_once S big g w r r' t t' a b = (a.promised.0 ∙ sym b.promised.0, a.promised.1 ∙ sym b.promised.1)

pub busiest_once : (P Q : List ℤ) (o : List ℕ) (ask : Question) (w : List ℕ) (r r' : Busy) (t t' : List ℕ) → BusyAnswers P Q o ask w r t → BusyAnswers P Q o ask w r' t' → (r ≡ r') × (t ≡ t')
busiest_once P Q o ask w r r' t t' a b = (a.promised.0 ∙ sym b.promised.0, a.promised.1 ∙ sym b.promised.1)

pub busiest_pumps_once : (P Q : List ℤ) (k big : ℕ) (g : Bool) (w : List ℕ) (r r' : Busy) (t t' : List ℕ) → PumpAnswers P Q k big g w r t → PumpAnswers P Q k big g w r' t' → (r ≡ r') × (t ≡ t')
busiest_pumps_once P Q k big g w r r' t t' a b = (a.promised.0 ∙ sym b.promised.0, a.promised.1 ∙ sym b.promised.1)

pub urgent_once : (P Q : List ℤ) (o ps qs : List ℕ) (ask : Question) (w : List ℕ) (r r' : Urgent) (t t' : List ℕ) → UrgentAnswers P Q o ps qs ask w r t → UrgentAnswers P Q o ps qs ask w r' t' → (r ≡ r') × (t ≡ t')
urgent_once P Q o ps qs ask w r r' t t' a b = (a.promised.0 ∙ sym b.promised.0, a.promised.1 ∙ sym b.promised.1)

-- ---- view

pub view_open_once : (w : Bor (List ℤ)) (r r' : Opened) → ViewOpens w r → ViewOpens w r' → shown r ≡ shown r'
view_open_once w r r' x y = of-view.open_through_once w r r' x y

pub view_point_once : (d : Sheet) (i : ℕ) (r r' : Result Asset ℕ) → ViewPoints d i r → ViewPoints d i r' → r ≡ r'
view_point_once d i r r' x y = of-view.point_through_once d d i r r' refl x y

pub view_filter_once : (p q : Sheet) (j : ℕ) (w : List ℕ) (r r' : Filtered) (t t' : List ℕ) → ViewFilters p q j w r t → ViewFilters p q j w r' t' → (r ≡ r') × (t ≡ t')
view_filter_once p q j w r r' t t' x y = of-view.filter_through_once p p q q j w r r' t t' refl refl x y

pub view_ring_once : (p q : Sheet) (j i : ℕ) (g : Bool) (r r' : Result Answer ℕ) → ViewRings p q j i g r → ViewRings p q j i g r' → r ≡ r'
view_ring_once p q j i g r r' x y = of-view.ring_through_once p p q q j i g r r' refl refl x y

pub view_page_once : (p q : Sheet) (o : List ℕ) (ask : Request) (w : List ℕ) (r r' : Paged) (t t' : List ℕ) → ViewPages p q o ask w r t → ViewPages p q o ask w r' t' → (r ≡ r') × (t ≡ t')
view_page_once p q o ask w r r' t t' x y = of-view.page_through_once p p q q o ask w r r' t t' refl refl x y

pub view_own_once : (d : Sheet) (key : Key) (size : ℕ) (g : Bool) (w : List ℕ) (r r' : Paged) (t t' : List ℕ) → ViewOwnPages d key size g w r t → ViewOwnPages d key size g w r' t' → (r ≡ r') × (t ≡ t')
view_own_once d key size g w r r' t t' x y = of-view.own_through_once d d key size g w r r' t t' refl x y

pub view_partners_once : (p q : Sheet) (id t : ℕ) (w : List ℕ) (r r' : Partnered) (u u' : List ℕ) → ViewPartners p q id t w r u → ViewPartners p q id t w r' u' → (r ≡ r') × (u ≡ u')
view_partners_once p q id t w r r' u u' x y = of-view.partners_through_once p p q q id t w r r' u u' refl refl x y

pub view_run_once : (p q : Sheet) (v : ℕ) (slots : List Pair) (w : List ℕ) (r r' : Run) (t t' : List Pair) (u u' : List ℕ) → ViewRuns p q v slots w r t u → ViewRuns p q v slots w r' t' u' → (r ≡ r') × (t ≡ t') × (u ≡ u')
view_run_once p q v slots w r r' t t' u u' x y = of-view.run_through_once p p q q v slots w r r' t t' u u' refl refl x y

pub view_shortest_once : (p q : Sheet) (k : ℕ) (w : List ℕ) (r r' : Shortlist) (t t' : List ℕ) → ViewShortest p q k w r t → ViewShortest p q k w r' t' → (r ≡ r') × (t ≡ t')
view_shortest_once p q k w r r' t t' x y = of-view.shortest_through_once p p q q k w r r' t t' refl refl x y

pub view_nearest_once : (p q : Sheet) (id size : ℕ) (w : List ℕ) (r r' : Found) (t t' : List ℕ) → ViewNearest p q id size w r t → ViewNearest p q id size w r' t' → (r ≡ r') × (t ≡ t')
view_nearest_once p q id size w r r' t t' x y = of-view.nearest_through_once p p q q id size w r r' t t' refl refl x y

pub view_near_filter_once : (p q : Sheet) (id : ℕ) (ws w : List ℕ) (r r' : Filtered) (t t' u u' : List ℕ) → ViewNearFilters p q id ws w r t u → ViewNearFilters p q id ws w r' t' u' → (r ≡ r') × (t ≡ t') × (u ≡ u')
view_near_filter_once p q id ws w r r' t t' u u' x y = of-view.near_filter_through_once p p q q id ws w r r' t t' u u' refl refl x y

pub view_pairs_once : (p q : Sheet) (o : List ℕ) (ask : Wanted) (slots : List Pair) (w : List ℕ) (r r' : Many) (t t' : List Pair) (u u' : List ℕ) → ViewMany p q o ask slots w r t u → ViewMany p q o ask slots w r' t' u'
    → (r ≡ r') × (t ≡ t') × (u ≡ u')
view_pairs_once p q o ask slots w r r' t t' u u' x y = (x.0 ∙ sym y.0, x.1 ∙ sym y.1, x.2 ∙ sym y.2)

pub view_own_pairs_once : (d : Sheet) (key : Key) (big : ℕ) (g : Bool) (slots : List Pair) (w : List ℕ) (r r' : Many) (t t' : List Pair) (u u' : List ℕ) → ViewOwnMany d key big g slots w r t u → ViewOwnMany d key big g slots w r' t' u'
    → (r ≡ r') × (t ≡ t') × (u ≡ u')
view_own_pairs_once d key big g slots w r r' t t' u u' x y = (x.0 ∙ sym y.0, x.1 ∙ sym y.1, x.2 ∙ sym y.2)

pub view_count_once : (p q : Sheet) (o : List ℕ) (which : Which) (w : List ℕ) (r r' : Counted) (t t' : List ℕ) → ViewCounts p q o which w r t → ViewCounts p q o which w r' t' → (r ≡ r') × (t ≡ t')
view_count_once p q o which w r r' t t' x y = (x.0 ∙ sym y.0, x.1 ∙ sym y.1)

pub view_own_count_once : (d : Sheet) (big : ℕ) (g : Bool) (w : List ℕ) (r r' : Counted) (t t' : List ℕ) → ViewOwnCounts d big g w r t → ViewOwnCounts d big g w r' t' → (r ≡ r') × (t ≡ t')
view_own_count_once d big g w r r' t t' x y = (x.0 ∙ sym y.0, x.1 ∙ sym y.1)

pub view_busiest_once : (p q : Sheet) (o : List ℕ) (ask : Question) (w : List ℕ) (r r' : Busy) (t t' : List ℕ) → ViewBusiest p q o ask w r t → ViewBusiest p q o ask w r' t' → (r ≡ r') × (t ≡ t')
view_busiest_once p q o ask w r r' t t' x y = (x.0 ∙ sym y.0, x.1 ∙ sym y.1)

pub view_busiest_pumps_once : (p q : Sheet) (k big : ℕ) (g : Bool) (w : List ℕ) (r r' : Busy) (t t' : List ℕ) → ViewPumps p q k big g w r t → ViewPumps p q k big g w r' t' → (r ≡ r') × (t ≡ t')
view_busiest_pumps_once p q k big g w r r' t t' x y = (x.0 ∙ sym y.0, x.1 ∙ sym y.1)

pub view_urgent_once : (p q : Sheet) (o ps qs : List ℕ) (ask : Question) (w : List ℕ) (r r' : Urgent) (t t' : List ℕ) → ViewUrgent p q o ps qs ask w r t → ViewUrgent p q o ps qs ask w r' t' → (r ≡ r') × (t ≡ t')
view_urgent_once p q o ps qs ask w r r' t t' x y = (x.0 ∙ sym y.0, x.1 ∙ sym y.1)

pub open_head_once : (w : List ℤ) (r r' : Head) → OpenHead w r → OpenHead w r' → r ≡ r'
open_head_once w r r' a b = of-ring.ring_head_once w r r' a.promised b.promised

pub point_opened_once : (w : Bor (List ℤ)) (i : ℕ) (r r' : Result Asset ℕ) → PointOpened w i r → PointOpened w i r' → r ≡ r'
point_opened_once w i r r' a b = of-view.point_opened_through_once w i r r' a.promised b.promised
