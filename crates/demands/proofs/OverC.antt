-- The calls over C. What crosses is the answer of the call that it stands for, as a struct of numbers, so every theorem of Demand1, Demand2 and Demand3 speaks of it too: `.._over` below says of
-- which answer. Of each: every input is taken, the number is the defined one, and one input has one answer and one final state of what was lent.
-- Assumes nothing. [C1, D1, D7, D8]
use mathlib.Core.Bool.{Bool}
use mathlib.Core.Path.{◌≡◌, refl, sym, ap, ◌∙◌}
use mathlib.Core.List.{List}
use Prim.Native.Nat.{ℕ, zero, suc}
use lib.IntN.{ℤ}
use lib.ListN.{length}
use seplogic.Ra.Ura.{Ura}
use base.Logic.{SProp, emp}
use prog.Memory.{Memory}
use prog.Routine.{Routine}
use types.Logic.{Logic}
use contract.Lifetimes.{Lfts}
use contract.Monad.{Fun, fact}
use Rattle.std.specs.Prelude.{Result, Ok, Err}
use Rattle.words.specs.Word.{num}
use Rattle.words.specs.First.{answer}
use Rattle.words.proofs.FirstLaws.{answer_given, answer_number}
use Rattle.sheet.specs.Layout.{edition, form}
use Rattle.sheet.specs.Open.{sheet_no}
use Rattle.list.specs.declared.Key.{Key}
use Rattle.list.specs.declared.Pair.{Pair}
use Rattle.list.specs.declared.Request.{Request}
use Rattle.list.specs.declared.Source.{Source}
use Rattle.list.specs.declared.Page.{Page}
use Rattle.walk.specs.declared.Hit.{Hit}
use Rattle.walk.specs.declared.Hit.TheVariants.{Clear, Point, Side}
use Rattle.ring.specs.Numbers.{point_no, ring_no}
use Rattle.ring.specs.Answers.{head_of, pointed, pointed_no, walked, walked_no}
use Rattle.ring.specs.declared.Head.{Head}
use Rattle.ring.specs.declared.Filtered.{Filtered}
use Rattle.ring.specs.declared.Paged.{Paged}
use Rattle.ring.specs.declared.Partnered.{Partnered}
use Rattle.ring.specs.declared.Placed.{Placed}
use Rattle.ring.proofs.Once as of-ring
use Rattle.book.specs.declared.Book.{Book}
use Rattle.book.specs.declared.Asked.{Asked}
use Rattle.book.specs.declared.Taken.{Taken}
use Rattle.book.specs.Rules.{begin_no, begun_no, begun_for, next_no, next_case_no, asked}
use Rattle.book.proofs.Once as of_book
use Rattle.depot.specs.declared.Receipt.{Receipt}
use Rattle.depot.specs.declared.Receipt.TheVariants.{Issued, Known}
use Rattle.depot.specs.declared.Form.{Form}
use Rattle.depot.specs.declared.Made.{Made}
use Rattle.depot.specs.declared.Depot.{Depot}
use Rattle.depot.specs.declared.Stored.{Stored}
use Rattle.depot.specs.Depot.{store_no, outcome_no, stored}
use Rattle.depot.proofs.TakeLaws as of-depot
use Rattle.shortest.specs.declared.Shortlist.{Shortlist}
use Rattle.nearest.specs.declared.Found.{Found}
use Rattle.runs.specs.declared.Run.{Run}
use Rattle.ranked.specs.declared.Question.{Question}
use Rattle.ranked.specs.declared.Busy.{Busy}
use Rattle.ranked.specs.declared.Urgent.{Urgent}
use Rattle.many.specs.declared.Which.{Which}
use Rattle.many.specs.declared.Wanted.{Wanted}
use Rattle.many.specs.declared.Counted.{Counted}
use Rattle.many.specs.declared.Many.{Many}
use Rattle.marker.specs.Mark.{mark_no, number_of}
use Rattle.ffi.specs.declared.HeadAnswer.{HeadAnswer}
use Rattle.ffi.specs.declared.PointAnswer.{PointAnswer}
use Rattle.ffi.specs.declared.WalkAnswer.{WalkAnswer}
use Rattle.ffi.specs.declared.BookAnswer.{BookAnswer}
use Rattle.ffi.specs.declared.KeyAnswer.{KeyAnswer}
use Rattle.ffi.specs.declared.StoreAnswer.{StoreAnswer}
use Rattle.ffi.specs.declared.MarkAnswer.{MarkAnswer}
use Rattle.ffi.specs.Over.{head_over, point_over, hit_over, walk_over, book_over, next_over, key_over, outcome_over, store_over, mark_over, marked_at}
use Rattle.ffi.proofs.MarkLaws.{marked_is, marked_marks}
use Rattle.ffi.proofs.ring_open.Reads as open-c
use Rattle.ffi.proofs.ring_pack.Reads as pack-c
use Rattle.ffi.proofs.ring_sheet_len.Reads as sheet-len-c
use Rattle.ffi.proofs.ring_position.Reads as position-c
use Rattle.ffi.proofs.ring_point.Reads as point-c
use Rattle.ffi.proofs.ring_filter_walk.Reads as filter-c
use Rattle.ffi.proofs.ring_pair_walk.Reads as walk-c
use Rattle.ffi.proofs.ring_page.Reads as page-c
use Rattle.ffi.proofs.ring_own_page.Reads as own-c
use Rattle.ffi.proofs.ring_shortest.Reads as shortest-c
use Rattle.ffi.proofs.ring_partners.Reads as partners-c
use Rattle.ffi.proofs.ring_nearest.Reads as nearest-c
use Rattle.ffi.proofs.ring_near_filter.Reads as near-filter-c
use Rattle.ffi.proofs.ring_count.Reads as count-c
use Rattle.ffi.proofs.ring_own_count.Reads as own-count-c
use Rattle.ffi.proofs.ring_busiest.Reads as busiest-c
use Rattle.ffi.proofs.ring_busiest_pumps.Reads as busiest-pumps-c
use Rattle.ffi.proofs.ring_urgent.Reads as urgent-c
use Rattle.ffi.proofs.ring_book_begin.Reads as begin-c
use Rattle.ffi.proofs.ring_depot_begin.Reads as depot-begin-c
use Rattle.ffi.proofs.ring_marker.Reads as mark-c
use Rattle.ffi.specs.contracts.ring_book_next_key as next-c
use Rattle.ffi.specs.contracts.ring_book_take as take-c
use Rattle.ffi.specs.contracts.ring_forms as forms-c
use Rattle.ffi.specs.contracts.ring_depot_take as store-c
use Rattle.ffi.specs.contracts.ring_leaf_run as run-c
use Rattle.ffi.specs.contracts.ring_pairs as pairs-c
use Rattle.ffi.specs.contracts.ring_own_pairs as own-pairs-c
use Rattle.demands.specs.Promises.{LengthAnswers, PlaceAnswers, FormsAnswers, DepotBegins, StoreAnswers, Place, slice, mut_slice, HeadAnswers, PointAnswers, FilterAnswers, RingAnswers, PageAnswers, ShortAnswers, PackAnswers, MarkAnswers, BeginAnswers, NextAnswers, TakeAnswers, RunAnswers, PartnersAnswers, NearestAnswers, NearFilterAnswers, OwnAnswers, PairsAnswers, OwnPairsAnswers, CountAnswers, OwnCountAnswers, BusyAnswers, PumpAnswers, UrgentAnswers}
use Rattle.demands.specs.OverC.{LengthC, PlaceC, DepotBeginC, StoreC, OpenC, PackC, PointC, FilterC, WalkC, PageC, ShortC, BeginC, MarkC, NextC, PartnersC, NearestC, NearFilterC, OwnC, CountC, OwnCountC, BusyC, PumpC, UrgentC}
use Rattle.demands.proofs.Once as once
use Rattle.marker.specs.declared.Marker.{Marker}
use Rattle.ring.specs.declared.Asset.{Asset}
use Rattle.walk.specs.declared.Answer.{Answer}

-- ---- every input is taken

pub open_c_takes : (κs : Lfts 1) (a : _) → open-c.Asked κs a
open_c_takes κs a = tt

pub pack_c_takes : (κs : Lfts 3) (a : _) → pack-c.Asked κs a
pack_c_takes κs a = tt

pub sheet_len_c_takes : (κs : Lfts 0) (a : _) → sheet-len-c.Asked κs a
sheet_len_c_takes κs a = tt

pub position_c_takes : (κs : Lfts 1) (a : _) → position-c.Asked κs a
position_c_takes κs a = tt

pub point_c_takes : (κs : Lfts 1) (a : _) → point-c.Asked κs a
point_c_takes κs a = tt

pub filter_c_takes : (κs : Lfts 3) (a : _) → filter-c.Asked κs a
filter_c_takes κs a = tt

pub walk_c_takes : (κs : Lfts 2) (a : _) → walk-c.Asked κs a
walk_c_takes κs a = tt

pub page_c_takes : (κs : Lfts 4) (a : _) → page-c.Asked κs a
page_c_takes κs a = tt

pub shortest_c_takes : (κs : Lfts 3) (a : _) → shortest-c.Asked κs a
shortest_c_takes κs a = tt

pub own_c_takes : (κs : Lfts 2) (a : _) → own-c.Asked κs a
own_c_takes κs a = tt

pub partners_c_takes : (κs : Lfts 3) (a : _) → partners-c.Asked κs a
partners_c_takes κs a = tt

pub nearest_c_takes : (κs : Lfts 3) (a : _) → nearest-c.Asked κs a
nearest_c_takes κs a = tt

pub near_filter_c_takes : (κs : Lfts 4) (a : _) → near-filter-c.Asked κs a
near_filter_c_takes κs a = tt

pub count_c_takes : (κs : Lfts 4) (a : _) → count-c.Asked κs a
count_c_takes κs a = tt

pub own_count_c_takes : (κs : Lfts 2) (a : _) → own-count-c.Asked κs a
own_count_c_takes κs a = tt

pub busiest_c_takes : (κs : Lfts 4) (a : _) → busiest-c.Asked κs a
busiest_c_takes κs a = tt

pub busiest_pumps_c_takes : (κs : Lfts 3) (a : _) → busiest-pumps-c.Asked κs a
busiest_pumps_c_takes κs a = tt

pub urgent_c_takes : (κs : Lfts 6) (a : _) → urgent-c.Asked κs a
urgent_c_takes κs a = tt

pub begin_c_takes : (κs : Lfts 0) (a : _) → begin-c.Asked κs a
begin_c_takes κs a = tt

pub depot_begin_c_takes : (κs : Lfts 0) (a : _) → depot-begin-c.Asked κs a
depot_begin_c_takes κs a = tt

pub mark_c_takes : (κs : Lfts 0) (a : _) → mark-c.Asked κs a
mark_c_takes κs a = tt

-- those over slots: they ask nothing, and what specs/ states is their `ensures`, word for word
module _ {M : Type 1} {𝓤 : Ura M} (𝓛 : Logic 𝓤) (mem : Memory → SProp 𝓤) (run : Routine → Fun 𝓤) where
  pub next_c_takes : (κs : Lfts 1) (a : _) → (next-c.clauses 𝓛 mem run κs a).requires tt ≡ emp 𝓤
  next_c_takes κs a = refl

  pub take_c_takes : (κs : Lfts 1) (a : _) → (take-c.clauses 𝓛 mem run κs a).requires tt ≡ emp 𝓤
  take_c_takes κs a = refl

  pub forms_c_takes : (κs : Lfts 2) (a : _) → (forms-c.clauses 𝓛 mem run κs a).requires tt ≡ emp 𝓤
  forms_c_takes κs a = refl

  pub store_c_takes : (κs : Lfts 1) (a : _) → (store-c.clauses 𝓛 mem run κs a).requires tt ≡ emp 𝓤
  store_c_takes κs a = refl

  pub run_c_takes : (κs : Lfts 4) (a : _) → (run-c.clauses 𝓛 mem run κs a).requires tt ≡ emp 𝓤
  run_c_takes κs a = refl

  pub pairs_c_takes : (κs : Lfts 5) (a : _) → (pairs-c.clauses 𝓛 mem run κs a).requires tt ≡ emp 𝓤
  pairs_c_takes κs a = refl

  pub own_pairs_c_takes : (κs : Lfts 3) (a : _) → (own-pairs-c.clauses 𝓛 mem run κs a).requires tt ≡ emp 𝓤
  own_pairs_c_takes κs a = refl

  pub next_c_says : (κs : Lfts 1) (l : Place) (b : Book) (s : List Pair) (r : KeyAnswer)
      → next-c.ensures-1 𝓛 κs mem run b (slice l s) (record { entry = b; exit = b }) (record { entry = slice l s; exit = slice l s }) r ≡ fact 𝓤 (NextC b s r)
  next_c_says κs l b s r = refl

  pub take_c_says : (κs : Lfts 1) (l : Place) (b : Book) (s : List Pair) (g : Page) (r : Taken) (s' : List Pair)
      → take-c.ensures-1 𝓛 κs mem run b (mut_slice l s) g (record { entry = b; exit = b }) (record { entry = mut_slice l s; exit = mut_slice l s' }) (record { entry = g; exit = g }) r
      ≡ fact 𝓤 (TakeAnswers b s g r s')
  take_c_says κs l b s g r s' = refl

  pub forms_c_says : (κs : Lfts 2) (l o : Place) (b : Book) (s : List Pair) (out : List Form) (r : Made) (out' : List Form)
      → forms-c.ensures-1 𝓛 κs mem run b (slice l s) (mut_slice o out) (record { entry = b; exit = b }) (record { entry = slice l s; exit = slice l s }) (record { entry = mut_slice o out; exit = mut_slice o out' }) r
      ≡ fact 𝓤 (FormsAnswers b s out r out')
  forms_c_says κs l o b s out r out' = refl

  pub store_c_says : (κs : Lfts 1) (l : Place) (d : Depot) (s : List Form) (f : Form) (r : StoreAnswer) (s' : List Form)
      → store-c.ensures-1 𝓛 κs mem run d (mut_slice l s) f (record { entry = d; exit = d }) (record { entry = mut_slice l s; exit = mut_slice l s' }) (record { entry = f; exit = f }) r
      ≡ fact 𝓤 (StoreC d s f r s')
  store_c_says κs l d s f r s' = refl

  pub run_c_says : (κs : Lfts 4) (p_at q_at l b_at : Place) (P Q : List ℤ) (v : ℕ) (s : List Pair) (w : List ℕ) (r : Run) (s' : List Pair) (w' : List ℕ)
      → run-c.ensures-1 𝓛 κs mem run (slice p_at P) (slice q_at Q) v (mut_slice l s) (mut_slice b_at w)
      (record { entry = slice p_at P; exit = slice p_at P }) (record { entry = slice q_at Q; exit = slice q_at Q }) (record { entry = v; exit = v }) (record { entry = mut_slice l s; exit = mut_slice l s' }) (record { entry = mut_slice b_at w; exit = mut_slice b_at w' }) r
      ≡ fact 𝓤 (RunAnswers P Q v s w r s' w')
  run_c_says κs p_at q_at l b_at P Q v s w r s' w' = refl

  pub pairs_c_says : (κs : Lfts 5) (p_at q_at o_at l b_at : Place) (P Q : List ℤ) (o : List ℕ) (ask : Wanted) (s : List Pair) (w : List ℕ) (r : Many) (s' : List Pair) (w' : List ℕ)
      → pairs-c.ensures-1 𝓛 κs mem run (slice p_at P) (slice q_at Q) (slice o_at o) ask (mut_slice l s) (mut_slice b_at w) (record { entry = slice p_at P; exit = slice p_at P }) (record { entry = slice q_at Q; exit = slice q_at Q }) (record { entry = slice o_at o; exit = slice o_at o }) (record { entry = ask; exit = ask }) (record { entry = mut_slice l s; exit = mut_slice l s' }) (record { entry = mut_slice b_at w; exit = mut_slice b_at w' }) r
      ≡ fact 𝓤 (PairsAnswers P Q o ask s w r s' w')
  pairs_c_says κs p_at q_at o_at l b_at P Q o ask s w r s' w' = refl

  pub own_pairs_c_says : (κs : Lfts 3) (w_at l b_at : Place) (S : List ℤ) (key : Key) (big : ℕ) (g : Bool) (s : List Pair) (w : List ℕ) (r : Many) (s' : List Pair) (w' : List ℕ)
      → own-pairs-c.ensures-1 𝓛 κs mem run (slice w_at S) key big g (mut_slice l s) (mut_slice b_at w) (record { entry = slice w_at S; exit = slice w_at S }) (record { entry = key; exit = key }) (record { entry = big; exit = big }) (record { entry = g; exit = g }) (record { entry = mut_slice l s; exit = mut_slice l s' }) (record { entry = mut_slice b_at w; exit = mut_slice b_at w' }) r
      ≡ fact 𝓤 (OwnPairsAnswers S key big g s w r s' w')
  own_pairs_c_says κs w_at l b_at S key big g s w r s' w' = refl

-- ---- what crosses is the answer of the call

-- of a check: what the check answers, beside which stand the sheet's edition and form
abbrev pub head_in : HeadAnswer → Head
head_in c = record { number = c.number; len = c.len; n = c.n; m = c.m }

in_answer : (k : ℕ) (a : HeadAnswer) (f : ℕ → HeadAnswer) → head_in (answer k a f) ≡ answer k (head_in a) (λ n. head_in (f n))
unfolding answer
in_answer zero a f = refl
in_answer (suc k) a f = refl

head_is : (w : List ℤ) → head_in (head_over w) ≡ head_of w
unfolding head_over head_of
head_is w = in_answer (sheet_no w) _ _

pub open_over : (w : List ℤ) (c : HeadAnswer) (h : Head) → OpenC w c → HeadAnswers w h → head_in c ≡ h
open_over w c h a b = ap head_in a.promised ∙ head_is w ∙ sym b.promised

pub pack_over : (form n : ℕ) (points order : List ℤ) (ed : ℕ) (out : List ℤ) (r : ℕ) (out' : List ℤ) → PackC form n points order ed out r out' → PackAnswers form n points order ed out r out'
pack_over form n points order ed out r out' a = record { κs = a.κs; p_at = a.p_at; o_at = a.o_at; out_at = a.out_at; promised = a.promised }

pub length_over : (n r : ℕ) → LengthC n r → LengthAnswers n r
length_over n r a = record { promised = a.promised }

pub place_over : (w : List ℤ) (id : ℕ) (r : Placed) → PlaceC w id r → PlaceAnswers w id r
place_over w id r a = record { κs = a.κs; w_at = a.w_at; promised = a.promised }

pub filter_over : (P Q : List ℤ) (j : ℕ) (w : List ℕ) (r : Filtered) (w' : List ℕ) → FilterC P Q j w r w' → FilterAnswers P Q j w r w'
filter_over P Q j w r w' a = record { κs = a.κs; p_at = a.p_at; q_at = a.q_at; b_at = a.b_at; promised = a.promised }

pub own_over : (S : List ℤ) (key : Key) (size : ℕ) (g : Bool) (w : List ℕ) (r : Paged) (w' : List ℕ) → OwnC S key size g w r w' → OwnAnswers S key size g w r w'
own_over S key size g w r w' a = record { κs = a.κs; w_at = a.w_at; b_at = a.b_at; promised = a.promised }

pub partners_over : (P Q : List ℤ) (id t : ℕ) (w : List ℕ) (r : Partnered) (w' : List ℕ) → PartnersC P Q id t w r w' → PartnersAnswers P Q id t w r w'
partners_over P Q id t w r w' a = record { κs = a.κs; p_at = a.p_at; q_at = a.q_at; b_at = a.b_at; promised = a.promised }

pub page_over : (P Q : List ℤ) (o : List ℕ) (ask : Request) (w : List ℕ) (r : Paged) (w' : List ℕ) → PageC P Q o ask w r w' → PageAnswers P Q o ask w r w'
page_over P Q o ask w r w' a = record { κs = a.κs; p_at = a.p_at; q_at = a.q_at; o_at = a.o_at; b_at = a.b_at; promised = a.promised }

pub shortest_over : (P Q : List ℤ) (k : ℕ) (w : List ℕ) (r : Shortlist) (w' : List ℕ) → ShortC P Q k w r w' → ShortAnswers P Q k w r w'
shortest_over P Q k w r w' a = record { κs = a.κs; p_at = a.p_at; q_at = a.q_at; b_at = a.b_at; promised = a.promised }

pub nearest_over : (P Q : List ℤ) (id size : ℕ) (ws : List ℕ) (r : Found) (t : List ℕ) → NearestC P Q id size ws r t → NearestAnswers P Q id size ws r t
nearest_over P Q id size ws r t a = record { κs = a.κs; p_at = a.p_at; q_at = a.q_at; w_at = a.w_at; promised = a.promised }

pub near_filter_over : (P Q : List ℤ) (id : ℕ) (ws w : List ℕ) (r : Filtered) (t w' : List ℕ) → NearFilterC P Q id ws w r t w' → NearFilterAnswers P Q id ws w r t w'
near_filter_over P Q id ws w r t w' a = record { κs = a.κs; p_at = a.p_at; q_at = a.q_at; w_at = a.w_at; b_at = a.b_at; promised = a.promised }

pub count_over : (P Q : List ℤ) (o : List ℕ) (which : Which) (w : List ℕ) (r : Counted) (w' : List ℕ) → CountC P Q o which w r w' → CountAnswers P Q o which w r w'
count_over P Q o which w r w' a = record { κs = a.κs; p_at = a.p_at; q_at = a.q_at; o_at = a.o_at; b_at = a.b_at; promised = a.promised }

pub own_count_over : (S : List ℤ) (big : ℕ) (g : Bool) (w : List ℕ) (r : Counted) (w' : List ℕ) → OwnCountC S big g w r w' → OwnCountAnswers S big g w r w'
own_count_over S big g w r w' a = record { κs = a.κs; w_at = a.w_at; b_at = a.b_at; promised = a.promised }

pub busiest_over : (P Q : List ℤ) (o : List ℕ) (ask : Question) (w : List ℕ) (r : Busy) (w' : List ℕ) → BusyC P Q o ask w r w' → BusyAnswers P Q o ask w r w'
busiest_over P Q o ask w r w' a = record { κs = a.κs; p_at = a.p_at; q_at = a.q_at; o_at = a.o_at; b_at = a.b_at; promised = a.promised }

pub busiest_pumps_over : (P Q : List ℤ) (k big : ℕ) (g : Bool) (w : List ℕ) (r : Busy) (w' : List ℕ) → PumpC P Q k big g w r w' → PumpAnswers P Q k big g w r w'
busiest_pumps_over P Q k big g w r w' a = record { κs = a.κs; p_at = a.p_at; q_at = a.q_at; b_at = a.b_at; promised = a.promised }

pub urgent_over : (P Q : List ℤ) (o ps qs : List ℕ) (ask : Question) (w : List ℕ) (r : Urgent) (w' : List ℕ) → UrgentC P Q o ps qs ask w r w' → UrgentAnswers P Q o ps qs ask w r w'
urgent_over P Q o ps qs ask w r w' a = record { κs = a.κs; p_at = a.p_at; q_at = a.q_at; o_at = a.o_at; ps_at = a.ps_at; qs_at = a.qs_at; b_at = a.b_at; promised = a.promised }

pub point_over_lem : (w : List ℤ) (i : ℕ) (c : PointAnswer) (r : Result Asset ℕ) → PointC w i c → PointAnswers w i r → c ≡ point_over r
point_over_lem w i c r a b = a.promised ∙ ap point_over (sym b.promised)

pub walk_over_lem : (P Q : List ℤ) (j i : ℕ) (g : Bool) (c : WalkAnswer) (r : Result Answer ℕ) → WalkC P Q j i g c → RingAnswers P Q j i g r → c ≡ walk_over r
walk_over_lem P Q j i g c r a b = a.promised ∙ ap walk_over (sym b.promised)

pub begin_over : (s : Source) (c : BookAnswer) (r : Result Book ℕ) → BeginC s c → BeginAnswers s r → c ≡ book_over r
begin_over s c r a b = a.promised ∙ ap book_over (sym b.promised)

pub next_over_lem : (b : Book) (slots : List Pair) (c : KeyAnswer) (r : Asked) → NextC b slots c → NextAnswers b slots r → c ≡ key_over r
next_over_lem b slots c r x y = x ∙ ap key_over (sym y)

pub depot_begin_over : (d : Depot) → DepotBeginC d → DepotBegins d
depot_begin_over d a = record { promised = a.promised }

pub store_over_lem : (d : Depot) (slots : List Form) (f : Form) (c : StoreAnswer) (slots' : List Form) (r : Stored) (t : List Form)
    → StoreC d slots f c slots' → StoreAnswers d slots f r t → (c ≡ store_over r) × (slots' ≡ t)
store_over_lem d slots f c slots' r t x y = (x.0 ∙ ap store_over (sym y.0), x.1 ∙ sym y.1)

pub mark_over_lem : (ax ay bx by : ℤ) (c : MarkAnswer) (r : Result Marker ℕ) → MarkC ax ay bx by c → MarkAnswers ax ay bx by r → c ≡ mark_over r
mark_over_lem ax ay bx by c r a b = a.promised ∙ ap mark_over (sym (marked_is ax ay bx by r b.promised))

-- ---- and its number is the defined one

point_number : (r : Result Asset ℕ) → (point_over r).number ≡ pointed_no r
point_number (Ok a) = refl
point_number (Err k) = refl

hit_number : (h : Hit) (c : ℕ) → (hit_over h c).number ≡ 0
hit_number Clear c = refl
hit_number (Point b) c = refl
hit_number (Side x) c = refl

walk_number : (r : Result Answer ℕ) → (walk_over r).number ≡ walked_no r
walk_number (Ok a) = hit_number a.hit a.opened
walk_number (Err k) = refl

book_number : (r : Result Book ℕ) → (book_over r).number ≡ begun_no r
unfolding begun_no
book_number (Ok b) = refl
book_number (Err k) = refl

next_number : (r : Result Key ℕ) (b : Book) → (next_over r b).number ≡ next_case_no r
unfolding next_case_no
next_number (Ok k) b = refl
next_number (Err n) b = refl

store_number : (o : Result Receipt ℕ) (d : Depot) → (outcome_over o d).number ≡ outcome_no o
unfolding outcome_no
store_number (Ok Issued) d = refl
store_number (Ok Known) d = refl
store_number (Err n) d = refl

mark_number : (r : Result Marker ℕ) → (mark_over r).number ≡ number_of r
mark_number (Ok m) = refl
mark_number (Err k) = refl

pub open_c_no : (w : List ℤ) (c : HeadAnswer) → OpenC w c → c.number ≡ sheet_no w
unfolding head_over
open_c_no w c a = ap (λ (x : HeadAnswer). x.number) a.promised ∙ answer_number _ _ (λ (x : HeadAnswer). x.number) refl (λ k. refl) (sheet_no w)

-- of a sheet that opens, its edition and its form
pub open_c_tells : (w : List ℤ) (c : HeadAnswer) → OpenC w c → sheet_no w ≡ 0 → (c.edition ≡ num (edition w)) × (c.form ≡ num (form w))
unfolding head_over
open_c_tells w c a z =
    let e = a.promised ∙ answer_given _ _ (sheet_no w) z in
    (ap (λ (x : HeadAnswer). x.edition) e, ap (λ (x : HeadAnswer). x.form) e)

-- [C2]
pub point_c_no : (w : List ℤ) (i : ℕ) (c : PointAnswer) → PointC w i c → c.number ≡ point_no w i
point_c_no w i c a = ap (λ (x : PointAnswer). x.number) a.promised ∙ point_number (pointed w i) ∙ of-ring.ring_point_no w i

-- [C2]
pub walk_c_no : (P Q : List ℤ) (j i : ℕ) (g : Bool) (c : WalkAnswer) → WalkC P Q j i g c → c.number ≡ ring_no P Q j i g
walk_c_no P Q j i g c a = ap (λ (x : WalkAnswer). x.number) a.promised ∙ walk_number (walked P Q j i g) ∙ of-ring.ring_walk_no P Q j i g

-- [C2]
pub begin_c_no : (s : Source) (c : BookAnswer) → BeginC s c → c.number ≡ begin_no s
begin_c_no s c a = ap (λ (x : BookAnswer). x.number) a.promised ∙ book_number (begun_for s) ∙ of_book.book_begin_no s

-- [C2]
pub next_c_no : (b : Book) (slots : List Pair) (c : KeyAnswer) → NextC b slots c → c.number ≡ next_no b (length slots)
next_c_no b slots c a = ap (λ (x : KeyAnswer). x.number) a ∙ next_number (asked b slots).next (asked b slots).book ∙ of_book.book_next_no b slots

-- [C2]
pub store_c_no : (d : Depot) (slots : List Form) (f : Form) (c : StoreAnswer) (slots' : List Form) → StoreC d slots f c slots' → c.number ≡ store_no d slots f
store_c_no d slots f c slots' a = ap (λ (x : StoreAnswer). x.number) a.0 ∙ store_number (stored d slots f).outcome (stored d slots f).depot ∙ of-depot.stored_no d slots f

-- [C2]
pub mark_c_no : (ax ay bx by : ℤ) (c : MarkAnswer) → MarkC ax ay bx by c → c.number ≡ mark_no ax ay bx by
mark_c_no ax ay bx by c a = ap (λ (x : MarkAnswer). x.number) a.promised ∙ mark_number (marked_at ax ay bx by) ∙ (marked_marks ax ay bx by).number

-- ---- one input, one answer, one final state. (`ring_book_take`, `ring_forms`, `ring_leaf_run`, `ring_pairs`, `ring_own_pairs`: `take_once`, `forms_once`, `run_once`, `pairs_once`, `own_pairs_once` of Once)

pub open_c_once : (w : List ℤ) (r r' : HeadAnswer) → OpenC w r → OpenC w r' → r ≡ r'
open_c_once w r r' a b = a.promised ∙ sym b.promised

pub pack_c_once : (form n : ℕ) (points order : List ℤ) (ed : ℕ) (out : List ℤ) (r r' : ℕ) (w w' : List ℤ) → PackC form n points order ed out r w → PackC form n points order ed out r' w' → (r ≡ r') × (w ≡ w')
pack_c_once form n points order ed out r r' w w' a b =
    once.pack_once form n points order ed out r r' w w' (pack_over form n points order ed out r w a) (pack_over form n points order ed out r' w' b)

pub length_c_once : (n r r' : ℕ) → LengthC n r → LengthC n r' → r ≡ r'
length_c_once n r r' a b = once.length_once n r r' (length_over n r a) (length_over n r' b)

pub place_c_once : (w : List ℤ) (id : ℕ) (r r' : Placed) → PlaceC w id r → PlaceC w id r' → r ≡ r'
place_c_once w id r r' a b = once.place_once w id r r' (place_over w id r a) (place_over w id r' b)

pub point_c_once : (w : List ℤ) (i : ℕ) (r r' : PointAnswer) → PointC w i r → PointC w i r' → r ≡ r'
point_c_once w i r r' a b = a.promised ∙ sym b.promised

pub filter_c_once : (P Q : List ℤ) (j : ℕ) (w : List ℕ) (r r' : Filtered) (t t' : List ℕ) → FilterC P Q j w r t → FilterC P Q j w r' t' → (r ≡ r') × (t ≡ t')
filter_c_once P Q j w r r' t t' a b = once.filter_once P Q j w r r' t t' (filter_over P Q j w r t a) (filter_over P Q j w r' t' b)

pub walk_c_once : (P Q : List ℤ) (j i : ℕ) (g : Bool) (r r' : WalkAnswer) → WalkC P Q j i g r → WalkC P Q j i g r' → r ≡ r'
walk_c_once P Q j i g r r' a b = a.promised ∙ sym b.promised

pub page_c_once : (P Q : List ℤ) (o : List ℕ) (ask : Request) (w : List ℕ) (r r' : Paged) (t t' : List ℕ) → PageC P Q o ask w r t → PageC P Q o ask w r' t' → (r ≡ r') × (t ≡ t')
page_c_once P Q o ask w r r' t t' a b = once.page_once P Q o ask w r r' t t' (page_over P Q o ask w r t a) (page_over P Q o ask w r' t' b)

pub own_c_once : (S : List ℤ) (key : Key) (size : ℕ) (g : Bool) (w : List ℕ) (r r' : Paged) (t t' : List ℕ) → OwnC S key size g w r t → OwnC S key size g w r' t' → (r ≡ r') × (t ≡ t')
own_c_once S key size g w r r' t t' a b = once.own_once S key size g w r r' t t' (own_over S key size g w r t a) (own_over S key size g w r' t' b)

pub partners_c_once : (P Q : List ℤ) (id t : ℕ) (w : List ℕ) (r r' : Partnered) (u u' : List ℕ) → PartnersC P Q id t w r u → PartnersC P Q id t w r' u' → (r ≡ r') × (u ≡ u')
partners_c_once P Q id t w r r' u u' a b = once.partners_once P Q id t w r r' u u' (partners_over P Q id t w r u a) (partners_over P Q id t w r' u' b)

pub shortest_c_once : (P Q : List ℤ) (k : ℕ) (w : List ℕ) (r r' : Shortlist) (t t' : List ℕ) → ShortC P Q k w r t → ShortC P Q k w r' t' → (r ≡ r') × (t ≡ t')
shortest_c_once P Q k w r r' t t' a b = once.shortest_once P Q k w r r' t t' (shortest_over P Q k w r t a) (shortest_over P Q k w r' t' b)

pub nearest_c_once : (P Q : List ℤ) (id size : ℕ) (ws : List ℕ) (r r' : Found) (t t' : List ℕ) → NearestC P Q id size ws r t → NearestC P Q id size ws r' t' → (r ≡ r') × (t ≡ t')
nearest_c_once P Q id size ws r r' t t' a b = once.nearest_once P Q id size ws r r' t t' (nearest_over P Q id size ws r t a) (nearest_over P Q id size ws r' t' b)

pub near_filter_c_once : (P Q : List ℤ) (id : ℕ) (ws w : List ℕ) (r r' : Filtered) (t t' u u' : List ℕ) → NearFilterC P Q id ws w r t u → NearFilterC P Q id ws w r' t' u' → (r ≡ r') × (t ≡ t') × (u ≡ u')
near_filter_c_once P Q id ws w r r' t t' u u' a b =
    once.near_filter_once P Q id ws w r r' t t' u u' (near_filter_over P Q id ws w r t u a) (near_filter_over P Q id ws w r' t' u' b)

pub count_c_once : (P Q : List ℤ) (o : List ℕ) (which : Which) (w : List ℕ) (r r' : Counted) (t t' : List ℕ) → CountC P Q o which w r t → CountC P Q o which w r' t' → (r ≡ r') × (t ≡ t')
count_c_once P Q o which w r r' t t' a b = once.count_once P Q o which w r r' t t' (count_over P Q o which w r t a) (count_over P Q o which w r' t' b)

pub own_count_c_once : (S : List ℤ) (big : ℕ) (g : Bool) (w : List ℕ) (r r' : Counted) (t t' : List ℕ) → OwnCountC S big g w r t → OwnCountC S big g w r' t' → (r ≡ r') × (t ≡ t')
own_count_c_once S big g w r r' t t' a b = once.own_count_once S big g w r r' t t' (own_count_over S big g w r t a) (own_count_over S big g w r' t' b)

pub busiest_c_once : (P Q : List ℤ) (o : List ℕ) (ask : Question) (w : List ℕ) (r r' : Busy) (t t' : List ℕ) → BusyC P Q o ask w r t → BusyC P Q o ask w r' t' → (r ≡ r') × (t ≡ t')
busiest_c_once P Q o ask w r r' t t' a b = once.busiest_once P Q o ask w r r' t t' (busiest_over P Q o ask w r t a) (busiest_over P Q o ask w r' t' b)

pub busiest_pumps_c_once : (P Q : List ℤ) (k big : ℕ) (g : Bool) (w : List ℕ) (r r' : Busy) (t t' : List ℕ) → PumpC P Q k big g w r t → PumpC P Q k big g w r' t' → (r ≡ r') × (t ≡ t')
busiest_pumps_c_once P Q k big g w r r' t t' a b = once.busiest_pumps_once P Q k big g w r r' t t' (busiest_pumps_over P Q k big g w r t a) (busiest_pumps_over P Q k big g w r' t' b)

pub urgent_c_once : (P Q : List ℤ) (o ps qs : List ℕ) (ask : Question) (w : List ℕ) (r r' : Urgent) (t t' : List ℕ) → UrgentC P Q o ps qs ask w r t → UrgentC P Q o ps qs ask w r' t' → (r ≡ r') × (t ≡ t')
urgent_c_once P Q o ps qs ask w r r' t t' a b = once.urgent_once P Q o ps qs ask w r r' t t' (urgent_over P Q o ps qs ask w r t a) (urgent_over P Q o ps qs ask w r' t' b)

pub begin_c_once : (s : Source) (r r' : BookAnswer) → BeginC s r → BeginC s r' → r ≡ r'
begin_c_once s r r' a b = a.promised ∙ sym b.promised

pub next_c_once : (b : Book) (slots : List Pair) (r r' : KeyAnswer) → NextC b slots r → NextC b slots r' → r ≡ r'
next_c_once b slots r r' x y = x ∙ sym y

pub depot_begin_c_once : (d d' : Depot) → DepotBeginC d → DepotBeginC d' → d ≡ d'
depot_begin_c_once d d' x y = x.promised ∙ sym y.promised

pub store_c_once : (d : Depot) (slots : List Form) (f : Form) (r r' : StoreAnswer) (t t' : List Form) → StoreC d slots f r t → StoreC d slots f r' t' → (r ≡ r') × (t ≡ t')
store_c_once d slots f r r' t t' x y = (x.0 ∙ sym y.0, x.1 ∙ sym y.1)

pub mark_c_once : (ax ay bx by : ℤ) (r r' : MarkAnswer) → MarkC ax ay bx by r → MarkC ax ay bx by r' → r ≡ r'
mark_c_once ax ay bx by r r' a b = a.promised ∙ sym b.promised
