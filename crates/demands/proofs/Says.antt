-- The promises of the calls over slices of records and over views, as specs/Promises states them, are the `ensures` of these calls, word for word: whoever changes
-- one of these breaks its line here. A promise is a fact: `fact 𝓤 X` says X and nothing of memory.
-- Assumes nothing.
use Rattle.std.specs.Prelude.{Result}
use mathlib.Core.Bool.{Bool}
use mathlib.Core.Path.{◌≡◌, refl}
use mathlib.Core.List.{List}
use Prim.Native.Nat.{ℕ}
use lib.IntN.{ℤ}
use seplogic.Ra.Ura.{Ura}
use base.Logic.{SProp}
use prog.Memory.{Memory}
use prog.Routine.{Routine}
use types.Logic.{Logic}
use contract.Lifetimes.{Lfts}
use contract.Monad.{Fun, fact}
use denote.Ref.{Bor}
use Rattle.list.specs.declared.Key.{Key}
use Rattle.list.specs.declared.Pair.{Pair}
use Rattle.list.specs.declared.Request.{Request}
use Rattle.list.specs.declared.Page.{Page}
use Rattle.ring.specs.declared.Filtered.{Filtered}
use Rattle.ring.specs.declared.Paged.{Paged}
use Rattle.ring.specs.declared.Partnered.{Partnered}
use Rattle.view.specs.declared.Sheet.{Sheet}
use Rattle.view.specs.declared.Opened.{Opened}
use Rattle.book.specs.declared.Book.{Book}
use Rattle.book.specs.declared.Asked.{Asked}
use Rattle.book.specs.declared.Taken.{Taken}
use Rattle.book.specs.contracts.Book.next_key as next-key
use Rattle.book.specs.contracts.Book.take as book-take
use Rattle.depot.specs.declared.Form.{Form}
use Rattle.depot.specs.declared.Made.{Made}
use Rattle.depot.specs.declared.Depot.{Depot}
use Rattle.depot.specs.declared.Stored.{Stored}
use Rattle.depot.specs.contracts.forms as depot-forms
use Rattle.depot.specs.contracts.Depot.take as depot-take
use Rattle.shortest.specs.declared.Shortlist.{Shortlist}
use Rattle.nearest.specs.declared.Found.{Found}
use Rattle.runs.specs.declared.Run.{Run}
use Rattle.runs.specs.contracts.leaf_run as leaf_run
use Rattle.ranked.specs.declared.Question.{Question}
use Rattle.ranked.specs.declared.Busy.{Busy}
use Rattle.ranked.specs.declared.Urgent.{Urgent}
use Rattle.many.specs.declared.Which.{Which}
use Rattle.many.specs.declared.Wanted.{Wanted}
use Rattle.many.specs.declared.Counted.{Counted}
use Rattle.many.specs.declared.Many.{Many}
use Rattle.many.specs.contracts.batch.pairs as many-pairs
use Rattle.many.specs.contracts.batch.own_pairs as many-own-pairs
use Rattle.view.specs.contracts.open as view-open
use Rattle.view.specs.contracts.point_at as view_point
use Rattle.view.specs.contracts.filter_walk_at as view_filter
use Rattle.view.specs.contracts.ring_walk_at as view_ring
use Rattle.view.specs.contracts.page_at as view_page
use Rattle.view.specs.contracts.own_page_at as view_own_page
use Rattle.view.specs.contracts.partners_at as view_partners
use Rattle.view.specs.contracts.leaf_run_at as view_run
use Rattle.view.specs.contracts.shortest_at as view_shortest
use Rattle.view.specs.contracts.nearest_at as view_nearest
use Rattle.view.specs.contracts.near_filter_at as view_near_filter
use Rattle.view.specs.contracts.pairs_at as view_pairs
use Rattle.view.specs.contracts.own_pairs_at as view_own_pairs
use Rattle.view.specs.contracts.count_at as view_count
use Rattle.view.specs.contracts.own_count_at as view_own_count
use Rattle.view.specs.contracts.busiest_at as view_busiest
use Rattle.view.specs.contracts.busiest_pumps_at as view_busiest_pumps
use Rattle.view.specs.contracts.urgent_at as view_urgent
use Rattle.demands.specs.Promises.{Place, slice, mut_slice, NextAnswers, TakeAnswers, FormsAnswers, StoreAnswers, RunAnswers, ViewOpens, ViewPoints, ViewFilters, ViewRings, ViewPages, ViewPartners, ViewOwnPages, ViewRuns, ViewShortest, ViewNearest, ViewNearFilters, PairsAnswers, OwnPairsAnswers, ViewMany, ViewOwnMany, ViewCounts, ViewOwnCounts, ViewBusiest, ViewPumps, ViewUrgent}
use Rattle.ring.specs.declared.Asset.{Asset}
use Rattle.walk.specs.declared.Answer.{Answer}

module _ {M : Type 1} {𝓤 : Ura M} (𝓛 : Logic 𝓤) (mem : Memory → SProp 𝓤) (run : Routine → Fun 𝓤) where
  pub next_key_says : (κs : Lfts 1) (l : Place) (b : Book) (s : List Pair) (r : Asked)
      → next-key.ensures-1 𝓛 κs mem run b (slice l s) (record { entry = b; exit = b }) (record { entry = slice l s; exit = slice l s }) r ≡ fact 𝓤 (NextAnswers b s r)
  next_key_says κs l b s r = refl

  pub take_says : (κs : Lfts 1) (l : Place) (b : Book) (s : List Pair) (g : Page) (r : Taken) (s' : List Pair)
      → book-take.ensures-1 𝓛 κs mem run b (mut_slice l s) g (record { entry = b; exit = b }) (record { entry = mut_slice l s; exit = mut_slice l s' }) (record { entry = g; exit = g }) r
      ≡ fact 𝓤 (TakeAnswers b s g r s')
  take_says κs l b s g r s' = refl

  pub forms_says : (κs : Lfts 2) (l o : Place) (b : Book) (s : List Pair) (out : List Form) (r : Made) (out' : List Form)
      → depot-forms.ensures-1 𝓛 κs mem run b (slice l s) (mut_slice o out) (record { entry = b; exit = b }) (record { entry = slice l s; exit = slice l s }) (record { entry = mut_slice o out; exit = mut_slice o out' }) r
      ≡ fact 𝓤 (FormsAnswers b s out r out')
  forms_says κs l o b s out r out' = refl

  pub store_says : (κs : Lfts 1) (l : Place) (d : Depot) (s : List Form) (f : Form) (r : Stored) (s' : List Form)
      → depot-take.ensures-1 𝓛 κs mem run d (mut_slice l s) f (record { entry = d; exit = d }) (record { entry = mut_slice l s; exit = mut_slice l s' }) (record { entry = f; exit = f }) r
      ≡ fact 𝓤 (StoreAnswers d s f r s')
  store_says κs l d s f r s' = refl

  pub run_says : (κs : Lfts 4) (p_at q_at l b_at : Place) (P Q : List ℤ) (v : ℕ) (s : List Pair) (w : List ℕ) (r : Run) (s' : List Pair) (w' : List ℕ)
      → leaf_run.ensures-1 𝓛 κs mem run (slice p_at P) (slice q_at Q) v (mut_slice l s) (mut_slice b_at w) (record { entry = slice p_at P; exit = slice p_at P }) (record { entry = slice q_at Q; exit = slice q_at Q }) (record { entry = v; exit = v }) (record { entry = mut_slice l s; exit = mut_slice l s' }) (record { entry = mut_slice b_at w; exit = mut_slice b_at w' }) r
      ≡ fact 𝓤 (RunAnswers P Q v s w r s' w')
  run_says κs p_at q_at l b_at P Q v s w r s' w' = refl

  pub pairs_says : (κs : Lfts 5) (p_at q_at o_at l b_at : Place) (P Q : List ℤ) (o : List ℕ) (ask : Wanted) (s : List Pair) (w : List ℕ) (r : Many) (s' : List Pair) (w' : List ℕ)
      → many-pairs.ensures-1 𝓛 κs mem run (slice p_at P) (slice q_at Q) (slice o_at o) ask (mut_slice l s) (mut_slice b_at w) (record { entry = slice p_at P; exit = slice p_at P }) (record { entry = slice q_at Q; exit = slice q_at Q }) (record { entry = slice o_at o; exit = slice o_at o }) (record { entry = ask; exit = ask }) (record { entry = mut_slice l s; exit = mut_slice l s' }) (record { entry = mut_slice b_at w; exit = mut_slice b_at w' }) r
      ≡ fact 𝓤 (PairsAnswers P Q o ask s w r s' w')
  pairs_says κs p_at q_at o_at l b_at P Q o ask s w r s' w' = refl

  pub own_pairs_says : (κs : Lfts 3) (w_at l b_at : Place) (S : List ℤ) (key : Key) (big : ℕ) (g : Bool) (s : List Pair) (w : List ℕ) (r : Many) (s' : List Pair) (w' : List ℕ)
      → many-own-pairs.ensures-1 𝓛 κs mem run (slice w_at S) key big g (mut_slice l s) (mut_slice b_at w) (record { entry = slice w_at S; exit = slice w_at S }) (record { entry = key; exit = key }) (record { entry = big; exit = big }) (record { entry = g; exit = g }) (record { entry = mut_slice l s; exit = mut_slice l s' }) (record { entry = mut_slice b_at w; exit = mut_slice b_at w' }) r
      ≡ fact 𝓤 (OwnPairsAnswers S key big g s w r s' w')
  own_pairs_says κs w_at l b_at S key big g s w r s' w' = refl

  pub view_open_says : (κs : Lfts 1) (w : Bor (List ℤ)) (r : Opened)
      → view-open.ensures-1 𝓛 κs mem run w (record { entry = w; exit = w }) r ≡ fact 𝓤 (ViewOpens w r)
  view_open_says κs w r = refl

  pub view_point_says : (κs : Lfts 1) (d : Sheet) (i : ℕ) (r : Result Asset ℕ)
      → view_point.ensures-1 𝓛 κs mem run d i (record { entry = d; exit = d }) (record { entry = i; exit = i }) r ≡ fact 𝓤 (ViewPoints d i r)
  view_point_says κs d i r = refl

  pub view_filter_says : (κs : Lfts 3) (l : Place) (p q : Sheet) (j : ℕ) (w : List ℕ) (r : Filtered) (w' : List ℕ)
      → view_filter.ensures-1 𝓛 κs mem run p q j (mut_slice l w) (record { entry = p; exit = p }) (record { entry = q; exit = q }) (record { entry = j; exit = j }) (record { entry = mut_slice l w; exit = mut_slice l w' }) r
      ≡ fact 𝓤 (ViewFilters p q j w r w')
  view_filter_says κs l p q j w r w' = refl

  pub view_ring_says : (κs : Lfts 2) (p q : Sheet) (j i : ℕ) (g : Bool) (r : Result Answer ℕ)
      → view_ring.ensures-1 𝓛 κs mem run p q j i g (record { entry = p; exit = p }) (record { entry = q; exit = q }) (record { entry = j; exit = j }) (record { entry = i; exit = i }) (record { entry = g; exit = g }) r
      ≡ fact 𝓤 (ViewRings p q j i g r)
  view_ring_says κs p q j i g r = refl

  pub view_page_says : (κs : Lfts 4) (l b : Place) (p q : Sheet) (o : List ℕ) (ask : Request) (w : List ℕ) (r : Paged) (w' : List ℕ)
      → view_page.ensures-1 𝓛 κs mem run p q (slice l o) ask (mut_slice b w) (record { entry = p; exit = p }) (record { entry = q; exit = q }) (record { entry = slice l o; exit = slice l o }) (record { entry = ask; exit = ask }) (record { entry = mut_slice b w; exit = mut_slice b w' }) r
      ≡ fact 𝓤 (ViewPages p q o ask w r w')
  view_page_says κs l b p q o ask w r w' = refl

  pub view_own_page_says : (κs : Lfts 2) (l : Place) (d : Sheet) (key : Key) (size : ℕ) (g : Bool) (w : List ℕ) (r : Paged) (w' : List ℕ)
      → view_own_page.ensures-1 𝓛 κs mem run d key size g (mut_slice l w) (record { entry = d; exit = d }) (record { entry = key; exit = key }) (record { entry = size; exit = size }) (record { entry = g; exit = g }) (record { entry = mut_slice l w; exit = mut_slice l w' }) r
      ≡ fact 𝓤 (ViewOwnPages d key size g w r w')
  view_own_page_says κs l d key size g w r w' = refl

  pub view_partners_says : (κs : Lfts 3) (l : Place) (p q : Sheet) (id t : ℕ) (w : List ℕ) (r : Partnered) (w' : List ℕ)
      → view_partners.ensures-1 𝓛 κs mem run p q id t (mut_slice l w) (record { entry = p; exit = p }) (record { entry = q; exit = q }) (record { entry = id; exit = id }) (record { entry = t; exit = t }) (record { entry = mut_slice l w; exit = mut_slice l w' }) r
      ≡ fact 𝓤 (ViewPartners p q id t w r w')
  view_partners_says κs l p q id t w r w' = refl

  pub view_run_says : (κs : Lfts 4) (l b : Place) (p q : Sheet) (v : ℕ) (s : List Pair) (w : List ℕ) (r : Run) (s' : List Pair) (w' : List ℕ)
      → view_run.ensures-1 𝓛 κs mem run p q v (mut_slice l s) (mut_slice b w) (record { entry = p; exit = p }) (record { entry = q; exit = q }) (record { entry = v; exit = v }) (record { entry = mut_slice l s; exit = mut_slice l s' }) (record { entry = mut_slice b w; exit = mut_slice b w' }) r
      ≡ fact 𝓤 (ViewRuns p q v s w r s' w')
  view_run_says κs l b p q v s w r s' w' = refl

  pub view_shortest_says : (κs : Lfts 3) (l : Place) (p q : Sheet) (k : ℕ) (w : List ℕ) (r : Shortlist) (w' : List ℕ)
      → view_shortest.ensures-1 𝓛 κs mem run p q k (mut_slice l w) (record { entry = p; exit = p }) (record { entry = q; exit = q }) (record { entry = k; exit = k }) (record { entry = mut_slice l w; exit = mut_slice l w' }) r
      ≡ fact 𝓤 (ViewShortest p q k w r w')
  view_shortest_says κs l p q k w r w' = refl

  pub view_nearest_says : (κs : Lfts 3) (l : Place) (p q : Sheet) (id size : ℕ) (w : List ℕ) (r : Found) (w' : List ℕ)
      → view_nearest.ensures-1 𝓛 κs mem run p q id size (mut_slice l w) (record { entry = p; exit = p }) (record { entry = q; exit = q }) (record { entry = id; exit = id }) (record { entry = size; exit = size }) (record { entry = mut_slice l w; exit = mut_slice l w' }) r
      ≡ fact 𝓤 (ViewNearest p q id size w r w')
  view_nearest_says κs l p q id size w r w' = refl

  pub view_near_filter_says : (κs : Lfts 4) (l b : Place) (p q : Sheet) (id : ℕ) (ws w : List ℕ) (r : Filtered) (ws' w' : List ℕ)
      → view_near_filter.ensures-1 𝓛 κs mem run p q id (mut_slice l ws) (mut_slice b w) (record { entry = p; exit = p }) (record { entry = q; exit = q }) (record { entry = id; exit = id }) (record { entry = mut_slice l ws; exit = mut_slice l ws' }) (record { entry = mut_slice b w; exit = mut_slice b w' }) r
      ≡ fact 𝓤 (ViewNearFilters p q id ws w r ws' w')
  view_near_filter_says κs l b p q id ws w r ws' w' = refl

  pub view_pairs_says : (κs : Lfts 5) (o_at l b_at : Place) (p q : Sheet) (o : List ℕ) (ask : Wanted) (s : List Pair) (w : List ℕ) (r : Many) (s' : List Pair) (w' : List ℕ)
      → view_pairs.ensures-1 𝓛 κs mem run p q (slice o_at o) ask (mut_slice l s) (mut_slice b_at w) (record { entry = p; exit = p }) (record { entry = q; exit = q }) (record { entry = slice o_at o; exit = slice o_at o }) (record { entry = ask; exit = ask }) (record { entry = mut_slice l s; exit = mut_slice l s' }) (record { entry = mut_slice b_at w; exit = mut_slice b_at w' }) r
      ≡ fact 𝓤 (ViewMany p q o ask s w r s' w')
  view_pairs_says κs o_at l b_at p q o ask s w r s' w' = refl

  pub view_own_pairs_says : (κs : Lfts 3) (l b_at : Place) (d : Sheet) (key : Key) (big : ℕ) (g : Bool) (s : List Pair) (w : List ℕ) (r : Many) (s' : List Pair) (w' : List ℕ)
      → view_own_pairs.ensures-1 𝓛 κs mem run d key big g (mut_slice l s) (mut_slice b_at w) (record { entry = d; exit = d }) (record { entry = key; exit = key }) (record { entry = big; exit = big }) (record { entry = g; exit = g }) (record { entry = mut_slice l s; exit = mut_slice l s' }) (record { entry = mut_slice b_at w; exit = mut_slice b_at w' }) r
      ≡ fact 𝓤 (ViewOwnMany d key big g s w r s' w')
  view_own_pairs_says κs l b_at d key big g s w r s' w' = refl

  pub view_count_says : (κs : Lfts 4) (o_at b_at : Place) (p q : Sheet) (o : List ℕ) (which : Which) (w : List ℕ) (r : Counted) (w' : List ℕ)
      → view_count.ensures-1 𝓛 κs mem run p q (slice o_at o) which (mut_slice b_at w) (record { entry = p; exit = p }) (record { entry = q; exit = q }) (record { entry = slice o_at o; exit = slice o_at o }) (record { entry = which; exit = which }) (record { entry = mut_slice b_at w; exit = mut_slice b_at w' }) r
      ≡ fact 𝓤 (ViewCounts p q o which w r w')
  view_count_says κs o_at b_at p q o which w r w' = refl

  pub view_own_count_says : (κs : Lfts 2) (b_at : Place) (d : Sheet) (big : ℕ) (g : Bool) (w : List ℕ) (r : Counted) (w' : List ℕ)
      → view_own_count.ensures-1 𝓛 κs mem run d big g (mut_slice b_at w) (record { entry = d; exit = d }) (record { entry = big; exit = big }) (record { entry = g; exit = g }) (record { entry = mut_slice b_at w; exit = mut_slice b_at w' }) r
      ≡ fact 𝓤 (ViewOwnCounts d big g w r w')
  view_own_count_says κs b_at d big g w r w' = refl

  pub view_busiest_says : (κs : Lfts 4) (o_at b_at : Place) (p q : Sheet) (o : List ℕ) (ask : Question) (w : List ℕ) (r : Busy) (w' : List ℕ)
      → view_busiest.ensures-1 𝓛 κs mem run p q (slice o_at o) ask (mut_slice b_at w) (record { entry = p; exit = p }) (record { entry = q; exit = q }) (record { entry = slice o_at o; exit = slice o_at o }) (record { entry = ask; exit = ask }) (record { entry = mut_slice b_at w; exit = mut_slice b_at w' }) r
      ≡ fact 𝓤 (ViewBusiest p q o ask w r w')
  view_busiest_says κs o_at b_at p q o ask w r w' = refl

  pub view_busiest_pumps_says : (κs : Lfts 3) (b_at : Place) (p q : Sheet) (k big : ℕ) (g : Bool) (w : List ℕ) (r : Busy) (w' : List ℕ)
      → view_busiest_pumps.ensures-1 𝓛 κs mem run p q k big g (mut_slice b_at w) (record { entry = p; exit = p }) (record { entry = q; exit = q }) (record { entry = k; exit = k }) (record { entry = big; exit = big }) (record { entry = g; exit = g }) (record { entry = mut_slice b_at w; exit = mut_slice b_at w' }) r
      ≡ fact 𝓤 (ViewPumps p q k big g w r w')
  view_busiest_pumps_says κs b_at p q k big g w r w' = refl

  pub view_urgent_says : (κs : Lfts 6) (o_at ps_at qs_at b_at : Place) (p q : Sheet) (o ps qs : List ℕ) (ask : Question) (w : List ℕ) (r : Urgent) (w' : List ℕ)
      → view_urgent.ensures-1 𝓛 κs mem run p q (slice o_at o) (slice ps_at ps) (slice qs_at qs) ask (mut_slice b_at w) (record { entry = p; exit = p }) (record { entry = q; exit = q }) (record { entry = slice o_at o; exit = slice o_at o }) (record { entry = slice ps_at ps; exit = slice ps_at ps }) (record { entry = slice qs_at qs; exit = slice qs_at qs }) (record { entry = ask; exit = ask }) (record { entry = mut_slice b_at w; exit = mut_slice b_at w' }) r
      ≡ fact 𝓤 (ViewUrgent p q o ps qs ask w r w')
  view_urgent_says κs o_at ps_at qs_at b_at p q o ps qs ask w r w' = refl
