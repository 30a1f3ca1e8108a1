-- "Every call takes every input": no call open to callers asks anything of its arguments. `Asked` of a call is its `requires`, read as a plain claim of the lifetimes of what is
-- lent and of the arguments: it is the claim that says nothing. Of the calls proved by hand the `requires` itself is the one that says nothing.
-- Assumes nothing. [D1]
use mathlib.Core.Path.{◌≡◌, refl}
use seplogic.Ra.Ura.{Ura}
use base.Logic.{SProp, emp}
use prog.Memory.{Memory}
use prog.Routine.{Routine}
use types.Logic.{Logic}
use contract.Lifetimes.{Lfts}
use contract.Monad.{Fun}
use Rattle.ring.proofs.open.open_no.Reads as open_no
use Rattle.ring.proofs.open.head_of.Reads as head_of
use Rattle.ring.proofs.reader.point.Reads as point
use Rattle.ring.proofs.finder.position.Reads as position
use Rattle.ring.proofs.filter.filter_walk.Reads as filter-walk
use Rattle.ring.proofs.ringwalk.ring_walk.Reads as ring-walk
use Rattle.ring.proofs.pages.page.Reads as page
use Rattle.ring.proofs.own.own_page.Reads as own-page
use Rattle.shortest.proofs.shortest.Reads as shortest
use Rattle.ring.proofs.least.partners.Reads as partners
use Rattle.nearest.proofs.nearest.Reads as nearest
use Rattle.nearest.proofs.near_filter.Reads as near-filter
use Rattle.pack.proofs.pack.Reads as pack
use Rattle.pack.proofs.sheet_len.Reads as sheet-len
use Rattle.marker.proofs.mark.Reads as mark
use Rattle.book.proofs.Book.begin.Reads as begin
use Rattle.book.proofs.next_array.Reads as next_array
use Rattle.book.proofs.take_array.Reads as take_array
use Rattle.depot.proofs.Depot.begin.Reads as depot-begin
use Rattle.depot.proofs.forms_array.Reads as forms_array
use Rattle.depot.proofs.take_array.Reads as store_array
use Rattle.runs.proofs.run_array.Reads as run_array_lem
use Rattle.many.proofs.tally.count.Reads as count
use Rattle.many.proofs.tally.own_count.Reads as own_count
use Rattle.ranked.proofs.busiest.busiest.Reads as busiest
use Rattle.ranked.proofs.busiest.busiest_pumps.Reads as busiest-pumps
use Rattle.ranked.proofs.visits.urgent.Reads as urgent
use Rattle.view.proofs.open_head.Reads as open_head
use Rattle.view.proofs.point_opened.Reads as point_opened
use Rattle.book.specs.contracts.Book.next_key as next-key
use Rattle.book.specs.contracts.Book.take as take
use Rattle.depot.specs.contracts.forms as forms
use Rattle.depot.specs.contracts.Depot.take as store
use Rattle.runs.specs.contracts.leaf_run as leaf_run
use Rattle.many.specs.contracts.batch.pairs as pairs
use Rattle.many.specs.contracts.batch.own_pairs as own_pairs
use Rattle.view.specs.contracts.open as view-open
use Rattle.view.specs.contracts.point_at as view_point
use Rattle.view.specs.contracts.filter_walk_at as view_filter
use Rattle.view.specs.contracts.ring_walk_at as view_ring
use Rattle.view.specs.contracts.page_at as view_page
use Rattle.view.specs.contracts.own_page_at as view_own_page
use Rattle.view.specs.contracts.partners_at as view_partners
use Rattle.view.specs.contracts.leaf_run_at as view_run
use Rattle.view.specs.contracts.shortest_at as view_shortest
use Rattle.view.specs.contracts.nearest_at as view_nearest
use Rattle.view.specs.contracts.near_filter_at as view_near_filter
use Rattle.view.specs.contracts.pairs_at as view_pairs
use Rattle.view.specs.contracts.own_pairs_at as view_own_pairs
use Rattle.view.specs.contracts.count_at as view_count
use Rattle.view.specs.contracts.own_count_at as view_own_count
use Rattle.view.specs.contracts.busiest_at as view_busiest
use Rattle.view.specs.contracts.busiest_pumps_at as view_busiest_pumps
use Rattle.view.specs.contracts.urgent_at as view_urgent

pub open_no_takes : (κs : Lfts 1) (a : _) → open_no.Asked κs a
open_no_takes κs a = tt

pub head_of_takes : (κs : Lfts 1) (a : _) → head_of.Asked κs a
head_of_takes κs a = tt

pub point_takes : (κs : Lfts 1) (a : _) → point.Asked κs a
point_takes κs a = tt

pub position_takes : (κs : Lfts 1) (a : _) → position.Asked κs a
position_takes κs a = tt

pub filter_walk_takes : (κs : Lfts 3) (a : _) → filter-walk.Asked κs a
filter_walk_takes κs a = tt

pub ring_walk_takes : (κs : Lfts 2) (a : _) → ring-walk.Asked κs a
ring_walk_takes κs a = tt

pub page_takes : (κs : Lfts 4) (a : _) → page.Asked κs a
page_takes κs a = tt

pub shortest_takes : (κs : Lfts 3) (a : _) → shortest.Asked κs a
shortest_takes κs a = tt

pub own_page_takes : (κs : Lfts 2) (a : _) → own-page.Asked κs a
own_page_takes κs a = tt

pub partners_takes : (κs : Lfts 3) (a : _) → partners.Asked κs a
partners_takes κs a = tt

pub nearest_takes : (κs : Lfts 3) (a : _) → nearest.Asked κs a
nearest_takes κs a = tt

pub near_filter_takes : (κs : Lfts 4) (a : _) → near-filter.Asked κs a
near_filter_takes κs a = tt

pub pack_takes : (κs : Lfts 3) (a : _) → pack.Asked κs a
pack_takes κs a = tt

pub sheet_len_takes : (κs : Lfts 0) (a : _) → sheet-len.Asked κs a
sheet_len_takes κs a = tt

pub mark_takes : (κs : Lfts 0) (a : _) → mark.Asked κs a
mark_takes κs a = tt

pub begin_takes : (κs : Lfts 0) (a : _) → begin.Asked κs a
begin_takes κs a = tt

pub next_array_takes : (κs : Lfts 0) (a : _) → next_array.Asked κs a
next_array_takes κs a = tt

pub take_array_takes : (κs : Lfts 0) (a : _) → take_array.Asked κs a
take_array_takes κs a = tt

pub depot_begin_takes : (κs : Lfts 0) (a : _) → depot-begin.Asked κs a
depot_begin_takes κs a = tt

pub forms_array_takes : (κs : Lfts 0) (a : _) → forms_array.Asked κs a
forms_array_takes κs a = tt

pub store_array_takes : (κs : Lfts 0) (a : _) → store_array.Asked κs a
store_array_takes κs a = tt

pub run_array_takes : (κs : Lfts 3) (a : _) → run_array_lem.Asked κs a
run_array_takes κs a = tt

pub count_takes : (κs : Lfts 4) (a : _) → count.Asked κs a
count_takes κs a = tt

pub own_count_takes : (κs : Lfts 2) (a : _) → own_count.Asked κs a
own_count_takes κs a = tt

pub busiest_takes : (κs : Lfts 4) (a : _) → busiest.Asked κs a
busiest_takes κs a = tt

pub busiest_pumps_takes : (κs : Lfts 3) (a : _) → busiest-pumps.Asked κs a
busiest_pumps_takes κs a = tt

pub urgent_takes : (κs : Lfts 6) (a : _) → urgent.Asked κs a
urgent_takes κs a = tt

pub open_head_takes : (κs : Lfts 1) (a : _) → open_head.Asked κs a
open_head_takes κs a = tt

pub point_opened_takes : (κs : Lfts 1) (a : _) → point_opened.Asked κs a
point_opened_takes κs a = tt

module _ {M : Type 1} {𝓤 : Ura M} (𝓛 : Logic 𝓤) (mem : Memory → SProp 𝓤) (run : Routine → Fun 𝓤) where
  pub next_key_takes : (κs : Lfts 1) (a : _) → (next-key.clauses 𝓛 mem run κs a).requires tt ≡ emp 𝓤
  next_key_takes κs a = refl

  pub take_takes : (κs : Lfts 1) (a : _) → (take.clauses 𝓛 mem run κs a).requires tt ≡ emp 𝓤
  take_takes κs a = refl

  pub forms_takes : (κs : Lfts 2) (a : _) → (forms.clauses 𝓛 mem run κs a).requires tt ≡ emp 𝓤
  forms_takes κs a = refl

  pub store_takes : (κs : Lfts 1) (a : _) → (store.clauses 𝓛 mem run κs a).requires tt ≡ emp 𝓤
  store_takes κs a = refl

  pub leaf_run_takes : (κs : Lfts 4) (a : _) → (leaf_run.clauses 𝓛 mem run κs a).requires tt ≡ emp 𝓤
  leaf_run_takes κs a = refl

  pub pairs_takes : (κs : Lfts 5) (a : _) → (pairs.clauses 𝓛 mem run κs a).requires tt ≡ emp 𝓤
  pairs_takes κs a = refl

  pub own_pairs_takes : (κs : Lfts 3) (a : _) → (own_pairs.clauses 𝓛 mem run κs a).requires tt ≡ emp 𝓤
  own_pairs_takes κs a = refl

  pub view_open_takes : (κs : Lfts 1) (a : _) → (view-open.clauses 𝓛 mem run κs a).requires tt ≡ emp 𝓤
  view_open_takes κs a = refl

  pub view_point_takes : (κs : Lfts 1) (a : _) → (view_point.clauses 𝓛 mem run κs a).requires tt ≡ emp 𝓤
  view_point_takes κs a = refl

  pub view_filter_takes : (κs : Lfts 3) (a : _) → (view_filter.clauses 𝓛 mem run κs a).requires tt ≡ emp 𝓤
  view_filter_takes κs a = refl

  pub view_ring_takes : (κs : Lfts 2) (a : _) → (view_ring.clauses 𝓛 mem run κs a).requires tt ≡ emp 𝓤
  view_ring_takes κs a = refl

  pub view_page_takes : (κs : Lfts 4) (a : _) → (view_page.clauses 𝓛 mem run κs a).requires tt ≡ emp 𝓤
  view_page_takes κs a = refl

  pub view_own_page_takes : (κs : Lfts 2) (a : _) → (view_own_page.clauses 𝓛 mem run κs a).requires tt ≡ emp 𝓤
  view_own_page_takes κs a = refl

  pub view_partners_takes : (κs : Lfts 3) (a : _) → (view_partners.clauses 𝓛 mem run κs a).requires tt ≡ emp 𝓤
  view_partners_takes κs a = refl

  pub view_nearest_takes : (κs : Lfts 3) (a : _) → (view_nearest.clauses 𝓛 mem run κs a).requires tt ≡ emp 𝓤
  view_nearest_takes κs a = refl

  pub view_run_takes : (κs : Lfts 4) (a : _) → (view_run.clauses 𝓛 mem run κs a).requires tt ≡ emp 𝓤
  view_run_takes κs a = refl

  pub view_shortest_takes : (κs : Lfts 3) (a : _) → (view_shortest.clauses 𝓛 mem run κs a).requires tt ≡ emp 𝓤
  view_shortest_takes κs a = refl

  pub view_near_filter_takes : (κs : Lfts 4) (a : _) → (view_near_filter.clauses 𝓛 mem run κs a).requires tt ≡ emp 𝓤
  view_near_filter_takes κs a = refl

  pub view_pairs_takes : (κs : Lfts 5) (a : _) → (view_pairs.clauses 𝓛 mem run κs a).requires tt ≡ emp 𝓤
  view_pairs_takes κs a = refl

  pub view_own_pairs_takes : (κs : Lfts 3) (a : _) → (view_own_pairs.clauses 𝓛 mem run κs a).requires tt ≡ emp 𝓤
  view_own_pairs_takes κs a = refl

  pub view_count_takes : (κs : Lfts 4) (a : _) → (view_count.clauses 𝓛 mem run κs a).requires tt ≡ emp 𝓤
  view_count_takes κs a = refl

  pub view_own_count_takes : (κs : Lfts 2) (a : _) → (view_own_count.clauses 𝓛 mem run κs a).requires tt ≡ emp 𝓤
  view_own_count_takes κs a = refl

  pub view_busiest_takes : (κs : Lfts 4) (a : _) → (view_busiest.clauses 𝓛 mem run κs a).requires tt ≡ emp 𝓤
  view_busiest_takes κs a = refl

  pub view_busiest_pumps_takes : (κs : Lfts 3) (a : _) → (view_busiest_pumps.clauses 𝓛 mem run κs a).requires tt ≡ emp 𝓤
  view_busiest_pumps_takes κs a = refl

  pub view_urgent_takes : (κs : Lfts 6) (a : _) → (view_urgent.clauses 𝓛 mem run κs a).requires tt ≡ emp 𝓤
  view_urgent_takes κs a = refl
