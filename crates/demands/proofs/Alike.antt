-- The calls of `view` promise what the calls of `ring`, `runs`, `shortest`, `nearest` and `many` promise of the words that the views cover:
-- "a view handed in included, its counts read anew from its words". So each theorem of Demand1, Demand2, Demand3, Lent, Shortest, Nearest and Many on an answer of
-- these holds of theirs. And so for a book, the depot, and a run, whose slots are kept in an array.
-- Assumes nothing. [S28]
use Rattle.std.specs.Prelude.{Result}
use mathlib.Core.Bool.{Bool}
use mathlib.Core.Path.{◌≡◌, ap}
use mathlib.Core.List.{List, [], ◌++◌}
use Prim.Native.Nat.{ℕ}
use lib.IntN.{ℤ}
use lib.ListN.{length, take, drop}
use denote.Ref.{Bor}
use Rattle.list.specs.declared.Key.{Key}
use Rattle.list.specs.declared.Pair.{Pair}
use Rattle.list.specs.declared.Request.{Request}
use Rattle.list.specs.declared.Page.{Page}
use Rattle.ring.specs.declared.Head.{Head}
use Rattle.ring.specs.declared.Filtered.{Filtered}
use Rattle.ring.specs.declared.Paged.{Paged}
use Rattle.ring.specs.declared.Partnered.{Partnered}
use Rattle.view.specs.declared.Sheet.{Sheet}
use Rattle.view.specs.Shown.{open_of}
use Rattle.book.specs.declared.Book.{Book}
use Rattle.book.specs.declared.Asked.{Asked}
use Rattle.book.specs.declared.TakenArray.{TakenArray}
use Rattle.list.specs.Lent.{lent_of}
use Rattle.book.specs.Rules.{taken_slots, taken_array}
use Rattle.shortest.specs.declared.Shortlist.{Shortlist}
use Rattle.nearest.specs.declared.Found.{Found}
use Rattle.runs.specs.declared.Run.{Run}
use Rattle.depot.specs.declared.Form.{Form}
use Rattle.depot.specs.declared.MadeArray.{MadeArray}
use Rattle.depot.specs.declared.Depot.{Depot}
use Rattle.depot.specs.declared.StoredArray.{StoredArray}
use Rattle.depot.specs.Forms.{forms_out, made_array}
use Rattle.depot.specs.Depot.{stored_slots, stored_array}
use Rattle.runs.specs.declared.RunArray.{RunArray}
use Rattle.runs.specs.Run as runs
use Rattle.ranked.specs.declared.Question.{Question}
use Rattle.ranked.specs.declared.Busy.{Busy}
use Rattle.ranked.specs.declared.Urgent.{Urgent}
use Rattle.many.specs.declared.Which.{Which}
use Rattle.many.specs.declared.Wanted.{Wanted}
use Rattle.many.specs.declared.Counted.{Counted}
use Rattle.many.specs.declared.Many.{Many}
use Rattle.demands.specs.Promises.{FormsAnswers, StoreAnswers, FormsArrayAnswers, StoreArrayAnswers, Place, HeadAnswers, PointAnswers, FilterAnswers, RingAnswers, PageAnswers, PartnersAnswers, ShortAnswers, NextAnswers, TakeAnswers, NextArrayAnswers, TakeArrayAnswers, RunAnswers, RunArrayAnswers, ViewPoints, ViewFilters, ViewRings, ViewPages, ViewPartners, ViewRuns, ViewShortest, OpenHead, PointOpened, OwnAnswers, ViewOwnPages, NearestAnswers, NearFilterAnswers, ViewNearest, ViewNearFilters, PairsAnswers, OwnPairsAnswers, CountAnswers, OwnCountAnswers, ViewMany, ViewOwnMany, ViewCounts, ViewOwnCounts, BusyAnswers, PumpAnswers, UrgentAnswers, ViewBusiest, ViewPumps, ViewUrgent}
use Rattle.ring.specs.declared.Asset.{Asset}
use Rattle.walk.specs.declared.Answer.{Answer}

-- ---- through a view

place : Bor (List ℤ) → Place
place w = record { address = w.ref_ptr; name = 0 }

pub view_point : (d : Sheet) (i : ℕ) (r : Result Asset ℕ) → ViewPoints d i r → PointAnswers d.words.now i r
view_point d i r a = record { κs = ([], tt); w_at = place d.words; promised = a }

pub view_ring : (p q : Sheet) (j i : ℕ) (g : Bool) (r : Result Answer ℕ) → ViewRings p q j i g r → RingAnswers p.words.now q.words.now j i g r
view_ring p q j i g r a = record { κs = ([], ([], tt)); p_at = place p.words; q_at = place q.words; promised = a }

-- what is lent stands at any place
pub view_filter : (l : Place) (p q : Sheet) (j : ℕ) (w : List ℕ) (r : Filtered) (w' : List ℕ) → ViewFilters p q j w r w' → FilterAnswers p.words.now q.words.now j w r w'
view_filter l p q j w r w' a = record { κs = ([], ([], ([], tt))); p_at = place p.words; q_at = place q.words; b_at = l; promised = a }

pub view_own_page : (l : Place) (d : Sheet) (key : Key) (size : ℕ) (g : Bool) (w : List ℕ) (r : Paged) (w' : List ℕ) → ViewOwnPages d key size g w r w' → OwnAnswers d.words.now key size g w r w'
view_own_page l d key size g w r w' a = record { κs = ([], ([], tt)); w_at = place d.words; b_at = l; promised = a }

pub view_partners : (l : Place) (p q : Sheet) (id t : ℕ) (w : List ℕ) (r : Partnered) (w' : List ℕ) → ViewPartners p q id t w r w' → PartnersAnswers p.words.now q.words.now id t w r w'
view_partners l p q id t w r w' a = record { κs = ([], ([], ([], tt))); p_at = place p.words; q_at = place q.words; b_at = l; promised = a }

pub view_page : (l b : Place) (p q : Sheet) (o : List ℕ) (ask : Request) (w : List ℕ) (r : Paged) (w' : List ℕ) → ViewPages p q o ask w r w' → PageAnswers p.words.now q.words.now o ask w r w'
view_page l b p q o ask w r w' a = record { κs = ([], ([], ([], ([], tt)))); p_at = place p.words; q_at = place q.words; o_at = l; b_at = b; promised = a }

pub view_shortest : (l : Place) (p q : Sheet) (k : ℕ) (w : List ℕ) (r : Shortlist) (w' : List ℕ) → ViewShortest p q k w r w' → ShortAnswers p.words.now q.words.now k w r w'
view_shortest l p q k w r w' a = record { κs = ([], ([], ([], tt))); p_at = place p.words; q_at = place q.words; b_at = l; promised = a }

pub view_run : (p q : Sheet) (v : ℕ) (s : List Pair) (w : List ℕ) (r : Run) (s' : List Pair) (w' : List ℕ) → ViewRuns p q v s w r s' w' → RunAnswers p.words.now q.words.now v s w r s' w'
view_run p q v s w r s' w' a = a

pub view_nearest : (l : Place) (p q : Sheet) (id size : ℕ) (w : List ℕ) (r : Found) (w' : List ℕ) → ViewNearest p q id size w r w' → NearestAnswers p.words.now q.words.now id size w r w'
view_nearest l p q id size w r w' a = record { κs = ([], ([], ([], tt))); p_at = place p.words; q_at = place q.words; w_at = l; promised = a }

pub view_near_filter : (l b : Place) (p q : Sheet) (id : ℕ) (ws w : List ℕ) (r : Filtered) (ws' w' : List ℕ) → ViewNearFilters p q id ws w r ws' w' → NearFilterAnswers p.words.now q.words.now id ws w r ws' w'
view_near_filter l b p q id ws w r ws' w' a = record { κs = ([], ([], ([], ([], tt)))); p_at = place p.words; q_at = place q.words; w_at = l; b_at = b; promised = a }

pub view_pairs : (p q : Sheet) (o : List ℕ) (ask : Wanted) (s : List Pair) (w : List ℕ) (r : Many) (s' : List Pair) (w' : List ℕ) → ViewMany p q o ask s w r s' w' → PairsAnswers p.words.now q.words.now o ask s w r s' w'
view_pairs p q o ask s w r s' w' a = a

pub view_own_pairs : (d : Sheet) (key : Key) (big : ℕ) (g : Bool) (s : List Pair) (w : List ℕ) (r : Many) (s' : List Pair) (w' : List ℕ) → ViewOwnMany d key big g s w r s' w' → OwnPairsAnswers d.words.now key big g s w r s' w'
view_own_pairs d key big g s w r s' w' a = a

pub view_count : (l b : Place) (p q : Sheet) (o : List ℕ) (which : Which) (w : List ℕ) (r : Counted) (w' : List ℕ) → ViewCounts p q o which w r w' → CountAnswers p.words.now q.words.now o which w r w'
view_count l b p q o which w r w' a = record { κs = ([], ([], ([], ([], tt)))); p_at = place p.words; q_at = place q.words; o_at = l; b_at = b; promised = a }

pub view_own_count : (b : Place) (d : Sheet) (big : ℕ) (g : Bool) (w : List ℕ) (r : Counted) (w' : List ℕ) → ViewOwnCounts d big g w r w' → OwnCountAnswers d.words.now big g w r w'
view_own_count b d big g w r w' a = record { κs = ([], ([], tt)); w_at = place d.words; b_at = b; promised = a }

pub view_busiest : (l b : Place) (p q : Sheet) (o : List ℕ) (ask : Question) (w : List ℕ) (r : Busy) (w' : List ℕ) → ViewBusiest p q o ask w r w' → BusyAnswers p.words.now q.words.now o ask w r w'
view_busiest l b p q o ask w r w' a = record { κs = ([], ([], ([], ([], tt)))); p_at = place p.words; q_at = place q.words; o_at = l; b_at = b; promised = a }

pub view_busiest_pumps : (b : Place) (p q : Sheet) (k big : ℕ) (g : Bool) (w : List ℕ) (r : Busy) (w' : List ℕ) → ViewPumps p q k big g w r w' → PumpAnswers p.words.now q.words.now k big g w r w'
view_busiest_pumps b p q k big g w r w' a = record { κs = ([], ([], ([], tt))); p_at = place p.words; q_at = place q.words; b_at = b; promised = a }

pub view_urgent : (l m n b : Place) (p q : Sheet) (o ps qs : List ℕ) (ask : Question) (w : List ℕ) (r : Urgent) (w' : List ℕ) → ViewUrgent p q o ps qs ask w r w' → UrgentAnswers p.words.now q.words.now o ps qs ask w r w'
view_urgent l m n b p q o ps qs ask w r w' a = record { κs = ([], ([], ([], ([], ([], ([], tt)))))); p_at = place p.words; q_at = place q.words; o_at = l; ps_at = m; qs_at = n; b_at = b; promised = a }

-- ---- for callers that hold no view

pub open_head : (w : List ℤ) (h : Head) → OpenHead w h → HeadAnswers w h
open_head w h a = record { κs = a.κs; w_at = a.w_at; promised = a.promised }

-- of the words that the view covers which `open` gives: none, where they are no sheet
pub point_opened : (w : Bor (List ℤ)) (i : ℕ) (r : Result Asset ℕ) → PointOpened w i r → PointAnswers (open_of w).covers i r
point_opened w i r a = record { κs = a.κs; w_at = place w; promised = a.promised }

-- ---- slots kept in an array: the first so many are lent, the others are as they were

pub next_array : (slots : List Pair) (len : ℕ) (b : Book) (r : Asked) → NextArrayAnswers slots len b r → NextAnswers b (take (lent_of 64 len) slots) r
next_array slots len b r a = a.promised

module _ (slots : List Pair) (len : ℕ) (b : Book) (g : Page) (r : TakenArray) (a : TakeArrayAnswers slots len b g r) where
  pub take_array : TakeAnswers b (take (lent_of 64 len) slots) g r.taken (taken_slots b (take (lent_of 64 len) slots) g)
  unfolding taken_array
  take_array = (ap (λ (x : TakenArray). x.taken) a.promised, λ t. taken_slots b (take (lent_of 64 len) slots) g)

  pub take_array_slots : r.slots ≡ taken_slots b (take (lent_of 64 len) slots) g ++ drop (lent_of 64 len) slots
  unfolding taken_array
  take_array_slots = ap (λ (x : TakenArray). x.slots) a.promised

module _ (slots : List Pair) (len : ℕ) (out : List Form) (room : ℕ) (b : Book) (r : MadeArray) (a : FormsArrayAnswers slots len out room b r) where
  pub forms_array : FormsAnswers b (take (lent_of 64 len) slots) (take (lent_of 64 room) out) r.made (forms_out b (take (lent_of 64 len) slots) (take (lent_of 64 room) out))
  unfolding made_array
  forms_array = (ap (λ (x : MadeArray). x.made) a.promised, λ t. forms_out b (take (lent_of 64 len) slots) (take (lent_of 64 room) out))

  pub forms_array_out : r.out ≡ forms_out b (take (lent_of 64 len) slots) (take (lent_of 64 room) out) ++ drop (lent_of 64 room) out
  unfolding made_array
  forms_array_out = ap (λ (x : MadeArray). x.out) a.promised

module _ (slots : List Form) (len : ℕ) (d : Depot) (f : Form) (r : StoredArray) (a : StoreArrayAnswers slots len d f r) where
  pub store_array : StoreAnswers d (take (lent_of 64 len) slots) f r.stored (stored_slots d (take (lent_of 64 len) slots) f)
  unfolding stored_array
  store_array = (ap (λ (x : StoredArray). x.stored) a.promised, λ t. stored_slots d (take (lent_of 64 len) slots) f)

  pub store_array_slots : r.slots ≡ stored_slots d (take (lent_of 64 len) slots) f ++ drop (lent_of 64 len) slots
  unfolding stored_array
  store_array_slots = ap (λ (x : StoredArray). x.slots) a.promised

module _ (P Q : List ℤ) (v : ℕ) (slots : List Pair) (len : ℕ) (w : List ℕ) (r : RunArray) (w' : List ℕ) (a : RunArrayAnswers P Q v slots len w r w') where
  pub run_array_lem : RunAnswers P Q v (take (lent_of 256 len) slots) w r.run (runs.run_slots P Q v (take (lent_of 256 len) slots) (length w)) w'
  unfolding runs.run_array
  run_array_lem = (ap (λ (x : RunArray). x.run) a.promised.0, λ t. runs.run_slots P Q v (take (lent_of 256 len) slots) (length w), a.promised.1)

  pub run_array_slots : r.slots ≡ runs.run_slots P Q v (take (lent_of 256 len) slots) (length w) ++ drop (lent_of 256 len) slots
  unfolding runs.run_array
  run_array_slots = ap (λ (x : RunArray). x.slots) a.promised.0
