-- What the shipped calls promise, under one name for each call: `PageAnswers P Q o ask bits r bits'` says that r is an answer which the `ensures` of the page request
-- admits, where the words P and Q, the owner bytes o and the request are handed in and the words `bits` are lent, which are `bits'` at its exit. The theorems of this crate start from these, so whoever weakens an `ensures` breaks them.
--
-- `Post` of a call is its `ensures`, read as a plain claim: of the lifetimes κs of what is lent, the arguments, the answer, and the arguments at exit.
-- Words and slots that are lent are lists that stand at some place of memory, and no promise depends on the place.
-- The calls over slices of records (`Book::next_key`, `Book::take`, `depot::forms`, `Depot::take`, `runs::leaf_run`, `many::pairs`, `many::own_pairs`) and over views (`view::open` and its readers) have no such reading.
-- Theirs is stated here, and proofs/Says shows that it is their `ensures`, word for word.
use Rattle.std.specs.Prelude.{◌≡◌, Bool, true, false, List, [], ℕ, ℤ, length, Result}
use Rattle.std.specs.Borrow.{GName, Bor, MutBor}
use contract.Lifetimes.{Lfts}
use Rattle.list.specs.declared.Key.{Key}
use Rattle.list.specs.declared.Pair.{Pair}
use Rattle.list.specs.declared.Request.{Request}
use Rattle.list.specs.declared.Source.{Source}
use Rattle.list.specs.declared.Terms.{Terms}
use Rattle.list.specs.Terms.{request_of}
use Rattle.list.specs.declared.Page.{Page}
use Rattle.ring.specs.Answers.{pointed, filtered, filtered_bits, walked}
use Rattle.ring.specs.Page.{page_answer, page_bits}
use Rattle.ring.specs.Own.{own_answer, own_bits}
use Rattle.ring.specs.Partners.{partners_answer, partners_bits}
use Rattle.ring.specs.declared.Head.{Head}
use Rattle.ring.specs.declared.Filtered.{Filtered}
use Rattle.ring.specs.declared.Paged.{Paged}
use Rattle.ring.specs.declared.Partnered.{Partnered}
use Rattle.ring.specs.declared.Placed.{Placed}
use Rattle.view.specs.declared.Sheet.{Sheet}
use Rattle.view.specs.declared.Opened.{Opened}
use Rattle.view.specs.Shown.{shown, open_of}
use Rattle.book.specs.declared.Book.{Book}
use Rattle.book.specs.declared.Asked.{Asked}
use Rattle.book.specs.declared.Taken.{Taken}
use Rattle.book.specs.declared.TakenArray.{TakenArray}
use Rattle.book.specs.Rules.{asked, taken, taken_slots}
use Rattle.depot.specs.declared.Form.{Form}
use Rattle.depot.specs.declared.Made.{Made}
use Rattle.depot.specs.declared.MadeArray.{MadeArray}
use Rattle.depot.specs.declared.Depot.{Depot}
use Rattle.depot.specs.declared.Stored.{Stored}
use Rattle.depot.specs.declared.StoredArray.{StoredArray}
use Rattle.depot.specs.Forms.{forms_answer, forms_out}
use Rattle.depot.specs.Depot.{stored, stored_slots}
use Rattle.shortest.specs.declared.Shortlist.{Shortlist}
use Rattle.shortest.specs.Answer.{short_answer, short_bits}
use Rattle.nearest.specs.declared.Found.{Found}
use Rattle.nearest.specs.Nearest.{nearest_no, nearest_answer, near_filter_no, near_filtered, near_filtered_bits, waited_by}
use Rattle.runs.specs.declared.Run.{Run}
use Rattle.runs.specs.declared.RunArray.{RunArray}
use Rattle.runs.specs.Run.{run_answer, run_slots, run_bits}
use Rattle.many.specs.declared.Which.{Which}
use Rattle.many.specs.declared.Wanted.{Wanted}
use Rattle.many.specs.declared.Counted.{Counted}
use Rattle.many.specs.declared.Many.{Many}
use Rattle.many.specs.Many.{pairs_answer, pairs_slots, pairs_bits, own_pairs_answer, own_pairs_slots, own_pairs_bits, count_answer, count_bits, own_count_answer, own_count_bits}
use Rattle.ranked.specs.declared.Question.{Question}
use Rattle.ranked.specs.declared.Busy.{Busy}
use Rattle.ranked.specs.declared.Urgent.{Urgent}
use Rattle.ranked.specs.Busiest.{busy_answer, busy_bits, pump_answer, pump_bits}
use Rattle.ranked.specs.Urgent.{urgent_answer, urgent_bits}
use Rattle.ring.proofs.open.open_no.Reads as open_no
use Rattle.ring.proofs.open.head_of.Reads as head_of
use Rattle.ring.proofs.reader.point.Reads as point
use Rattle.ring.proofs.finder.position.Reads as position
use Rattle.ring.proofs.filter.filter_walk.Reads as filter-walk
use Rattle.ring.proofs.ringwalk.ring_walk.Reads as ring-walk
use Rattle.ring.proofs.pages.page.Reads as page
use Rattle.ring.proofs.own.own_page.Reads as own-page
use Rattle.shortest.proofs.shortest.Reads as shortest
use Rattle.ring.proofs.least.partners.Reads as partners
use Rattle.nearest.proofs.nearest.Reads as nearest
use Rattle.nearest.proofs.near_filter.Reads as near-filter
use Rattle.pack.proofs.pack.Reads as pack
use Rattle.pack.proofs.sheet_len.Reads as sheet-len
use Rattle.marker.proofs.mark.Reads as mark
use Rattle.book.proofs.Book.begin.Reads as begin
use Rattle.book.proofs.take_array.Reads as take_array
use Rattle.book.proofs.next_array.Reads as next_array
use Rattle.depot.proofs.Depot.begin.Reads as depot-begin
use Rattle.depot.proofs.forms_array.Reads as forms_array
use Rattle.depot.proofs.take_array.Reads as store_array
use Rattle.runs.proofs.run_array.Reads as run_array_lem
use Rattle.many.proofs.tally.count.Reads as count
use Rattle.many.proofs.tally.own_count.Reads as own_count
use Rattle.ranked.proofs.busiest.busiest.Reads as busiest
use Rattle.ranked.proofs.busiest.busiest_pumps.Reads as busiest-pumps
use Rattle.ranked.proofs.visits.urgent.Reads as urgent
use Rattle.view.proofs.open_head.Reads as open_head
use Rattle.view.proofs.point_opened.Reads as point_opened
use Rattle.marker.specs.declared.Marker.{Marker}
use Rattle.ring.specs.declared.Asset.{Asset}
use Rattle.walk.specs.declared.Answer.{Answer}

-- where something that is lent stands: its address, and the name by which its contents are followed
pub record Place : Type 0 where
  pub address : ℕ × ℕ
  pub name : GName

-- a slice that stands there and holds these, lent to be read
abbrev pub slice : {X : Type 0} → Place → List X → Bor (List X)
slice l w = record { ref_ptr = l.address; now = w }

-- the same, lent to be written
abbrev pub mut_slice : {X : Type 0} → Place → List X → MutBor (List X)
mut_slice l w = record { ref_ptr = l.address; ghost_name = l.name; now = w }

-- ---- ring: the calls on plain slices

-- `ring::open::open_no(w)` answers r [B1, D1, D7, D8]
pub record OpenAnswers (w : List ℤ) (r : ℕ) : Type 0 where
  pub κs : Lfts 1
  pub w_at : Place
  pub promised : open_no.Post κs (slice w_at w, tt) r (slice w_at w, tt)

-- `ring::open::head_of(w)` answers h [D8]
pub record HeadAnswers (w : List ℤ) (h : Head) : Type 0 where
  pub κs : Lfts 1
  pub w_at : Place
  pub promised : head_of.Post κs (slice w_at w, tt) h (slice w_at w, tt)

-- `ring::reader::point(w, position)` answers r [B1, D1, D7, D8]
pub record PointAnswers (w : List ℤ) (position : ℕ) (r : Result Asset ℕ) : Type 0 where
  pub κs : Lfts 1
  pub w_at : Place
  pub promised : point.Post κs (slice w_at w, (position, tt)) r (slice w_at w, (position, tt))

-- `ring::finder::position(w, id)` answers r [D8]
pub record PlaceAnswers (w : List ℤ) (id : ℕ) (r : Placed) : Type 0 where
  pub κs : Lfts 1
  pub w_at : Place
  pub promised : position.Post κs (slice w_at w, (id, tt)) r (slice w_at w, (id, tt))

-- `ring::filter::filter_walk(P, Q, j, bits)` answers r, and the lent words are `bits'` at its exit [B1, D1, D7, D8]
pub record FilterAnswers (P Q : List ℤ) (j : ℕ) (bits : List ℕ) (r : Filtered) (bits' : List ℕ) : Type 0 where
  pub κs : Lfts 3
  pub p_at : Place
  pub q_at : Place
  pub b_at : Place
  pub promised : filter-walk.Post κs
      (slice p_at P, (slice q_at Q, (j, (mut_slice b_at bits, tt))))
      r
      (slice p_at P, (slice q_at Q, (j, (mut_slice b_at bits', tt))))

-- `ring::ringwalk::ring_walk(P, Q, j, i, grid)` answers r [B1, D1, D7, D8]
pub record RingAnswers (P Q : List ℤ) (j i : ℕ) (g : Bool) (r : Result Answer ℕ) : Type 0 where
  pub κs : Lfts 2
  pub p_at : Place
  pub q_at : Place
  pub promised : ring-walk.Post κs (slice p_at P, (slice q_at Q, (j, (i, (g, tt))))) r (slice p_at P, (slice q_at Q, (j, (i, (g, tt)))))

-- `ring::pages::page(P, Q, o, ask, bits)` answers r, and the lent words are `bits'` at its exit [B1, D1, D7, D8]
pub record PageAnswers (P Q : List ℤ) (o : List ℕ) (ask : Request) (bits : List ℕ) (r : Paged) (bits' : List ℕ) : Type 0 where
  pub κs : Lfts 4
  pub p_at : Place
  pub q_at : Place
  pub o_at : Place
  pub b_at : Place
  pub promised : page.Post κs
      (slice p_at P, (slice q_at Q, (slice o_at o, (ask, (mut_slice b_at bits, tt)))))
      r
      (slice p_at P, (slice q_at Q, (slice o_at o, (ask, (mut_slice b_at bits', tt)))))

-- `ring::own::own_page(S, key, size, grid, bits)` answers r, and the lent words are `bits'` at its exit [D8]
pub record OwnAnswers (S : List ℤ) (key : Key) (size : ℕ) (g : Bool) (bits : List ℕ) (r : Paged) (bits' : List ℕ) : Type 0 where
  pub κs : Lfts 2
  pub w_at : Place
  pub b_at : Place
  pub promised : own-page.Post κs (slice w_at S, (key, (size, (g, (mut_slice b_at bits, tt))))) r (slice w_at S, (key, (size, (g, (mut_slice b_at bits', tt)))))

-- An answer of the page request of these terms and owner bytes, for these lent words: of two sheets, or of a self join, which is of the one sheet in both places, has no t, and is undivided, with no
-- bytes.
abbrev pub OfKind : Bool → Terms → List ℕ → List ℤ → List ℤ → Key → ℕ → List ℕ → Paged → List ℕ → Type 0
OfKind false a o P Q key size bits r bits' = PageAnswers P Q o (request_of a key size) bits r bits'
OfKind true a o P Q key size bits r bits' = (P ≡ Q) × (a.threshold ≡ 0) × (a.contractor ≡ 2) × (o ≡ []) × OwnAnswers P key size a.grid bits r bits'

abbrev pub TermsAnswers : Terms → List ℕ → List ℤ → List ℤ → Key → ℕ → List ℕ → Paged → List ℕ → Type 0
TermsAnswers a o P Q key size bits r bits' = OfKind a.own a o P Q key size bits r bits'

-- `ring::least::partners(P, Q, id, t, bits)` answers r, and the lent words are `bits'` at its exit [D8]
pub record PartnersAnswers (P Q : List ℤ) (id t : ℕ) (bits : List ℕ) (r : Partnered) (bits' : List ℕ) : Type 0 where
  pub κs : Lfts 3
  pub p_at : Place
  pub q_at : Place
  pub b_at : Place
  pub promised : partners.Post κs
      (slice p_at P, (slice q_at Q, (id, (t, (mut_slice b_at bits, tt)))))
      r
      (slice p_at P, (slice q_at Q, (id, (t, (mut_slice b_at bits', tt)))))

-- ---- the shortest circles

-- `shortest::shortest(P, Q, k, bits)` answers r, and the lent words are `bits'` at its exit [D8]
pub record ShortAnswers (P Q : List ℤ) (k : ℕ) (bits : List ℕ) (r : Shortlist) (bits' : List ℕ) : Type 0 where
  pub κs : Lfts 3
  pub p_at : Place
  pub q_at : Place
  pub b_at : Place
  pub promised : shortest.Post κs (slice p_at P, (slice q_at Q, (k, (mut_slice b_at bits, tt)))) r (slice p_at P, (slice q_at Q, (k, (mut_slice b_at bits', tt))))

-- ---- nearest first

-- `nearest::nearest(P, Q, id, size, waiting)` answers r, and the lent numbers are `waiting'` at its exit [D8]
pub record NearestAnswers (P Q : List ℤ) (id size : ℕ) (waiting : List ℕ) (r : Found) (waiting' : List ℕ) : Type 0 where
  pub κs : Lfts 3
  pub p_at : Place
  pub q_at : Place
  pub w_at : Place
  pub promised : nearest.Post κs
      (slice p_at P, (slice q_at Q, (id, (size, (mut_slice w_at waiting, tt)))))
      r
      (slice p_at P, (slice q_at Q, (id, (size, (mut_slice w_at waiting', tt)))))

-- `nearest::near_filter(P, Q, id, waiting, bits)` answers r, and at its exit the lent numbers are `waiting'`, the lent words `bits'` [D8]
pub record NearFilterAnswers (P Q : List ℤ) (id : ℕ) (waiting bits : List ℕ) (r : Filtered) (waiting' bits' : List ℕ) : Type 0 where
  pub κs : Lfts 4
  pub p_at : Place
  pub q_at : Place
  pub w_at : Place
  pub b_at : Place
  pub promised : near-filter.Post κs
      (slice p_at P, (slice q_at Q, (id, (mut_slice w_at waiting, (mut_slice b_at bits, tt)))))
      r
      (slice p_at P, (slice q_at Q, (id, (mut_slice w_at waiting', (mut_slice b_at bits', tt)))))

-- ---- pack, marker

-- `pack::sheet_len(n)` answers r [D8]
pub record LengthAnswers (n r : ℕ) : Type 0 where
  pub promised : sheet-len.Post tt (n, tt) r (n, tt)

-- `pack::pack(form, n, points, order, edition, out)` answers r, and the words of `out` are `out'` at its exit [B1, D8]
pub record PackAnswers (form n : ℕ) (points order : List ℤ) (edition : ℕ) (out : List ℤ) (r : ℕ) (out' : List ℤ) : Type 0 where
  pub κs : Lfts 3
  pub p_at : Place
  pub o_at : Place
  pub out_at : Place
  pub promised : pack.Post κs
      (form, (n, (slice p_at points, (slice o_at order, (edition, (mut_slice out_at out, tt))))))
      r
      (form, (n, (slice p_at points, (slice o_at order, (edition, (mut_slice out_at out', tt))))))

-- `marker::mark(ax, ay, bx, by)` answers r [B1, D8]
pub record MarkAnswers (ax ay bx by : ℤ) (r : Result Marker ℕ) : Type 0 where
  pub promised : mark.Post tt (ax, (ay, (bx, (by, tt)))) r (ax, (ay, (bx, (by, tt))))

-- ---- the book

-- `Book::begin(source)` answers r [B1, D8]
pub record BeginAnswers (source : Source) (r : Result Book ℕ) : Type 0 where
  pub promised : begin.Post tt (source, tt) r (source, tt)

-- `b.next_key(slots)` answers r [B1, D8]
abbrev pub NextAnswers : Book → List Pair → Asked → Type 0
NextAnswers b slots r = r ≡ asked b slots

-- `b.take(slots, page)` answers r, and the slots are `slots'` at its exit [B1, D1, D7, D8]
abbrev pub TakeAnswers : Book → List Pair → Page → Taken → List Pair → Type 0
TakeAnswers b slots page r slots' = (r ≡ taken b slots page) × (slots' ≡ taken_slots b slots page)

-- `book::next_array(slots, len, b)` answers r
pub record NextArrayAnswers (slots : List Pair) (len : ℕ) (b : Book) (r : Asked) : Type 0 where
  pub promised : next_array.Post tt (slots, (len, (b, tt))) r (slots, (len, (b, tt)))

-- `book::take_array(slots, len, b, page)` answers r
pub record TakeArrayAnswers (slots : List Pair) (len : ℕ) (b : Book) (page : Page) (r : TakenArray) : Type 0 where
  pub promised : take_array.Post tt (slots, (len, (b, (page, tt)))) r (slots, (len, (b, (page, tt))))

-- ---- the depot

-- `depot::forms(b, slots, out)` answers r, and the places for forms are `out'` at its exit [D8]
abbrev pub FormsAnswers : Book → List Pair → List Form → Made → List Form → Type 0
FormsAnswers b slots out r out' = (r ≡ forms_answer b slots out) × (out' ≡ forms_out b slots out)

-- `Depot::begin()` answers d [D8]
pub record DepotBegins (d : Depot) : Type 0 where
  pub promised : depot-begin.Post tt tt d tt

-- `d.take(slots, form)` answers r, and the slots are `slots'` at its exit [D8]
abbrev pub StoreAnswers : Depot → List Form → Form → Stored → List Form → Type 0
StoreAnswers d slots form r slots' = (r ≡ stored d slots form) × (slots' ≡ stored_slots d slots form)

-- `depot::forms_array(slots, len, out, room, b)` answers r
pub record FormsArrayAnswers (slots : List Pair) (len : ℕ) (out : List Form) (room : ℕ) (b : Book) (r : MadeArray) : Type 0 where
  pub promised : forms_array.Post tt (slots, (len, (out, (room, (b, tt))))) r (slots, (len, (out, (room, (b, tt)))))

-- `depot::take_array(slots, len, d, form)` answers r
pub record StoreArrayAnswers (slots : List Form) (len : ℕ) (d : Depot) (form : Form) (r : StoredArray) : Type 0 where
  pub promised : store_array.Post tt (slots, (len, (d, (form, tt)))) r (slots, (len, (d, (form, tt))))

-- ---- one run per leaf

-- `runs::leaf_run(P, Q, leaf, slots, bits)` answers r, and at its exit the slots are `slots'`, the lent words `bits'` [D8]
abbrev pub RunAnswers : List ℤ → List ℤ → ℕ → List Pair → List ℕ → Run → List Pair → List ℕ → Type 0
RunAnswers P Q leaf slots bits r slots' bits' =
    (r ≡ run_answer P Q leaf (length slots) (length bits)) × (slots' ≡ run_slots P Q leaf slots (length bits)) × (bits' ≡ run_bits P Q leaf (length slots) bits)

-- `runs::run_array(P, Q, leaf, slots, len, bits)` answers r, and the lent words are `bits'` at its exit
pub record RunArrayAnswers (P Q : List ℤ) (leaf : ℕ) (slots : List Pair) (len : ℕ) (bits : List ℕ) (r : RunArray) (bits' : List ℕ) : Type 0 where
  pub κs : Lfts 3
  pub p_at : Place
  pub q_at : Place
  pub b_at : Place
  pub promised : run_array_lem.Post κs
      (slice p_at P, (slice q_at Q, (leaf, (slots, (len, (mut_slice b_at bits, tt))))))
      r
      (slice p_at P, (slice q_at Q, (leaf, (slots, (len, (mut_slice b_at bits', tt))))))

-- ---- many pairs at once

-- `many::batch::pairs(P, Q, o, ask, slots, bits)` answers r, and at its exit the slots are `slots'`, the lent words `bits'` [MP11]
abbrev pub PairsAnswers : List ℤ → List ℤ → List ℕ → Wanted → List Pair → List ℕ → Many → List Pair → List ℕ → Type 0
PairsAnswers P Q o ask slots bits r slots' bits' =
    (r ≡ pairs_answer P Q o ask (length slots) (length bits)) × (slots' ≡ pairs_slots P Q o ask slots (length bits)) × (bits' ≡ pairs_bits P Q o ask bits)

-- `many::batch::own_pairs(S, key, big, grid, slots, bits)` answers r, and at its exit the slots are `slots'`, the lent words `bits'`
abbrev pub OwnPairsAnswers : List ℤ → Key → ℕ → Bool → List Pair → List ℕ → Many → List Pair → List ℕ → Type 0
OwnPairsAnswers S key big g slots bits r slots' bits' =
    (r ≡ own_pairs_answer S key big g (length slots) (length bits)) × (slots' ≡ own_pairs_slots S key big g slots (length bits)) × (bits' ≡ own_pairs_bits S key big g bits)

-- `many::tally::count(P, Q, o, which, bits)` answers r, and the lent words are `bits'` at its exit [MP11]
pub record CountAnswers (P Q : List ℤ) (o : List ℕ) (which : Which) (bits : List ℕ) (r : Counted) (bits' : List ℕ) : Type 0 where
  pub κs : Lfts 4
  pub p_at : Place
  pub q_at : Place
  pub o_at : Place
  pub b_at : Place
  pub promised : count.Post κs
      (slice p_at P, (slice q_at Q, (slice o_at o, (which, (mut_slice b_at bits, tt)))))
      r
      (slice p_at P, (slice q_at Q, (slice o_at o, (which, (mut_slice b_at bits', tt)))))

-- `many::tally::own_count(S, big, grid, bits)` answers r, and the lent words are `bits'` at its exit
pub record OwnCountAnswers (S : List ℤ) (big : ℕ) (g : Bool) (bits : List ℕ) (r : Counted) (bits' : List ℕ) : Type 0 where
  pub κs : Lfts 2
  pub w_at : Place
  pub b_at : Place
  pub promised : own_count.Post κs (slice w_at S, (big, (g, (mut_slice b_at bits, tt)))) r (slice w_at S, (big, (g, (mut_slice b_at bits', tt))))

-- what is asked of the list of these terms, of two sheets: the pairs after a key, to a size; and how many there are
abbrev pub wanted_of : Terms → Key → ℕ → Wanted
wanted_of a key big = record { key = key; largest = big; threshold = a.threshold; contractor = a.contractor; grid = a.grid }

abbrev pub which_of : Terms → ℕ → Which
which_of a big = record { largest = big; threshold = a.threshold; contractor = a.contractor; grid = a.grid }

-- An answer of the call for many pairs of these terms, as `TermsAnswers` of the page request: of two sheets, or of a self join, which is of the one sheet in both places, has no t, and is undivided,
-- with no bytes. [MP9]
abbrev pub ManyOfKind : Bool → Terms → List ℕ → List ℤ → List ℤ → Key → ℕ → List Pair → List ℕ → Many → List Pair → List ℕ → Type 0
ManyOfKind false a o P Q key big slots bits r slots' bits' = PairsAnswers P Q o (wanted_of a key big) slots bits r slots' bits'
ManyOfKind true a o P Q key big slots bits r slots' bits' = (P ≡ Q) × (a.threshold ≡ 0) × (a.contractor ≡ 2) × (o ≡ []) × OwnPairsAnswers P key big a.grid slots bits r slots' bits'

abbrev pub ManyAnswers : Terms → List ℕ → List ℤ → List ℤ → Key → ℕ → List Pair → List ℕ → Many → List Pair → List ℕ → Type 0
ManyAnswers a o P Q key big slots bits r slots' bits' = ManyOfKind a.own a o P Q key big slots bits r slots' bits'

-- and one of the call for their number [MP9]
abbrev pub CountOfKind : Bool → Terms → List ℕ → List ℤ → List ℤ → ℕ → List ℕ → Counted → List ℕ → Type 0
CountOfKind false a o P Q big bits r bits' = CountAnswers P Q o (which_of a big) bits r bits'
CountOfKind true a o P Q big bits r bits' = (P ≡ Q) × (a.threshold ≡ 0) × (a.contractor ≡ 2) × (o ≡ []) × OwnCountAnswers P big a.grid bits r bits'

abbrev pub NumberAnswers : Terms → List ℕ → List ℤ → List ℤ → ℕ → List ℕ → Counted → List ℕ → Type 0
NumberAnswers a o P Q big bits r bits' = CountOfKind a.own a o P Q big bits r bits'

-- ---- the first of a list in an order

-- `ranked::busiest::busiest(P, Q, o, ask, bits)` answers r, and the lent words are `bits'` at its exit [BU12]
pub record BusyAnswers (P Q : List ℤ) (o : List ℕ) (ask : Question) (bits : List ℕ) (r : Busy) (bits' : List ℕ) : Type 0 where
  pub κs : Lfts 4
  pub p_at : Place
  pub q_at : Place
  pub o_at : Place
  pub b_at : Place
  pub promised : busiest.Post κs
      (slice p_at P, (slice q_at Q, (slice o_at o, (ask, (mut_slice b_at bits, tt)))))
      r
      (slice p_at P, (slice q_at Q, (slice o_at o, (ask, (mut_slice b_at bits', tt)))))

-- `ranked::busiest::busiest_pumps(P, Q, k, big, grid, bits)` answers r, and the lent words are `bits'` at its exit
pub record PumpAnswers (P Q : List ℤ) (k big : ℕ) (g : Bool) (bits : List ℕ) (r : Busy) (bits' : List ℕ) : Type 0 where
  pub κs : Lfts 3
  pub p_at : Place
  pub q_at : Place
  pub b_at : Place
  pub promised : busiest-pumps.Post κs
      (slice p_at P, (slice q_at Q, (k, (big, (g, (mut_slice b_at bits, tt))))))
      r
      (slice p_at P, (slice q_at Q, (k, (big, (g, (mut_slice b_at bits', tt))))))

-- `ranked::visits::urgent(P, Q, o, ps, qs, ask, bits)` answers r, and the lent words are `bits'` at its exit [BU12]
pub record UrgentAnswers (P Q : List ℤ) (o ps qs : List ℕ) (ask : Question) (bits : List ℕ) (r : Urgent) (bits' : List ℕ) : Type 0 where
  pub κs : Lfts 6
  pub p_at : Place
  pub q_at : Place
  pub o_at : Place
  pub ps_at : Place
  pub qs_at : Place
  pub b_at : Place
  pub promised : urgent.Post κs
      (slice p_at P, (slice q_at Q, (slice o_at o, (slice ps_at ps, (slice qs_at qs, (ask, (mut_slice b_at bits, tt)))))))
      r
      (slice p_at P, (slice q_at Q, (slice o_at o, (slice ps_at ps, (slice qs_at qs, (ask, (mut_slice b_at bits', tt)))))))

-- ---- views

-- `view::open(w)` answers r [S26, D8]
abbrev pub ViewOpens : Bor (List ℤ) → Opened → Type 0
ViewOpens w r = shown r ≡ open_of w

-- `view::point_at(sheet, position)` answers r [S28, N19, D8]
abbrev pub ViewPoints : Sheet → ℕ → Result Asset ℕ → Type 0
ViewPoints sheet position r = r ≡ pointed sheet.words.now position

-- `view::filter_walk_at(p, q, j, bits)` answers r, and the lent words are `bits'` at its exit [S28, N19, D8]
abbrev pub ViewFilters : Sheet → Sheet → ℕ → List ℕ → Filtered → List ℕ → Type 0
ViewFilters p q j bits r bits' = (r ≡ filtered p.words.now q.words.now j (length bits)) × (bits' ≡ filtered_bits p.words.now q.words.now j bits)

-- `view::ring_walk_at(p, q, j, i, grid)` answers r [S28, N19, D8]
abbrev pub ViewRings : Sheet → Sheet → ℕ → ℕ → Bool → Result Answer ℕ → Type 0
ViewRings p q j i g r = r ≡ walked p.words.now q.words.now j i g

-- `view::page_at(p, q, o, ask, bits)` answers r, and the lent words are `bits'` at its exit [S28, N19, D8]
abbrev pub ViewPages : Sheet → Sheet → List ℕ → Request → List ℕ → Paged → List ℕ → Type 0
ViewPages p q o ask bits r bits' = (r ≡ page_answer p.words.now q.words.now o ask (length bits)) × (bits' ≡ page_bits p.words.now q.words.now o ask bits)

-- `view::own_page_at(d, key, size, grid, bits)` answers r, and the lent words are `bits'` at its exit [S28, D8]
abbrev pub ViewOwnPages : Sheet → Key → ℕ → Bool → List ℕ → Paged → List ℕ → Type 0
ViewOwnPages d key size g bits r bits' = (r ≡ own_answer d.words.now key size g (length bits)) × (bits' ≡ own_bits d.words.now key size g bits)

-- `view::partners_at(p, q, id, t, bits)` answers r, and the lent words are `bits'` at its exit [S28, D8]
abbrev pub ViewPartners : Sheet → Sheet → ℕ → ℕ → List ℕ → Partnered → List ℕ → Type 0
ViewPartners p q id t bits r bits' =
    (r ≡ partners_answer p.words.now q.words.now id t (length bits)) × (bits' ≡ partners_bits p.words.now q.words.now id t bits)

-- `view::leaf_run_at(p, q, leaf, slots, bits)` answers r, and at its exit the slots are `slots'`, the lent words `bits'`
abbrev pub ViewRuns : Sheet → Sheet → ℕ → List Pair → List ℕ → Run → List Pair → List ℕ → Type 0
ViewRuns p q leaf slots bits r slots' bits' = RunAnswers p.words.now q.words.now leaf slots bits r slots' bits'

-- `view::shortest_at(p, q, k, bits)` answers r, and the lent words are `bits'` at its exit
abbrev pub ViewShortest : Sheet → Sheet → ℕ → List ℕ → Shortlist → List ℕ → Type 0
ViewShortest p q k bits r bits' = (r ≡ short_answer p.words.now q.words.now k (length bits)) × (bits' ≡ short_bits p.words.now q.words.now k bits)

-- `view::nearest_at(p, q, id, size, waiting)` answers r, and the lent numbers are `waiting'` at its exit [S28, D8]
abbrev pub ViewNearest : Sheet → Sheet → ℕ → ℕ → List ℕ → Found → List ℕ → Type 0
ViewNearest p q id size waiting r waiting' =
    (r ≡ nearest_answer p.words.now q.words.now id size (length waiting))
    × (waiting' ≡ waited_by (nearest_no p.words.now q.words.now id size (length waiting)) p.words.now waiting)

-- `view::near_filter_at(p, q, id, waiting, bits)` answers r, and at its exit the lent numbers are `waiting'`, the lent words `bits'`
abbrev pub ViewNearFilters : Sheet → Sheet → ℕ → List ℕ → List ℕ → Filtered → List ℕ → List ℕ → Type 0
ViewNearFilters p q id waiting bits r waiting' bits' =
    (r ≡ near_filtered p.words.now q.words.now id (length bits) (length waiting))
    × (waiting' ≡ waited_by (near_filter_no p.words.now q.words.now id (length bits) (length waiting)) p.words.now waiting)
    × (bits' ≡ near_filtered_bits p.words.now q.words.now id (length waiting) bits)

-- `view::pairs_at(p, q, o, ask, slots, bits)` answers r, and at its exit the slots are `slots'`, the lent words `bits'`
abbrev pub ViewMany : Sheet → Sheet → List ℕ → Wanted → List Pair → List ℕ → Many → List Pair → List ℕ → Type 0
ViewMany p q o ask slots bits r slots' bits' = PairsAnswers p.words.now q.words.now o ask slots bits r slots' bits'

-- `view::own_pairs_at(d, key, big, grid, slots, bits)` answers r, and at its exit the slots are `slots'`, the lent words `bits'`
abbrev pub ViewOwnMany : Sheet → Key → ℕ → Bool → List Pair → List ℕ → Many → List Pair → List ℕ → Type 0
ViewOwnMany d key big g slots bits r slots' bits' = OwnPairsAnswers d.words.now key big g slots bits r slots' bits'

-- `view::count_at(p, q, o, which, bits)` answers r, and the lent words are `bits'` at its exit
abbrev pub ViewCounts : Sheet → Sheet → List ℕ → Which → List ℕ → Counted → List ℕ → Type 0
ViewCounts p q o which bits r bits' = (r ≡ count_answer p.words.now q.words.now o which (length bits)) × (bits' ≡ count_bits p.words.now q.words.now o which bits)

-- `view::own_count_at(d, big, grid, bits)` answers r, and the lent words are `bits'` at its exit
abbrev pub ViewOwnCounts : Sheet → ℕ → Bool → List ℕ → Counted → List ℕ → Type 0
ViewOwnCounts d big g bits r bits' = (r ≡ own_count_answer d.words.now big g (length bits)) × (bits' ≡ own_count_bits d.words.now big g bits)

-- `view::busiest_at(p, q, o, ask, bits)` answers r, and the lent words are `bits'` at its exit
abbrev pub ViewBusiest : Sheet → Sheet → List ℕ → Question → List ℕ → Busy → List ℕ → Type 0
ViewBusiest p q o ask bits r bits' = (r ≡ busy_answer p.words.now q.words.now o ask (length bits)) × (bits' ≡ busy_bits p.words.now q.words.now o ask bits)

-- `view::busiest_pumps_at(p, q, k, big, grid, bits)` answers r, and the lent words are `bits'` at its exit
abbrev pub ViewPumps : Sheet → Sheet → ℕ → ℕ → Bool → List ℕ → Busy → List ℕ → Type 0
ViewPumps p q k big g bits r bits' = (r ≡ pump_answer p.words.now q.words.now k big g (length bits)) × (bits' ≡ pump_bits p.words.now q.words.now k big g bits)

-- `view::urgent_at(p, q, o, ps, qs, ask, bits)` answers r, and the lent words are `bits'` at its exit
abbrev pub ViewUrgent : Sheet → Sheet → List ℕ → List ℕ → List ℕ → Question → List ℕ → Urgent → List ℕ → Type 0
ViewUrgent p q o ps qs ask bits r bits' = (r ≡ urgent_answer p.words.now q.words.now o ps qs ask (length bits)) × (bits' ≡ urgent_bits p.words.now q.words.now o ps qs ask bits)

-- `view::open_head(w)` answers h
pub record OpenHead (w : List ℤ) (h : Head) : Type 0 where
  pub κs : Lfts 1
  pub w_at : Place
  pub promised : open_head.Post κs (slice w_at w, tt) h (slice w_at w, tt)

-- `view::point_opened(w, position)` answers r
pub record PointOpened (w : Bor (List ℤ)) (position : ℕ) (r : Result Asset ℕ) : Type 0 where
  pub κs : Lfts 1
  pub promised : point_opened.Post κs (w, (position, tt)) r (w, (position, tt))
