-- What the calls over C promise, under one name for each, as specs/Promises has it for the others. Of an answer that is an enum, ffi/specs/Over makes the struct of numbers
-- that crosses; of a check it makes one with the sheet's edition and form.
use Rattle.std.specs.Prelude.{Bool, ◌≡◌, List, ℕ, ℤ}
use contract.Lifetimes.{Lfts}
use Rattle.list.specs.declared.Key.{Key}
use Rattle.list.specs.declared.Pair.{Pair}
use Rattle.list.specs.declared.Request.{Request}
use Rattle.list.specs.declared.Source.{Source}
use Rattle.ring.specs.declared.Filtered.{Filtered}
use Rattle.ring.specs.declared.Paged.{Paged}
use Rattle.shortest.specs.declared.Shortlist.{Shortlist}
use Rattle.ring.specs.declared.Partnered.{Partnered}
use Rattle.ring.specs.declared.Placed.{Placed}
use Rattle.nearest.specs.declared.Found.{Found}
use Rattle.many.specs.declared.Which.{Which}
use Rattle.many.specs.declared.Counted.{Counted}
use Rattle.ranked.specs.declared.Question.{Question}
use Rattle.ranked.specs.declared.Busy.{Busy}
use Rattle.ranked.specs.declared.Urgent.{Urgent}
use Rattle.book.specs.declared.Book.{Book}
use Rattle.book.specs.Rules.{asked}
use Rattle.depot.specs.declared.Form.{Form}
use Rattle.depot.specs.declared.Depot.{Depot}
use Rattle.depot.specs.Depot.{stored, stored_slots}
use Rattle.ffi.specs.declared.HeadAnswer.{HeadAnswer}
use Rattle.ffi.specs.declared.PointAnswer.{PointAnswer}
use Rattle.ffi.specs.declared.WalkAnswer.{WalkAnswer}
use Rattle.ffi.specs.declared.BookAnswer.{BookAnswer}
use Rattle.ffi.specs.declared.KeyAnswer.{KeyAnswer}
use Rattle.ffi.specs.declared.StoreAnswer.{StoreAnswer}
use Rattle.ffi.specs.declared.MarkAnswer.{MarkAnswer}
use Rattle.ffi.specs.Over.{key_over, store_over}
use Rattle.ffi.proofs.ring_open.Reads as open-c
use Rattle.ffi.proofs.ring_pack.Reads as pack-c
use Rattle.ffi.proofs.ring_sheet_len.Reads as sheet-len-c
use Rattle.ffi.proofs.ring_position.Reads as position-c
use Rattle.ffi.proofs.ring_point.Reads as point-c
use Rattle.ffi.proofs.ring_filter_walk.Reads as filter-c
use Rattle.ffi.proofs.ring_pair_walk.Reads as walk-c
use Rattle.ffi.proofs.ring_page.Reads as page-c
use Rattle.ffi.proofs.ring_own_page.Reads as own-c
use Rattle.ffi.proofs.ring_shortest.Reads as shortest-c
use Rattle.ffi.proofs.ring_partners.Reads as partners-c
use Rattle.ffi.proofs.ring_nearest.Reads as nearest-c
use Rattle.ffi.proofs.ring_near_filter.Reads as near-filter-c
use Rattle.ffi.proofs.ring_count.Reads as count-c
use Rattle.ffi.proofs.ring_own_count.Reads as own-count-c
use Rattle.ffi.proofs.ring_busiest.Reads as busiest-c
use Rattle.ffi.proofs.ring_busiest_pumps.Reads as busiest-pumps-c
use Rattle.ffi.proofs.ring_urgent.Reads as urgent-c
use Rattle.ffi.proofs.ring_book_begin.Reads as begin-c
use Rattle.ffi.proofs.ring_depot_begin.Reads as depot-begin-c
use Rattle.ffi.proofs.ring_marker.Reads as mark-c
use Rattle.demands.specs.Promises.{Place, slice, mut_slice}

-- `ring_open(w)` answers h [C1, D8]
pub record OpenC (w : List ℤ) (h : HeadAnswer) : Type 0 where
  pub κs : Lfts 1
  pub w_at : Place
  pub promised : open-c.Post κs (slice w_at w, tt) h (slice w_at w, tt)

-- `ring_pack(form, n, points, order, edition, out)` answers r, and the words of `out` are `out'` at its exit [C1, D8]
pub record PackC (form n : ℕ) (points order : List ℤ) (edition : ℕ) (out : List ℤ) (r : ℕ) (out' : List ℤ) : Type 0 where
  pub κs : Lfts 3
  pub p_at : Place
  pub o_at : Place
  pub out_at : Place
  pub promised : pack-c.Post κs
      (form, (n, (slice p_at points, (slice o_at order, (edition, (mut_slice out_at out, tt))))))
      r
      (form, (n, (slice p_at points, (slice o_at order, (edition, (mut_slice out_at out', tt))))))

-- `ring_sheet_len(n)` answers r [C1, D8]
pub record LengthC (n r : ℕ) : Type 0 where
  pub promised : sheet-len-c.Post tt (n, tt) r (n, tt)

-- `ring_position(w, id)` answers r [C1, D8]
pub record PlaceC (w : List ℤ) (id : ℕ) (r : Placed) : Type 0 where
  pub κs : Lfts 1
  pub w_at : Place
  pub promised : position-c.Post κs (slice w_at w, (id, tt)) r (slice w_at w, (id, tt))

-- `ring_point(w, position)` answers r [C1, D8]
pub record PointC (w : List ℤ) (position : ℕ) (r : PointAnswer) : Type 0 where
  pub κs : Lfts 1
  pub w_at : Place
  pub promised : point-c.Post κs (slice w_at w, (position, tt)) r (slice w_at w, (position, tt))

-- `ring_filter_walk(P, Q, j, bits)` answers r, and the lent words are `bits'` at its exit [C1, D8]
pub record FilterC (P Q : List ℤ) (j : ℕ) (bits : List ℕ) (r : Filtered) (bits' : List ℕ) : Type 0 where
  pub κs : Lfts 3
  pub p_at : Place
  pub q_at : Place
  pub b_at : Place
  pub promised : filter-c.Post κs (slice p_at P, (slice q_at Q, (j, (mut_slice b_at bits, tt)))) r (slice p_at P, (slice q_at Q, (j, (mut_slice b_at bits', tt))))

-- `ring_pair_walk(P, Q, j, i, grid)` answers r [C1, D8]
pub record WalkC (P Q : List ℤ) (j i : ℕ) (g : Bool) (r : WalkAnswer) : Type 0 where
  pub κs : Lfts 2
  pub p_at : Place
  pub q_at : Place
  pub promised : walk-c.Post κs (slice p_at P, (slice q_at Q, (j, (i, (g, tt))))) r (slice p_at P, (slice q_at Q, (j, (i, (g, tt)))))

-- `ring_page(P, Q, o, ask, bits)` answers r, and the lent words are `bits'` at its exit [C1, D8]
pub record PageC (P Q : List ℤ) (o : List ℕ) (ask : Request) (bits : List ℕ) (r : Paged) (bits' : List ℕ) : Type 0 where
  pub κs : Lfts 4
  pub p_at : Place
  pub q_at : Place
  pub o_at : Place
  pub b_at : Place
  pub promised : page-c.Post κs
      (slice p_at P, (slice q_at Q, (slice o_at o, (ask, (mut_slice b_at bits, tt)))))
      r
      (slice p_at P, (slice q_at Q, (slice o_at o, (ask, (mut_slice b_at bits', tt)))))

-- `ring_own_page(S, key, size, grid, bits)` answers r, and the lent words are `bits'` at its exit [C1, D8]
pub record OwnC (S : List ℤ) (key : Key) (size : ℕ) (g : Bool) (bits : List ℕ) (r : Paged) (bits' : List ℕ) : Type 0 where
  pub κs : Lfts 2
  pub w_at : Place
  pub b_at : Place
  pub promised : own-c.Post κs (slice w_at S, (key, (size, (g, (mut_slice b_at bits, tt))))) r (slice w_at S, (key, (size, (g, (mut_slice b_at bits', tt)))))

-- `ring_partners(P, Q, id, t, bits)` answers r, and the lent words are `bits'` at its exit [C1, D8]
pub record PartnersC (P Q : List ℤ) (id t : ℕ) (bits : List ℕ) (r : Partnered) (bits' : List ℕ) : Type 0 where
  pub κs : Lfts 3
  pub p_at : Place
  pub q_at : Place
  pub b_at : Place
  pub promised : partners-c.Post κs
      (slice p_at P, (slice q_at Q, (id, (t, (mut_slice b_at bits, tt)))))
      r
      (slice p_at P, (slice q_at Q, (id, (t, (mut_slice b_at bits', tt)))))

-- `ring_shortest(P, Q, k, bits)` answers r, and the lent words are `bits'` at its exit [C1, D8]
pub record ShortC (P Q : List ℤ) (k : ℕ) (bits : List ℕ) (r : Shortlist) (bits' : List ℕ) : Type 0 where
  pub κs : Lfts 3
  pub p_at : Place
  pub q_at : Place
  pub b_at : Place
  pub promised : shortest-c.Post κs (slice p_at P, (slice q_at Q, (k, (mut_slice b_at bits, tt)))) r (slice p_at P, (slice q_at Q, (k, (mut_slice b_at bits', tt))))

-- `ring_nearest(P, Q, id, size, waiting)` answers r, and the lent numbers are `waiting'` at its exit [C1, D8]
pub record NearestC (P Q : List ℤ) (id size : ℕ) (waiting : List ℕ) (r : Found) (waiting' : List ℕ) : Type 0 where
  pub κs : Lfts 3
  pub p_at : Place
  pub q_at : Place
  pub w_at : Place
  pub promised : nearest-c.Post κs
      (slice p_at P, (slice q_at Q, (id, (size, (mut_slice w_at waiting, tt)))))
      r
      (slice p_at P, (slice q_at Q, (id, (size, (mut_slice w_at waiting', tt)))))

-- `ring_near_filter(P, Q, id, waiting, bits)` answers r, and at its exit the lent numbers are `waiting'`, the lent words `bits'` [C1, D8]
pub record NearFilterC (P Q : List ℤ) (id : ℕ) (waiting bits : List ℕ) (r : Filtered) (waiting' bits' : List ℕ) : Type 0 where
  pub κs : Lfts 4
  pub p_at : Place
  pub q_at : Place
  pub w_at : Place
  pub b_at : Place
  pub promised : near-filter-c.Post κs
      (slice p_at P, (slice q_at Q, (id, (mut_slice w_at waiting, (mut_slice b_at bits, tt)))))
      r
      (slice p_at P, (slice q_at Q, (id, (mut_slice w_at waiting', (mut_slice b_at bits', tt)))))

-- `ring_count(P, Q, o, which, bits)` answers r, and the lent words are `bits'` at its exit
pub record CountC (P Q : List ℤ) (o : List ℕ) (which : Which) (bits : List ℕ) (r : Counted) (bits' : List ℕ) : Type 0 where
  pub κs : Lfts 4
  pub p_at : Place
  pub q_at : Place
  pub o_at : Place
  pub b_at : Place
  pub promised : count-c.Post κs
      (slice p_at P, (slice q_at Q, (slice o_at o, (which, (mut_slice b_at bits, tt)))))
      r
      (slice p_at P, (slice q_at Q, (slice o_at o, (which, (mut_slice b_at bits', tt)))))

-- `ring_own_count(S, big, grid, bits)` answers r, and the lent words are `bits'` at its exit
pub record OwnCountC (S : List ℤ) (big : ℕ) (g : Bool) (bits : List ℕ) (r : Counted) (bits' : List ℕ) : Type 0 where
  pub κs : Lfts 2
  pub w_at : Place
  pub b_at : Place
  pub promised : own-count-c.Post κs (slice w_at S, (big, (g, (mut_slice b_at bits, tt)))) r (slice w_at S, (big, (g, (mut_slice b_at bits', tt))))

-- `ring_busiest(P, Q, o, ask, bits)` answers r, and the lent words are `bits'` at its exit
pub record BusyC (P Q : List ℤ) (o : List ℕ) (ask : Question) (bits : List ℕ) (r : Busy) (bits' : List ℕ) : Type 0 where
  pub κs : Lfts 4
  pub p_at : Place
  pub q_at : Place
  pub o_at : Place
  pub b_at : Place
  pub promised : busiest-c.Post κs
      (slice p_at P, (slice q_at Q, (slice o_at o, (ask, (mut_slice b_at bits, tt)))))
      r
      (slice p_at P, (slice q_at Q, (slice o_at o, (ask, (mut_slice b_at bits', tt)))))

-- `ring_busiest_pumps(P, Q, k, big, grid, bits)` answers r, and the lent words are `bits'` at its exit
pub record PumpC (P Q : List ℤ) (k big : ℕ) (g : Bool) (bits : List ℕ) (r : Busy) (bits' : List ℕ) : Type 0 where
  pub κs : Lfts 3
  pub p_at : Place
  pub q_at : Place
  pub b_at : Place
  pub promised : busiest-pumps-c.Post κs
      (slice p_at P, (slice q_at Q, (k, (big, (g, (mut_slice b_at bits, tt))))))
      r
      (slice p_at P, (slice q_at Q, (k, (big, (g, (mut_slice b_at bits', tt))))))

-- `ring_urgent(P, Q, o, ps, qs, ask, bits)` answers r, and the lent words are `bits'` at its exit
pub record UrgentC (P Q : List ℤ) (o ps qs : List ℕ) (ask : Question) (bits : List ℕ) (r : Urgent) (bits' : List ℕ) : Type 0 where
  pub κs : Lfts 6
  pub p_at : Place
  pub q_at : Place
  pub o_at : Place
  pub ps_at : Place
  pub qs_at : Place
  pub b_at : Place
  pub promised : urgent-c.Post κs
      (slice p_at P, (slice q_at Q, (slice o_at o, (slice ps_at ps, (slice qs_at qs, (ask, (mut_slice b_at bits, tt)))))))
      r
      (slice p_at P, (slice q_at Q, (slice o_at o, (slice ps_at ps, (slice qs_at qs, (ask, (mut_slice b_at bits', tt)))))))

-- `ring_book_begin(source)` answers r [C1, D8]
pub record BeginC (source : Source) (r : BookAnswer) : Type 0 where
  pub promised : begin-c.Post tt (source, tt) r (source, tt)

-- `ring_marker(ax, ay, bx, by)` answers r [C1, D8]
pub record MarkC (ax ay bx by : ℤ) (r : MarkAnswer) : Type 0 where
  pub promised : mark-c.Post tt (ax, (ay, (bx, (by, tt)))) r (ax, (ay, (bx, (by, tt))))

-- `ring_depot_begin()` answers d [C1, D8]
pub record DepotBeginC (d : Depot) : Type 0 where
  pub promised : depot-begin-c.Post tt tt d tt

-- `ring_depot_take(d, slots, form)` answers r, and the slots are `slots'` at its exit. `ring_forms` promises what `depot::forms` does: `FormsAnswers` of specs/Promises [C1, D8]
abbrev pub StoreC : Depot → List Form → Form → StoreAnswer → List Form → Type 0
StoreC d slots form r slots' = (r ≡ store_over (stored d slots form)) × (slots' ≡ stored_slots d slots form)

-- `ring_book_next_key(b, slots)` answers r. `ring_book_take` promises what `Book::take` does, `ring_leaf_run` what `runs::leaf_run` does, `ring_pairs` and `ring_own_pairs` what `many::pairs` and
-- `many::own_pairs` do: `TakeAnswers`, `RunAnswers`, `PairsAnswers` and `OwnPairsAnswers` of specs/Promises [C1, D8]
abbrev pub NextC : Book → List Pair → KeyAnswer → Type 0
NextC b slots r = r ≡ key_over (asked b slots)
