-- One input, one answer: from each promise alone. What two answers of `open` share is all that a view shows: the number, the words covered and where they
-- stand, the counts. And what the readers make of a view is settled by the words that it covers: its own counts say nothing.
-- Assumes nothing.
use Rattle.std.specs.Prelude.{Result}
use mathlib.Core.Bool.{Bool}
use mathlib.Core.Path.{◌≡◌, refl, sym, ap, ◌∙◌}
use mathlib.Core.List.{List, []}
use Prim.Native.Nat.{ℕ}
use lib.IntN.{ℤ}
use lib.ListN.{length}
use denote.Ref.{Bor}
use Rattle.words.proofs.FirstLaws.{answer_given, answer_refused, answer_number}
use Rattle.sheet.specs.Layout.{points, nodes}
use Rattle.sheet.specs.Open.{sheet_no}
use Rattle.list.specs.declared.Key.{Key}
use Rattle.list.specs.declared.Pair.{Pair}
use Rattle.list.specs.declared.Request.{Request}
use Rattle.ring.specs.Answers.{pointed, filtered, filtered_bits, walked}
use Rattle.ring.specs.Page.{page_answer, page_bits}
use Rattle.ring.specs.Own.{own_answer, own_bits}
use Rattle.ring.specs.Partners.{partners_answer, partners_bits}
use Rattle.ring.specs.declared.Paged.{Paged}
use Rattle.ring.specs.declared.Partnered.{Partnered}
use Rattle.ring.specs.declared.Filtered.{Filtered}
use Rattle.runs.specs.declared.Run.{Run}
use Rattle.runs.specs.Run.{run_answer, run_slots, run_bits}
use Rattle.shortest.specs.declared.Shortlist.{Shortlist}
use Rattle.shortest.specs.Answer.{short_answer, short_bits}
use Rattle.nearest.specs.declared.Found.{Found}
use Rattle.nearest.specs.Nearest.{nearest_no, nearest_answer, near_filter_no, near_filtered, near_filtered_bits, waited_by}
use Rattle.view.specs.declared.Sheet.{Sheet}
use Rattle.view.specs.declared.Opened.{Opened}
use Rattle.view.specs.Shown.{Shown, shown, open_of}
use Rattle.ring.specs.declared.Asset.{Asset}
use Rattle.walk.specs.declared.Answer.{Answer}

pub open_through_once : (s : Bor (List ℤ)) (r r' : Opened) → shown r ≡ open_of s → shown r' ≡ open_of s → shown r ≡ shown r'
open_through_once s r r' e f = e ∙ sym f

-- its number is the sheet's
pub view_open_no : (s : Bor (List ℤ)) (r : Opened) → shown r ≡ open_of s → r.number ≡ sheet_no s.now
unfolding open_of
view_open_no s r e = ap (λ (x : Shown). x.number) e ∙ answer_number _ _ (λ (x : Shown). x.number) refl (λ k. refl) (sheet_no s.now)

-- opened: the caller's own words, all of them, from where they stand
pub open_shows : (s : Bor (List ℤ)) (r : Opened) → shown r ≡ open_of s → sheet_no s.now ≡ 0 → shown r ≡ record { number = 0; start = s.ref_ptr; covers = s.now; n = points s.now; m = nodes s.now }
unfolding open_of
open_shows s r e z = e ∙ answer_given _ _ _ z

-- refused: no words, and zeros
pub open_refused : (s : Bor (List ℤ)) (r : Opened) → shown r ≡ open_of s → (sheet_no s.now ≡ 0 → ⊥) → shown r ≡ record { number = sheet_no s.now; start = s.ref_ptr; covers = []; n = 0; m = 0 }
unfolding open_of
open_refused s r e ne = e ∙ answer_refused _ _ _ _ refl ne

-- the readers: two views of the same words, whatever they claim, get one answer, and leave the same in what is lent
pub point_through_once : (d d' : Sheet) (i : ℕ) (r r' : Result Asset ℕ) → d.words.now ≡ d'.words.now
    → r ≡ pointed d.words.now i → r' ≡ pointed d'.words.now i → r ≡ r'
point_through_once d d' i r r' v e f = e ∙ (λ x. pointed (v x) i) ∙ sym f

pub ring_through_once : (p p' q q' : Sheet) (j i : ℕ) (g : Bool) (r r' : Result Answer ℕ) → p.words.now ≡ p'.words.now → q.words.now ≡ q'.words.now
    → r ≡ walked p.words.now q.words.now j i g → r' ≡ walked p'.words.now q'.words.now j i g → r ≡ r'
ring_through_once p p' q q' j i g r r' v w e f = e ∙ (λ x. walked (v x) (w x) j i g) ∙ sym f

pub filter_through_once : (p p' q q' : Sheet) (j : ℕ) (ws : List ℕ) (r r' : Filtered) (t t' : List ℕ) → p.words.now ≡ p'.words.now → q.words.now ≡ q'.words.now
    → (r ≡ filtered p.words.now q.words.now j (length ws)) × (t ≡ filtered_bits p.words.now q.words.now j ws)
    → (r' ≡ filtered p'.words.now q'.words.now j (length ws)) × (t' ≡ filtered_bits p'.words.now q'.words.now j ws)
    → (r ≡ r') × (t ≡ t')
filter_through_once p p' q q' j ws r r' t t' v w e f =
    (e.0 ∙ (λ i. filtered (v i) (w i) j (length ws)) ∙ sym f.0, e.1 ∙ (λ i. filtered_bits (v i) (w i) j ws) ∙ sym f.1)

pub page_through_once : (p p' q q' : Sheet) (o : List ℕ) (ask : Request) (ws : List ℕ) (r r' : Paged) (t t' : List ℕ) → p.words.now ≡ p'.words.now → q.words.now ≡ q'.words.now
    → (r ≡ page_answer p.words.now q.words.now o ask (length ws)) × (t ≡ page_bits p.words.now q.words.now o ask ws)
    → (r' ≡ page_answer p'.words.now q'.words.now o ask (length ws)) × (t' ≡ page_bits p'.words.now q'.words.now o ask ws)
    → (r ≡ r') × (t ≡ t')
page_through_once p p' q q' o ask ws r r' t t' v w e f =
    (e.0 ∙ (λ i. page_answer (v i) (w i) o ask (length ws)) ∙ sym f.0, e.1 ∙ (λ i. page_bits (v i) (w i) o ask ws) ∙ sym f.1)

pub own_through_once : (d d' : Sheet) (key : Key) (size : ℕ) (g : Bool) (ws : List ℕ) (r r' : Paged) (t t' : List ℕ) → d.words.now ≡ d'.words.now
    → (r ≡ own_answer d.words.now key size g (length ws)) × (t ≡ own_bits d.words.now key size g ws)
    → (r' ≡ own_answer d'.words.now key size g (length ws)) × (t' ≡ own_bits d'.words.now key size g ws)
    → (r ≡ r') × (t ≡ t')
own_through_once d d' key size g ws r r' t t' v e f =
    (e.0 ∙ (λ i. own_answer (v i) key size g (length ws)) ∙ sym f.0, e.1 ∙ (λ i. own_bits (v i) key size g ws) ∙ sym f.1)

pub partners_through_once : (p p' q q' : Sheet) (id t : ℕ) (ws : List ℕ) (r r' : Partnered) (s s' : List ℕ) → p.words.now ≡ p'.words.now → q.words.now ≡ q'.words.now
    → (r ≡ partners_answer p.words.now q.words.now id t (length ws)) × (s ≡ partners_bits p.words.now q.words.now id t ws)
    → (r' ≡ partners_answer p'.words.now q'.words.now id t (length ws)) × (s' ≡ partners_bits p'.words.now q'.words.now id t ws)
    → (r ≡ r') × (s ≡ s')
partners_through_once p p' q q' id t ws r r' s s' v w e f =
    (e.0 ∙ (λ i. partners_answer (v i) (w i) id t (length ws)) ∙ sym f.0, e.1 ∙ (λ i. partners_bits (v i) (w i) id t ws) ∙ sym f.1)

pub run_through_once : (p p' q q' : Sheet) (leaf : ℕ) (slots : List Pair) (ws : List ℕ) (r r' : Run) (s s' : List Pair) (t t' : List ℕ) → p.words.now ≡ p'.words.now → q.words.now ≡ q'.words.now
    → (r ≡ run_answer p.words.now q.words.now leaf (length slots) (length ws)) × (s ≡ run_slots p.words.now q.words.now leaf slots (length ws)) × (t ≡ run_bits p.words.now q.words.now leaf (length slots) ws)
    → (r' ≡ run_answer p'.words.now q'.words.now leaf (length slots) (length ws)) × (s' ≡ run_slots p'.words.now q'.words.now leaf slots (length ws)) × (t' ≡ run_bits p'.words.now q'.words.now leaf (length slots) ws)
    → (r ≡ r') × (s ≡ s') × (t ≡ t')
run_through_once p p' q q' leaf slots ws r r' s s' t t' v w e f =
    (e.0 ∙ (λ i. run_answer (v i) (w i) leaf (length slots) (length ws)) ∙ sym f.0, e.1 ∙ (λ i. run_slots (v i) (w i) leaf slots (length ws)) ∙ sym f.1, e.2 ∙ (λ i. run_bits (v i) (w i) leaf (length slots) ws) ∙ sym f.2)

pub shortest_through_once : (p p' q q' : Sheet) (k : ℕ) (ws : List ℕ) (r r' : Shortlist) (t t' : List ℕ) → p.words.now ≡ p'.words.now → q.words.now ≡ q'.words.now
    → (r ≡ short_answer p.words.now q.words.now k (length ws)) × (t ≡ short_bits p.words.now q.words.now k ws)
    → (r' ≡ short_answer p'.words.now q'.words.now k (length ws)) × (t' ≡ short_bits p'.words.now q'.words.now k ws)
    → (r ≡ r') × (t ≡ t')
shortest_through_once p p' q q' k ws r r' t t' v w e f =
    (e.0 ∙ (λ i. short_answer (v i) (w i) k (length ws)) ∙ sym f.0, e.1 ∙ (λ i. short_bits (v i) (w i) k ws) ∙ sym f.1)

pub nearest_through_once : (p p' q q' : Sheet) (id size : ℕ) (ws : List ℕ) (r r' : Found) (t t' : List ℕ) → p.words.now ≡ p'.words.now → q.words.now ≡ q'.words.now
    → (r ≡ nearest_answer p.words.now q.words.now id size (length ws)) × (t ≡ waited_by (nearest_no p.words.now q.words.now id size (length ws)) p.words.now ws)
    → (r' ≡ nearest_answer p'.words.now q'.words.now id size (length ws)) × (t' ≡ waited_by (nearest_no p'.words.now q'.words.now id size (length ws)) p'.words.now ws)
    → (r ≡ r') × (t ≡ t')
nearest_through_once p p' q q' id size ws r r' t t' v w e f =
    (e.0 ∙ (λ i. nearest_answer (v i) (w i) id size (length ws)) ∙ sym f.0, e.1 ∙ (λ i. waited_by (nearest_no (v i) (w i) id size (length ws)) (v i) ws) ∙ sym f.1)

pub near_filter_through_once : (p p' q q' : Sheet) (id : ℕ) (waiting ws : List ℕ) (r r' : Filtered) (s s' t t' : List ℕ) → p.words.now ≡ p'.words.now → q.words.now ≡ q'.words.now
    → (r ≡ near_filtered p.words.now q.words.now id (length ws) (length waiting)) × (s ≡ waited_by (near_filter_no p.words.now q.words.now id (length ws) (length waiting)) p.words.now waiting) × (t ≡ near_filtered_bits p.words.now q.words.now id (length waiting) ws)
    → (r' ≡ near_filtered p'.words.now q'.words.now id (length ws) (length waiting)) × (s' ≡ waited_by (near_filter_no p'.words.now q'.words.now id (length ws) (length waiting)) p'.words.now waiting) × (t' ≡ near_filtered_bits p'.words.now q'.words.now id (length waiting) ws)
    → (r ≡ r') × (s ≡ s') × (t ≡ t')
near_filter_through_once p p' q q' id waiting ws r r' s s' t t' v w e f =
    (e.0 ∙ (λ i. near_filtered (v i) (w i) id (length ws) (length waiting)) ∙ sym f.0, e.1 ∙ (λ i. waited_by (near_filter_no (v i) (w i) id (length ws) (length waiting)) (v i) waiting) ∙ sym f.1, e.2 ∙ (λ i. near_filtered_bits (v i) (w i) id (length waiting) ws) ∙ sym f.2)

-- the point reader through the view that `open` gives. `open_head` has the promise of ring's `head_of`, which ring's own law settles
pub point_opened_through_once : (s : Bor (List ℤ)) (i : ℕ) (r r' : Result Asset ℕ) → r ≡ pointed (open_of s).covers i → r' ≡ pointed (open_of s).covers i → r ≡ r'
point_opened_through_once s i r r' e f = e ∙ sym f
