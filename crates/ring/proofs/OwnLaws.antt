-- The page request of a self join: its answers by number, and what the promise says of a page.
--
--     ring_own_no           the number is the first that applies; own_refused: refused, all else is zero
--     own_served       with a sheet that opens, a key and a size in range, the answer is 0, the page of the list and the count of the walks
--     ring_own_once         one request, one answer
--     own_list         following the answers from (0, 0), whatever their sizes from 1 to 16, gives the list
-- Assumes nothing.
use mathlib.Core.Path.{◌≡◌, refl, sym, ap, ◌∙◌}
use mathlib.Core.Bool.{Bool}
use mathlib.Core.List.{List, [], ◌∷◌, ◌++◌}
use Prim.Native.Nat.{ℕ, zero, suc, ◌≤◌, ◌<◌}
use native.Mathlib.Omega.{arith}
use lib.IntN.{ℤ}
use lib.ListN.{length, take, drop}
use borrow.Author.Tests.{le-leb}
use Rattle.words.specs.First.{given, first}
use Rattle.words.proofs.FirstLaws.{first_passes, first_stops, first_last, first_front, answer_given, answer_refused, answer_number}
use Rattle.words.specs.Range.{last_id}
use Rattle.bits.specs.Set.{none, words_for, wiped}
use Rattle.bits.proofs.LentLaws.{part_wiped}
use Rattle.sheet.specs.Places.{points_of}
use Rattle.sheet.specs.Open.{sheet_no}
use Rattle.sheet.proofs.SheetLaws.{sheet_facts}
use Rattle.list.specs.declared.Key.{Key}
use Rattle.list.specs.Pairs.{start}
use Rattle.list.specs.Pages.{threshold_no, size_no, followed}
use Rattle.list.specs.Terms.{alone_by, list_for}
use Rattle.list.proofs.PageLaws.{size_taken}
use Rattle.join.specs.Sheets.{Alone}
use Rattle.ring.specs.declared.Head.{Head}
use Rattle.ring.specs.declared.Paged.{Paged}
use Rattle.ring.specs.Answers.{head_of}
use Rattle.ring.specs.Page.{key_no, asked_no, page_given, page_refused}
use Rattle.ring.specs.Numbers.{grid_no}
use Rattle.ring.specs.Lent.{need, bits_no}
use Rattle.ring.specs.Own.{own_no, own_answer, own_bits}
use Rattle.ring.proofs.LentLaws.{bits_short, bits_enough, wiped_refused, wiped_given}
use Rattle.ring.proofs.HeadLaws.{headed, head_number}
use Rattle.ring.proofs.PageLaws.{followed_list}

-- a self join is asked of with no t: 29, then 9, then 10
asked_own : (S : List ℤ) (g : Bool) (key : Key) (size : ℕ) → asked_no S S g key size 0 ≡ first (grid_no g S S ∷ key_no key ∷ size_no size ∷ [])
unfolding asked_no
asked_own S g key size = first_front (grid_no g S S ∷ key_no key ∷ size_no size ∷ []) (threshold_no 0 ∷ []) ∙ go (first (grid_no g S S ∷ key_no key ∷ size_no size ∷ []))
  where
    go : (k : ℕ) → first (k ∷ threshold_no 0 ∷ []) ≡ k
    go zero = unfold first threshold_no given in refl
    go (suc k) = unfold first in refl

module _ (S : List ℤ) (key : Key) (size : ℕ) (g : Bool) (len : ℕ) where
  -- refused: its number, and zeros
  pub own_refused : (k : ℕ) → own_no S key size g len ≡ k → (k ≡ 0 → ⊥) → own_answer S key size g len ≡ page_refused k
  unfolding own_answer
  own_refused k e ne = answer_refused _ page_refused _ k e ne

  pub own_answered : own_no S key size g len ≡ 0 → own_answer S key size g len ≡ page_given (alone_by g) [] S S key size
  unfolding own_answer
  own_answered e = answer_given _ page_refused _ e

  -- one request, one answer
  pub ring_own_once : (r r' : Paged) → r ≡ own_answer S key size g len → r' ≡ own_answer S key size g len → r ≡ r'
  ring_own_once r r' e f = e ∙ sym f

  -- No other request is refused: a sheet that opens, each id of the key at most 2,000,000,000, a size from 1 to 16 and as many words as the points need are served.
  pub own_served : sheet_no S ≡ 0 → grid_no g S S ≡ 0 → key.q ≤ last_id → key.p ≤ last_id → 1 ≤ size → size ≤ 16 → need S ≤ len → own_answer S key size g len ≡ page_given (alone_by g) [] S S key size
  unfolding own_no key_no first given
  own_served opens forms a b c d f = own_answered (rw (opens, forms, le-leb key.q last_id a, le-leb key.p last_id b, size_taken size c d, bits_enough (need S) len f))

  -- the number is the first that applies
  pub ring_own_no : (own_answer S key size g len).number ≡ own_no S key size g len
  unfolding own_answer page_given page_refused
  ring_own_no = answer_number (page_given (alone_by g) [] S S key size) page_refused (λ r. r.number) refl (λ k. refl) (own_no S key size g len)

-- what a request answers and leaves in the words lent
abbrev pub OwnDone : List ℤ → Key → ℕ → Bool → List ℕ → Paged → List ℕ → Type 0
OwnDone S key size g ws r ws₁ = (r ≡ own_answer S key size g (length ws)) × (ws₁ ≡ own_bits S key size g ws)

module _ (S : List ℤ) (key : Key) (size : ℕ) (g : Bool) (ws : List ℕ) (h : Head) (e : h ≡ head_of S) (r : Paged) where
  stops : (k : ℕ) → own_no S key size g (length ws) ≡ k → (k ≡ 0 → ⊥) → r ≡ page_refused k → OwnDone S key size g ws r ws
  unfolding own_bits
  stops k x ne f = (f ∙ sym (own_refused S key size g (length ws) k x ne), wiped_refused ws _ _ k x ne)

  pub own_shut : (h.number ≡ 0 → ⊥) → r ≡ page_refused h.number → OwnDone S key size g ws r ws
  unfolding own_no
  own_shut ne f =
      let n = head_number S h e in
      stops h.number (first_stops (sheet_no S) _ (λ z. ne (n ∙ z)) ∙ sym n) ne f

  module _ (z : h.number ≡ 0) (a : ℕ) (d : a ≡ asked_no S S g key size 0) where
    after : own_no S key size g (length ws) ≡ first (a ∷ bits_no (need S) (length ws) ∷ [])
    unfolding own_no
    after =
        first_passes (sheet_no S) _ (headed S h e z).opens
        ∙ first_front (grid_no g S S ∷ key_no key ∷ size_no size ∷ []) (bits_no (need S) (length ws) ∷ [])
        ∙ ap (λ (n : ℕ). first (n ∷ bits_no (need S) (length ws) ∷ [])) (sym (d ∙ asked_own S g key size))

    pub own_asked : (a ≡ 0 → ⊥) → r ≡ page_refused a → OwnDone S key size g ws r ws
    own_asked ne f = stops a (after ∙ first_stops a _ ne) ne f

    module _ (y : a ≡ 0) (w : ℕ) (as_many : w ≡ words_for h.n) where
      needed : w ≡ need S
      needed = as_many ∙ ap words_for (headed S h e z).n_is

      last : own_no S key size g (length ws) ≡ bits_no (need S) (length ws)
      last = after ∙ first_passes a _ y ∙ first_last _

      pub own_short : length ws < w → r ≡ page_refused 24 → OwnDone S key size g ws r ws
      own_short short f = stops 24 (last ∙ bits_short (need S) (length ws) (omega (arith, needed))) (λ x. omega arith) f

      pub own_made : w ≤ length ws → r ≡ page_given (alone_by g) [] S S key size → (b : List ℕ) → b ≡ none (length (take w ws)) → OwnDone S key size g ws r (b ++ drop w ws)
      unfolding own_bits
      own_made fits f b k =
          let no : own_no S key size g (length ws) ≡ 0 = last ∙ bits_enough (need S) (length ws) (omega (arith, needed)) in
          (f ∙ sym (own_answered S key size g (length ws) no), part_wiped ws b w fits k ∙ ap (λ (n : ℕ). wiped n ws) needed ∙ wiped_given ws (need S) _ no)

-- the one sheet in both places
pub of_one : (g : Bool) (S : List ℤ) → Alone (alone_by g) S S
of_one g S = record { one = λ e. refl; no_t = λ e. refl }

-- Following the answers from (0, 0), whatever their sizes from 1 to 16, gives the self join's list, each pair once: no request on the way is refused.
pub own_list : (g : Bool) (S : List ℤ) → sheet_no S ≡ 0 → grid_no g S S ≡ 0 → (len : ℕ) → need S ≤ len → (sizes : ℕ → ℕ) → ((i : ℕ) → size_no (sizes i) ≡ 0)
    → followed (length (list_for (alone_by g) [] (points_of S) (points_of S))) sizes (λ k n. (own_answer S k n g len).page) start ≡ list_for (alone_by g) [] (points_of S) (points_of S)
own_list g S opens forms len enough sizes s =
    let o = sheet_facts S opens in
    followed_list (alone_by g) [] S S o o (λ k n. own_answer S k n g len) (λ k n x y c d. own_served S k n g len opens forms x y c d enough) sizes s
