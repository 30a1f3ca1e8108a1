-- What a page that is taken has passed, and what a taken page and a refused one do: of every state, slice and page.
-- Assumes nothing.
use mathlib.Core.Path.{◌≡◌, refl, sym, ap, ◌∙◌}
use mathlib.Core.Bool.{true, false, not, ◌&&◌, ◌||◌, true≢false}
use mathlib.Core.Logic.{◌⊎◌, inl, inr, ⊎_elim}
use mathlib.Core.List.{List}
use Prim.Native.Nat.{ℕ, zero, suc, ◌+◌, ◌-◌, ◌≤◌}
use native.Mathlib.Omega.{arith}
use lib.ListN.{length, drop}
use lib.Seq.{paste, paste-zero, drop-paste, length-paste}
use lib.Dec.{eqb, ltb}
use borrow.Author.Tests.{ltb-false, eqb-true, le-ltb, eq-eqb, ne_eqb, not-false}
use Rattle.integers.proofs.Bools.{and_left, and_right, and_both, or_false_left, or_false_right}
use Rattle.words.specs.First.{given, first}
use Rattle.words.proofs.FirstLaws.{none_applies, given_failed, given_held, answer_given, answer_refused, answer_number}
use Rattle.list.specs.declared.Key.{Key}
use Rattle.list.specs.declared.Pair.{Pair}
use Rattle.list.specs.declared.Page.{Page}
use Rattle.list.specs.Pairs.{ascends}
use Rattle.list.specs.Pages.{same_kind, same_profile, source_no, page_pairs}
use Rattle.list.proofs.SourceLaws.{same_source}
use Rattle.book.specs.declared.Book.{Book}
use Rattle.book.specs.declared.Decided.{Decided}
use Rattle.book.specs.Rules.{last_key, pairs_ok, same_key, page_most, page_bad, take_no_at, take_no, advanced, accepted, refused, decided, taken, taken_slots}

-- ---- keys

pub same_key_lem : (a b : Key) → same_key a b ≡ true → a ≡ b
unfolding same_key
same_key_lem a b e =
    let x = eqb-true a.q b.q (and_left (eqb a.q b.q) (eqb a.p b.p) e) in
    let y = eqb-true a.p b.p (and_right (eqb a.q b.q) (eqb a.p b.p) e) in
    λ i. record { q = x i; p = y i }

pub key_same : (a b : Key) → a ≡ b → same_key a b ≡ true
unfolding same_key
key_same a b e = and_both (eqb a.q b.q) (eqb a.p b.p) (eq-eqb a.q b.q (ap (λ (v : Key). v.q) e)) (eq-eqb a.p b.p (ap (λ (v : Key). v.p) e))

-- ---- what a page that is taken has passed

pub record Passed (b : Book) (len : ℕ) (k : Key) (g : Page) : Type 0 where
  pub room : b.held ≤ len
  pub still_open : b.closed ≡ false
  pub one_source : b.source ≡ g.source
  pub asked_next : g.key ≡ k
  pub few : g.count ≤ page_most
  pub rising : ascends g.key (page_pairs g) ≡ true
  pub in_range : pairs_ok g.source.terms.grid (page_pairs g) ≡ true
  pub fits : b.held + g.count ≤ len

pub passed_at : (b : Book) (len : ℕ) (k : Key) (g : Page) → take_no_at b len k g ≡ 0 → Passed b len k g
unfolding take_no_at page_bad
passed_at b len k g e =
    let z = (none_applies _).0 e in
    let x1 = ltb page_most g.count in
    let x2 = not (pairs_ok g.source.terms.grid (page_pairs g)) in
    let x3 = not (ascends g.key (page_pairs g)) in
    let x4 = eqb g.count 0 && not g.end in
    let good = given_failed _ (z 4) in
    let h = ltb-false len b.held (given_failed _ (z 0)) in
    record {
      room = h;
      still_open = given_failed _ (z 1);
      one_source = same_source b.source g.source (z 2);
      asked_next = same_key_lem g.key k (given_held _ (z 3));
      few = ltb-false page_most g.count (or_false_left x1 x2 (or_false_left (x1 || x2) x3 (or_false_left (x1 || x2 || x3) x4 good)));
      rising = not-false (ascends g.key (page_pairs g)) (or_false_right (x1 || x2) x3 (or_false_left (x1 || x2 || x3) x4 good));
      in_range = not-false (pairs_ok g.source.terms.grid (page_pairs g)) (or_false_right x1 x2 (or_false_left (x1 || x2) x3 (or_false_left (x1 || x2 || x3) x4 good)));
      fits = omega (arith, ltb-false (len - b.held) g.count (given_failed _ (z 5)), h);
    }

-- a page that passes every test is not refused
pub no_refusal_at : (b : Book) (len : ℕ) (k : Key) (g : Page) → b.held ≤ len → b.closed ≡ false → source_no b.source g.source ≡ 0 → g.key ≡ k → page_bad g ≡ false → g.count ≤ len - b.held → take_no_at b len k g ≡ 0
unfolding take_no_at first given
no_refusal_at b len k g h1 h2 h3 h4 h5 h6 = rw (le-ltb len b.held h1, h2, h3, key_same g.key k h4, h5, le-ltb (len - b.held) g.count h6)

pub or_zero : (n : ℕ) → (n ≡ 0) ⊎ (n ≡ 0 → ⊥)
or_zero zero = inl refl
or_zero (suc n) = inr (λ e. omega arith)

-- ---- of a slice

module _ (b : Book) (s : List Pair) (g : Page) where
  pub book_take_no : (taken b s g).number ≡ take_no b s g
  unfolding taken decided accepted refused
  book_take_no = answer_number (accepted b g) (refused b) (λ d. d.taken.number) refl (λ k. refl) (take_no b s g)

  pub decided_yes : take_no b s g ≡ 0 → decided b s g ≡ accepted b g
  unfolding decided
  decided_yes e = answer_given (accepted b g) (refused b) (take_no b s g) e

  pub decided_no : (take_no b s g ≡ 0 → ⊥) → decided b s g ≡ refused b (take_no b s g)
  unfolding decided
  decided_no ne = answer_refused (accepted b g) (refused b) (take_no b s g) (take_no b s g) refl ne

  pub book_passed : take_no b s g ≡ 0 → Passed b (length s) (last_key b.held s) g
  unfolding take_no
  book_passed e = passed_at b (length s) (last_key b.held s) g e

  pub no_refusal : b.held ≤ length s → b.closed ≡ false → source_no b.source g.source ≡ 0 → g.key ≡ last_key b.held s → page_bad g ≡ false → g.count ≤ length s - b.held → take_no b s g ≡ 0
  unfolding take_no
  no_refusal h1 h2 h3 h4 h5 h6 = no_refusal_at b (length s) (last_key b.held s) g h1 h2 h3 h4 h5 h6

  -- a page is taken: the book goes on, and its pairs stand from the held ones on
  pub taken_book : take_no b s g ≡ 0 → (taken b s g).book ≡ advanced b g
  unfolding taken accepted
  taken_book e = ap (λ (d : Decided). d.taken.book) (decided_yes e)

  pub taken_slots_lem : take_no b s g ≡ 0 → taken_slots b s g ≡ paste s b.held g.pairs g.count
  unfolding taken_slots accepted
  taken_slots_lem e = ap (λ (d : Decided). paste s b.held g.pairs d.n) (decided_yes e)

  -- a refusal leaves the book and the slots as they stood
  pub refused_book : (take_no b s g ≡ 0 → ⊥) → (taken b s g).book ≡ b
  unfolding taken refused
  refused_book e = ap (λ (d : Decided). d.taken.book) (decided_no e)

  pub refused_slots : (take_no b s g ≡ 0 → ⊥) → taken_slots b s g ≡ s
  unfolding taken_slots refused
  refused_slots e =
      ap (λ (d : Decided). paste s b.held g.pairs d.n) (decided_no e) ∙ sym (paste-zero s b.held g.pairs)

  -- a closed book takes nothing
  pub closed_no : b.closed ≡ true → take_no b s g ≡ 0 → ⊥
  closed_no e z = true≢false (sym e ∙ (book_passed z).still_open)

  -- an open book whose slots can hold it refuses a page of another kind by 22
  pub kind_no : b.held ≤ length s → b.closed ≡ false → same_kind b.source g.source ≡ false → take_no b s g ≡ 22
  unfolding take_no take_no_at source_no first given
  kind_no room still other = rw (le-ltb (length s) b.held room, still, other)

  -- one of its kind and another contractor by 28
  pub contractor_no : b.held ≤ length s → b.closed ≡ false → same_kind b.source g.source ≡ true → (b.source.terms.contractor ≡ g.source.terms.contractor → ⊥) → take_no b s g ≡ 28
  unfolding take_no take_no_at source_no first given
  contractor_no room still kind other = rw (le-ltb (length s) b.held room, still, kind, ne_eqb b.source.terms.contractor g.source.terms.contractor other)

  -- and one of these and the other profile by 30
  pub profile_no : b.held ≤ length s → b.closed ≡ false → same_kind b.source g.source ≡ true → b.source.terms.contractor ≡ g.source.terms.contractor → same_profile b.source g.source ≡ false → take_no b s g ≡ 30
  unfolding take_no take_no_at source_no first given
  profile_no room still kind whose other = rw (le-ltb (length s) b.held room, still, kind, eq-eqb b.source.terms.contractor g.source.terms.contractor whose, other)

  module _ (long : length g.pairs ≡ 16) where
    -- slots past those held after the call are never touched
    pub past_untouched : drop (taken b s g).book.held (taken_slots b s g) ≡ drop (taken b s g).book.held s
    past_untouched =
        ⊎_elim
        (λ (e : take_no b s g ≡ 0).
        let k = book_passed e in
        let z : (taken b s g).book.held ≡ b.held + g.count = ap (λ (x : Book). x.held) (taken_book e) ∙ (unfold advanced in refl) in
        rw (z, taken_slots_lem e) (drop-paste s b.held g.pairs g.count k.room (omega (arith, k.few))))
        (λ (e : take_no b s g ≡ 0 → ⊥). rw (refused_slots e))
        (or_zero (take_no b s g))

    pub same_length : length (taken_slots b s g) ≡ length s
    same_length =
        ⊎_elim
        (λ (e : take_no b s g ≡ 0).
        let k = book_passed e in
        rw (taken_slots_lem e) (length-paste s b.held g.pairs g.count k.fits (omega (arith, k.few))))
        (λ (e : take_no b s g ≡ 0 → ⊥). rw (refused_slots e))
        (or_zero (take_no b s g))

-- the source of a book never changes
pub same_book_source : (b : Book) (s : List Pair) (g : Page) → (taken b s g).book.source ≡ b.source
same_book_source b s g =
    ⊎_elim
    (λ (e : take_no b s g ≡ 0). ap (λ (x : Book). x.source) (taken_book b s g e) ∙ (unfold advanced in refl))
    (λ (e : take_no b s g ≡ 0 → ⊥). ap (λ (x : Book). x.source) (refused_book b s g e))
    (or_zero (take_no b s g))
