-- Demand 3: a book begun empty holds exactly the first so many pairs of its list, is closed only when it holds all, and a page that
-- answers its own next request adds a pair or closes it.
-- Assumes nothing.
use mathlib.Core.Path.{◌≡◌, refl, sym, ap, ap₂, subst, ◌∙◌}
use mathlib.Core.Bool.{Bool, true, false, cond, not, ◌&&◌, ◌||◌, true≢false, and-false}
use mathlib.Core.Logic.{◌⊎◌, inl, inr, ⊎_elim}
use mathlib.Core.List.{List, [], ◌∷◌, ◌++◌, Memᴰ}
use Prim.Native.Nat.{ℕ, zero, suc, ◌+◌, ◌-◌, ◌≤◌, ◌<◌}
use native.Mathlib.Omega.{arith}
use lib.ListN.{length, take, drop, length-take, length-drop, take-append-drop}
use lib.Seq.{paste, take-paste, take-add, take-length, length-paste}
use lib.Dec.{eqb, ltb}
use borrow.Author.Tests.{leb-true, ltb-true, ltb-false, le-ltb, ne_eqb, eqb-true, not-true, not-false}
use Rattle.std.specs.Prelude.{Ok, Err}
use Rattle.integers.proofs.Bools.{decide, and_left, and_right, and_both, or_both_false}
use Rattle.plane.specs.Profile.{profile_of, size_ok}
use Rattle.plane.specs.Point.{Point}
use Rattle.words.specs.Range.{edition_ok, id_ok}
use Rattle.words.specs.First.{answer}
use Rattle.words.proofs.FirstLaws.{none_applies, given_failed, given_held}
use Rattle.list.specs.declared.Key.{Key}
use Rattle.list.specs.declared.Pair.{Pair}
use Rattle.list.specs.declared.Source.{Source}
use Rattle.list.specs.declared.Page.{Page}
use Rattle.list.specs.Pairs.{start, key_of, follows, ascends, after, last_or}
use Rattle.list.specs.Pages.{last_threshold, threshold_no, contractor_no, source_no, shown, page_of, page_pairs}
use Rattle.list.specs.RingList.{Sound}
use Rattle.list.specs.RingList as ring_list
use Rattle.list.specs.Terms.{list_for}
use Rattle.list.proofs.Order.{asc_left, after_asc, after_last}
use Rattle.list.proofs.PageLaws.{page_shows, shown_count, length_padded, end_mark}
use Rattle.list.proofs.RowLaws.{sound_reached}
use Rattle.list.proofs.SourceLaws.{source_same}
use Rattle.list.proofs.ContractorLaws.{contractor_most, contractor_two, undivided_any}
use Rattle.list.proofs.TermsLaws.{for_ascends, for_ids, for_sizes}
use Rattle.book.specs.declared.Book.{Book}
use Rattle.book.specs.Rules.{one_sheet, begin_no, begun_book, begun_for, last_key, pair_ok, pairs_ok, page_most, page_bad, take_no, advanced, taken, taken_slots}
use Rattle.book.specs.World.{World, pumps_of, chambers_of, list_of, InReach, Honest, Reached, began, took, lent, own_page, served}
use Rattle.book.proofs.TakeLaws.{Passed, book_passed, taken_book, taken_slots_lem, refused_book, refused_slots, or_zero, no_refusal, same_length, closed_no, same_book_source}
use Rattle.book.proofs.SliceLaws.{last_held}

-- ---- the ids and sizes of a list, by its profile: the street grid's where o is true

module _ (o : Bool) where
  pair_ok_lem : (v : Pair) → id_ok v.q ≡ true → id_ok v.p ≡ true → size_ok o v.size ≡ true → pair_ok o v ≡ true
  unfolding pair_ok
  pair_ok_lem v a b c = and_both (id_ok v.q && id_ok v.p) (size_ok o v.size) (and_both (id_ok v.q) (id_ok v.p) a b) c

  ok_of : (l : List Pair) → ((v : Pair) → Memᴰ v l → pair_ok o v ≡ true) → pairs_ok o l ≡ true
  unfolding pairs_ok
  ok_of [] f = refl
  ok_of (v ∷ l) f = and_both (pair_ok o v) (pairs_ok o l) (f v (Memᴰ.head refl)) (ok_of l (λ u m. f u (Memᴰ.tail m)))

  ok_after : (k : Key) (l : List Pair) → pairs_ok o l ≡ true → pairs_ok o (after k l) ≡ true
  unfolding pairs_ok after
  ok_after k [] e = refl
  ok_after k (v ∷ l) e =
      let x = pair_ok o v in
      let r = ok_after k l (and_right x (pairs_ok o l) e) in
      ⊎_elim
      (λ (f : follows k (key_of v) ≡ true). rw f (and_both x (pairs_ok o (after k l)) (and_left x (pairs_ok o l) e) r))
      (λ (f : follows k (key_of v) ≡ false). rw f r)
      (decide (follows k (key_of v)))

  ok_take : (n : ℕ) (l : List Pair) → pairs_ok o l ≡ true → pairs_ok o (take n l) ≡ true
  unfolding pairs_ok
  ok_take zero l e = refl
  ok_take (suc n) [] e = refl
  ok_take (suc n) (v ∷ l) e =
      let x = pair_ok o v in
      and_both x (pairs_ok o (take n l)) (and_left x (pairs_ok o l) e) (ok_take n l (and_right x (pairs_ok o l) e))

-- ---- a book that holds the first pairs of a list

take_counted : (n : ℕ) (l : List Pair) → take (length (take n l)) l ≡ take n l
take_counted zero l = refl
take_counted (suc n) [] = refl
take_counted (suc n) (v ∷ l) = ap (λ (x : List Pair). v ∷ x) (take_counted n l)

pub record Keeps (l : List Pair) (b : Book) (s : List Pair) : Type 0 where
  pub room : b.held ≤ length s
  pub few : b.held ≤ length l
  pub same : take b.held s ≡ take b.held l
  pub shut : b.closed ≡ true → b.held ≡ length l

-- its next key is the last of them
keeps_last : (l : List Pair) (b : Book) (s : List Pair) → Keeps l b s → last_key b.held s ≡ last_or start (take b.held l)
keeps_last l b s k = last_held b.held s k.room ∙ ap (last_or start) k.same

module _ (l : List Pair) (asc : ascends start l ≡ true) where
  -- what follows the last of the first n pairs is the rest
  after_held : (n : ℕ) → after (last_or start (take n l)) l ≡ drop n l
  after_held n =
      let t = take-append-drop n l in
      ap (after (last_or start (take n l))) (sym t) ∙ after_last start (take n l) (drop n l) (rw t asc)

  -- a page of the list that is taken
  module _ (b : Book) (s : List Pair) (g : Page) (k : Keeps l b s) (of : Source) (key : Key) (size : ℕ) (most : size ≤ 16) (is : g ≡ page_of of l key size) (ok : take_no b s g ≡ 0) where
    ps : Passed b (length s) (last_key b.held s) g
    ps = book_passed b s g ok

    key_is : key ≡ last_or start (take b.held l)
    key_is = sym (ap (λ (x : Page). x.key) is ∙ (unfold page_of in refl)) ∙ ps.asked_next ∙ keeps_last l b s k

    left : after key l ≡ drop b.held l
    left = ap (λ (x : Key). after x l) key_is ∙ after_held b.held

    pairs_are : page_pairs g ≡ take size (drop b.held l)
    unfolding shown
    pairs_are = ap page_pairs is ∙ page_shows key of l size ∙ ap (take size) left

    count_is : g.count ≡ length (take size (drop b.held l))
    unfolding shown page_of
    count_is = ap (λ (x : Page). x.count) is ∙ ap (λ (x : List Pair). length (take size x)) left

    pairs_long : length g.pairs ≡ 16
    pairs_long = ap (λ (x : Page). length x.pairs) is ∙ (unfold page_of in length_padded (shown l key size) (omega (arith, shown_count l key size)))

    -- as many as are counted
    counted : take g.count (drop b.held l) ≡ take size (drop b.held l)
    counted = ap (λ (n : ℕ). take n (drop b.held l)) count_is ∙ take_counted size (drop b.held l)

    -- the held pairs and the page's are the first so many of the list
    grown : take b.held l ++ page_pairs g ≡ take (b.held + g.count) l
    grown = ap (λ (x : List Pair). take b.held l ++ x) (pairs_are ∙ sym counted) ∙ sym (take-add b.held g.count l)

    ended : g.end ≡ true → length (drop b.held l) ≤ size
    ended e =
        let m : not (ltb size (length (after key l))) ≡ true = sym (end_mark start key of l size asc) ∙ sym (ap (λ (x : Page). x.end) is) ∙ e in
        omega (arith, ltb-false size (length (after key l)) (not-true (ltb size (length (after key l))) m), ap length left)

    keeps_on : Keeps l (advanced b g) (paste s b.held g.pairs g.count)
    unfolding advanced page_pairs
    keeps_on =
        let n : g.count ≤ length l - b.held = omega (arith, count_is, length-take size (drop b.held l), length-drop b.held l) in
        record {
          room = rw (length-paste s b.held g.pairs g.count ps.fits (omega (arith, pairs_long, ps.few))) ps.fits;
          few = omega (arith, k.few);
          same = take-paste s b.held g.pairs g.count k.room (omega (arith, pairs_long, ps.few)) ∙ ap (λ (x : List Pair). x ++ page_pairs g) k.same ∙ grown;
          shut = λ e. omega (arith, ended e, count_is, length-take size (drop b.held l), length-drop b.held l, k.few);
        }

  -- whatever is decided of a page of this list, the book keeps to it
  keeps_take : (b : Book) (s : List Pair) (g : Page) → Keeps l b s → (take_no b s g ≡ 0 → Keeps l (advanced b g) (paste s b.held g.pairs g.count)) → Keeps l (taken b s g).book (taken_slots b s g)
  keeps_take b s g k f =
      ⊎_elim
      (λ (e : take_no b s g ≡ 0).
      subst (λ (x : Book). Keeps l x (taken_slots b s g)) (sym (taken_book b s g e)) (rw (taken_slots_lem b s g e) (f e)))
      (λ (e : take_no b s g ≡ 0 → ⊥). rw (refused_book b s g e, refused_slots b s g e) k)
      (or_zero (take_no b s g))

  -- a page that answers the book's own next request
  module _ (b : Book) (ok : pairs_ok b.source.terms.grid l ≡ true) (s : List Pair) (k : Keeps l b s) (still : b.closed ≡ false) (room : length l ≤ length s) (size : ℕ) (some : 0 < size) (most : size ≤ 16) where
    abbrev due : Key
    due = last_key b.held s

    own : Page
    own = page_of b.source l due size

    own_left : after due l ≡ drop b.held l
    own_left = ap (λ (x : Key). after x l) (keeps_last l b s k) ∙ after_held b.held

    own_count : own.count ≡ length (take size (drop b.held l))
    unfolding own page_of shown
    own_count = ap (λ (x : List Pair). length (take size x)) own_left

    own_end : own.end ≡ not (ltb size (length (drop b.held l)))
    unfolding own
    own_end = end_mark start due b.source l size asc ∙ ap (λ (x : List Pair). not (ltb size (length x))) own_left

    own_pairs : page_pairs own ≡ shown l due size
    unfolding own
    own_pairs = page_shows due b.source l size

    own_key : own.key ≡ due
    unfolding own page_of
    own_key = refl

    own_is : own.source ≡ b.source
    unfolding own page_of
    own_is = refl

    own_ok : pairs_ok own.source.terms.grid (page_pairs own) ≡ true
    unfolding shown
    own_ok =
        let o = b.source.terms.grid in
        ap₂ (λ (x : Source) (l : List Pair). pairs_ok x.terms.grid l) own_is own_pairs ∙ ok_take o size (after due l) (ok_after o due l ok)

    own_rises : ascends own.key (page_pairs own) ≡ true
    unfolding shown
    own_rises =
        let t = after due l in
        ap₂ ascends own_key own_pairs ∙ asc_left due (take size t) (drop size t) (rw (take-append-drop size t) (after_asc due start l asc))

    -- it shows a pair, or has the end mark
    own_news : (0 < own.count) ⊎ (own.end ≡ true)
    own_news =
        ⊎_elim
        (λ (e : ltb size (length (drop b.held l)) ≡ true). inl (omega (arith, own_count, length-take size (drop b.held l), ltb-true size (length (drop b.held l)) e)))
        (λ (e : ltb size (length (drop b.held l)) ≡ false). inr (own_end ∙ ap not e))
        (decide (ltb size (length (drop b.held l))))

    own_good : page_bad own ≡ false
    unfolding page_bad
    own_good =
        let x1 = ltb page_most own.count in
        let x2 = not (pairs_ok own.source.terms.grid (page_pairs own)) in
        let x3 = not (ascends own.key (page_pairs own)) in
        let x4 = eqb own.count 0 && not own.end in
        or_both_false (x1 || x2 || x3) x4
        (or_both_false (x1 || x2) x3
        (or_both_false x1 x2 (le-ltb page_most own.count (omega (arith, own_count, length-take size (drop b.held l)))) (ap not own_ok))
        (ap not own_rises))
        (⊎_elim
        (λ (e : 0 < own.count). ap (λ (t : Bool). t && not own.end) (ne_eqb own.count 0 (λ z. omega arith)))
        (λ (e : own.end ≡ true). ap (λ (t : Bool). eqb own.count 0 && not t) e ∙ and-false (eqb own.count 0))
        own_news)

    own_source : source_no b.source own.source ≡ 0
    unfolding own page_of
    own_source = source_same b.source b.source refl

    own_taken : take_no b s own ≡ 0
    own_taken =
        let h : own.count ≤ length s - b.held = omega (arith, own_count, length-take size (drop b.held l), length-drop b.held l, k.few) in
        no_refusal b s own k.room still own_source own_key own_good h

    own_moves : (b.held < (taken b s own).book.held) ⊎ ((taken b s own).book.closed ≡ true)
    own_moves =
        let z = taken_book b s own own_taken in
        let h : (taken b s own).book.held ≡ b.held + own.count = ap (λ (x : Book). x.held) z ∙ (unfold advanced in refl) in
        let c : (taken b s own).book.closed ≡ own.end = ap (λ (x : Book). x.closed) z ∙ (unfold advanced in refl) in
        ⊎_elim (λ (e : 0 < own.count). inl (omega arith)) (λ (e : own.end ≡ true). inr (c ∙ e)) own_news

-- ---- the story of a book

-- a book that `begin` gives was not refused
by_begun : (n : ℕ) (b c : Book) → answer n (Ok b) Err ≡ Ok c → (n ≡ 0) × (b ≡ c)
unfolding answer
by_begun zero b c e = (refl, cc)
by_begun (suc n) b c e = let z : ◌≡◌ {A = ℕ} 0 1 = cc in absurd (omega arith)

begun_is : (s : Source) (b : Book) → begun_for s ≡ Ok b → begun_book s ≡ b
unfolding begun_for
begun_is s b e = (by_begun (begin_no s) (begun_book s) b e).1

-- what a book can be begun for: a t up to 60,000, a contractor from 0 to 2, and a self join only of one edition, with no t and undivided
pub record Beginnable (s : Source) : Type 0 where
  pub t_most : s.terms.threshold ≤ last_threshold
  pub one_edition : s.terms.own ≡ true → s.p_edition ≡ s.q_edition
  pub no_t : s.terms.own ≡ true → s.terms.threshold ≡ 0
  pub whose : s.terms.contractor ≤ 2
  pub own_undivided : s.terms.own ≡ true → s.terms.contractor ≡ 2

begun_in : (s : Source) (b : Book) → begun_for s ≡ Ok b → Beginnable s
unfolding begun_for begin_no threshold_no
begun_in s b e =
    let both = edition_ok s.p_edition && edition_ok s.q_edition in
    let z = (none_applies _).0 (by_begun _ (begun_book s) b e).0 in
    record {
      t_most = leb-true s.terms.threshold last_threshold (given_held _ (z 2));
      one_edition = λ o. eqb-true s.p_edition s.q_edition (sym (ap (λ (x : Bool). not x || eqb s.p_edition s.q_edition) o) ∙ and_right both (one_sheet s) (given_held _ (z 0)));
      no_t = λ o. eqb-true s.terms.threshold 0 (not-false (eqb s.terms.threshold 0) (sym (ap (λ (x : Bool). x && not (eqb s.terms.threshold 0)) o) ∙ given_failed _ (z 1)));
      whose = contractor_most s.terms.own s.terms.contractor (z 3);
      own_undivided = λ o. contractor_two s.terms.contractor (sym (ap (λ (x : Bool). contractor_no x s.terms.contractor) o) ∙ z 3);
    }

module _ (w : World) where
  -- the points in either place are such as sheets hold
  pumps_fine : (s : Source) → Sound (pumps_of w s)
  pumps_fine s = go s.terms.own
    where
      go : (o : Bool) → Sound (cond o (w.assets s.q_edition) (w.pumps s.p_edition))
      go true = w.assets_sound s.q_edition
      go false = w.pumps_sound s.p_edition

  chambers_fine : (s : Source) → Sound (chambers_of w s)
  chambers_fine s = go s.terms.own
    where
      go : (o : Bool) → Sound (cond o (w.assets s.q_edition) (w.chambers s.q_edition))
      go true = w.assets_sound s.q_edition
      go false = w.chambers_sound s.q_edition

  list_asc : (s : Source) → ascends start (list_of w s) ≡ true
  list_asc s = for_ascends s.terms (w.owners s.q_edition) (pumps_of w s) (chambers_of w s) (pumps_fine s).rising (chambers_fine s).rising

  -- of the circle every world is in reach
  pub circle_in_reach : (s : Source) → s.terms.grid ≡ false → InReach w s
  circle_in_reach s e =
      record {
        pumps_in = subst (λ (o : Bool). ring_list.Reached (profile_of o) (pumps_of w s)) (sym e) (sound_reached (pumps_of w s) (pumps_fine s));
        chambers_in = subst (λ (o : Bool). ring_list.Reached (profile_of o) (chambers_of w s)) (sym e) (sound_reached (chambers_of w s) (chambers_fine s));
      }

  list_ok : (s : Source) → InReach w s → pairs_ok s.terms.grid (list_of w s) ≡ true
  list_ok s near =
      let P = pumps_of w s in
      let Q = chambers_of w s in
      let rp = (pumps_fine s).rising in
      let rq = (chambers_fine s).rising in
      let g = s.terms.grid in
      let o = w.owners s.q_edition in
      ok_of g (list_of w s) (λ v m. let z = for_ids s.terms o P Q rp rq v m in pair_ok_lem g v z.0 z.1 (for_sizes s.terms o P Q rp rq near.pumps_in near.chambers_in v m))

  -- what a page request answers on sheets with these points is honest, where the points are those of their editions, and so are the owner bytes, or the list is undivided
  pub honest_from : (s : Source) (k : Key) (size : ℕ) (o : List ℕ) (P Q : List Point) (g : Page) → 0 < size → size ≤ 16 → (w.owners s.q_edition ≡ o) ⊎ (s.terms.contractor ≡ 2) → pumps_of w s ≡ P → chambers_of w s ≡ Q → g ≡ page_of s (list_for s.terms o P Q) k size → Honest w g
  honest_from s k size o P Q g some most whose p q e =
      let l : list_for s.terms (w.owners s.q_edition) P Q ≡ list_for s.terms o P Q = ⊎_elim (λ x. ap (λ (y : List ℕ). list_for s.terms y P Q) x) (λ x. undivided_any s.terms x (w.owners s.q_edition) o P Q) whose in
      record { of = s; after = k; size = size; some = some; most = most; is = e ∙ sym (ap₂ (λ (x y : List Point). page_of s (list_for s.terms (w.owners s.q_edition) x y) k size) p q ∙ ap (λ (x : List Pair). page_of s x k size) l) }

  -- the list of a book
  abbrev pub book_list : Book → List Pair
  book_list b = list_of w b.source

  -- an honest page that is taken is one of the book's own list
  honest_on : (b : Book) (s : List Pair) (g : Page) → Keeps (book_list b) b s → Honest w g → take_no b s g ≡ 0 → Keeps (book_list b) (advanced b g) (paste s b.held g.pairs g.count)
  honest_on b s g k h ok =
      let same : h.of ≡ b.source = sym (ap (λ (x : Page). x.source) h.is ∙ (unfold page_of in refl)) ∙ sym (book_passed b s g ok).one_source in
      keeps_on (book_list b) (list_asc b.source) b s g k h.of h.after h.size h.most (h.is ∙ ap (λ (x : Source). page_of h.of (list_of w x) h.after h.size) same) ok

  story_first : (s : Source) (slots : List Pair) → Keeps (book_list (begun_book s)) (begun_book s) slots
  unfolding begun_book
  story_first s slots = record { room = omega arith; few = omega arith; same = refl; shut = λ z. absurd (true≢false (sym z)) }

  story : {b : Book} {s : List Pair} → Reached w b s → Keeps (book_list b) b s
  story (began s b slots e) = subst (λ (x : Book). Keeps (book_list x) x slots) (begun_is s b e) (story_first s slots)
  story (took {b} {slots} g r h) =
      let k = story r in
      subst
      (λ (x : Source). Keeps (list_of w x) (taken b slots g).book (taken_slots b slots g))
      (sym (same_book_source b slots g))
      (keeps_take (book_list b) (list_asc b.source) b slots g k (honest_on b slots g k h))
  story (lent {b} {slots} other r h e) = let k = story r in record { room = h; few = k.few; same = e ∙ k.same; shut = k.shut }

  -- what it is of is what a page request may ask for
  pub begun_fair : {b : Book} {s : List Pair} → Reached w b s → Beginnable b.source
  begun_fair (began s b slots e) = subst (λ (x : Book). Beginnable x.source) (begun_is s b e) (unfold begun_book in begun_in s b e)
  begun_fair (took {b} {slots} g r h) = rw (same_book_source b slots g) (begun_fair r)
  begun_fair (lent other r h e) = begun_fair r

  -- "a book begun empty always holds exactly the first so many pairs of its list"
  pub book_held_prefix : {b : Book} {s : List Pair} → Reached w b s → (b.held ≤ length s) × (b.held ≤ length (book_list b)) × (take b.held s ≡ take b.held (book_list b))
  book_held_prefix r = let k = story r in (k.room, k.few, k.same)

  -- "and calls itself closed only when it holds all"
  pub book_closed_all : {b : Book} {s : List Pair} → Reached w b s → b.closed ≡ true → (b.held ≡ length (book_list b)) × (take b.held s ≡ book_list b)
  book_closed_all {b} r e =
      let k = story r in
      (k.shut e, k.same ∙ ap (λ (n : ℕ). take n (book_list b)) (k.shut e) ∙ take-length (book_list b))

  -- "While it is open and has room for the whole list, each page that answers its own next request adds a pair or closes it."
  pub book_progress : {b : Book} {s : List Pair} → Reached w b s → InReach w b.source → b.closed ≡ false → length (book_list b) ≤ length s → (size : ℕ) → 0 < size → size ≤ 16
      → (take_no b s (own_page w b s size) ≡ 0) × ((b.held < (taken b s (own_page w b s size)).book.held) ⊎ ((taken b s (own_page w b s size)).book.closed ≡ true))
  unfolding own
  book_progress {b} {s} r near still room size some most =
      let k = story r in
      let asc = list_asc b.source in
      let ok = list_ok b.source near in
      (own_taken (book_list b) asc b ok s k still room size some most, own_moves (book_list b) asc b ok s k still room size some most)

  -- what its own request brings is honest
  own_honest : (b : Book) (s : List Pair) (size : ℕ) → 0 < size → size ≤ 16 → Honest w (own_page w b s size)
  own_honest b s size some most = record { of = b.source; after = last_key b.held s; size = size; some = some; most = most; is = refl }

  own_long : (b : Book) (s : List Pair) (size : ℕ) → size ≤ 16 → length (own_page w b s size).pairs ≡ 16
  unfolding page_of
  own_long b s size most =
      length_padded (shown (book_list b) (last_key b.held s) size) (omega (arith, shown_count (book_list b) (last_key b.held s) size))

  -- a closed book stays closed
  stays_closed : (k : ℕ) (sizes : ℕ → ℕ) (b : Book) (s : List Pair) → b.closed ≡ true → (served w k sizes b s).closed ≡ true
  unfolding served
  stays_closed zero sizes b s e = e
  stays_closed (suc k) sizes b s e =
      let g = own_page w b s (sizes 0) in
      stays_closed k (λ i. sizes (suc i)) (taken b s g).book (taken_slots b s g) (ap (λ (x : Book). x.closed) (refused_book b s g (closed_no b s g e)) ∙ e)

  -- so a book with room for its list that goes on asking is closed after at most one request more than pairs are missing
  pub book_closes : (k : ℕ) (sizes : ℕ → ℕ) {b : Book} {s : List Pair} → ((i : ℕ) → (0 < sizes i) × (sizes i ≤ 16)) → Reached w b s → InReach w b.source → length (book_list b) ≤ length s → length (book_list b) < b.held + k → (served w k sizes b s).closed ≡ true
  unfolding served
  book_closes zero sizes n r near room h = absurd (omega (arith, (story r).few))
  book_closes (suc k) sizes {b} {s} n r near room h =
      let g = own_page w b s (sizes 0) in
      let b' = (taken b s g).book in
      let s' = taken_slots b s g in
      ⊎_elim
      (λ (e : b.closed ≡ true). stays_closed (suc k) sizes b s e)
      (λ (e : b.closed ≡ false).
      ⊎_elim
      (λ (x : b.held < b'.held).
      let l : book_list b' ≡ book_list b = ap (list_of w) (same_book_source b s g) in
      book_closes k (λ i. sizes (suc i)) (λ i. n (suc i)) (took g r (own_honest b s (sizes 0) (n 0).0 (n 0).1)) (subst (InReach w) (sym (same_book_source b s g)) near) (omega (arith, ap length l, same_length b s g (own_long b s (sizes 0) (n 0).1))) (omega (arith, ap length l)))
      (λ (x : b'.closed ≡ true). stays_closed k (λ i. sizes (suc i)) b' s' x)
      (book_progress r near e room (sizes 0) (n 0).0 (n 0).1).1)
      (decide b.closed)
