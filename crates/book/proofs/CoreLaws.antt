-- What the functions of the book find: laws over plain values.
-- Assumes nothing.
use mathlib.Core.Path.{◌≡◌, refl, sym, ap, ap₂, ◌∙◌}
use mathlib.Core.Bool.{Bool, true, false, not, ◌&&◌, ◌||◌, and-false, true≢false}
use mathlib.Core.List.{List, [], ◌∷◌, ◌++◌}
use Prim.Native.Nat.{ℕ, zero, suc, ◌+◌, ◌-◌, ◌≤◌, ◌<◌}
use native.Mathlib.Omega.{arith}
use native.Mathlib.Numerals.{add-one}
use lib.Dec.{eqb, ltb}
use lib.ListN.{length, take, drop, get_or, drop_of_length-le}
use lib.Seq.{drop-cons, paste}
use borrow.Rule.Slice.PartMut.{put_mid, Post-is}
use borrow.Author.Tests.{ne_eqb, ltb-true, lt-ltb, le-ltb, not-true, not-false}
use Rattle.std.proofs.Common.{Ok, Err, append_assoc}
use Rattle.words.specs.Range.{edition_ok}
use Rattle.words.specs.First.{given, first, answer}
use Rattle.words.proofs.FirstLaws.{first_passes, first_stops, first_last, given_no, answer_given, answer_refused}
use Rattle.list.specs.declared.Key.{Key}
use Rattle.list.specs.declared.Pair.{Pair}
use Rattle.list.specs.declared.Source.{Source}
use Rattle.list.specs.declared.Page.{Page}
use Rattle.list.specs.Pairs.{start, none, key_of, follows, ascends}
use Rattle.list.specs.Pages.{threshold_no, contractor_no, source_no, page_pairs}
use Rattle.list.specs.Lent.{lent_of}
use Rattle.book.specs.declared.Book.{Book}
use Rattle.book.specs.declared.Decided.{Decided}
use Rattle.book.specs.declared.Taken.{Taken}
use Rattle.book.specs.declared.TakenArray.{TakenArray}
use Rattle.book.specs.Rules.{one_sheet, own_with_t, begin_no, begun_book, begun_for, last_key, pair_ok, pairs_ok, same_key, page_most, page_bad, take_no_at, take_no, accepted, refused, decided_at, decided, taken, taken_slots, with_slots, taken_array}
use Rattle.book.proofs.TakeLaws.{no_refusal_at, decided_yes, same_key_lem, book_passed, book_take_no, refused_slots}

-- ---- begin

module _ (s : Source) (a b : Bool) (ea : a ≡ edition_ok s.p_edition) (eb : b ≡ edition_ok s.q_edition) where
  both : not (edition_ok s.p_edition && edition_ok s.q_edition && one_sheet s) ≡ not (a && b && one_sheet s)
  both = sym (ap₂ (λ (x y : Bool). not (x && y && one_sheet s)) ea eb)

  pub begin_3 : not (a && b && one_sheet s) ≡ true → Err 3 ≡ begun_for s
  unfolding begun_for begin_no first given answer
  begin_3 e = rw (both ∙ e)

  module _ (e : not (a && b && one_sheet s) ≡ false) where
    pub begin_own : own_with_t s ≡ true → Err 21 ≡ begun_for s
    unfolding begun_for begin_no first given answer
    begin_own f = rw (both ∙ e, f)

    module _ (f : own_with_t s ≡ false) (n : ℕ) (d : n ≡ threshold_no s.terms.threshold) where
      number_is : begin_no s ≡ first (n ∷ contractor_no s.terms.own s.terms.contractor ∷ [])
      unfolding begin_no
      number_is = first_passes _ _ (given_no 3 (both ∙ e)) ∙ first_passes _ _ (given_no 21 f) ∙ ap (λ (k : ℕ). first (k ∷ contractor_no s.terms.own s.terms.contractor ∷ [])) (sym d)

      pub begin_21 : (n ≡ 0 → ⊥) → Err n ≡ begun_for s
      unfolding begun_for
      begin_21 ne = sym (answer_refused (Ok (begun_book s)) Err _ n (number_is ∙ first_stops n _ ne) ne)

      module _ (z : n ≡ 0) (m : ℕ) (g : m ≡ contractor_no s.terms.own s.terms.contractor) where
        whose_is : begin_no s ≡ m
        whose_is = number_is ∙ first_passes n _ z ∙ first_last _ ∙ sym g

        pub begin_27 : (m ≡ 0 → ⊥) → Err m ≡ begun_for s
        unfolding begun_for
        begin_27 ne = sym (answer_refused (Ok (begun_book s)) Err _ m whose_is ne)

        pub begin_0 : m ≡ 0 → Ok (begun_book s) ≡ begun_for s
        unfolding begun_for
        begin_0 y = sym (answer_given (Ok (begun_book s)) Err _ (whose_is ∙ y))

-- ---- the loop over a page's pairs

-- by the profile: the street grid's where o is true
abbrev rises : Bool → Key → List Pair → Bool
rises o k l = pairs_ok o l && ascends k l

swapped : (x i f a : Bool) → ((x && i) && (f && a)) ≡ ((x && f) && (i && a))
swapped false i f a = refl
swapped true false f a = sym (and-false f)
swapped true true f a = refl

rises_cons : (o : Bool) (k : Key) (v : Pair) (l : List Pair) → rises o k (v ∷ l) ≡ ((pair_ok o v && follows k (key_of v)) && rises o (key_of v) l)
unfolding pairs_ok ascends
rises_cons o k v l = swapped (pair_ok o v) (pairs_ok o l) (follows k (key_of v)) (ascends (key_of v) l)

-- what is left to test, of these pairs
pub record Testing (o : Bool) (key : Key) (l : List Pair) (last : Key) (k : ℕ) : Type 0 where
  pub left : rises o last (drop k l) ≡ rises o key l

module _ (o : Bool) (key : Key) (l : List Pair) (last : Key) (k : ℕ) (h : k < length l) (t : Testing o key l last k) (v : Key)
    (ev : v ≡ key_of (get_or l k none)) (a f : Bool) (ea : a ≡ pair_ok o (get_or l k none)) (ef : f ≡ follows last v) where
  one_more : ((a && f) && rises o v (drop (k + 1) l)) ≡ rises o key l
  one_more =
      (rw (ea, ef, ev, add-one k))
      ∙ sym (ap (rises o last) (drop-cons l k none h) ∙ rises_cons o last (get_or l k none) (drop (suc k) l))
      ∙ t.left

  pub testing_stop : not (a && f) ≡ true → false ≡ rises o key l
  testing_stop e = sym (ap (λ (x : Bool). x && rises o v (drop (k + 1) l)) (not-true (a && f) e)) ∙ one_more

  pub testing_on : not (a && f) ≡ false → Testing o key l v (k + 1)
  testing_on e = record { left = sym (ap (λ (x : Bool). x && rises o v (drop (k + 1) l)) (not-false (a && f) e)) ∙ one_more }

pub testing_end : (o : Bool) (key : Key) (l : List Pair) (last : Key) (k : ℕ) → length l ≤ k → Testing o key l last k → true ≡ rises o key l
unfolding pairs_ok ascends
testing_end o key l last k h t = sym (ap (rises o last) (drop_of_length-le l h)) ∙ t.left

-- ---- the last held slot

no_slot : (l : List Pair) (at : ℕ) → length l ≤ at → start ≡ key_of (get_or l at none)
no_slot [] at h = refl
no_slot (v ∷ l) zero h = absurd (omega arith)
no_slot (v ∷ l) (suc at) h = no_slot l at (omega arith)

-- where nothing is held or the last held one has no slot, and else
pub no_key : (h : ℕ) (l : List Pair) → (eqb h 0 || ltb (length l) h) ≡ true → start ≡ last_key h l
unfolding last_key
no_key zero l e = refl
no_key (suc n) l e =
    let f : eqb (suc n) 0 ≡ false = ne_eqb (suc n) 0 (λ z. omega arith) in
    let g : length l < suc n = ltb-true (length l) (suc n) (rw f at e) in
    no_slot l n (omega arith)

pub a_key : (h : ℕ) (l : List Pair) → (eqb h 0 || ltb (length l) h) ≡ false → key_of (get_or l (h - 1) none) ≡ last_key h l
unfolding last_key
a_key zero l e = absurd (true≢false e)
a_key (suc n) l e = let z : suc n - 1 ≡ n = omega arith in rw z

-- ---- 15

pub bad_many : (g : Page) → page_most < g.count → true ≡ page_bad g
unfolding page_bad
bad_many g h = rw (lt-ltb page_most g.count h)

either : (i a x : Bool) → (not (i && a) || x) ≡ (not i || not a || x)
either false a x = refl
either true false x = refl
either true true x = refl

pub bad_is : (g : Page) (r : Bool) → g.count ≤ page_most → r ≡ rises g.source.terms.grid g.key (take g.count g.pairs) → (not r || (eqb g.count 0 && not g.end)) ≡ page_bad g
unfolding page_bad page_pairs
bad_is g r h e =
    let x4 = eqb g.count 0 && not g.end in
    let i = pairs_ok g.source.terms.grid (take g.count g.pairs) in
    let a = ascends g.key (take g.count g.pairs) in
    ap (λ (y : Bool). not y || x4) e ∙ either i a x4 ∙ sym (ap (λ (y : Bool). y || not i || not a || x4) (le-ltb page_most g.count h))

-- ---- the numbers, in order

module _ (b : Book) (len : ℕ) (k : Key) (g : Page) where
  pub is_11 : len < b.held → 11 ≡ take_no_at b len k g
  unfolding take_no_at first given
  is_11 h = rw (lt-ltb len b.held h)

  module _ (h1 : b.held ≤ len) where
    pub is_12 : b.closed ≡ true → 12 ≡ take_no_at b len k g
    unfolding take_no_at first given
    is_12 h = rw (le-ltb len b.held h1, h)

    module _ (h2 : b.closed ≡ false) where
      pub is_13 : (m : ℕ) → m ≡ source_no b.source g.source → (m ≡ 0 → ⊥) → m ≡ take_no_at b len k g
      unfolding take_no_at
      is_13 m e h =
          e ∙ sym (first_passes _ _ (given_no 11 (le-ltb len b.held h1)) ∙ first_passes _ _ (given_no 12 h2) ∙ first_stops (source_no b.source g.source) _ (λ z. h (e ∙ z)))

      module _ (h3 : source_no b.source g.source ≡ 0) where
        pub is_14 : same_key g.key k ≡ false → 14 ≡ take_no_at b len k g
        unfolding take_no_at first given
        is_14 h = rw (le-ltb len b.held h1, h2, h3, h)

        module _ (h4 : same_key g.key k ≡ true) where
          pub is_15 : page_bad g ≡ true → 15 ≡ take_no_at b len k g
          unfolding take_no_at first given
          is_15 h = rw (le-ltb len b.held h1, h2, h3, h4, h)

          module _ (h5 : page_bad g ≡ false) where
            pub is_16 : len - b.held < g.count → 16 ≡ take_no_at b len k g
            unfolding take_no_at first given
            is_16 h = rw (le-ltb len b.held h1, h2, h3, h4, h5, lt-ltb (len - b.held) g.count h)

            pub is_0 : g.count ≤ len - b.held → 0 ≡ take_no_at b len k g
            is_0 h = sym (no_refusal_at b len k g h1 h2 h3 (same_key_lem g.key k h4) h5 h)

-- ---- all that is decided

pub refused_at : (b : Book) (len : ℕ) (k : Key) (g : Page) (m : ℕ) → m ≡ take_no_at b len k g → (m ≡ 0 → ⊥) → refused b m ≡ decided_at b len k g
unfolding decided_at
refused_at b len k g m e h = sym (answer_refused (accepted b g) (refused b) _ m (sym e) h)

pub accepted_at : (b : Book) (len : ℕ) (k : Key) (g : Page) → take_no_at b len k g ≡ 0 → accepted b g ≡ decided_at b len k g
unfolding decided_at
accepted_at b len k g e = sym (answer_given (accepted b g) (refused b) _ e)

-- ---- of a slice

module _ (b : Book) (s : List Pair) (g : Page) (k : Key) (ek : k ≡ last_key b.held s) where
  module _ (d : Decided) (e : d ≡ decided_at b (length s) k g) where
    decided_is : d ≡ decided b s g
    unfolding decided_at decided take_no
    decided_is = e ∙ ap (λ (x : Key). decided_at b (length s) x g) ek

    number_no : d.taken.number ≡ take_no b s g
    unfolding taken
    number_no = ap (λ (x : Decided). x.taken.number) decided_is ∙ book_take_no b s g

    -- a page that is taken has its slots, and is one of at most sixteen pairs
    pub take_fits : d.taken.number ≡ 0 → (d.n ≤ 16) × (b.held + d.n ≤ length s)
    unfolding accepted
    take_fits z =
        let y = sym number_no ∙ z in
        let p = book_passed b s g y in
        let n : d.n ≡ g.count = ap (λ (x : Decided). x.n) (decided_is ∙ decided_yes b s g y) in
        (omega (arith, p.few), omega (arith, p.fits))

    pub answer_is : d.taken ≡ taken b s g
    unfolding taken
    answer_is = ap (λ (x : Decided). x.taken) decided_is

    pub slots_are : paste s b.held g.pairs d.n ≡ taken_slots b s g
    unfolding taken_slots
    slots_are = ap (λ (x : Decided). paste s b.held g.pairs x.n) decided_is

    pub slots_left : (d.taken.number ≡ 0 → ⊥) → s ≡ taken_slots b s g
    slots_left ne = sym (refused_slots b s g (λ z. ne (number_no ∙ z)))

-- the first n pairs of a page, copied into the slots from h on
pub copied : (s : List Pair) (h n : ℕ) (ps part : List Pair) → part ≡ take n ps → put_mid h ((h + n) - h) s part ≡ paste s h ps n
copied s h n ps part e = let z = Post-is h (h + n) s (omega arith) in (λ i. take h s ++ (e i ++ z i)) ∙ sym (append_assoc (take h s) (take n ps) (drop (h + n) s))

-- ---- a part of an array, lent

pub array_is : (l : List Pair) (len : ℕ) (b : Book) (g : Page) (m : ℕ) (r : Taken) (zs : List Pair) (t : TakenArray) → m ≡ lent_of 64 len
    → r ≡ taken b (take m l) g → zs ≡ taken_slots b (take m l) g → t ≡ with_slots (zs ++ drop m l) r → t ≡ taken_array l len b g
unfolding taken_array
array_is l len b g m r zs t e x y z =
    z ∙ ap₂ (λ (u : List Pair) (v : Taken). with_slots (u ++ drop m l) v) y x
    ∙ ap (λ (k : ℕ). with_slots (taken_slots b (take k l) g ++ drop k l) (taken b (take k l) g)) e
