-- The page request: its answers by number, and what the promise says of a page.
--
--     ring_page_no           the number is the first that applies; page_refused_lem: refused, all else is zero
--     ring_page_served       with sheets that open, a contractor with its owner bytes, a key and a size in range, the answer is 0, the page of the list and the count of the walks
--     ring_page_once         one request, one answer
--     ring_pages_list        following the answers from (0, 0), whatever their sizes from 1 to 16, gives the list
--     given_by_points   sheets with the same points give the same pairs, number and end mark of every page of any terms
-- Assumes nothing.
use mathlib.Core.Path.{◌≡◌, refl, sym, ap, ◌∙◌}
use mathlib.Core.Bool.{Bool, true, false, not, ◌&&◌, ◌||◌, true≢false}
use mathlib.Core.List.{List, [], ◌∷◌, ◌++◌}
use Prim.Native.Nat.{ℕ, ◌*◌, ◌≤◌, ◌<◌}
use native.Mathlib.Omega.{arith}
use lib.Dec.{leb}
use lib.IntN.{ℤ}
use lib.ListN.{length, take, drop}
use borrow.Author.Tests.{le-leb}
use Rattle.words.specs.First.{given, first}
use Rattle.words.proofs.FirstLaws.{none_applies, first_passes, first_stops, first_last, first_front, given_no, given_failed, answer_given, answer_refused, answer_number}
use Rattle.words.specs.Range.{last_id}
use Rattle.words.specs.Word.{num}
use Rattle.sheet.specs.Layout.{edition, second, points, nodes}
use Rattle.sheet.specs.Places.{points_of}
use Rattle.sheet.specs.Open.{sheet_no, Opens}
use Rattle.sheet.proofs.SheetLaws.{sheet_facts}
use Rattle.sheet.proofs.RangeLaws.{first_within}
use Rattle.sheet.proofs.PointsLaws.{length_points, spot_of_lem}
use Rattle.integers.proofs.Bools.{or_false_left, or_false_right}
use Rattle.plane.specs.Profile.{profile_of}
use Rattle.list.specs.RingList.{Reached}
use Rattle.list.proofs.RowLaws.{sound_reached}
use Rattle.bits.specs.Set.{none, words_for, wiped}
use Rattle.bits.proofs.LentLaws.{words_enough, part_wiped}
use Rattle.list.specs.declared.Key.{Key}
use Rattle.list.specs.declared.Page.{Page}
use Rattle.list.specs.declared.Source.{Source}
use Rattle.list.specs.Pairs.{start}
use Rattle.list.specs.Pages.{last_threshold, threshold_no, size_no, contractor_no, owners_no, page_of, followed}
use Rattle.list.specs.declared.Terms.{Terms}
use Rattle.list.specs.declared.Request.{Request}
use Rattle.list.specs.Terms.{with_by, of_contractor, request_of, list_for}
use Rattle.list.proofs.PageLaws.{size_fits, size_taken, asked_pages}
use Rattle.list.proofs.ContractorLaws.{contractor_fits}
use Rattle.list.proofs.TermsLaws.{for_keys}
use Rattle.join.specs.declared.Draft.{Draft}
use Rattle.join.specs.Work.{page_opened}
use Rattle.join.specs.Maker.{page_made, page_from}
use Rattle.join.specs.Walks.{Walks}
use Rattle.join.specs.Sheets.{Alone}
use Rattle.join.specs.Only.{page_walks}
use Rattle.join.proofs.Meaning.{points_rise, points_sound, join_page_pairs, join_page_opened, sheet_pages, join_list_by_points}
use Rattle.ring.specs.declared.Paged.{Paged}
use Rattle.ring.specs.Numbers.{sheets_no, grid_no}
use Rattle.ring.specs.Answers.{Heads, heads_of}
use Rattle.ring.specs.Lent.{need, bits_no}
use Rattle.ring.specs.Page.{key_no, asked_no, request_no, page_no, source_of, page_given, page_refused, terms_of, page_answer, page_bits}
use Rattle.ring.proofs.LentLaws.{bits_short, bits_enough, wiped_refused, wiped_given}
use Rattle.ring.proofs.HeadLaws.{headed_both, both_open, sheets_stop, sheets_pass}

-- ---- the numbers of the key, of the size and of the threshold

module _ (P Q : List ℤ) (g : Bool) (key : Key) (size t n : ℕ) (f : n ≡ grid_no g P Q) where
  pub asked_29 : (n ≡ 0 → ⊥) → n ≡ asked_no P Q g key size t
  unfolding asked_no
  asked_29 ne = f ∙ sym (first_stops (grid_no g P Q) _ (λ z. ne (f ∙ z)))

  module _ (form : n ≡ 0) where
    rest : asked_no P Q g key size t ≡ first (key_no key ∷ size_no size ∷ threshold_no t ∷ [])
    unfolding asked_no
    rest = first_passes (grid_no g P Q) _ (sym f ∙ form)

    pub asked_9 : not (leb key.q last_id && leb key.p last_id) ≡ true → 9 ≡ asked_no P Q g key size t
    asked_9 e = sym (rest ∙ (unfold key_no first given in rw e))

    module _ (e : not (leb key.q last_id && leb key.p last_id) ≡ false) (k : ℕ) (d : k ≡ size_no size) where
      pub asked_10 : (k ≡ 0 → ⊥) → k ≡ asked_no P Q g key size t
      unfolding key_no
      asked_10 ne = d ∙ sym (rest ∙ first_passes _ _ (given_no 9 e) ∙ first_stops (size_no size) _ (λ z. ne (d ∙ z)))

      pub asked_21 : k ≡ 0 → (m : ℕ) → m ≡ threshold_no t → m ≡ asked_no P Q g key size t
      unfolding key_no
      asked_21 z m h = h ∙ sym (rest ∙ first_passes _ _ (given_no 9 e) ∙ first_passes (size_no size) _ (sym d ∙ z) ∙ first_last _)

module _ (P Q : List ℤ) (g : Bool) (key : Key) (size t : ℕ) where
  -- a request that is not refused has its size from 1 to 16
  pub asked_size : asked_no P Q g key size t ≡ 0 → (1 ≤ size) × (size ≤ 16)
  unfolding asked_no
  asked_size e = size_fits size ((none_applies _).0 e 2)

  pub size_in : {a : ℕ} → a ≡ asked_no P Q g key size t → a ≡ 0 → size ≤ 16
  size_in d y = (asked_size (sym d ∙ y)).1

-- ---- those of the contractor and of its bytes, before them

module _ (P Q : List ℤ) (o : List ℕ) (n : ℕ) (a : Request) where
  -- a request that is not refused has its size from 1 to 16
  pub request_size : {k : ℕ} → k ≡ request_no P Q o n a → k ≡ 0 → a.size ≤ 16
  unfolding request_no
  request_size d y = (size_fits a.size ((none_applies _).0 (sym d ∙ y) 4)).1

  module _ (k : ℕ) (d : k ≡ contractor_no false a.contractor) where
    pub request_27 : (k ≡ 0 → ⊥) → k ≡ request_no P Q o n a
    unfolding request_no
    request_27 ne = d ∙ sym (first_stops (contractor_no false a.contractor) _ (λ z. ne (d ∙ z)))

    module _ (z : k ≡ 0) (m : ℕ) (e : m ≡ owners_no a.contractor o n) where
      pub request_26 : (m ≡ 0 → ⊥) → m ≡ request_no P Q o n a
      unfolding request_no
      request_26 ne = e ∙ sym (first_passes (contractor_no false a.contractor) _ (sym d ∙ z) ∙ first_stops (owners_no a.contractor o n) _ (λ y. ne (e ∙ y)))

      pub request_asked : m ≡ 0 → (r : ℕ) → r ≡ asked_no P Q a.grid a.key a.size a.threshold → r ≡ request_no P Q o n a
      unfolding request_no asked_no
      request_asked y r f = f ∙ sym (first_passes (contractor_no false a.contractor) _ (sym d ∙ z) ∙ first_passes (owners_no a.contractor o n) _ (sym e ∙ y))

-- 29 is not given of the circle
pub circle_any_form : (P Q : List ℤ) → grid_no false P Q ≡ 0
unfolding grid_no given
circle_any_form P Q = refl

-- and where it is not given, the points of both sheets stand in reach of the profile
pub forms_reach : (g : Bool) (P Q : List ℤ) → sheet_no P ≡ 0 → sheet_no Q ≡ 0 → grid_no g P Q ≡ 0 → Reached (profile_of g) (points_of P) × Reached (profile_of g) (points_of Q)
forms_reach false P Q p q e = (sound_reached (points_of P) (points_sound P p), sound_reached (points_of Q) (points_sound Q q))
forms_reach true P Q p q e = (near P p (or_false_left (second P) (second Q) both), near Q q (or_false_right (second P) (second Q) both))
  where
    both : (second P || second Q) ≡ false
    both = let x : given (second P || second Q) 29 ≡ 0 = unfold grid_no in e in given_failed 28 x

    near : (w : List ℤ) → sheet_no w ≡ 0 → second w ≡ false → Reached (profile_of true) (points_of w)
    near w o f = record { in_reach = λ i h. let k : i < points w = omega (arith, length_points w) in rw (spot_of_lem w i k) (first_within w o f i k) }

-- ---- the answers

module _ (P Q : List ℤ) (o : List ℕ) (a : Request) (len : ℕ) where
  abbrev Given : Paged
  Given = page_given (terms_of a) o P Q a.key a.size

  -- refused: its number, and zeros
  pub page_refused_lem : (k : ℕ) → page_no P Q o a len ≡ k → (k ≡ 0 → ⊥) → page_answer P Q o a len ≡ page_refused k
  unfolding page_answer
  page_refused_lem k e ne = answer_refused _ page_refused _ k e ne

  -- with sheets that open, a key and a size in range: the page and its count
  pub page_answered : page_no P Q o a len ≡ 0 → page_answer P Q o a len ≡ Given
  unfolding page_answer
  page_answered e = answer_given _ page_refused _ e

  -- one request, one answer
  pub ring_page_once : (r r' : Paged) → r ≡ page_answer P Q o a len → r' ≡ page_answer P Q o a len → r ≡ r'
  ring_page_once r r' e f = e ∙ sym f

  -- No other request is refused: sheets that open, of form 1 for the street grid, a contractor from 0 to 2 with its owner bytes, each id of the key at most 2,000,000,000, a size from 1 to 16, a t in range and as many words as the points need are served.
  pub ring_page_served : sheets_no P Q ≡ 0 → a.contractor ≤ 2 → owners_no a.contractor o (points Q) ≡ 0 → grid_no a.grid P Q ≡ 0 → a.key.q ≤ last_id → a.key.p ≤ last_id → 1 ≤ a.size → a.size ≤ 16 → a.threshold ≤ last_threshold → need P ≤ len → page_answer P Q o a len ≡ Given
  unfolding page_no key_no threshold_no first given
  ring_page_served opens whose bytes forms x y c d e f =
      let s = both_open P Q opens in
      page_answered
      (rw (s.0, s.1, contractor_fits a.contractor whose, bytes, forms, le-leb a.key.q last_id x, le-leb a.key.p last_id y, size_taken a.size c d, le-leb a.threshold last_threshold e, bits_enough (need P) len f))

  -- the number is the first that applies
  pub ring_page_no : (page_answer P Q o a len).number ≡ page_no P Q o a len
  unfolding page_answer page_given page_refused
  ring_page_no = answer_number (Given) page_refused (λ r. r.number) refl (λ k. refl) (page_no P Q o a len)

-- what a request answers and leaves in the words lent
abbrev pub PageDone : List ℤ → List ℤ → List ℕ → Request → List ℕ → Paged → List ℕ → Type 0
PageDone P Q o a ws r ws₁ = (r ≡ page_answer P Q o a (length ws)) × (ws₁ ≡ page_bits P Q o a ws)

module _ (P Q : List ℤ) (o : List ℕ) (a : Request) (ws : List ℕ) (h : Heads) (e : h ≡ heads_of P Q) (r : Paged) where
  stops : (k : ℕ) → page_no P Q o a (length ws) ≡ k → (k ≡ 0 → ⊥) → r ≡ page_refused k → PageDone P Q o a ws r ws
  unfolding page_bits
  stops k x ne f = (f ∙ sym (page_refused_lem P Q o a (length ws) k x ne), wiped_refused ws _ _ k x ne)

  pub page_sheets : (h.number ≡ 0 → ⊥) → r ≡ page_refused h.number → PageDone P Q o a ws r ws
  unfolding page_no
  page_sheets ne f = stops h.number (sheets_stop P Q h _ e ne) ne f

  module _ (z : h.number ≡ 0) (k : ℕ) (d : k ≡ request_no P Q o h.nq a) where
    after : page_no P Q o a (length ws) ≡ first (k ∷ bits_no (need P) (length ws) ∷ [])
    unfolding page_no request_no
    after =
        sheets_pass P Q h _ e z
        ∙ first_front (contractor_no false a.contractor ∷ owners_no a.contractor o (points Q) ∷ grid_no a.grid P Q ∷ key_no a.key ∷ size_no a.size ∷ threshold_no a.threshold ∷ []) (bits_no (need P) (length ws) ∷ [])
        ∙ ap (λ (n : ℕ). first (n ∷ bits_no (need P) (length ws) ∷ [])) (sym (d ∙ ap (λ (n : ℕ). request_no P Q o n a) (headed_both P Q h e z).nq_is))

    pub page_asked : (k ≡ 0 → ⊥) → r ≡ page_refused k → PageDone P Q o a ws r ws
    page_asked ne f = stops k (after ∙ first_stops k _ ne) ne f

    module _ (y : k ≡ 0) (w : ℕ) (as_many : w ≡ words_for h.np) where
      needed : w ≡ need P
      needed = as_many ∙ ap words_for (headed_both P Q h e z).np_is

      last : page_no P Q o a (length ws) ≡ bits_no (need P) (length ws)
      last = after ∙ first_passes k _ y ∙ first_last _

      pub page_short : length ws < w → r ≡ page_refused 24 → PageDone P Q o a ws r ws
      page_short short f = stops 24 (last ∙ bits_short (need P) (length ws) (omega (arith, needed))) (λ x. omega arith) f

      pub page_made_lem : w ≤ length ws → r ≡ Given P Q o a (length ws) → (b : List ℕ) → b ≡ none (length (take w ws)) → PageDone P Q o a ws r (b ++ drop w ws)
      unfolding page_bits
      page_made_lem fits f b g =
          let no : page_no P Q o a (length ws) ≡ 0 = last ∙ bits_enough (need P) (length ws) (omega (arith, needed)) in
          (f ∙ sym (page_answered P Q o a (length ws) no), part_wiped ws b w fits g ∙ ap (λ (n : ℕ). wiped n ws) needed ∙ wiped_given ws (need P) _ no)

pub source_read : (P Q : List ℤ) (t : Terms) (a b : ℕ) → a ≡ num (edition P) → b ≡ num (edition Q) → record { p_edition = a; q_edition = b; terms = t } ≡ source_of P Q t
unfolding source_of
source_read P Q t a b e f = λ i. record { p_edition = e i; q_edition = f i; terms = t }

-- the page maker's draft, as the answer has it
module _ {P Q : List ℤ} {np mp nq mq : ℕ} (p_opens : Opens P np mp) (q_opens : Opens Q nq mq) (a : Terms) (al : Alone a P Q) (o : List ℕ) (key : Key) (size : ℕ) (few : size ≤ 16) where
  pub page_given_lem : (words : ℕ) → words ≡ words_for np → (d : Draft) → d ≡ page_made (page_walks a o words P Q np) key size np nq → (s : Source) → s ≡ source_of P Q a → (g : Page) → g ≡ page_from s key d
      → record { number = 0; opened = d.opened; page = g } ≡ page_given a o P Q key size
  unfolding page_given
  page_given_lem words we d ed s es g eg =
      let w : ℕ → ℕ → Walks = λ v n. page_walks a o v P Q n in
      let hold : np ≤ 64 * words = omega (arith, we, words_enough np) in
      let opened : d.opened ≡ page_opened (w (need P) (points P)) key size (points P) (points Q) = ap (λ (x : Draft). x.opened) ed ∙ join_page_opened p_opens q_opens a al words hold o key size ∙ ap (λ (v : ℕ). page_opened (w v np) key size np nq) we ∙ ap (λ (n : ℕ). page_opened (w (words_for n) n) key size n nq) (sym p_opens.n_is) ∙ ap (page_opened (w (need P) (points P)) key size (points P)) (sym q_opens.n_is) in
      let page : g ≡ page_of (source_of P Q a) (list_for a o (points_of P) (points_of Q)) key size = eg ∙ ap (λ (x : Source). page_from x key d) es ∙ ap (page_from (source_of P Q a) key) ed ∙ join_page_pairs p_opens q_opens a al words hold o (source_of P Q a) key size few in
      λ i. record { number = 0; opened = opened i; page = page i }

-- a list of two sheets
pub of_two : (a : Terms) → a.own ≡ false → (P Q : List ℤ) → Alone a P Q
of_two a f P Q = record { one = λ e. absurd (true≢false (sym e ∙ f)); no_t = λ e. absurd (true≢false (sym e ∙ f)) }

-- a page, answered by an asker of any terms that serves every key in range: following the answers from (0, 0), whatever their sizes from 1 to 16, gives the terms' list, each pair once
module _ (a : Terms) (o : List ℕ) (P Q : List ℤ) (p_opens : Opens P (points P) (nodes P)) (q_opens : Opens Q (points Q) (nodes Q)) (ask : Key → ℕ → Paged)
    (served : (k : Key) (n : ℕ) → k.q ≤ last_id → k.p ≤ last_id → 1 ≤ n → n ≤ 16 → ask k n ≡ page_given a o P Q k n) where
  pub followed_list : (sizes : ℕ → ℕ) → ((i : ℕ) → size_no (sizes i) ≡ 0)
      → followed (length (list_for a o (points_of P) (points_of Q))) sizes (λ k n. (ask k n).page) start ≡ list_for a o (points_of P) (points_of Q)
  unfolding page_given
  followed_list sizes s =
      let rp = points_rise p_opens in
      let rq = points_rise q_opens in
      let l = list_for a o (points_of P) (points_of Q) in
      let fit : (i : ℕ) → (1 ≤ sizes i) × (sizes i ≤ 16) = λ i. size_fits (sizes i) (s i) in
      asked_pages (λ k. (k.q ≤ last_id) × (k.p ≤ last_id)) (λ k n. (ask k n).page) (source_of P Q a) l
      (λ v m. for_keys a o (points_of P) (points_of Q) rp rq v m) (length l) sizes start (omega arith, omega arith)
      (λ i k x. ap (λ (r : Paged). r.page) (served k (sizes i) x.0 x.1 (fit i).0 (fit i).1))
      ∙ sheet_pages p_opens q_opens a o sizes (source_of P Q a) (λ i. (fit i).0)

module _ (P Q : List ℤ) (opens : sheets_no P Q ≡ 0) (len : ℕ) (enough : need P ≤ len) where
  p_opens : Opens P (points P) (nodes P)
  p_opens = sheet_facts P (both_open P Q opens).0

  q_opens : Opens Q (points Q) (nodes Q)
  q_opens = sheet_facts Q (both_open P Q opens).1

  pub ring_pages_list : (c : ℕ) → c ≤ 2 → (o : List ℕ) → owners_no c o (points Q) ≡ 0 → (g : Bool) → grid_no g P Q ≡ 0 → (t : ℕ) → t ≤ last_threshold → (sizes : ℕ → ℕ) → ((i : ℕ) → size_no (sizes i) ≡ 0)
      → followed (length (list_for (of_contractor c (with_by g t)) o (points_of P) (points_of Q))) sizes (λ k n. (page_answer P Q o (request_of (of_contractor c (with_by g t)) k n) len).page) start ≡ list_for (of_contractor c (with_by g t)) o (points_of P) (points_of Q)
  ring_pages_list c whose o bytes g forms t most sizes s =
      let a = of_contractor c (with_by g t) in
      followed_list a o P Q p_opens q_opens (λ k n. page_answer P Q o (request_of a k n) len) (λ k n x y u v. ring_page_served P Q o (request_of a k n) len opens whose bytes forms x y u v most enough) sizes s

-- sheets with the same points give the same pairs, number and end mark of every page, whatever their editions and trees
module _ (a : Terms) (o : List ℕ) (P P' Q Q' : List ℤ) (key : Key) (size : ℕ) (ep : points_of P ≡ points_of P') (eq : points_of Q ≡ points_of Q') (r r' : Paged) (e : r ≡ page_given a o P Q key size) (e' : r' ≡ page_given a o P' Q' key size) where
  pub given_by_points : (r.page.pairs ≡ r'.page.pairs) × (r.page.count ≡ r'.page.count) × (r.page.end ≡ r'.page.end)
  unfolding page_given
  given_by_points =
      let l = join_list_by_points P P' Q Q' ep eq a o (source_of P Q a) (source_of P' Q' a) key size in
      (ap (λ (x : Paged). x.page.pairs) e ∙ l.0 ∙ sym (ap (λ (x : Paged). x.page.pairs) e'), ap (λ (x : Paged). x.page.count) e ∙ l.1 ∙ sym (ap (λ (x : Paged). x.page.count) e'), ap (λ (x : Paged). x.page.end) e ∙ l.2 ∙ sym (ap (λ (x : Paged). x.page.end) e'))
