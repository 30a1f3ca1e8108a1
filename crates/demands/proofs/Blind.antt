-- Request 11: "What one contractor is handed may not depend on the ids of the other's chambers: if only these change, each record keeping its place and owner though its position may move,
-- both sheets opening in both runs, equal requests give the first contractor equal pages or refusals." In terms of what the page request answers in the two runs.
--
--     blind_page     the number and the page are the same, and so are the lent words at its exit
--     blind_book     so a book that is in one state takes the two pages alike
--     blind_pairs    the same of many pairs at once: the whole answer, the slots and the lent words at its exit.  blind_count: and of their number
--     blind_busiest  the same of the busiest chambers: the whole answer and the lent words at its exit
--     blind_urgent   and of the most urgent visits, whatever scores in range the other's chambers have.  scores_kept: also where each chamber keeps its score
-- Assumes nothing.
use mathlib.Core.Path.{◌≡◌, sym, ap, ap₂, ◌∙◌}
use mathlib.Core.Bool.{Bool, true, false, not, ◌&&◌, ◌||◌}
use mathlib.Core.List.{List, [], ◌∷◌, map, Memᴰ}
use Prim.Native.Nat.{ℕ, ◌<◌}
use lib.Dec.{leb}
use lib.IntN.{ℤ, pos}
use lib.ListN.{length, get_or}
use Rattle.words.specs.First.{given, first, answer}
use Rattle.words.specs.Word.{eq_z}
use Rattle.integers.proofs.Bools.{and_left}
use Rattle.plane.specs.Point.{Point, id_at}
use Rattle.sheet.specs.Layout.{points}
use Rattle.sheet.specs.Places.{points_of}
use Rattle.sheet.specs.Open.{sheet_no}
use Rattle.sheet.proofs.SheetLaws.{sheet_facts}
use Rattle.sheet.proofs.PointsLaws.{length_points}
use Rattle.bits.specs.Set.{words_for}
use Rattle.list.specs.declared.Pair.{Pair}
use Rattle.list.specs.declared.Request.{Request}
use Rattle.list.specs.declared.Terms.{Terms}
use Rattle.list.specs.Contractor.{mine, Renamed}
use Rattle.list.specs.Pairs.{after}
use Rattle.list.specs.Pages.{size_no, threshold_no, contractor_no, owners_no}
use Rattle.list.specs.Rows.{at_least}
use Rattle.list.specs.RingList.{pair_by}
use Rattle.list.specs.Terms.{profile_for}
use Rattle.list.proofs.BlindLaws.{same_owners}
use Rattle.list.proofs.RowLaws.{rises_far}
use Rattle.join.proofs.Meaning.{points_rise}
use Rattle.ring.specs.declared.Paged.{Paged}
use Rattle.ring.specs.Blind.{SameSeen}
use Rattle.ring.specs.Lent.{need, bits_no, wiped_by}
use Rattle.ring.specs.Numbers.{grid_no}
use Rattle.ring.specs.Page.{key_no}
use Rattle.ring.proofs.HeadLaws.{sheets_both}
use Rattle.ring.proofs.BlindLaws as of-blind
use Rattle.book.specs.declared.Book.{Book}
use Rattle.book.specs.declared.Taken.{Taken}
use Rattle.book.specs.Rules.{taken, taken_slots}
use Rattle.chamber.specs.Sized.{small_for, listed_to, list_to}
use Rattle.many.specs.declared.Which.{Which}
use Rattle.many.specs.declared.Wanted.{Wanted}
use Rattle.many.specs.declared.Counted.{Counted}
use Rattle.many.specs.declared.Many.{Many}
use Rattle.many.specs.Many.{largest_no, wanted_terms, which_terms, pairs_no, count_no, pairs_list, many_given, many_refused, stored, pairs_answer, pairs_slots, pairs_bits, count_given, count_refused, count_answer, count_bits}
use Rattle.ranked.specs.declared.Question.{Question}
use Rattle.ranked.specs.declared.Rank.{Rank}
use Rattle.ranked.specs.declared.Busy.{Busy}
use Rattle.ranked.specs.declared.Visit.{Visit}
use Rattle.ranked.specs.declared.Urgent.{Urgent}
use Rattle.sorting.specs.Ranking.{first_by}
use Rattle.ranked.specs.Busiest.{busier, chamber_ranks, asked_terms, asked_list, busy_no, busy_given, busy_refused, busiest_of, busy_answer, busy_bits}
use Rattle.ranked.specs.Urgent.{ahead, last_score, scores_no, visit_of, urgent_no, urgent_given, urgent_refused, urgent_of, urgent_answer, urgent_bits}
use Rattle.ranked.specs.Blind.{Rescored}
use Rattle.ranked.proofs.BlindLaws.{blind_ranks, blind_scored, blind_visits}
use Rattle.demands.specs.Promises.{PageAnswers, TakeAnswers, PairsAnswers, CountAnswers, BusyAnswers, UrgentAnswers}
use Rattle.demands.proofs.SizedLaws.{sized_blind, to_only}

-- Where each chamber keeps its score, the scores of the two runs are as `blind_urgent` asks. [BU12]
pub scores_kept : (c : ℕ) (Q : List Point) (o : List ℕ) (Q' : List Point) (o' : List ℕ) (r : Renamed c Q o Q' o') (s s' : List ℕ) → length s ≡ length s' → ((j : ℕ) → j < length Q → get_or s' (r.to j) 0 ≡ get_or s j 0) → Rescored c Q o Q' o' r s s'
scores_kept c Q o Q' o' r s s' n keeps = record { as_many = n; in_range = λ j h. ap (λ (x : ℕ). leb x last_score) (keeps j h); own_score = λ j h e. keeps j h }

-- Two runs: P, Q and the owner bytes o in the first, P', Q' and o' in the second. All four sheets open. P holds the same points in both, Q those of `Renamed c`: each record has its place and its owner
-- in both, and its id where it is contractor c's; its position may move. Each sheet has one edition and one form in both, and may be packed in any way in either.
module _ (c : ℕ) (one : c < 2) (P Q : List ℤ) (o : List ℕ) (P' Q' : List ℤ) (o' : List ℕ)
    (p_opens : sheet_no P ≡ 0) (q_opens : sheet_no Q ≡ 0) (p-opens' : sheet_no P' ≡ 0) (q-opens' : sheet_no Q' ≡ 0)
    (p_points : points_of P ≡ points_of P') (p-seen : SameSeen P P') (q-seen : SameSeen Q Q') (renamed : Renamed c (points_of Q) o (points_of Q') o') where
  -- "equal requests give the first contractor equal pages or refusals": any request of contractor c, also one that is refused, and one whose key names a chamber of the other's; with as many words lent.
  -- "opened counts go to us only": of them nothing is said. [U5]
  pub blind_page : (ask : Request) → ask.contractor ≡ c → (w : List ℕ) (r r' : Paged) (t t' : List ℕ) → PageAnswers P Q o ask w r t → PageAnswers P' Q' o' ask w r' t'
      → (r.number ≡ r'.number) × (r.page ≡ r'.page) × (t ≡ t')
  blind_page ask is w r r' t t' a b =
      of-blind.blind c one P Q o P' Q' o' (sheets_both P Q p_opens q_opens) (sheets_both P' Q' p-opens' q-opens') p_points p-seen q-seen renamed ask is w r r' t t' a.promised b.promised

  -- "Two firms now work [..] each with its own book": what the contractor's book makes of the page is then the same, too [U6]
  pub blind_book : (ask : Request) → ask.contractor ≡ c → (w : List ℕ) (r r' : Paged) (t t' : List ℕ) → PageAnswers P Q o ask w r t → PageAnswers P' Q' o' ask w r' t'
      → (b : Book) (s : List Pair) (x x' : Taken) (s₁ s₁' : List Pair) → TakeAnswers b s r.page x s₁ → TakeAnswers b s r'.page x' s₁' → (x ≡ x') × (s₁ ≡ s₁')
  blind_book ask is w r r' t t' a d b s x x' s₁ s₁' y z =
      let g = (blind_page ask is w r r' t t' a d).1 in
      (y.0 ∙ ap (taken b s) g ∙ sym z.0, y.1 ∙ ap (taken_slots b s) g ∙ sym z.1)

  -- ---- many pairs at once

  -- the words that P needs are as many
  need_same : need P ≡ need P'
  need_same = ap words_for (sym (length_points P) ∙ ap length p_points ∙ length_points P')

  -- the bytes are refused in both runs or in neither, and so is the street grid
  bytes_same : (d : ℕ) → d ≡ c → owners_no d o (points Q) ≡ owners_no d o' (points Q')
  bytes_same d is =
      ap₂ (λ (x n : ℕ). owners_no x o n) is (sym (length_points Q)) ∙ same_owners c (points_of Q) o (points_of Q') o' renamed ∙ ap₂ (λ (x n : ℕ). owners_no x o' n) (sym is) (length_points Q')

  grid_same : (g : Bool) → grid_no g P Q ≡ grid_no g P' Q'
  unfolding grid_no
  grid_same g = ap₂ (λ (x y : ℤ). given (g && (eq_z x (pos 2) || eq_z y (pos 2))) 29) p-seen.forms q-seen.forms

  -- the contractor's list to a size is the same
  sized_same : (big : ℕ) (a : Terms) → a.contractor ≡ c → list_to big a o (points_of P) (points_of Q) ≡ list_to big a o' (points_of P') (points_of Q')
  sized_same big a is =
      sized_blind c (points_of Q) o (points_of Q') o' renamed one big a is (points_of P) (points_rise (sheet_facts P p_opens)) (points_rise (sheet_facts Q q_opens)) (points_rise (sheet_facts Q' q-opens'))
      ∙ ap (λ (x : List Point). list_to big a o' x (points_of Q')) p_points

  -- The same of many pairs: any such request of contractor c, also one that is refused, and one whose key names a chamber of the other's, with as many slots and words lent, is answered alike, stores the same, and leaves
  -- the same behind. The answer counts no nodes, so there is nothing in it that is not handed on. [MP11]
  pub blind_pairs : (ask : Wanted) → ask.contractor ≡ c → (slots : List Pair) (w : List ℕ) (r r' : Many) (s s' : List Pair) (t t' : List ℕ) → PairsAnswers P Q o ask slots w r s t → PairsAnswers P' Q' o' ask slots w r' s' t'
      → (r ≡ r') × (s ≡ s') × (t ≡ t')
  unfolding pairs_answer pairs_slots pairs_bits pairs_no pairs_list
  blind_pairs ask is slots w r r' s s' t t' a b =
      let len = length w in
      let p = p_opens ∙ sym p-opens' in
      let q = q_opens ∙ sym q-opens' in
      let nr : pairs_no P Q o ask len ≡ pairs_no P' Q' o' ask len =
      λ i. first (p i ∷ q i ∷ contractor_no false ask.contractor ∷ bytes_same ask.contractor is i ∷ grid_same ask.grid i ∷ key_no ask.key ∷ threshold_no ask.threshold ∷ largest_no ask.largest ∷ bits_no (need_same i) len ∷ []) in
      let l : pairs_list P Q o ask ≡ pairs_list P' Q' o' ask = ap (after ask.key) (sized_same ask.largest (wanted_terms ask) is) in (
        a.0 ∙ ap₂ (λ (k : ℕ) (x : List Pair). answer k (many_given (length slots) x) many_refused) nr l ∙ sym b.0,
        a.1 ∙ ap₂ (λ (k : ℕ) (x : List Pair). answer k (stored slots x) (λ n. slots)) nr l ∙ sym b.1,
        a.2 ∙ ap₂ (λ (k n : ℕ). wiped_by k n w) nr need_same ∙ sym b.2,
      )

  -- and so is their number [MP11]
  pub blind_count : (which : Which) → which.contractor ≡ c → (w : List ℕ) (r r' : Counted) (t t' : List ℕ) → CountAnswers P Q o which w r t → CountAnswers P' Q' o' which w r' t' → (r ≡ r') × (t ≡ t')
  unfolding count_answer count_bits count_no count_given
  blind_count which is w r r' t t' a b =
      let len = length w in
      let p = p_opens ∙ sym p-opens' in
      let q = q_opens ∙ sym q-opens' in
      let nr : count_no P Q o which len ≡ count_no P' Q' o' which len =
      λ i. first (p i ∷ q i ∷ contractor_no false which.contractor ∷ bytes_same which.contractor is i ∷ grid_same which.grid i ∷ threshold_no which.threshold ∷ largest_no which.largest ∷ bits_no (need_same i) len ∷ []) in
      let l = sized_same which.largest (which_terms which) is in (
        a.promised.0 ∙ ap₂ (λ (k : ℕ) (x : List Pair). answer k (record { number = 0; count = length x }) count_refused) nr l ∙ sym b.promised.0,
        a.promised.1 ∙ ap₂ (λ (k n : ℕ). wiped_by k n w) nr need_same ∙ sym b.promised.1,
      )

  -- ---- the first of the list in an order

  q_rises : (x y : ℕ) → x < y → y < length (points_of Q) → id_at (points_of Q) x < id_at (points_of Q) y
  q_rises = rises_far (id_at (points_of Q)) (length (points_of Q)) (points_rise (sheet_facts Q q_opens))

  q_rises' : (x y : ℕ) → x < y → y < length (points_of Q') → id_at (points_of Q') x < id_at (points_of Q') y
  q_rises' = rises_far (id_at (points_of Q')) (length (points_of Q')) (points_rise (sheet_facts Q' q-opens'))

  asked_same : (ask : Question) → ask.contractor ≡ c → asked_list P Q o ask ≡ asked_list P' Q' o' ask
  unfolding asked_list
  asked_same ask is = sized_same ask.largest (asked_terms ask) is

  -- the contractor's chambers, each with its number of pairs in its list, are the same
  own_ranks_same : (ask : Question) → ask.contractor ≡ c → chamber_ranks ask.contractor o (points_of Q) (asked_list P Q o ask) ≡ chamber_ranks ask.contractor o' (points_of Q') (asked_list P' Q' o' ask)
  own_ranks_same ask is =
      ap (λ (x : ℕ). chamber_ranks x o (points_of Q) (asked_list P Q o ask)) is
      ∙ blind_ranks c one (points_of Q) o (points_of Q') o' renamed q_rises q_rises' (asked_list P Q o ask)
      ∙ ap₂ (λ (x : ℕ) (m : List Pair). chamber_ranks x o' (points_of Q') m) (sym is) (asked_same ask is)

  -- The same of the busiest chambers: any such question of contractor c, also one that is refused, with as many words lent, is answered alike and leaves the same behind. The contractor's chambers that are in no
  -- pair are its own, so nothing in the answer is the other's. [BU12]
  pub blind_busiest : (ask : Question) → ask.contractor ≡ c → (w : List ℕ) (r r' : Busy) (t t' : List ℕ) → BusyAnswers P Q o ask w r t → BusyAnswers P' Q' o' ask w r' t' → (r ≡ r') × (t ≡ t')
  unfolding busy_answer busy_bits busy_no busiest_of
  blind_busiest ask is w r r' t t' a b =
      let len = length w in
      let p = p_opens ∙ sym p-opens' in
      let q = q_opens ∙ sym q-opens' in
      let nr : busy_no P Q o ask len ≡ busy_no P' Q' o' ask len =
      λ i. first (p i ∷ q i ∷ contractor_no false ask.contractor ∷ bytes_same ask.contractor is i ∷ grid_same ask.grid i ∷ size_no ask.k ∷ largest_no ask.largest ∷ bits_no (need_same i) len ∷ []) in
      let l : busiest_of P Q o ask ≡ busiest_of P' Q' o' ask = ap (first_by busier ask.k) (own_ranks_same ask is) in (
        a.promised.0 ∙ ap₂ (λ (k : ℕ) (x : List Rank). answer k (busy_given x) busy_refused) nr l ∙ sym b.promised.0,
        a.promised.1 ∙ ap₂ (λ (k n : ℕ). wiped_by k n w) nr need_same ∙ sym b.promised.1,
      )

  -- The scores of P are the same in both runs, as its points are. Those of Q go with the records, or differ in the other's chambers besides, in range: `Rescored`.
  module _ (ps qs qs' : List ℕ) (rescored : Rescored c (points_of Q) o (points_of Q') o' renamed qs qs') where
    -- each pair of the list has a chamber of the contractor's
    own_pair : (ask : Question) → ask.contractor ≡ c → (v : Pair) → Memᴰ v (asked_list P Q o ask) → (j : ℕ) × (j < length (points_of Q)) × (mine c o j ≡ true) × (v.q ≡ id_at (points_of Q) j)
    unfolding asked_list listed_to
    own_pair ask is v m =
        let a = asked_terms ask in
        let z = to_only ask.largest a o (points_of P) (points_of Q) (points_rise (sheet_facts P p_opens)) (points_rise (sheet_facts Q q_opens)) v m in
        let rule : ℕ → ℕ → Bool = at_least (small_for ask.largest a (points_of P) (points_of Q)) (pair_by (profile_for a) (points_of P) (points_of Q)) a.threshold (length (points_of P)) in
        (z.at_q, z.q_in, ap (λ (x : ℕ). mine x o z.at_q) (sym is) ∙ and_left (mine ask.contractor o z.at_q) (rule z.at_q z.at_p) z.holds, ap (λ (x : Pair). x.q) z.is)

    visits_same : (ask : Question) → ask.contractor ≡ c → map (visit_of (points_of P) (points_of Q) ps qs) (asked_list P Q o ask) ≡ map (visit_of (points_of P') (points_of Q') ps qs') (asked_list P' Q' o' ask)
    visits_same ask is =
        blind_visits c one (points_of Q) o (points_of Q') o' renamed q_rises q_rises' qs qs' rescored (points_of P) ps (asked_list P Q o ask) (own_pair ask is)
        ∙ ap₂ (λ (x : List Point) (l : List Pair). map (visit_of x (points_of Q') ps qs') l) p_points (asked_same ask is)

    -- the scores are refused in both runs or in neither
    p_scores_same : scores_no 41 ps (points P) ≡ scores_no 41 ps (points P')
    p_scores_same = ap (scores_no 41 ps) (sym (length_points P) ∙ ap length p_points ∙ length_points P')

    q_scores_same : scores_no 42 qs (points Q) ≡ scores_no 42 qs' (points Q')
    unfolding scores_no
    q_scores_same =
        ap (λ (n : ℕ). scores_no 42 qs n) (sym (length_points Q))
        ∙ ap (λ (x : Bool). given (not x) 42) (blind_scored c one (points_of Q) o (points_of Q') o' renamed q_rises q_rises' qs qs' rescored)
        ∙ ap (λ (n : ℕ). scores_no 42 qs' n) (length_points Q')

    -- The same of the most urgent visits. [BU12]
    pub blind_urgent : (ask : Question) → ask.contractor ≡ c → (w : List ℕ) (r r' : Urgent) (t t' : List ℕ) → UrgentAnswers P Q o ps qs ask w r t → UrgentAnswers P' Q' o' ps qs' ask w r' t' → (r ≡ r') × (t ≡ t')
    unfolding urgent_answer urgent_bits urgent_no urgent_of
    blind_urgent ask is w r r' t t' a b =
        let len = length w in
        let p = p_opens ∙ sym p-opens' in
        let q = q_opens ∙ sym q-opens' in
        let nr : urgent_no P Q o ps qs ask len ≡ urgent_no P' Q' o' ps qs' ask len =
        λ i. first (p i ∷ q i ∷ contractor_no false ask.contractor ∷ bytes_same ask.contractor is i ∷ grid_same ask.grid i ∷ size_no ask.k ∷ largest_no ask.largest ∷ p_scores_same i ∷ q_scores_same i ∷ bits_no (need_same i) len ∷ []) in
        let l : urgent_of P Q o ps qs ask ≡ urgent_of P' Q' o' ps qs' ask = ap (first_by ahead ask.k) (visits_same ask is) in (
          a.promised.0 ∙ ap₂ (λ (k : ℕ) (x : List Visit). answer k (urgent_given x) urgent_refused) nr l ∙ sym b.promised.0,
          a.promised.1 ∙ ap₂ (λ (k n : ℕ). wiped_by k n w) nr need_same ∙ sym b.promised.1,
        )
