-- The busiest chambers and pump houses, and the most urgent visits: "the k chambers with the most ring partners, in order, ties by id, k 1 to 16, fewer if there are fewer, each with its number of
-- partners, those with none too; and the same of pump houses"; "the k ring pairs with the highest sum of scores among those of at most a given size, ties by q id and then p id".
-- For every two sheets that open, and in terms of what the shipped calls answer for them. `Sized` is the list to a size, of which Many speaks; `chamber_pairs id l` and `pump_pairs id l` are the pairs of a list
-- with that chamber, with that pump house.
--
--     busiest_served, pumps_served, urgent_served     what is in range is served
--     busiest_given      k rows, or as many as the contractor has chambers; unused ones are zeros.  pumps_given: or as many as there are pump houses.  urgent_given_lem: or as many as the list has pairs
--     busiest_each       each row is one of the contractor's chambers, with as many pairs as the list has of it.  pumps_each: a pump house.  urgent_listed: a pair of the list, with the sum of its scores
--     busiest_order, pumps_order, urgent_order     in order: each row stands before those given after it, so none is given twice
--     busiest_first      and before each of the contractor's chambers that is not given.  pumps_first: each pump house.  urgent_first: each pair of the list
--     urgent_score       the score of a row is the sum of the two that were lent for its positions
-- Assumes nothing.
use mathlib.Core.Path.{◌≡◌, refl, sym, ap, subst, ◌∙◌}
use mathlib.Core.Bool.{Bool, true}
use mathlib.Core.List.Memᴰ
use mathlib.Core.List.{List, [], map, Memᴰ}
use Prim.Native.Nat.{ℕ, min, ◌+◌, ◌-◌, ◌≤◌, ◌<◌}
use native.Mathlib.Omega.{arith}
use lib.IntN.{ℤ}
use lib.ListN.{length, take, drop, get_or, replicate, length-map}
use lib.Seq.{drop-append_seam}
use borrow.Author.Tests.{le-ltb}
use Rattle.words.specs.First.{given, first}
use Rattle.words.proofs.FirstLaws.{answer_given}
use Rattle.plane.specs.Point.{id_at}
use Rattle.sheet.specs.Layout.{points, nodes}
use Rattle.sheet.specs.Places.{points_of}
use Rattle.sheet.proofs.SheetLaws.{sheet_facts}
use Rattle.list.specs.declared.Pair.{Pair}
use Rattle.list.specs.Pairs.{start, chamber_pairs}
use Rattle.list.specs.Contractor.{mine}
use Rattle.list.specs.Terms.{with_by}
use Rattle.list.proofs.PageLaws.{size_taken}
use Rattle.list.proofs.ContractorLaws.{contractor_fits}
use Rattle.list.proofs.RowLaws.{rises_far}
use Rattle.join.proofs.Meaning.{points_rise}
use Rattle.ring.specs.Lent.{need}
use Rattle.ring.specs.Numbers.{grid_no}
use Rattle.ring.proofs.LentLaws.{bits_enough}
use Rattle.chamber.specs.Sized.{list_to}
use Rattle.many.specs.Many.{last_largest, largest_no}
use Rattle.ranked.specs.declared.Question.{Question}
use Rattle.ranked.specs.declared.Rank.{Rank}
use Rattle.ranked.specs.declared.Busy.{Busy}
use Rattle.ranked.specs.declared.Visit.{Visit}
use Rattle.ranked.specs.declared.Urgent.{Urgent}
use Rattle.sorting.specs.Ranking.{first_by, sixteen, Apart}
use Rattle.ranked.specs.Busiest.{busier, Busier, no_rank, pump_pairs, chamber_rank, pump_rank, chamber_ranks, pump_ranks, asked_terms, asked_list, busy_no, pump_no, busy_given, busy_refused, busiest_of, busiest_pumps, busy_answer, pump_answer}
use Rattle.ranked.specs.Urgent.{ahead, Ahead, no_visit, score_of, scores_ok, scores_no, visit_of, urgent_no, urgent_given, urgent_refused, urgent_of, urgent_answer}
use Rattle.sorting.proofs.HeldLaws.{at_sixteen, of_sixteen}
use Rattle.ranked.proofs.RanksLaws.{busier_order, busier_says, ranks_only, ranks_there, ranks_apart}
use Rattle.ranked.proofs.ScoresLaws.{scores_scored}
use Rattle.ranked.proofs.VisitsLaws.{ahead_order, ahead_says, map_only, visits_apart, visit_pair, score_of_lem}
use Rattle.sorting.proofs.FirstMeaning.{first_long, ranked_only, first_rises, first_ahead}
use Rattle.demands.specs.Promises.{BusyAnswers, PumpAnswers, UrgentAnswers}
use Rattle.demands.proofs.Demand1.{busy_no_lem, pump_no_lem, urgent_no_lem}
use Rattle.demands.proofs.Demand2.{WellFormed, Whose}
use Rattle.demands.proofs.SizedLaws.{to_ascends}

-- ---- ranks that were given

module _ (k : ℕ) (l : List Rank) (r : Busy) (is : r ≡ busy_given (first_by busier k l)) where
  firsts : List Rank
  firsts = first_by busier k l

  -- the rows given
  abbrev pub given_ranks : List Rank
  given_ranks = take r.count r.rows

  count_is : r.count ≡ length firsts
  unfolding busy_given firsts
  count_is = ap (λ (x : Busy). x.count) is

  rows_are : r.rows ≡ sixteen no_rank firsts
  unfolding busy_given firsts
  rows_are = ap (λ (x : Busy). x.rows) is

  ranks_are : given_ranks ≡ first_by busier k l
  unfolding firsts
  ranks_are = (λ t. take (count_is t) (rows_are t)) ∙ of_sixteen busier no_rank (first_by busier k l)

  at_is : (b : ℕ) → b < r.count → get_or r.rows b no_rank ≡ get_or (first_by busier k l) b no_rank
  unfolding firsts
  at_is b h = ap (λ (t : List Rank). get_or t b no_rank) rows_are ∙ at_sixteen busier no_rank (first_by busier k l) b (omega (arith, count_is))

  ranks_given : (r.number ≡ 0) × (r.count ≡ min k (length l)) × (drop r.count r.rows ≡ replicate (16 - r.count) no_rank)
  unfolding busy_given firsts sixteen
  ranks_given = (
    ap (λ (x : Busy). x.number) is,
    count_is ∙ first_long busier k l,
    (λ t. drop (count_is t) (rows_are t)) ∙ drop-append_seam (first_by busier k l) _ ∙ ap (λ (n : ℕ). replicate (16 - n) no_rank) (sym count_is),
  )

  ranks_listed : (v : Rank) → Memᴰ v given_ranks → Memᴰ v l
  ranks_listed v m = ranked_only busier k l v (subst (Memᴰ v) ranks_are m)

  module _ (a : Apart busier l) where
    ranks_order : (b c : ℕ) → b < c → c < r.count → Busier (get_or r.rows b no_rank) (get_or r.rows c no_rank)
    unfolding firsts
    ranks_order b c h g = rw (at_is b (omega arith), at_is c g) (busier_says _ _ (first_rises busier busier_order k l a no_rank b c h (omega (arith, count_is))))

    ranks_first : (v w : Rank) → Memᴰ v l → (Memᴰ v given_ranks → ⊥) → Memᴰ w given_ranks → Busier w v
    ranks_first v w m out n = busier_says w v (first_ahead busier busier_order k l a v w m (λ x. out (subst (Memᴰ v) (sym ranks_are) x)) (subst (Memᴰ w) ranks_are n))

-- ---- the busiest chambers

module _ (P Q : List ℤ) (p_opens : WellFormed P) (q_opens : WellFormed Q) (o : List ℕ) (ask : Question) (w : List ℕ) (r : Busy) (w' : List ℕ) (a : BusyAnswers P Q o ask w r w') where
  -- k from 1 to 16, a contractor with its owner bytes, a largest size in range, sheets of form 1 for the street grid, and words enough are served [BU10]
  pub busiest_served : 1 ≤ ask.k → ask.k ≤ 16 → Whose ask.contractor o (points Q) → ask.largest ≤ last_largest → grid_no ask.grid P Q ≡ 0 → need P ≤ length w → r.number ≡ 0
  unfolding busy_no largest_no first given
  busiest_served some most of-whom fits forms enough =
      (busy_no_lem P Q o ask w r w' a).0
      ∙ rw (p_opens, q_opens, contractor_fits ask.contractor of-whom.whose, of-whom.bytes, forms, size_taken ask.k some most, le-ltb last_largest ask.largest fits, bits_enough (need P) (length w) enough)

  module _ (fine : r.number ≡ 0) where
    -- the list to the size, of the contractor
    abbrev pub Listed : List Pair
    Listed = list_to ask.largest (asked_terms ask) o (points_of P) (points_of Q)

    -- the contractor's chambers, each with its number of pairs in it
    abbrev pub Ranked : List Rank
    Ranked = chamber_ranks ask.contractor o (points_of Q) Listed

    busy_is : r ≡ busy_given (first_by busier ask.k Ranked)
    unfolding busy_answer busiest_of asked_list
    busy_is = a.promised.0 ∙ answer_given (busy_given (busiest_of P Q o ask)) busy_refused (busy_no P Q o ask (length w)) (sym (busy_no_lem P Q o ask w r w' a).0 ∙ fine)

    busy_apart : Apart busier Ranked
    unfolding chamber_ranks
    busy_apart = ranks_apart (mine ask.contractor o) (λ j. chamber_rank Listed (id_at (points_of Q) j)) (length (points_of Q)) (λ x y h g. rises_far (id_at (points_of Q)) (length (points_of Q)) (points_rise (sheet_facts Q q_opens)) x y h g) (length (points_of Q)) 0 (omega arith)

    -- the rows given
    abbrev pub Busiest : List Rank
    Busiest = take r.count r.rows

    -- "k 1 to 16, fewer if there are fewer" [BU1, BU3]
    pub busiest_given : (r.count ≡ min ask.k (length Ranked)) × (drop r.count r.rows ≡ replicate (16 - r.count) no_rank)
    busiest_given = let z = ranks_given ask.k Ranked r busy_is in (z.1, z.2)

    -- "each with its number of partners": each row is one of the contractor's chambers, and as many pairs of the list have its id [BU1, BU4]
    pub busiest_each : (v : Rank) → Memᴰ v Busiest → (j : ℕ) × (j < length (points_of Q)) × (mine ask.contractor o j ≡ true) × (v.id ≡ id_at (points_of Q) j) × (v.pairs ≡ length (chamber_pairs v.id Listed))
    unfolding chamber_ranks
    busiest_each v m =
        let z = ranks_only (mine ask.contractor o) (λ j. chamber_rank Listed (id_at (points_of Q) j)) (length (points_of Q)) 0 v (ranks_listed ask.k Ranked r busy_is v m) in
        (z.place, omega (arith, z.to), z.taken, ap (λ (x : Rank). x.id) z.is, ap (λ (x : Rank). x.pairs) z.is ∙ sym (ap (λ (x : Rank). length (chamber_pairs x.id Listed)) z.is))

    -- "in order, ties by id" [BU1, BU2]
    pub busiest_order : (b c : ℕ) → b < c → c < r.count → Busier (get_or r.rows b no_rank) (get_or r.rows c no_rank)
    busiest_order = ranks_order ask.k Ranked r busy_is busy_apart

    -- "the k chambers with the most ring partners": one of the contractor's chambers that is not given is less busy than each that is, whether it has any pair or none
    -- [BU1, BU2, BU3]
    pub busiest_first : (j : ℕ) → j < length (points_of Q) → mine ask.contractor o j ≡ true → (Memᴰ (chamber_rank Listed (id_at (points_of Q) j)) Busiest → ⊥) → (v : Rank) → Memᴰ v Busiest → Busier v (chamber_rank Listed (id_at (points_of Q) j))
    unfolding chamber_ranks
    busiest_first j h m out v n =
        ranks_first ask.k Ranked r busy_is busy_apart (chamber_rank Listed (id_at (points_of Q) j)) v (ranks_there (mine ask.contractor o) (λ x. chamber_rank Listed (id_at (points_of Q) x)) (length (points_of Q)) 0 j (omega arith) (omega arith) m) out n

-- ---- the busiest pump houses

module _ (P Q : List ℤ) (p_opens : WellFormed P) (q_opens : WellFormed Q) (k big : ℕ) (g : Bool) (w : List ℕ) (r : Busy) (w' : List ℕ) (a : PumpAnswers P Q k big g w r w') where
  -- [BU10]
  pub pumps_served : 1 ≤ k → k ≤ 16 → big ≤ last_largest → grid_no g P Q ≡ 0 → need Q ≤ length w → r.number ≡ 0
  unfolding pump_no largest_no first given
  pumps_served some most fits forms enough =
      (pump_no_lem P Q k big g w r w' a).0
      ∙ rw (p_opens, q_opens, forms, size_taken k some most, le-ltb last_largest big fits, bits_enough (need Q) (length w) enough)

  module _ (fine : r.number ≡ 0) where
    -- the undivided list to the size, of the chambers and pump houses as they were handed in
    abbrev pub Undivided : List Pair
    Undivided = list_to big (with_by g 0) [] (points_of P) (points_of Q)

    abbrev pub PumpsRanked : List Rank
    PumpsRanked = pump_ranks (points_of P) Undivided

    pump_given_is : r ≡ busy_given (first_by busier k PumpsRanked)
    unfolding pump_answer busiest_pumps
    pump_given_is = a.promised.0 ∙ answer_given (busy_given (busiest_pumps P Q k big g)) busy_refused (pump_no P Q k big g (length w)) (sym (pump_no_lem P Q k big g w r w' a).0 ∙ fine)

    pump_apart : Apart busier PumpsRanked
    unfolding pump_ranks
    pump_apart = ranks_apart (λ i. true) (λ i. pump_rank Undivided (id_at (points_of P) i)) (length (points_of P)) (λ x y h e. rises_far (id_at (points_of P)) (length (points_of P)) (points_rise (sheet_facts P p_opens)) x y h e) (length (points_of P)) 0 (omega arith)

    abbrev pub BusiestPumps : List Rank
    BusiestPumps = take r.count r.rows

    -- [BU5]
    pub pumps_given : (r.count ≡ min k (length PumpsRanked)) × (drop r.count r.rows ≡ replicate (16 - r.count) no_rank)
    pumps_given = let z = ranks_given k PumpsRanked r pump_given_is in (z.1, z.2)

    -- each row is a pump house, and as many pairs of the list have its id [BU5]
    pub pumps_each : (v : Rank) → Memᴰ v BusiestPumps → (i : ℕ) × (i < length (points_of P)) × (v.id ≡ id_at (points_of P) i) × (v.pairs ≡ length (pump_pairs v.id Undivided))
    unfolding pump_ranks
    pumps_each v m =
        let z = ranks_only (λ i. true) (λ i. pump_rank Undivided (id_at (points_of P) i)) (length (points_of P)) 0 v (ranks_listed k PumpsRanked r pump_given_is v m) in
        (z.place, omega (arith, z.to), ap (λ (x : Rank). x.id) z.is, ap (λ (x : Rank). x.pairs) z.is ∙ sym (ap (λ (x : Rank). length (pump_pairs x.id Undivided)) z.is))

    -- [BU5]
    pub pumps_order : (b c : ℕ) → b < c → c < r.count → Busier (get_or r.rows b no_rank) (get_or r.rows c no_rank)
    pumps_order = ranks_order k PumpsRanked r pump_given_is pump_apart

    -- [BU5]
    pub pumps_first : (i : ℕ) → i < length (points_of P) → (Memᴰ (pump_rank Undivided (id_at (points_of P) i)) BusiestPumps → ⊥) → (v : Rank) → Memᴰ v BusiestPumps → Busier v (pump_rank Undivided (id_at (points_of P) i))
    unfolding pump_ranks
    pumps_first i h out v n =
        ranks_first k PumpsRanked r pump_given_is pump_apart (pump_rank Undivided (id_at (points_of P) i)) v (ranks_there (λ x. true) (λ x. pump_rank Undivided (id_at (points_of P) x)) (length (points_of P)) 0 i (omega arith) (omega arith) refl) out n

-- ---- the most urgent visits

module _ (P Q : List ℤ) (p_opens : WellFormed P) (q_opens : WellFormed Q) (o ps qs : List ℕ) (ask : Question) (w : List ℕ) (r : Urgent) (w' : List ℕ) (a : UrgentAnswers P Q o ps qs ask w r w') where
  -- "a lent score a record, by position, for each sheet (0 to 1,000,000,000)" [BU7, BU10]
  pub urgent_served : 1 ≤ ask.k → ask.k ≤ 16 → Whose ask.contractor o (points Q) → ask.largest ≤ last_largest → grid_no ask.grid P Q ≡ 0 → scores_ok ps (points P) ≡ true → scores_ok qs (points Q) ≡ true → need P ≤ length w → r.number ≡ 0
  unfolding urgent_no largest_no scores_no first given
  urgent_served some most of-whom fits forms p-scores q-scores enough =
      (urgent_no_lem P Q o ps qs ask w r w' a).0
      ∙ rw (p_opens, q_opens, contractor_fits ask.contractor of-whom.whose, of-whom.bytes, forms, size_taken ask.k some most, le-ltb last_largest ask.largest fits, p-scores, q-scores, bits_enough (need P) (length w) enough)

  module _ (fine : r.number ≡ 0) where
    abbrev pub Urged : List Pair
    Urged = list_to ask.largest (asked_terms ask) o (points_of P) (points_of Q)

    -- a pair with the sum of its scores
    abbrev pub scored_visit : Pair → Visit
    scored_visit = visit_of (points_of P) (points_of Q) ps qs

    first_visits : List Visit
    first_visits = first_by ahead ask.k (map scored_visit Urged)

    urgent_is : r ≡ urgent_given first_visits
    unfolding first_visits urgent_answer urgent_of asked_list
    urgent_is = a.promised.0 ∙ answer_given (urgent_given (urgent_of P Q o ps qs ask)) urgent_refused (urgent_no P Q o ps qs ask (length w)) (sym (urgent_no_lem P Q o ps qs ask w r w' a).0 ∙ fine)

    urgent_apart : Apart ahead (map scored_visit Urged)
    urgent_apart = visits_apart scored_visit (visit_pair (points_of P) (points_of Q) ps qs) start Urged (to_ascends ask.largest (asked_terms ask) o (points_of P) (points_of Q) (points_rise (sheet_facts P p_opens)) (points_rise (sheet_facts Q q_opens)))

    -- the rows given
    abbrev pub Urgents : List Visit
    Urgents = take r.count r.rows

    visits_count : r.count ≡ length first_visits
    unfolding urgent_given
    visits_count = ap (λ (x : Urgent). x.count) urgent_is

    visits_rows : r.rows ≡ sixteen no_visit first_visits
    unfolding urgent_given
    visits_rows = ap (λ (x : Urgent). x.rows) urgent_is

    visits_are : Urgents ≡ first_by ahead ask.k (map scored_visit Urged)
    unfolding first_visits
    visits_are = (λ t. take (visits_count t) (visits_rows t)) ∙ of_sixteen ahead no_visit (first_by ahead ask.k (map scored_visit Urged))

    visits_at : (b : ℕ) → b < r.count → get_or r.rows b no_visit ≡ get_or (first_by ahead ask.k (map scored_visit Urged)) b no_visit
    unfolding first_visits
    visits_at b h = ap (λ (t : List Visit). get_or t b no_visit) visits_rows ∙ at_sixteen ahead no_visit (first_by ahead ask.k (map scored_visit Urged)) b (omega (arith, visits_count))

    -- [BU6]
    pub urgent_given_lem : (r.count ≡ min ask.k (length Urged)) × (drop r.count r.rows ≡ replicate (16 - r.count) no_visit)
    unfolding first_visits sixteen
    urgent_given_lem = (
      visits_count ∙ first_long ahead ask.k (map scored_visit Urged) ∙ ap (min ask.k) (length-map Urged scored_visit),
      (λ t. drop (visits_count t) (visits_rows t)) ∙ drop-append_seam (first_by ahead ask.k (map scored_visit Urged)) _ ∙ ap (λ (n : ℕ). replicate (16 - n) no_visit) (sym visits_count),
    )

    -- each row is a pair of the list, with the sum of the scores of its chamber and its pump house [BU6]
    pub urgent_listed : (v : Visit) → Memᴰ v Urgents → Memᴰ v.pair Urged × (v.score ≡ score_of (points_of Q) qs v.pair.q + score_of (points_of P) ps v.pair.p)
    unfolding visit_of
    urgent_listed v m =
        let z = map_only scored_visit v Urged (ranked_only ahead ask.k (map scored_visit Urged) v (subst (Memᴰ v) visits_are m)) in
        rw z.2 (z.1, refl)

    -- which are those that were lent for their positions [BU7]
    pub urgent_score : scores_ok ps (points P) ≡ true → scores_ok qs (points Q) ≡ true → (v : Visit) → Memᴰ v Urgents → (j i : ℕ) → j < points Q → i < points P → v.pair.q ≡ id_at (points_of Q) j → v.pair.p ≡ id_at (points_of P) i → v.score ≡ get_or qs j 0 + get_or ps i 0
    urgent_score p-scores q-scores v m j i h e f d =
        (urgent_listed v m).1
        ∙ (λ t. score_of (points_of Q) qs (f t) + score_of (points_of P) ps (d t))
        ∙ (λ t. score_of_lem Q (points Q) (nodes Q) (sheet_facts Q q_opens) qs (scores_scored qs (points Q) q-scores) j h t + score_of_lem P (points P) (nodes P) (sheet_facts P p_opens) ps (scores_scored ps (points P) p-scores) i e t)

    -- "the highest sum of scores", "ties by q id and then p id" [BU6, BU8]
    pub urgent_order : (b c : ℕ) → b < c → c < r.count → Ahead (get_or r.rows b no_visit) (get_or r.rows c no_visit)
    unfolding first_visits
    urgent_order b c h e = rw (visits_at b (omega arith), visits_at c e) (ahead_says _ _ (first_rises ahead ahead_order ask.k (map scored_visit Urged) urgent_apart no_visit b c h (omega (arith, visits_count))))

    -- "no pair that could is passed over": a pair of the list that is not given comes after each that is [BU6, BU8]
    pub urgent_first : (u : Pair) → Memᴰ u Urged → (Memᴰ (scored_visit u) Urgents → ⊥) → (v : Visit) → Memᴰ v Urgents → Ahead v (scored_visit u)
    urgent_first u m out v n =
        ahead_says v (scored_visit u) (first_ahead ahead ahead_order ask.k (map scored_visit Urged) urgent_apart (scored_visit u) v (Memᴰ.map scored_visit m) (λ x. out (subst (Memᴰ (scored_visit u)) (sym visits_are) x)) (subst (Memᴰ v) visits_are n))
