-- Visits: their order, the pairs of a chamber one after the other, and the k most urgent.
--     ahead_order       it is an order; ahead_says: what it says, in numbers
--     score_at          the score of the record at a position
--     pair_not, pair_behind, pair_joins     one pair: it is not of the list, it would not be among the k, it is offered
--     Picking           the loop over a chamber's candidates
--     next_other, next_late, next_done      a chamber: another contractor's, one whose pairs all come too late, one that was gone through
--     Visiting          the loop over the chambers
-- Assumes nothing.
use mathlib.Core.Path.{◌≡◌, refl, sym, ap, ap₂, subst, ◌∙◌}
use mathlib.Core.Bool.{Bool, true, false, not, ◌&&◌, ◌||◌}
use mathlib.Core.Logic.{◌⊎◌, inl, inr, ⊎_elim}
use mathlib.Core.List.{List, [], ◌∷◌, ◌++◌, map, Memᴰ}
use Prim.Native.Nat.{ℕ, zero, suc, ◌+◌, ◌-◌, ◌≤◌, ◌<◌}
use native.Mathlib.Omega.{arith}
use lib.Dec.{eqb, leb, ltb}
use lib.IntN.{ℤ}
use lib.ListN.{length, take, get_or}
use borrow.Author.Tests.{ltb-true, lt-ltb, le-ltb, eqb-true, eq-eqb, ne_eqb, leb-true, le-leb, lt-leb}
use Rattle.std.proofs.Common.{Option, None, Some, MatchOption}
use Rattle.integers.proofs.Bools.{decide, and_both, or_both_false, clash, failed, passed}
use Rattle.plane.specs.Point.{Point, id_at, spot_at}
use Rattle.plane.specs.Profile.{profile_of}
use Rattle.plane.proofs.ProfileLaws.{profile_lawful}
use Rattle.sheet.specs.Open.{Opens}
use Rattle.sheet.specs.Places.{points_of}
use Rattle.sheet.proofs.SheetLaws.{by_counts}
use Rattle.bits.specs.Set.{kept, next_from}
use Rattle.list.specs.declared.Key.{Key}
use Rattle.list.specs.declared.Pair.{Pair}
use Rattle.list.specs.declared.Terms.{Terms}
use Rattle.list.specs.Pairs.{start, key_of, follows, ascends}
use Rattle.list.specs.Rows.{row, rows, list_by}
use Rattle.list.specs.Contractor.{mine}
use Rattle.list.specs.RingList.{ring_pair_by, pair_by}
use Rattle.list.specs.Terms.{profile_for, pair_for}
use Rattle.list.proofs.Order.{later, by_q, never, asc_member}
use Rattle.list.proofs.RowLaws.{rises_far, row_same, made_ascends}
use Rattle.walk.specs.declared.Answer.{Answer}
use Rattle.walk.specs.RingWalk.{clear, pair_walk_by}
use Rattle.walk.proofs.Meaning.{pair_clear}
use Rattle.join.proofs.Meaning.{points_rise}
use Rattle.seeds.specs.Covers.{Covers}
use Rattle.chamber.specs.Sized.{small_for, listed_to, list_to}
use Rattle.chamber.proofs.KeepLaws.{row_nil, row_yes, row_no, rest, rest_yes, rest_no, chamber_rest_end, rest_skip, small_covered}
use Rattle.chamber.proofs.ListedLaws.{points_many, row_empty, rows_next, rows_end, list_of_sheets}
use Rattle.ranked.specs.declared.Visit.{Visit}
use Rattle.ranked.specs.declared.Urgent.{Urgent}
use Rattle.sorting.specs.declared.Firsts.{Firsts}
use Rattle.sorting.specs.Firsts.{last_of, enters}
use Rattle.sorting.specs.Ranking.{put_by, first_by, gathered, Sorted, Apart}
use Rattle.ranked.specs.Urgent.{ahead, Ahead, no_visit, score_of, visit_of, urgent_given}
pub use Rattle.ranked.specs.Orders.{ahead_order}
use Rattle.ranked.specs.Visits.{tops_of, held_visits, HeldVisits, Past, Scored, Greatest, Late, Listed, scored, with_score}
use Rattle.sorting.proofs.RankingLaws.{ranked_stays, gathered_first, gathered_two, gathered_only}
use Rattle.sorting.proofs.FirstsLaws.{firsts_whole, held_is, firsts_held, held_gathered, fair_gathered, last_some, last_in_held, never_enters, offer_not}
use Rattle.sorting.proofs.LexLaws.{or_first, or_second, or_and, and_none, more_total}
use Rattle.ranked.proofs.BusyLaws.{listed_mine, listed_not}

-- ---- the order

pub ahead_says : (v w : Visit) → ahead v w ≡ true → Ahead v w
unfolding ahead
ahead_says v w e =
    ⊎_elim
    (λ (x : ltb w.score v.score ≡ true). inl (ltb-true w.score v.score x))
    (λ (x : (eqb v.score w.score ≡ true) × (follows (key_of v.pair) (key_of w.pair) ≡ true)). inr (eqb-true v.score w.score x.0, later (key_of v.pair) (key_of w.pair) x.1))
    (or_and (ltb w.score v.score) (eqb v.score w.score) (follows (key_of v.pair) (key_of w.pair)) e)

by_score : (v w : Visit) → w.score < v.score → ahead v w ≡ true
unfolding ahead
by_score v w h = or_first (ltb w.score v.score) (eqb v.score w.score && follows (key_of v.pair) (key_of w.pair)) (lt-ltb w.score v.score h)

by_keys : (v w : Visit) → v.score ≡ w.score → follows (key_of v.pair) (key_of w.pair) ≡ true → ahead v w ≡ true
unfolding ahead
by_keys v w e h =
    or_second (ltb w.score v.score) (eqb v.score w.score && follows (key_of v.pair) (key_of w.pair))
    (and_both (eqb v.score w.score) (follows (key_of v.pair) (key_of w.pair)) (eq-eqb v.score w.score e) h)

-- with no higher score, and of a later chamber
not_ahead : (v w : Visit) → v.score ≤ w.score → w.pair.q < v.pair.q → ahead v w ≡ false
unfolding ahead
not_ahead v w h g =
    or_both_false (ltb w.score v.score) (eqb v.score w.score && follows (key_of v.pair) (key_of w.pair))
    (le-ltb w.score v.score h)
    (and_none (eqb v.score w.score) (follows (key_of v.pair) (key_of w.pair)) (never (key_of w.pair) (key_of v.pair) (inr (by_q (key_of w.pair) (key_of v.pair) g))))

-- of two keys the visits are told apart
keys_apart : (v w : Visit) → follows (key_of v.pair) (key_of w.pair) ≡ true → (ahead v w ≡ true) ⊎ (ahead w v ≡ true)
keys_apart v w h =
    ⊎_elim
    (λ (e : ltb v.score w.score ≡ true). inr (by_score w v (ltb-true v.score w.score e)))
    (λ (e : ltb v.score w.score ≡ false).
    ⊎_elim
    (λ (f : ltb w.score v.score ≡ true). inl (by_score v w (ltb-true w.score v.score f)))
    (λ (f : ltb w.score v.score ≡ false). inl (by_keys v w (more_total v.score w.score f e) h))
    (decide (ltb w.score v.score)))
    (decide (ltb v.score w.score))

-- ---- what a function makes of a list

pub map_only : {A B : Type 0} (f : A → B) (w : B) (l : List A) → Memᴰ w (map f l) → (u : A) × Memᴰ u l × (w ≡ f u)
map_only f w [] m = absurd (mathlib.Core.List.Memᴰ.not-nil m)
map_only {A} {B} f w (v ∷ l) m =
    ⊎_elim
    (λ (e : w ≡ f v). (v, mathlib.Core.List.Memᴰ.head refl, e))
    (λ (n : Memᴰ w (map f l)). let z = map_only f w l n in (z.0, mathlib.Core.List.Memᴰ.tail z.1, z.2))
    (mathlib.Core.List.Memᴰ.cases_cons m)

map_two : {A B : Type 0} (f : A → B) (l m : List A) → map f (l ++ m) ≡ map f l ++ map f m
map_two f [] m = refl
map_two {A} {B} f (v ∷ l) m = ap (λ (t : List B). f v ∷ t) (map_two f l m)

pub visits_apart : (f : Pair → Visit) → ((v : Pair) → (f v).pair ≡ v) → (key : Key) (l : List Pair) → ascends key l ≡ true → Apart ahead (map f l)
unfolding ascends Apart
visits_apart f is key [] e = tt
visits_apart f is key (v ∷ l) e =
    let a = and_second (follows key (key_of v)) (ascends (key_of v) l) e in (
      λ w m.
          let z = map_only f w l m in
          let h : follows (key_of (f v).pair) (key_of (f z.0).pair) ≡ true = ap₂ (λ (x y : Pair). follows (key_of x) (key_of y)) (is v) (is z.0) ∙ asc_member (key_of v) z.0 l a z.1 in
          keys_apart (f v) w (ap (λ (x : Visit). follows (key_of (f v).pair) (key_of x.pair)) z.2 ∙ h),
      visits_apart f is (key_of v) l a,
    )
  where
    and_second : (a b : Bool) → (a && b) ≡ true → b ≡ true
    and_second true b e = e
    and_second false b e = clash e refl

-- ---- scores

-- it is the one at the record's position, 0 where there is none
pub score_at : (s : List Point) (sc : List ℕ) → ((x y : ℕ) → x < y → y < length s → id_at s x < id_at s y) → (i : ℕ) → i < length s → score_of s sc (id_at s i) ≡ get_or sc i 0
unfolding score_of
score_at [] sc r i h = absurd (omega arith)
score_at (z ∷ s) [] r i h = refl
score_at (z ∷ s) (c ∷ sc) r zero h = rw (eq-eqb z.id z.id refl)
score_at (z ∷ s) (c ∷ sc) r (suc i) h =
    let other : z.id < id_at s i = r 0 (suc i) (omega arith) h in
    rw (ne_eqb z.id (id_at s i) (λ e. omega (arith, other))) (score_at s sc (λ x y a b. r (suc x) (suc y) (omega arith) (omega arith)) i (omega arith))

-- of the points of a sheet
pub score_of_lem : (w : List ℤ) (n m : ℕ) → Opens w n m → (sc : List ℕ) → Scored sc n → (i : ℕ) → i < n → score_of (points_of w) sc (id_at (points_of w) i) ≡ get_or sc i 0
score_of_lem w n m o sc s i h =
    let many = points_many w n m o in
    score_at (points_of w) sc (λ x y a b. rises_far (id_at (points_of w)) (length (points_of w)) (points_rise o) x y a b) i (omega arith)

-- ---- those held

pub urgent_made : (l : List Visit) (g : Firsts Visit) → g ≡ tops_of l → ◌≡◌ {A = Urgent} (record { number = 0; count = g.count; rows = g.rows }) (urgent_given l)
unfolding urgent_given
urgent_made l g e = ap (λ (x : Firsts Visit). record { number = 0; count = x.count; rows = x.rows }) e

-- said of the last of k, where k are held
pub late_by : (most k : ℕ) (g : Firsts Visit) (o : Option Visit) → o ≡ last_of k g → (t : Bool) → MatchOption o (t ≡ false) (λ (w : Visit). t ≡ leb most w.score) → Late most k g t
late_by most k g None e t m = record { full = λ y. clash y m; lower = λ y. clash y m }
late_by most k g (Some w) e t m =
    let z = last_some ahead no_visit k g w (sym e) in
    record { full = λ y. z.0; lower = λ y. leb-true most (get_or g.rows (k - 1) no_visit).score (sym (m ∙ ap (λ (v : Visit). leb most v.score) z.1) ∙ y) }

-- ---- one pair

module _ (big : ℕ) (t : Terms) (P Q : List Point) (j i : ℕ) where
  abbrev ringed : Bool
  ringed = ring_pair_by (profile_for t) P Q j i

  abbrev sized : ℕ
  sized = (profile_for t).size (spot_at Q j) (spot_at P i)

  small_far : big < sized → small_for big t P Q j i ≡ false
  unfolding small_for
  small_far h = and_none (pair_for t P Q j i) (leb sized big) (lt-leb sized big h)

  small_blocked : ringed ≡ false → small_for big t P Q j i ≡ false
  unfolding small_for pair_for
  small_blocked e = ap (λ (b : Bool). b && leb sized big) (and_none (not t.own || ltb (id_at Q j) (id_at P i)) ringed e)

  small_clear : t.own ≡ false → sized ≤ big → ringed ≡ true → small_for big t P Q j i ≡ true
  unfolding small_for pair_for
  small_clear own h e =
      and_both ((not t.own || ltb (id_at Q j) (id_at P i)) && ringed) (leb sized big)
      (and_both (not t.own || ltb (id_at Q j) (id_at P i)) ringed (or_first (not t.own) (ltb (id_at Q j) (id_at P i)) (ap not own)) e)
      (le-leb sized big h)

-- the ring walk of a pair
walked : (g : Bool) (P Q : List ℤ) (np mp nq mq : ℕ) → Opens P np mp → Opens Q nq mq → (j i : ℕ) → j < nq → i < np → (x : Answer) → x ≡ pair_walk_by (profile_of g) P Q j i → (t : Bool) → t ≡ clear x.hit → t ≡ ring_pair_by (profile_of g) (points_of P) (points_of Q) j i
walked g P Q np mp nq mq op oq j i a b x e t f =
    f ∙ ap (λ (y : Answer). clear y.hit) e ∙ pair_clear (profile_of g) (profile_lawful g) P Q (by_counts op) (by_counts oq) j i (omega (arith, oq.n_is)) (omega (arith, op.n_is))

module _ (rule : ℕ → ℕ → Bool) (pair : ℕ → ℕ → Pair) (k j i score : ℕ) (g : Firsts Visit) (h : HeldVisits k g) where
  one_yes : rule j i ≡ true → map (scored score) (row rule pair j 1 i) ≡ scored score (pair j i) ∷ []
  one_yes e = ap (map (scored score)) (row_yes rule pair j 0 i e ∙ ap (λ (l : List Pair). pair j i ∷ l) (row_nil rule pair j (i + 1)))

  one_no : rule j i ≡ false → map (scored score) (row rule pair j 1 i) ≡ []
  one_no e = ap (map (scored score)) (row_no rule pair j 0 i e ∙ row_nil rule pair j (i + 1))

  -- it is not of the list
  pub pair_not : rule j i ≡ false → g ≡ tops_of (gathered ahead k (map (scored score) (row rule pair j 1 i)) (held_visits g))
  unfolding gathered
  pair_not e = firsts_whole ahead no_visit k g h ∙ ap (λ (l : List Visit). tops_of (gathered ahead k l (held_visits g))) (sym (one_no e))

  -- it is of the list, and offered
  pub pair_joins : rule j i ≡ true → (v : Visit) → v ≡ scored score (pair j i) → (r : Firsts Visit) → r ≡ tops_of (take k (put_by ahead v (held_visits g))) → r ≡ tops_of (gathered ahead k (map (scored score) (row rule pair j 1 i)) (held_visits g))
  unfolding gathered
  pair_joins e v f r d = d ∙ ap (λ (x : Visit). tops_of (take k (put_by ahead x (held_visits g)))) f ∙ ap (λ (l : List Visit). tops_of (gathered ahead k l (held_visits g))) (sym (one_yes e))

  -- it would not be among the k, whether it is of the list or not
  pub pair_behind : 1 ≤ k → k ≤ 16 → (v : Visit) → v ≡ scored score (pair j i) → (t : Bool) → t ≡ enters ahead no_visit k v g → not t ≡ true → g ≡ tops_of (gathered ahead k (map (scored score) (row rule pair j 1 i)) (held_visits g))
  pair_behind some most v f t e n =
      let no = never_enters ahead no_visit k g v t e (failed refl n) in
      ⊎_elim
      (λ (x : rule j i ≡ true). pair_joins x v f g (offer_not ahead no_visit k some most g h v ahead_order no.0 no.1))
      (λ (x : rule j i ≡ false). pair_not x)
      (decide (rule j i))

-- one pair, as the code has it
module _ (big : ℕ) (a : Terms) (P Q : List ℤ) (np mp nq mq : ℕ) (op : Opens P np mp) (oq : Opens Q nq mq) (own : a.own ≡ false) (j i : ℕ) (j_in : j < nq) (i_in : i < np)
    (k : ℕ) (g : Firsts Visit) (h : HeldVisits k g) (score : ℕ) (v : Pair) (is : v ≡ pair_by (profile_for a) (points_of P) (points_of Q) j i) where
  abbrev small : ℕ → ℕ → Bool
  small = small_for big a (points_of P) (points_of Q)

  abbrev pairing : ℕ → ℕ → Pair
  pairing = pair_by (profile_for a) (points_of P) (points_of Q)

  size_is : v.size ≡ (profile_for a).size (spot_at (points_of Q) j) (spot_at (points_of P) i)
  size_is = ap (λ (x : Pair). x.size) is

  pub pair_too_big : big < v.size → g ≡ tops_of (gathered ahead k (map (scored score) (row small pairing j 1 i)) (held_visits g))
  pair_too_big l = pair_not small pairing k j i score g h (small_far big a (points_of P) (points_of Q) j i (omega (arith, size_is)))

  module _ (x : Answer) (e : x ≡ pair_walk_by (profile_of a.grid) P Q j i) (t : Bool) (f : t ≡ clear x.hit) where
    ring_is : t ≡ ring_pair_by (profile_for a) (points_of P) (points_of Q) j i
    ring_is = walked a.grid P Q np mp nq mq op oq j i j_in i_in x e t f

    pub pair_blocked : not t ≡ true → g ≡ tops_of (gathered ahead k (map (scored score) (row small pairing j 1 i)) (held_visits g))
    pair_blocked n = pair_not small pairing k j i score g h (small_blocked big a (points_of P) (points_of Q) j i (failed ring_is n))

    pub pair_taken : not t ≡ false → v.size ≤ big → (r : Firsts Visit) → r ≡ tops_of (take k (put_by ahead (scored score v) (held_visits g))) → r ≡ tops_of (gathered ahead k (map (scored score) (row small pairing j 1 i)) (held_visits g))
    pair_taken n l r d = pair_joins small pairing k j i score g h (small_clear big a (points_of P) (points_of Q) j i own (omega (arith, size_is)) (passed ring_is n)) (scored score v) (ap (scored score) is) r d

-- ---- a chamber's candidates, one after the other

module _ (rule : ℕ → ℕ → Bool) (pair : ℕ → ℕ → Pair) (f : Pair → Visit) (k j n : ℕ) (g : Firsts Visit) where
  pub record Picking (r : Firsts Visit) (i : ℕ) : Type 0 where
    pub held : HeldVisits k r
    pub left : gathered ahead k (map f (row rule pair j n 0)) (held_visits g) ≡ gathered ahead k (map f (rest rule pair j n i)) (held_visits r)

  module _ (b : List ℕ) (sure : (y : ℕ) → y < n → rule j y ≡ true → kept b y ≡ true) where
    pub pick_next : (r : Firsts Visit) (x u : ℕ) → u ≡ next_from b x → Picking r x → Picking r u
    pick_next r x u e s = record { held = s.held; left = s.left ∙ ap (λ (l : List Pair). gathered ahead k (map f l) (held_visits r)) (rest_skip rule pair j n b sure x u e) }

    pub pick_start : HeldVisits k g → (u : ℕ) → u ≡ next_from b 0 → Picking g u
    pick_start h u e =
        let z : n - 0 ≡ n = omega arith in
        pick_next g 0 u e (record { held = h; left = ap (λ (m : ℕ). gathered ahead k (map f (row rule pair j m 0)) (held_visits g)) (sym z) })

  -- one turn
  pub pick_turn : (r : Firsts Visit) (i : ℕ) → Picking r i → i < n → (score : ℕ) → scored score (pair j i) ≡ f (pair j i) → (r' : Firsts Visit) → r' ≡ tops_of (gathered ahead k (map (scored score) (row rule pair j 1 i)) (held_visits r)) → Picking r' (i + 1)
  unfolding gathered
  pick_turn r i s h score e r' d =
      let t = gathered ahead k (map (scored score) (row rule pair j 1 i)) (held_visits r) in
      let l = map (scored score) (row rule pair j 1 i) in
      let is : held_visits r' ≡ t = held_gathered ahead no_visit k l r r' d in
      record {
        held = fair_gathered ahead no_visit k l r r' d ahead_order s.held;
        left = s.left
            ∙ ⊎_elim
            (λ (y : rule j i ≡ true).
            ap (λ (l : List Pair). gathered ahead k (map f l) (held_visits r)) (rest_yes rule pair j n i h y)
            ∙ ap (λ (x : Visit). gathered ahead k (map f (rest rule pair j n (i + 1))) (take k (put_by ahead x (held_visits r)))) (sym e)
            ∙ ap (λ (l : List Visit). gathered ahead k (map f (rest rule pair j n (i + 1))) (gathered ahead k l (held_visits r))) (sym (one_yes rule pair k j i score r s.held y)))
            (λ (y : rule j i ≡ false).
            ap (λ (l : List Pair). gathered ahead k (map f l) (held_visits r)) (rest_no rule pair j n i h y)
            ∙ ap (λ (l : List Visit). gathered ahead k (map f (rest rule pair j n (i + 1))) (gathered ahead k l (held_visits r))) (sym (one_no rule pair k j i score r s.held y)))
            (decide (rule j i))
            ∙ ap (gathered ahead k (map f (rest rule pair j n (i + 1)))) (sym is);
      }

  pub pick_end : (r : Firsts Visit) (i : ℕ) → Picking r i → n ≤ i → r ≡ tops_of (gathered ahead k (map f (row rule pair j n 0)) (held_visits g))
  unfolding gathered
  pick_end r i s h = firsts_whole ahead no_visit k r s.held ∙ ap tops_of (sym (s.left ∙ ap (λ (l : List Pair). gathered ahead k (map f l) (held_visits r)) (chamber_rest_end rule pair j n i h)))

-- the candidates of a chamber have all its pairs
pub pick_sure : (big : ℕ) (t : Terms) (P Q : List ℤ) (np mp : ℕ) → Opens P np mp → (j : ℕ) (b : List ℕ) → Covers t.grid P Q j b → (y : ℕ) → y < np → small_for big t (points_of P) (points_of Q) j y ≡ true → kept b y ≡ true
pick_sure big t P Q np mp o j b c y h e = small_covered big t P Q j b c y (omega (arith, o.n_is)) e

-- the score of a pair, by its positions
pub pick_score : (P : List ℤ) (np mp : ℕ) → Opens P np mp → (ps : List ℕ) → Scored ps np → (own : ℕ) (pair : ℕ → ℕ → Pair) (j i : ℕ) → i < np → (pair j i).p ≡ id_at (points_of P) i → (x score : ℕ) → x ≡ get_or ps i 0 → score ≡ own + x → scored score (pair j i) ≡ with_score (points_of P) ps own (pair j i)
pick_score P np mp o ps s own pair j i h e x score f d =
    let at : x ≡ score_of (points_of P) ps (pair j i).p = f ∙ sym (ap (score_of (points_of P) ps) e ∙ score_of_lem P np mp o ps s i h) in
    λ t. record { pair = pair j i; score = (d ∙ ap (λ (y : ℕ). own + y) at) t }

-- ---- a chamber

row_map : {A : Type 0} (rule : ℕ → ℕ → Bool) (pair : ℕ → ℕ → Pair) (f f' : Pair → A) (j k i : ℕ) → ((x : ℕ) → f (pair j x) ≡ f' (pair j x)) → map f (row rule pair j k i) ≡ map f' (row rule pair j k i)
row_map rule pair f f' j zero i e = ap (map f) (row_nil rule pair j i) ∙ sym (ap (map f') (row_nil rule pair j i))
row_map {A} rule pair f f' j (suc k) i e =
    ⊎_elim
    (λ (y : rule j i ≡ true). ap (map f) (row_yes rule pair j k i y) ∙ ap₂ (λ (v : A) (l : List A). v ∷ l) (e i) (row_map rule pair f f' j k (i + 1) e) ∙ sym (ap (map f') (row_yes rule pair j k i y)))
    (λ (y : rule j i ≡ false). ap (map f) (row_no rule pair j k i y) ∙ row_map rule pair f f' j k (i + 1) e ∙ sym (ap (map f') (row_no rule pair j k i y)))
    (decide (rule j i))

-- the pairs of a row, by their positions
row_places : (rule : ℕ → ℕ → Bool) (pair : ℕ → ℕ → Pair) (j k i : ℕ) (u : Pair) → Memᴰ u (row rule pair j k i) → (x : ℕ) × (x < i + k) × (u ≡ pair j x)
row_places rule pair j zero i u m = absurd (mathlib.Core.List.Memᴰ.not-nil (subst (Memᴰ u) (row_nil rule pair j i) m))
row_places rule pair j (suc k) i u m =
    ⊎_elim
    (λ (y : rule j i ≡ true).
    ⊎_elim
    (λ (e : u ≡ pair j i). (i, omega arith, e))
    (λ (n : Memᴰ u (row rule pair j k (i + 1))). let z = row_places rule pair j k (i + 1) u n in (z.0, omega (arith, z.1), z.2))
    (mathlib.Core.List.Memᴰ.cases_cons (subst (Memᴰ u) (row_yes rule pair j k i y) m)))
    (λ (y : rule j i ≡ false). let z = row_places rule pair j k (i + 1) u (subst (Memᴰ u) (row_no rule pair j k i y) m) in (z.0, omega (arith, z.1), z.2))
    (decide (rule j i))

-- k are held, and none of a list is ahead of the last: they stay
all_behind : (k m : ℕ) (l s : List Visit) → length s ≡ suc m → k ≡ suc m → Sorted ahead s → ((v : Visit) → Memᴰ v l → ahead v (get_or s m no_visit) ≡ false) → gathered ahead k l s ≡ s
unfolding gathered
all_behind k m [] s f e o b = refl
all_behind k m (v ∷ l) s f e o b =
    ap (gathered ahead k l) (ranked_stays ahead k v s no_visit m f e ahead_order o (b v (mathlib.Core.List.Memᴰ.head refl)))
    ∙ all_behind k m l s f e o (λ w n. b w (mathlib.Core.List.Memᴰ.tail n))

module _ (big : ℕ) (a : Terms) (o : List ℕ) (P Q : List ℤ) (np mp nq mq : ℕ) (op : Opens P np mp) (oq : Opens Q nq mq) (li : Listed a) (ps qs : List ℕ) (sp : Scored ps np) (sq : Scored qs nq) (j : ℕ) (j_in : j < nq)
    (k : ℕ) (g : Firsts Visit) (h : HeldVisits k g) where
  abbrev listed : ℕ → ℕ → Bool
  listed = listed_to big a o (points_of P) (points_of Q)

  abbrev couple : ℕ → ℕ → Pair
  couple = pair_by (profile_for a) (points_of P) (points_of Q)

  abbrev visit : Pair → Visit
  visit = visit_of (points_of P) (points_of Q) ps qs

  -- another contractor's
  pub next_other : (m : Bool) → m ≡ mine a.contractor o j → not m ≡ true → g ≡ tops_of (gathered ahead k (map visit (row listed couple j np 0)) (held_visits g))
  unfolding gathered
  next_other m e n =
      firsts_whole ahead no_visit k g h
      ∙ ap (λ (l : List Pair). tops_of (gathered ahead k (map visit l) (held_visits g))) (sym (row_empty listed couple j np 0 (λ x. listed_not big a li.all o (points_of P) (points_of Q) j (failed e n) x)))

  module _ (own : ℕ) (is : own ≡ get_or qs j 0) where
    own_is : own ≡ score_of (points_of Q) qs (id_at (points_of Q) j)
    own_is = is ∙ sym (score_of_lem Q nq mq oq qs sq j j_in)

    visit_is : (x : ℕ) → with_score (points_of P) ps own (couple j x) ≡ visit (couple j x)
    unfolding visit_of
    visit_is x = λ t. record { pair = couple j x; score = own_is t + score_of (points_of P) ps (id_at (points_of P) x) }

    -- gone through
    pub next_done : (m : Bool) → m ≡ mine a.contractor o j → not m ≡ false → (r : Firsts Visit) → r ≡ tops_of (gathered ahead k (map (with_score (points_of P) ps own) (row (small_for big a (points_of P) (points_of Q)) couple j np 0)) (held_visits g)) → r ≡ tops_of (gathered ahead k (map visit (row listed couple j np 0)) (held_visits g))
    next_done m e n r d =
        d ∙ ap (λ (l : List Visit). tops_of (gathered ahead k l (held_visits g)))
        (row_map (small_for big a (points_of P) (points_of Q)) couple (with_score (points_of P) ps own) visit j np 0 visit_is
        ∙ ap (map visit) (sym (row_same listed (small_for big a (points_of P) (points_of Q)) couple j np 0 (λ x u v. listed_mine big a li.all o (points_of P) (points_of Q) j (passed e n) x))))

    -- no pair of it may be among the k
    pub next_late : 1 ≤ k → k ≤ 16 → Past (id_at (points_of Q) j) (held_visits g) → (top most : ℕ) → Greatest ps top → most ≡ own + top → (t : Bool) → Late most k g t → t ≡ true → g ≡ tops_of (gathered ahead k (map visit (row listed couple j np 0)) (held_visits g))
    unfolding visit_of
    next_late some k-most past top most gr me t late f =
        let full = late.full f in
        let m : k ≡ suc (k - 1) = omega arith in
        let s = held_visits g in
        let last = get_or s (k - 1) no_visit in
        let at = last_in_held ahead no_visit k some k-most g h full in
        let many : length s ≡ suc (k - 1) = omega (arith, h.long, h.few) in
        let id : last.pair.q < id_at (points_of Q) j = past.below last at.1 in
        let score : most ≤ last.score = omega (arith, late.lower f, ap (λ (x : Visit). x.score) at.0) in
        let behind : (v : Visit) → Memᴰ v (map visit (row listed couple j np 0)) → ahead v last ≡ false = λ v n.
        let z = map_only visit v (row listed couple j np 0) n in
        let y = row_places listed couple j np 0 z.0 z.1 in
        let is_at : v ≡ with_score (points_of P) ps own (couple j y.0) = z.2 ∙ ap visit y.2 ∙ sym (visit_is y.0) in
        let in_p : y.0 < np = omega (arith, y.1) in
        let low : score_of (points_of P) ps (id_at (points_of P) y.0) ≤ top = omega (arith, score_of_lem P np mp op ps sp y.0 in_p, gr.most y.0 (omega (arith, sp.long))) in
        subst (λ (u : Visit). ahead u last ≡ false) (sym is_at) (not_ahead (with_score (points_of P) ps own (couple j y.0)) last (omega arith) id) in
        firsts_whole ahead no_visit k g h ∙ ap tops_of (sym (all_behind k (k - 1) (map visit (row listed couple j np 0)) s many m h.sorted behind))

-- ---- the loop over the chambers

module _ (rule : ℕ → ℕ → Bool) (pair : ℕ → ℕ → Pair) (f : Pair → Visit) (same : (v : Pair) → (f v).pair ≡ v) (qid : ℕ → ℕ) (named : (j i : ℕ) → (pair j i).q ≡ qid j) (k np nq : ℕ) where
  pub record Visiting (g : Firsts Visit) (j : ℕ) : Type 0 where
    pub upto : j ≤ nq
    pub held : HeldVisits k g
    pub left : first_by ahead k (map f (list_by rule pair np nq)) ≡ gathered ahead k (map f (rows rule pair np (nq - j) j)) (held_visits g)
    pub passed : (v : Visit) → Memᴰ v (held_visits g) → (x : ℕ) × (x < j) × (v.pair.q ≡ qid x)

  pub visit_start : ascends start (list_by rule pair np nq) ≡ true → (g : Firsts Visit) → g ≡ tops_of [] → Visiting g 0
  unfolding Sorted list_by
  visit_start asc g e =
      let none : held_visits g ≡ [] = held_is ahead no_visit [] g e in
      let all : nq - 0 ≡ nq = omega arith in
      record {
        upto = omega arith;
        held = firsts_held ahead no_visit k [] (omega arith) tt g e;
        left = sym (gathered_first ahead ahead_order k (map f (rows rule pair np nq 0)) (visits_apart f same start (rows rule pair np nq 0) asc))
            ∙ ap (λ (m : ℕ). gathered ahead k (map f (rows rule pair np m 0)) []) (sym all)
            ∙ ap (gathered ahead k (map f (rows rule pair np (nq - 0) 0))) (sym none);
        passed = λ v m. absurd (mathlib.Core.List.Memᴰ.not-nil (subst (Memᴰ v) none m));
      }

  module _ (g : Firsts Visit) (j : ℕ) (s : Visiting g j) (h : j < nq) where
    pub visit_past : ((x y : ℕ) → x < y → y < nq → qid x < qid y) → Past (qid j) (held_visits g)
    visit_past rises = record { below = λ v m. let z = s.passed v m in omega (arith, z.2, rises z.0 j z.1 h) }

    pub visit_turn : (r : Firsts Visit) → r ≡ tops_of (gathered ahead k (map f (row rule pair j np 0)) (held_visits g)) → Visiting r (j + 1)
    visit_turn r e =
        let t = gathered ahead k (map f (row rule pair j np 0)) (held_visits g) in
        let is : held_visits r ≡ t = held_gathered ahead no_visit k (map f (row rule pair j np 0)) g r e in
        record {
          upto = omega arith;
          held = fair_gathered ahead no_visit k (map f (row rule pair j np 0)) g r e ahead_order s.held;
          left = s.left
              ∙ ap (λ (l : List Pair). gathered ahead k (map f l) (held_visits g)) (rows_next rule pair np nq j h)
              ∙ ap (λ (l : List Visit). gathered ahead k l (held_visits g)) (map_two f (row rule pair j np 0) (rows rule pair np (nq - (j + 1)) (j + 1)))
              ∙ gathered_two ahead k (map f (row rule pair j np 0)) (map f (rows rule pair np (nq - (j + 1)) (j + 1))) (held_visits g)
              ∙ ap (gathered ahead k (map f (rows rule pair np (nq - (j + 1)) (j + 1)))) (sym is);
          passed = λ v m.
              ⊎_elim
              (λ (x : Memᴰ v (held_visits g)). let z = s.passed v x in (z.0, omega (arith, z.1), z.2))
              (λ (x : Memᴰ v (map f (row rule pair j np 0))).
              let z = map_only f v (row rule pair j np 0) x in
              let y = row_places rule pair j np 0 z.0 z.1 in
              (j, omega arith, ap (λ (u : Visit). u.pair.q) z.2 ∙ ap (λ (u : Pair). u.q) (same z.0) ∙ ap (λ (u : Pair). u.q) y.2 ∙ named j y.0))
              (gathered_only ahead k (map f (row rule pair j np 0)) (held_visits g) v (subst (Memᴰ v) is m));
        }

  pub visit_done : (g : Firsts Visit) (j : ℕ) → Visiting g j → nq ≤ j → g ≡ tops_of (first_by ahead k (map f (list_by rule pair np nq)))
  unfolding gathered
  visit_done g j s h =
      firsts_whole ahead no_visit k g s.held ∙ ap tops_of (sym (s.left ∙ ap (λ (l : List Pair). gathered ahead k (map f l) (held_visits g)) (rows_end rule pair np nq j h)))

-- of two sheets
module _ (big : ℕ) (a : Terms) (o : List ℕ) (P Q : List ℤ) (np mp nq mq : ℕ) (op : Opens P np mp) (oq : Opens Q nq mq) where
  pub visits_list : list_by (listed_to big a o (points_of P) (points_of Q)) (pair_by (profile_for a) (points_of P) (points_of Q)) np nq ≡ list_to big a o (points_of P) (points_of Q)
  visits_list = list_of_sheets big a o P Q np mp nq mq op oq

  pub visits_ascend : ascends start (list_by (listed_to big a o (points_of P) (points_of Q)) (pair_by (profile_for a) (points_of P) (points_of Q)) np nq) ≡ true
  unfolding list_to
  visits_ascend = ap (ascends start) visits_list ∙ made_ascends (profile_for a) (listed_to big a o (points_of P) (points_of Q)) (points_of P) (points_of Q) (points_rise op) (points_rise oq)

  pub visits_rise : (x y : ℕ) → x < y → y < nq → id_at (points_of Q) x < id_at (points_of Q) y
  visits_rise x y h g = rises_far (id_at (points_of Q)) (length (points_of Q)) (points_rise oq) x y h (omega (arith, points_many Q nq mq oq))

pub visit_pair : (P Q : List Point) (ps qs : List ℕ) (v : Pair) → (visit_of P Q ps qs v).pair ≡ v
unfolding visit_of
visit_pair P Q ps qs v = refl
