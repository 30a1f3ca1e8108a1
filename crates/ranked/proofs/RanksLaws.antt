-- Ranks: their order, the ranks of some records one after the other, and the k busiest of them.
--     busier_order      it is an order; busier_says, busier_so: what it says, in numbers
--     ranks_next, ranks_end, ranks_only, ranks_same, ranks_apart     of the records one after the other
--     idle_row          a chamber with few candidates has few pairs
--     Counting          the loop over the candidates: met_start, met_turn, met_done
--     Going             the loop over the chambers: rank_start, rank_turn, rank_done
-- Assumes nothing.
use mathlib.Core.Path.{◌≡◌, refl, sym, ap, ap₂, subst, ◌∙◌}
use mathlib.Core.Bool.{Bool, true, false, cond, not, ◌&&◌}
use mathlib.Core.Logic.{◌⊎◌, inl, inr, ⊎_elim}
use mathlib.Core.List.{List, [], ◌∷◌, ◌++◌, Memᴰ}
use Prim.Native.Nat.{ℕ, zero, suc, ◌+◌, ◌-◌, ◌*◌, ◌≤◌, ◌<◌}
use native.Mathlib.Omega.{arith}
use native.Mathlib.Nat.{eq-or-lt_of_le}
use lib.Dec.{eqb, ltb}
use lib.IntN.{ℤ}
use lib.ListN.{length, take, get_or}
use borrow.Author.Tests.{ltb-true, ltb-false, lt-ltb, le-ltb, eqb-true, eq-eqb}
use Rattle.integers.proofs.Bools.{decide, and_both, or_both_false, clash, failed, passed}
use Rattle.plane.specs.Point.{id_at}
use Rattle.sheet.specs.Open.{Opens}
use Rattle.sheet.specs.Places.{points_of}
use Rattle.bits.specs.Set.{at, kept, card_in, card, next_from}
use Rattle.bits.proofs.SetLaws.{at_lt, not_kept_at}
use Rattle.bits.proofs.NextLaws.{from_skip}
use Rattle.list.specs.declared.Pair.{Pair}
use Rattle.list.specs.declared.Terms.{Terms}
use Rattle.list.specs.Rows.{row}
use Rattle.list.specs.RingList.{pair_by}
use Rattle.list.specs.Terms.{profile_for}
use Rattle.list.proofs.RowLaws.{rises_far}
use Rattle.join.proofs.Meaning.{points_rise}
use Rattle.seeds.specs.Covers.{Covers}
use Rattle.chamber.specs.Sized.{small_for}
use Rattle.chamber.specs.Chamber.{PairsOn}
use Rattle.chamber.proofs.KeepLaws.{row_nil, row_yes, row_no, row_short, small_covered}
use Rattle.chamber.proofs.ListedLaws.{points_many}
use Rattle.ranked.specs.declared.Rank.{Rank}
use Rattle.ranked.specs.declared.Busy.{Busy}
use Rattle.sorting.specs.declared.Firsts.{Firsts}
use Rattle.sorting.specs.Ranking.{put_by, first_by, gathered, Sorted, Apart}
use Rattle.ranked.specs.Busiest.{busier, Busier, no_rank, ranks_from, busy_given}
pub use Rattle.ranked.specs.Orders.{busier_order}
use Rattle.ranked.specs.Ranks.{ranks_of, held_ranks, HeldRanks, Below, Idle, row_rank}
use Rattle.sorting.proofs.RankingLaws.{gathered_first, gathered_two, gathered_only}
use Rattle.sorting.proofs.FirstsLaws.{firsts_whole, held_is, firsts_held, held_gathered, fair_gathered, last_in_held, offer_not}
use Rattle.sorting.proofs.LexLaws.{or_first, or_second, or_and, and_none, more_total}

-- ---- the order

pub busier_says : (v w : Rank) → busier v w ≡ true → Busier v w
unfolding busier
busier_says v w e =
    ⊎_elim
    (λ (x : ltb w.pairs v.pairs ≡ true). inl (ltb-true w.pairs v.pairs x))
    (λ (x : (eqb v.pairs w.pairs ≡ true) × (ltb v.id w.id ≡ true)). inr (eqb-true v.pairs w.pairs x.0, ltb-true v.id w.id x.1))
    (or_and (ltb w.pairs v.pairs) (eqb v.pairs w.pairs) (ltb v.id w.id) e)

by_pairs : (v w : Rank) → w.pairs < v.pairs → busier v w ≡ true
unfolding busier
by_pairs v w h = or_first (ltb w.pairs v.pairs) (eqb v.pairs w.pairs && ltb v.id w.id) (lt-ltb w.pairs v.pairs h)

by_ids : (v w : Rank) → v.pairs ≡ w.pairs → v.id < w.id → busier v w ≡ true
unfolding busier
by_ids v w e h =
    or_second (ltb w.pairs v.pairs) (eqb v.pairs w.pairs && ltb v.id w.id)
    (and_both (eqb v.pairs w.pairs) (ltb v.id w.id) (eq-eqb v.pairs w.pairs e) (lt-ltb v.id w.id h))

pub busier_so : (v w : Rank) → Busier v w → busier v w ≡ true
busier_so v w s = ⊎_elim (λ (h : w.pairs < v.pairs). by_pairs v w h) (λ (h : (v.pairs ≡ w.pairs) × (v.id < w.id)). by_ids v w h.0 h.1) s

not_busier : (v w : Rank) → v.pairs ≤ w.pairs → w.id ≤ v.id → busier v w ≡ false
unfolding busier
not_busier v w h g =
    or_both_false (ltb w.pairs v.pairs) (eqb v.pairs w.pairs && ltb v.id w.id)
    (le-ltb w.pairs v.pairs h)
    (and_none (eqb v.pairs w.pairs) (ltb v.id w.id) (le-ltb v.id w.id g))

-- of two ids the ranks are told apart
told_apart : (v w : Rank) → v.id < w.id → (busier v w ≡ true) ⊎ (busier w v ≡ true)
told_apart v w h =
    ⊎_elim
    (λ (e : ltb v.pairs w.pairs ≡ true). inr (by_pairs w v (ltb-true v.pairs w.pairs e)))
    (λ (e : ltb v.pairs w.pairs ≡ false).
    ⊎_elim
    (λ (f : ltb w.pairs v.pairs ≡ true). inl (by_pairs v w (ltb-true w.pairs v.pairs f)))
    (λ (f : ltb w.pairs v.pairs ≡ false). inl (by_ids v w (more_total v.pairs w.pairs f e) h))
    (decide (ltb w.pairs v.pairs)))
    (decide (ltb v.pairs w.pairs))

-- ---- one after the other

module _ (has : ℕ → Bool) (rank : ℕ → Rank) where
  pub ranks_next : (n j : ℕ) → j < n → ranks_from has rank (n - j) j ≡ ranks_from has rank 1 j ++ ranks_from has rank (n - (j + 1)) (j + 1)
  unfolding ranks_from
  ranks_next n j h = let s : n - j ≡ suc (n - (j + 1)) = omega arith in ap (λ (k : ℕ). ranks_from has rank k j) s ∙ go (ranks_from has rank (n - (j + 1)) (j + 1)) (has j)
    where
      go : (l : List Rank) (b : Bool) → cond b (rank j ∷ l) l ≡ cond b (rank j ∷ []) [] ++ l
      go l true = refl
      go l false = refl

  pub ranks_end : (n j : ℕ) → n ≤ j → ranks_from has rank (n - j) j ≡ []
  unfolding ranks_from
  ranks_end n j h = let s : n - j ≡ 0 = omega arith in ap (λ (k : ℕ). ranks_from has rank k j) s

  ranks_yes : (j : ℕ) → has j ≡ true → ranks_from has rank 1 j ≡ rank j ∷ []
  unfolding ranks_from
  ranks_yes j e = rw e

  ranks_no : (j : ℕ) → has j ≡ false → ranks_from has rank 1 j ≡ []
  unfolding ranks_from
  ranks_no j e = rw e

  pub record RankAt (j k : ℕ) (v : Rank) : Type 0 where
    pub place : ℕ
    pub from : j ≤ place
    pub to : place < j + k
    pub taken : has place ≡ true
    pub is : v ≡ rank place

  pub ranks_only : (k j : ℕ) (v : Rank) → Memᴰ v (ranks_from has rank k j) → RankAt j k v
  unfolding ranks_from
  ranks_only zero j v m = absurd (mathlib.Core.List.Memᴰ.not-nil m)
  ranks_only (suc k) j v m = go (λ n. wider (ranks_only k (j + 1) v n)) (has j) refl m
    where
      wider : RankAt (j + 1) k v → RankAt j (suc k) v
      wider z = record { place = z.place; from = omega (arith, z.from); to = omega (arith, z.to); taken = z.taken; is = z.is }

      go : (Memᴰ v (ranks_from has rank k (j + 1)) → RankAt j (suc k) v) → (b : Bool) → has j ≡ b
          → Memᴰ v (cond b (rank j ∷ ranks_from has rank k (j + 1)) (ranks_from has rank k (j + 1))) → RankAt j (suc k) v
      go ih true e n =
          ⊎_elim
          (λ (x : v ≡ rank j). record { place = j; from = omega arith; to = omega arith; taken = e; is = x })
          (λ x. ih x)
          (mathlib.Core.List.Memᴰ.cases_cons n)
      go ih false e n = ih n

  pub ranks_there : (k j x : ℕ) → j ≤ x → x < j + k → has x ≡ true → Memᴰ (rank x) (ranks_from has rank k j)
  unfolding ranks_from
  ranks_there zero j x a b e = absurd (omega arith)
  ranks_there (suc k) j x a b e =
      ⊎_elim
      (λ (s : j ≡ x). rw (s, e) (mathlib.Core.List.Memᴰ.head refl))
      (λ (s : j < x).
      let m = ranks_there k (j + 1) x (omega arith) (omega arith) e in
      ⊎_elim (λ (f : has j ≡ true). rw f (mathlib.Core.List.Memᴰ.tail m)) (λ (f : has j ≡ false). rw f m) (decide (has j)))
      (eq-or-lt_of_le a)

  -- where the ids rise the order tells any two apart
  pub ranks_apart : (n : ℕ) → ((x y : ℕ) → x < y → y < n → (rank x).id < (rank y).id) → (k j : ℕ) → j + k ≤ n → Apart busier (ranks_from has rank k j)
  unfolding ranks_from Apart
  ranks_apart n r zero j h = tt
  ranks_apart n r (suc k) j h = go (ranks_apart n r k (j + 1) (omega arith)) (has j)
    where
      go : Apart busier (ranks_from has rank k (j + 1)) → (b : Bool) → Apart busier (cond b (rank j ∷ ranks_from has rank k (j + 1)) (ranks_from has rank k (j + 1)))
      go ih true = (λ w m. let z = ranks_only k (j + 1) w m in told_apart (rank j) w (rw z.is (r j z.place (omega (arith, z.from)) (omega (arith, z.to)))), ih)
      go ih false = ih

-- ranks that agree where they are taken
pub ranks_same : (has : ℕ → Bool) (rank other : ℕ → Rank) (k j : ℕ) → ((x : ℕ) → j ≤ x → x < j + k → has x ≡ true → rank x ≡ other x) → ranks_from has rank k j ≡ ranks_from has other k j
unfolding ranks_from
ranks_same has rank other zero j e = refl
ranks_same has rank other (suc k) j e = go (has j) refl (ranks_same has rank other k (j + 1) (λ x a b. e x (omega arith) (omega arith)))
  where
    go : (b : Bool) → has j ≡ b → ranks_from has rank k (j + 1) ≡ ranks_from has other k (j + 1)
        → cond b (rank j ∷ ranks_from has rank k (j + 1)) (ranks_from has rank k (j + 1)) ≡ cond b (other j ∷ ranks_from has other k (j + 1)) (ranks_from has other k (j + 1))
    go true h ih = ap₂ (λ (v : Rank) (l : List Rank). v ∷ l) (e j (omega arith) (omega arith) h) ih
    go false h ih = ih

-- ---- few candidates, few pairs

kept_one : (b : List ℕ) (i : ℕ) → kept b i ≡ true → at b i ≡ 1
unfolding kept
kept_one b i e = eqb-true (at b i) 1 e

row_card : (rule : ℕ → ℕ → Bool) (pair : ℕ → ℕ → Pair) (b : List ℕ) (j k i : ℕ) → ((x : ℕ) → i ≤ x → x < i + k → rule j x ≡ true → kept b x ≡ true) → length (row rule pair j k i) ≤ card_in b k i
unfolding card_in
row_card rule pair b j zero i f = omega (arith, ap length (row_nil rule pair j i))
row_card rule pair b j (suc k) i f =
    let ih = row_card rule pair b j k (i + 1) (λ x u v. f x (omega arith) (omega arith)) in
    ⊎_elim
    (λ (e : rule j i ≡ true). omega (arith, ap length (row_yes rule pair j k i e), kept_one b i (f i (omega arith) (omega arith) e)))
    (λ (e : rule j i ≡ false). omega (arith, ap length (row_no rule pair j k i e)))
    (decide (rule j i))

card_more : (ws : List ℕ) (a b i : ℕ) → card_in ws a i ≤ card_in ws (a + b) i
unfolding card_in
card_more ws zero b i = omega arith
card_more ws (suc a) b i = let e : suc a + b ≡ suc (a + b) = omega arith in rw e (omega (arith, card_more ws a b (i + 1)))

card_part : (ws : List ℕ) (n : ℕ) → n ≤ 64 * length ws → card_in ws n 0 ≤ card ws
unfolding card
card_part ws n h = let e : n + (64 * length ws - n) ≡ 64 * length ws = omega arith in subst (λ (x : ℕ). card_in ws n 0 ≤ card_in ws x 0) e (card_more ws n (64 * length ws - n) 0)

-- as many pairs as the chamber has are kept, so where that many are too few, it is idle
module _ (big : ℕ) (t : Terms) (P Q : List ℤ) (np mp : ℕ) (o : Opens P np mp) (j : ℕ) (b : List ℕ) (c : Covers t.grid P Q j b) (h : np ≤ 64 * length b) where
  few_pairs : (row_rank big t (points_of P) (points_of Q) j).pairs ≤ card b
  few_pairs =
      let many = points_many P np mp o in
      omega (arith, row_card (small_for big t (points_of P) (points_of Q)) (pair_by (profile_for t) (points_of P) (points_of Q)) b j (length (points_of P)) 0 (λ x u v e. small_covered big t P Q j b c x (omega (arith, many, o.n_is)) e), card_part b (length (points_of P)) (omega (arith, many)))

  pub idle_row : (k : ℕ) (g : Firsts Rank) (r : Bool) → Idle (card b) k g r → Idle (row_rank big t (points_of P) (points_of Q) j).pairs k g r
  idle_row k g r i = record { full = i.full; fewer = λ x. omega (arith, i.fewer x, few_pairs) }

pub idle_said : (most k : ℕ) (g : Firsts Rank) → k ≤ g.count → (t : Bool) (wide : ℕ) → (t ≡ true → most ≤ wide) → wide ≡ (get_or g.rows (k - 1) no_rank).pairs → Idle most k g t
idle_said most k g full t wide e f = record { full = λ x. full; fewer = λ x. omega (arith, e x) }

pub idle_not : (pairs k : ℕ) (g : Firsts Rank) → Idle pairs k g false
idle_not pairs k g = record { full = λ e. clash e refl; fewer = λ e. clash e refl }

-- ---- the kept positions, counted until one is too many

-- how many are kept from i on
unfoldable pub kept_from : List ℕ → ℕ → ℕ
kept_from ws i = card_in ws (64 * length ws - i) i

kept_all : (ws : List ℕ) → kept_from ws 0 ≡ card ws
unfolding kept_from card
kept_all ws = let s : 64 * length ws - 0 ≡ 64 * length ws = omega arith in ap (λ (n : ℕ). card_in ws n 0) s

kept_step : (ws : List ℕ) (i : ℕ) → i < 64 * length ws → kept_from ws i ≡ at ws i + kept_from ws (i + 1)
unfolding kept_from card_in
kept_step ws i h = let s : 64 * length ws - i ≡ suc (64 * length ws - (i + 1)) = omega arith in ap (λ (n : ℕ). card_in ws n i) s

kept_end : (ws : List ℕ) (i : ℕ) → 64 * length ws ≤ i → kept_from ws i ≡ 0
unfolding kept_from card_in
kept_end ws i h = let s : 64 * length ws - i ≡ 0 = omega arith in ap (λ (n : ℕ). card_in ws n i) s

kept_past : (ws : List ℕ) (i : ℕ) → kept ws i ≡ false → kept_from ws i ≡ kept_from ws (i + 1)
kept_past ws i e =
    ⊎_elim
    (λ (h : ltb i (64 * length ws) ≡ true). omega (arith, kept_step ws i (ltb-true i (64 * length ws) h), not_kept_at ws i e))
    (λ (h : ltb i (64 * length ws) ≡ false). let g = ltb-false i (64 * length ws) h in omega (arith, kept_end ws i g, kept_end ws (i + 1) (omega arith)))
    (decide (ltb i (64 * length ws)))

-- after so many were met before i
pub record Counting (ws : List ℕ) (most left i : ℕ) : Type 0 where
  pub counted : card ws + left ≤ most + kept_from ws i

pub met_start : (ws : List ℕ) (most i : ℕ) → i ≡ next_from ws 0 → Counting ws most most i
met_start ws most i e = record { counted = omega (arith, kept_all ws, from_skip ws (kept_from ws) (kept_past ws) 0 i e) }

pub met_turn : (ws : List ℕ) (most left i u : ℕ) → Counting ws most left i → (left ≡ 0 → ⊥) → i < 64 * length ws → u ≡ next_from ws (i + 1) → Counting ws most (left - 1) u
met_turn ws most left i u c some h e = record { counted = omega (arith, c.counted, some, kept_step ws i h, at_lt ws i, from_skip ws (kept_from ws) (kept_past ws) (i + 1) u e) }

pub met_done : (ws : List ℕ) (most left i : ℕ) → Counting ws most left i → 64 * length ws ≤ i → card ws ≤ most
met_done ws most left i c h = omega (arith, c.counted, kept_end ws i h)

-- ---- a chamber

module _ (has : ℕ → Bool) (rank : ℕ → Rank) (k : ℕ) (j : ℕ) (g : Firsts Rank) (h : HeldRanks k g) where
  -- it is not the contractor's
  pub chamber_other : (m : Bool) → m ≡ has j → not m ≡ true → g ≡ ranks_of (gathered busier k (ranks_from has rank 1 j) (held_ranks g))
  unfolding gathered
  chamber_other m e n = firsts_whole busier no_rank k g h ∙ ap (λ (l : List Rank). ranks_of (gathered busier k l (held_ranks g))) (sym (ranks_no has rank j (failed e n)))

  module _ (m : Bool) (e : m ≡ has j) (n : not m ≡ false) where
    one : ranks_from has rank 1 j ≡ rank j ∷ []
    one = ranks_yes has rank j (passed e n)

    -- it is offered
    pub chamber_offered : (v : Rank) → v ≡ rank j → (r : Firsts Rank) → r ≡ ranks_of (take k (put_by busier v (held_ranks g))) → r ≡ ranks_of (gathered busier k (ranks_from has rank 1 j) (held_ranks g))
    unfolding gathered
    chamber_offered v f r d = d ∙ ap (λ (x : Rank). ranks_of (take k (put_by busier x (held_ranks g)))) f ∙ ap (λ (l : List Rank). ranks_of (gathered busier k l (held_ranks g))) (sym one)

    -- it cannot be among them
    pub chamber_idle : 1 ≤ k → k ≤ 16 → Below (rank j).id (held_ranks g) → (t : Bool) → Idle (rank j).pairs k g t → t ≡ true → g ≡ ranks_of (gathered busier k (ranks_from has rank 1 j) (held_ranks g))
    chamber_idle some most below t idle f =
        let full = idle.full f in
        let last = get_or g.rows (k - 1) no_rank in
        let held = last_in_held busier no_rank k some most g h full in
        let id : (get_or (held_ranks g) (k - 1) no_rank).id < (rank j).id = below.below _ held.1 in
        let later : last.id ≤ (rank j).id = omega (arith, ap (λ (x : Rank). x.id) held.0) in
        chamber_offered (rank j) refl g (offer_not busier no_rank k some most g h (rank j) busier_order full (not_busier (rank j) last (idle.fewer f) later))

-- the rank of a chamber whose pairs are so many
pub rank_found : (big : ℕ) (t : Terms) (P Q : List ℤ) (np mp : ℕ) → Opens P np mp → (j : ℕ) (b : List ℕ) (found : ℕ)
    → PairsOn (small_for big t (points_of P) (points_of Q)) (pair_by (profile_for t) (points_of P) (points_of Q)) j np b found
    → (id pairs : ℕ) → id ≡ id_at (points_of Q) j → pairs ≡ found → ◌≡◌ {A = Rank} (record { id = id; pairs = pairs }) (row_rank big t (points_of P) (points_of Q) j)
rank_found big t P Q np mp o j b found on id pairs e f =
    let many : np ≡ length (points_of P) = sym (points_many P np mp o) in
    let p : pairs ≡ (row_rank big t (points_of P) (points_of Q) j).pairs = f ∙ on.counted ∙ ap (λ (n : ℕ). length (row (small_for big t (points_of P) (points_of Q)) (pair_by (profile_for t) (points_of P) (points_of Q)) j n 0)) many in
    λ i. record { id = e i; pairs = p i }

pub found_fits : (rule : ℕ → ℕ → Bool) (pair : ℕ → ℕ → Pair) (j np : ℕ) (b : List ℕ) (found : ℕ) → PairsOn rule pair j np b found → np ≤ 60000 → found ≤ 60000
found_fits rule pair j np b found on h = omega (arith, on.counted, row_short rule pair j np 0)

-- ---- the loop over the chambers

module _ (has : ℕ → Bool) (rank : ℕ → Rank) (k n : ℕ) where
  pub record Going (g : Firsts Rank) (j : ℕ) : Type 0 where
    pub upto : j ≤ n
    pub held : HeldRanks k g
    pub left : first_by busier k (ranks_from has rank n 0) ≡ gathered busier k (ranks_from has rank (n - j) j) (held_ranks g)
    pub passed : (v : Rank) → Memᴰ v (held_ranks g) → (x : ℕ) × (x < j) × (v ≡ rank x)

  module _ (rises : (x y : ℕ) → x < y → y < n → (rank x).id < (rank y).id) where
    pub rank_start : (g : Firsts Rank) → g ≡ ranks_of [] → Going g 0
    unfolding Sorted
    rank_start g e =
        let none : held_ranks g ≡ [] = held_is busier no_rank [] g e in
        let all : n - 0 ≡ n = omega arith in
        record {
          upto = omega arith;
          held = firsts_held busier no_rank k [] (omega arith) tt g e;
          left = sym (gathered_first busier busier_order k (ranks_from has rank n 0) (ranks_apart has rank n rises n 0 (omega arith))) ∙ ap (λ (m : ℕ). gathered busier k (ranks_from has rank m 0) []) (sym all) ∙ ap (gathered busier k (ranks_from has rank (n - 0) 0)) (sym none);
          passed = λ v m. absurd (mathlib.Core.List.Memᴰ.not-nil (subst (Memᴰ v) none m));
        }

    module _ (g : Firsts Rank) (j : ℕ) (s : Going g j) (h : j < n) where
      pub ranks_below : Below (rank j).id (held_ranks g)
      ranks_below = record { below = λ v m. let z = s.passed v m in rw z.2 (rises z.0 j z.1 h) }

      pub rank_turn : (r : Firsts Rank) → r ≡ ranks_of (gathered busier k (ranks_from has rank 1 j) (held_ranks g)) → Going r (j + 1)
      rank_turn r e =
          let t = gathered busier k (ranks_from has rank 1 j) (held_ranks g) in
          let is : held_ranks r ≡ t = held_gathered busier no_rank k (ranks_from has rank 1 j) g r e in
          record {
            upto = omega arith;
            held = fair_gathered busier no_rank k (ranks_from has rank 1 j) g r e busier_order s.held;
            left = s.left
                ∙ ap (λ (l : List Rank). gathered busier k l (held_ranks g)) (ranks_next has rank n j h)
                ∙ gathered_two busier k (ranks_from has rank 1 j) (ranks_from has rank (n - (j + 1)) (j + 1)) (held_ranks g)
                ∙ ap (gathered busier k (ranks_from has rank (n - (j + 1)) (j + 1))) (sym is);
            passed = λ v m.
                ⊎_elim
                (λ (x : Memᴰ v (held_ranks g)). let z = s.passed v x in (z.0, omega (arith, z.1), z.2))
                (λ (x : Memᴰ v (ranks_from has rank 1 j)). let z = ranks_only has rank 1 j v x in (z.place, z.to, z.is))
                (gathered_only busier k (ranks_from has rank 1 j) (held_ranks g) v (subst (Memᴰ v) is m));
          }

  pub rank_done : (g : Firsts Rank) (j : ℕ) → Going g j → n ≤ j → g ≡ ranks_of (first_by busier k (ranks_from has rank n 0))
  unfolding gathered
  rank_done g j s h =
      firsts_whole busier no_rank k g s.held ∙ ap ranks_of (sym (s.left ∙ ap (λ (l : List Rank). gathered busier k l (held_ranks g)) (ranks_end has rank n j h)))

-- the answer
pub busy_given_lem : (l : List Rank) (g : Firsts Rank) → g ≡ ranks_of l → ◌≡◌ {A = Busy} (record { number = 0; count = g.count; rows = g.rows }) (busy_given l)
unfolding busy_given
busy_given_lem l g e = ap (λ (x : Firsts Rank). record { number = 0; count = x.count; rows = x.rows }) e

pub busy_same : (r : Busy) (l m : List Rank) → r ≡ busy_given l → l ≡ m → r ≡ busy_given m
busy_same r l m e f = e ∙ ap busy_given f

-- the ids of a sheet's chambers rise
pub rank_rises : (big : ℕ) (t : Terms) (P Q : List ℤ) (nq mq : ℕ) → Opens Q nq mq → (x y : ℕ) → x < y → y < nq → (row_rank big t (points_of P) (points_of Q) x).id < (row_rank big t (points_of P) (points_of Q) y).id
rank_rises big t P Q nq mq o x y h g = rises_far (id_at (points_of Q)) (length (points_of Q)) (points_rise o) x y h (omega (arith, points_many Q nq mq o))
