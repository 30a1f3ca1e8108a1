-- The walks of the terms, whichever the kind: their words, room for their count, and a chamber as the code has it.
-- Assumes nothing.
use mathlib.Core.Path.{◌≡◌, refl, sym, ap, ap₂, subst, ◌∙◌}
use mathlib.Core.Bool.{Bool, true, false, not, ◌&&◌}
use mathlib.Core.Logic.{⊎_elim}
use mathlib.Core.List.{List}
use Prim.Native.Nat.{ℕ, ◌+◌, ◌*◌, ◌≤◌, ◌<◌}
use native.Mathlib.Omega.{arith}
use native.Mathlib.Nat.{eq-or-lt_of_le}
use lib.Dec.{eqb, ltb}
use lib.IntN.{ℤ}
use lib.ListN.{length}
use borrow.Author.Tests.{ltb-true, ltb-false, lt-ltb, le-ltb, ne_eqb}
use Rattle.integers.proofs.Bools.{decide}
use Rattle.plane.specs.declared.Spot.{Spot}
use Rattle.plane.specs.Profile.{profile_of}
use Rattle.plane.proofs.ProfileLaws.{profile_lawful}
use Rattle.plane.specs.Point.{id_at}
use Rattle.sheet.specs.Layout.{points}
use Rattle.sheet.specs.Places.{spot_of, points_of}
use Rattle.sheet.specs.Open.{Opens}
use Rattle.sheet.proofs.SheetLaws.{by_counts}
use Rattle.bits.specs.Set.{kept}
use Rattle.walk.specs.declared.Answer.{Answer}
use Rattle.walk.specs.FilterWalk.{keeps_by, keeps_opened}
use Rattle.walk.specs.RingWalk.{clear, clear_at, ring_on, ring_walk, pair_walk_by}
use Rattle.walk.specs.SelfWalk.{pass_keeps_by}
use Rattle.walk.proofs.Meaning.{keeps_below, keeps_opened_at_most_m, walk_ring_opened_at_most_m}
use Rattle.walk.proofs.SelfLaws.{pass_opened_by, pass_keeps_by_lem}
use Rattle.list.specs.declared.Key.{Key}
use Rattle.list.specs.declared.Terms.{Terms}
use Rattle.list.specs.Terms.{profile_for}
use Rattle.list.proofs.RowLaws.{rises_far}
use Rattle.join.specs.declared.Draft.{Draft}
use Rattle.join.specs.Walks.{Agrees}
use Rattle.join.specs.Maker.{spent, partners, chamber}
use Rattle.join.specs.Sheets.{walks_by, walks_of, self_walks, start_for, Alone}
use Rattle.join.specs.Threshold.{ring_opened}
use Rattle.join.proofs.TurnLaws.{Capped, all_words}
use Rattle.join.proofs.CallLaws.{capped}
use Rattle.join.proofs.ThresholdLaws.{ring_few}
use Rattle.join.proofs.Meaning.{ids_rise, by_kind}

-- ---- the ring walk

module _ (a : Terms) (P Q : List ℤ) (words j i : ℕ) (r : Answer) where
  abbrev Walked : Type 0
  Walked = (clear r.hit ≡ (walks_by a words P Q).clear j i) × (r.opened ≡ (walks_by a words P Q).clear_opened j i)

  -- once over the one sheet
  pub walked_once : a.own ≡ true → (x y : Spot) → x ≡ spot_of Q j → y ≡ spot_of P i → r ≡ ring_on (profile_for a) 0 P x y (clear_at 0) → Walked
  unfolding ring_walk
  walked_once e x y ex ey is =
      let z : r ≡ ring_on (profile_for a) 0 P (spot_of Q j) (spot_of P i) (clear_at 0) = is ∙ ap₂ (λ (u v : Spot). ring_on (profile_for a) 0 P u v (clear_at 0)) ex ey in
      rw e (ap (λ (u : Answer). clear u.hit) z, ap (λ (u : Answer). u.opened) z)

  -- over both
  pub walked_both : a.own ≡ false → r ≡ pair_walk_by (profile_for a) P Q j i → Walked
  walked_both e is = rw e (ap (λ (u : Answer). clear u.hit) is, ap (λ (u : Answer). u.opened) is)

-- ---- a self join

module _ {S : List ℤ} {n m : ℕ} (o : Opens S n m) (g : Bool) where
  module _ (words : ℕ) (enough : n ≤ 64 * words) where
    pub own_capped : Capped (self_walks g words S) m m
    own_capped =
        record {
          filter = λ j. omega (arith, o.m_is, o.n_is, pass_opened_by words S (by_counts o) (omega (arith, o.n_is)) j (profile_of g), keeps_opened_at_most_m (profile_of g) words S (spot_of S j) (by_counts o));
          ring = λ j i. omega (arith, o.m_is, walk_ring_opened_at_most_m (profile_of g) (profile_lawful g) 0 S (by_counts o) (spot_of S j) (spot_of S i));
        }

  -- ---- the words: what stands after j on them is what is kept of higher id

  module _ (j : ℕ) (hj : j < n) (ws : List ℕ) (enough : n ≤ 64 * length ws) (e : (i : ℕ) → keeps_by (profile_of g) (length ws) S (spot_of S j) i ≡ kept ws i) where
    ids : ℕ → ℕ
    ids = id_at (points_of S)

    few : points S ≤ 64 * length ws
    few = omega (arith, o.n_is)

    no_and : (a : Bool) {b : Bool} → b ≡ false → (a && b) ≡ false
    no_and true x = x
    no_and false x = refl

    yes_and : (a : Bool) {b : Bool} → b ≡ true → (a && b) ≡ a
    yes_and true x = x
    yes_and false x = refl

    not_and : (a b c : Bool) → a ≡ (c && b) → c ≡ false → a ≡ false
    not_and a b c x y = x ∙ ap (λ (z : Bool). z && b) y

    before : (i : ℕ) → i < j + 1 → (pass_keeps_by (profile_of g) (length ws) S j i && ltb (id_at (points_of S) j) (id_at (points_of S) i)) ≡ false
    before i h = no_and (pass_keeps_by (profile_of g) (length ws) S j i) (le-ltb (id_at (points_of S) j) (id_at (points_of S) i) low)
      where
        low : id_at (points_of S) i ≤ id_at (points_of S) j
        low =
            ⊎_elim
            (λ (x : i ≡ j). let y : id_at (points_of S) i ≡ id_at (points_of S) j = ap (id_at (points_of S)) x in omega arith)
            (λ (x : i < j). omega (arith, rises_far (id_at (points_of S)) n (ids_rise o) i j x hj))
            (eq-or-lt_of_le {n = i} {m = j} (omega arith))

    after : (i : ℕ) → j + 1 ≤ i → (pass_keeps_by (profile_of g) (length ws) S j i && ltb (id_at (points_of S) j) (id_at (points_of S) i)) ≡ kept ws i
    after i h =
        ⊎_elim
        (λ (x : ltb i n ≡ true).
        yes_and (pass_keeps_by (profile_of g) (length ws) S j i) (lt-ltb (id_at (points_of S) j) (id_at (points_of S) i) (rises_far (id_at (points_of S)) n (ids_rise o) j i (omega arith) (ltb-true i n x)))
        ∙ pass_keeps_by_lem (length ws) S (by_counts o) few j (profile_of g) i
        ∙ yes_and (keeps_by (profile_of g) (length ws) S (spot_of S j) i) (ap not (ne_eqb i j (λ y. omega arith)))
        ∙ e i)
        (λ (x : ltb i n ≡ false).
        let gone = nobody (ltb-false i n x) in
        ap (λ (y : Bool). y && ltb (id_at (points_of S) j) (id_at (points_of S) i)) (not_and (pass_keeps_by (profile_of g) (length ws) S j i) (not (eqb i j)) (keeps_by (profile_of g) (length ws) S (spot_of S j) i) (pass_keeps_by_lem (length ws) S (by_counts o) few j (profile_of g) i) gone)
        ∙ sym (sym (e i) ∙ gone))
        (decide (ltb i n))
      where
        nobody : n ≤ i → keeps_by (profile_of g) (length ws) S (spot_of S j) i ≡ false
        nobody past =
            ⊎_elim
            (λ (y : keeps_by (profile_of g) (length ws) S (spot_of S j) i ≡ true). absurd (omega (arith, o.n_is, keeps_below (profile_of g) (length ws) S (spot_of S j) (by_counts o) few i y)))
            (λ (y : keeps_by (profile_of g) (length ws) S (spot_of S j) i ≡ false). y)
            (decide (keeps_by (profile_of g) (length ws) S (spot_of S j) i))

    pub own_words : Agrees (self_walks g (length ws) S) j (j + 1) ws
    own_words = record { early = before; held = after }

-- ---- the terms

module _ {P Q : List ℤ} {np mp nq mq : ℕ} (o : Opens P np mp) (o' : Opens Q nq mq) (a : Terms) (al : Alone a P Q) where
  pub by_capped : (words : ℕ) → np ≤ 64 * words → Capped (walks_by a words P Q) mp (mp + mq)
  by_capped words enough =
      by_kind (λ t R. Capped (walks_by t words P R) mp (mp + mq)) a P Q al
      (λ t. capped o o' t.grid words)
      (λ t. let c = own_capped o t.grid words enough in record { filter = c.filter; ring = λ j i. omega (arith, c.ring j i) })

  -- words that hold what the terms' profile keeps for the q at j agree with the walks, from where the partners start
  pub by_agrees : (j : ℕ) → j < nq → (ws : List ℕ) → np ≤ 64 * length ws → ((i : ℕ) → keeps_by (profile_for a) (length ws) P (spot_of Q j) i ≡ kept ws i) → (from : ℕ) → from ≡ start_for a j → Agrees (walks_by a (length ws) P Q) j from ws
  unfolding start_for
  by_agrees j h ws enough e from ef =
      by_kind (λ t R. ((i : ℕ) → keeps_by (profile_for t) (length ws) P (spot_of R j) i ≡ kept ws i) → j < points R → (from : ℕ) → from ≡ start_for t j → Agrees (walks_by t (length ws) P R) j from ws) a P Q al
      (λ t e h from ef. subst (λ (k : ℕ). Agrees (walks_of t.grid (length ws) P Q) j k ws) (sym ef) (all_words (walks_of t.grid (length ws) P Q) j ws e))
      (λ t e h from ef. subst (λ (k : ℕ). Agrees (self_walks t.grid (length ws) P) j k ws) (sym ef) (own_words o t.grid j (omega (arith, o.n_is)) ws enough e))
      e (omega (arith, o'.n_is)) from ef

  -- what is opened to keep them
  pub by_opened : (words : ℕ) → np ≤ 64 * words → (j : ℕ) (z : Spot) → z ≡ spot_of Q j → (c : ℕ) → c ≡ keeps_opened (profile_for a) words P z → c ≡ (walks_by a words P Q).kept_opened j
  by_opened words enough j z ez c ec =
      ec
      ∙ by_kind (λ t R. z ≡ spot_of R j → keeps_opened (profile_for t) words P z ≡ (walks_by t words P R).kept_opened j) a P Q al
      (λ t e. ap (keeps_opened (profile_for t) words P) e)
      (λ t e. ap (keeps_opened (profile_for t) words P) e ∙ sym (pass_opened_by words P (by_counts o) (omega (arith, o.n_is)) j (profile_for t)))
      ez

  -- a chamber of the full list, as the code has it: b words were lent, and they are l now
  pub by_chamber : (j : ℕ) (z : Spot) → z ≡ spot_of Q j → (l b : ℕ) → l ≡ b → np ≤ 64 * b → (key : Key) (size c : ℕ) (d r : Draft) → c ≡ keeps_opened (profile_for a) b P z → r ≡ partners (walks_by a l P Q) key size j np 0 (spent c d) → r ≡ chamber (walks_by a b P Q) key size np j d
  unfolding chamber
  by_chamber j z ez l b el enough key size c d r ec e =
      e
      ∙ ap (λ (k : ℕ). partners (walks_by a k P Q) key size j np 0 (spent c d)) el
      ∙ ap (λ (x : ℕ). partners (walks_by a b P Q) key size j np 0 (spent x d)) (by_opened b enough j z ez c ec)

  -- the nodes that the ring walks of a chamber's kept partners open
  pub walks_few : (words : ℕ) → np ≤ 64 * words → (j s : ℕ) → s ≡ ring_opened (walks_by a words P Q) np j → s ≤ np * (mp + mq)
  walks_few words enough j s e = omega (arith, ring_few (walks_by a words P Q) mp (mp + mq) np (by_capped words enough) j)

-- with a t the list is of two sheets
pub two_sheets : (a : Terms) (P Q : List ℤ) → Alone a P Q → (a.threshold ≡ 0 → ⊥) → a.own ≡ false
two_sheets a P Q al ne = go a.own refl
  where
    go : (k : Bool) → a.own ≡ k → a.own ≡ false
    go true e = absurd (ne (al.no_t e))
    go false e = e

-- and its partners start from the first
pub start_two : (a : Terms) (j : ℕ) → a.own ≡ false → 0 ≡ start_for a j
unfolding start_for
start_two a j e = rw e
