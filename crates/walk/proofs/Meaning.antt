-- What the two walks mean, for every sheet that opens, in any form: `Opens w (points w) (nodes w)`, which the sheet's `open_facts` makes of `open_no lim w ≡ 0`.
-- The ring rule is that of the lists of points, `ring_pair_by φ (points_of P) (points_of Q) j i`, with no tree in it, of any lawful profile φ: q is position j of Q, p is position i
-- of P.
--
--     filter walk for q over w, kept set on so many words as hold the points
--         walk_kept_partner      "For every position, a ring partner of q is kept"
--         dropped_by        a position that is not kept is dropped by one that is
--         unused_zero       "unused bits are 0"; kept_words: the words are as many as were lent
--         count_kept        "the number of bits set" is the number of kept positions
--         filter_opened_at_most_m
--     ring walk for a, b over w
--         walk_clear_iff         clear exactly if no record of the sheet blocks
--         walk_point_blocks      a point answer names a record that blocks
--         walk_side_blocks       a side answer names the first side of a node's box that lies strictly inside, and on it a record blocks
--         walk_ring_opened_at_most_m
--     ring walk for q and p over Q, then P
--         pair_is           "Q is walked first, then P if Q is clear; the counts add up"
--         pair_clear        clear exactly for a ring pair
--         pair_point, pair_side      what a hit names does block; a side is the first of its box that lies strictly inside
--         pair_opened       at most the nodes of both sheets are opened
--         walk_pair_exact        a ring partner of q is a kept position whose ring walk is clear, and no other
-- Assumes nothing.
use mathlib.Core.Path.{◌≡◌, sym, ap, subst, ◌∙◌}
use mathlib.Core.Bool.{Bool, true, false, cond, ◌&&◌}
use mathlib.Core.Logic.{inl, inr, ⊎_elim}
use mathlib.Core.List.{List}
use Prim.Native.Nat.{ℕ, ◌+◌, ◌*◌, ◌<◌, ◌≤◌}
use native.Mathlib.Omega.{arith}
use lib.IntN.{ℤ}
use lib.ListN.{length}
use borrow.Author.Tests.{lt-ltb, ltb-true}
use Rattle.integers.proofs.Bools.{and_right, and_both, decide, clash, test_iff}
use Rattle.plane.specs.declared.Spot.{Spot}
use Rattle.plane.specs.Profile.{Profile}
use Rattle.plane.proofs.ProfileLaws.{Lawful}
use Rattle.list.specs.RingList.{unblocked, ring_pair_by}
use Rattle.sheet.specs.Layout.{points, nodes}
use Rattle.sheet.specs.Places.{spot_of, points_of}
use Rattle.sheet.specs.Open.{Opens}
use Rattle.bits.specs.Set.{at, card_in, card}
use Rattle.bits.proofs.SetLaws.{not_kept_at}
use Rattle.bits.proofs.CardLaws.{card_first}
use Rattle.walk.specs.declared.Blocker.{Blocker}
use Rattle.walk.specs.declared.Edge.{Edge}
use Rattle.walk.specs.declared.Hit.TheVariants.{Point, Side}
use Rattle.walk.specs.declared.Answer.{Answer}
use Rattle.walk.specs.FilterWalk.{filter_kept, filter_keeps, keeps_by, keeps_opened}
use Rattle.walk.specs.RingWalk.{clear, ring_walk, pair_walk_by}
use Rattle.walk.specs.Claims.{Dropper, Blocks, BlocksBySide, plus, over_q, over_p, BlocksPair, BlocksPairBySide}
use Rattle.walk.proofs.FilterLaws.{filter_opened, kept_long, kept_below, kept_settled}
use Rattle.walk.proofs.RingLaws.{Truth, ring_truth, ring_opened}
use Rattle.walk.proofs.PairLaws.{unblocked_free, walk_unblocked, pair_rule, pair_walks, pair_both, pair_hit}

-- ---- the filter walk for q over w, on so many words: 64 positions a word, enough for the points

module _ (words : ℕ) (w : List ℤ) (q : Spot) (opens : Opens w (points w) (nodes w)) where
  -- "nodes opened never exceed m in one walk of one sheet"
  pub filter_opened_at_most_m : (filter_kept words w q).opened ≤ nodes w
  filter_opened_at_most_m = filter_opened words w q opens

  module _ (enough : points w ≤ 64 * words) where
    -- the words are as many as were lent
    pub kept_words : length (filter_kept words w q).bits ≡ words
    kept_words = kept_long words w q opens enough

    -- "unused bits are 0": no position is kept that is not a point's
    pub unused_zero : (i : ℕ) → points w ≤ i → at (filter_kept words w q).bits i ≡ 0
    unused_zero i h =
        not_kept_at _ i
        (⊎_elim
        (λ (e : filter_keeps words w q i ≡ true). absurd (omega (arith, kept_below words w q opens enough i e)))
        (λ (e : filter_keeps words w q i ≡ false). e)
        (decide (filter_keeps words w q i)))

    -- the number of bits set is the number of kept positions of the points
    pub count_kept : card (filter_kept words w q).bits ≡ card_in (filter_kept words w q).bits (points w) 0
    count_kept = card_first (filter_kept words w q).bits (points w) (omega (arith, kept_words)) (kept_below words w q opens enough)

    -- A position that is not kept is dropped by one that is kept: `Dropper` names it.
    pub dropped_by : (i : ℕ) → i < points w → filter_keeps words w q i ≡ false → Dropper w (points w) q (filter_kept words w q).bits i
    dropped_by i h e =
        ⊎_elim
        (λ (t : filter_keeps words w q i ≡ true). clash t e)
        (λ (x : Dropper w (points w) q (filter_kept words w q).bits i). x)
        (kept_settled words w q opens enough i h)

-- "For every position, a ring partner of q is kept", of a profile for which the half-plane filter is used: q is position j of Q, its partner position i of P.
pub walk_kept_partner : (φ : Profile) → Lawful φ → φ.half ≡ true → (words : ℕ) (P Q : List ℤ) → Opens P (points P) (nodes P) → points P ≤ 64 * words → (j i : ℕ) → j < points Q → i < points P
    → ring_pair_by φ (points_of P) (points_of Q) j i ≡ true → filter_keeps words P (spot_of Q j) i ≡ true
walk_kept_partner φ law half words P Q opens enough j i hj hi e =
    let q = spot_of Q j in
    let p = spot_of P i in
    let free = unblocked_free φ P q p (and_right (unblocked φ (points_of Q) q p) (unblocked φ (points_of P) q p) (sym (pair_rule φ P Q j i hj hi) ∙ e)) in
    ⊎_elim
    (λ (t : filter_keeps words P q i ≡ true). t)
    (λ (x : Dropper P (points P) q (filter_kept words P q).bits i). clash (law.dropped_blocks half q (spot_of P x.by) p x.dropping) (free x.by x.below))
    (kept_settled words P q opens enough i hi)

-- what is kept by any profile: a ring partner is
pub keeps_partner : (φ : Profile) → Lawful φ → (words : ℕ) (P Q : List ℤ) → Opens P (points P) (nodes P) → points P ≤ 64 * words → (j i : ℕ) → j < points Q → i < points P
    → ring_pair_by φ (points_of P) (points_of Q) j i ≡ true → keeps_by φ words P (spot_of Q j) i ≡ true
unfolding keeps_by
keeps_partner φ law words P Q opens enough j i hj hi e =
    ⊎_elim
    (λ (h : φ.half ≡ true). rw h (walk_kept_partner φ law h words P Q opens enough j i hj hi e))
    (λ (h : φ.half ≡ false). rw h (lt-ltb i (points P) hi))
    (decide φ.half)

-- no position past the points is
pub keeps_below : (φ : Profile) (words : ℕ) (w : List ℤ) (q : Spot) → Opens w (points w) (nodes w) → points w ≤ 64 * words → (i : ℕ) → keeps_by φ words w q i ≡ true → i < points w
unfolding keeps_by
keeps_below φ words w q opens enough i e =
    ⊎_elim
    (λ (h : φ.half ≡ true). kept_below words w q opens enough i (rw h at e))
    (λ (h : φ.half ≡ false). ltb-true i (points w) (rw h at e))
    (decide φ.half)

-- and no more nodes are opened for it than the sheet has
pub keeps_opened_at_most_m : (φ : Profile) (words : ℕ) (w : List ℤ) (q : Spot) → Opens w (points w) (nodes w) → keeps_opened φ words w q ≤ nodes w
unfolding keeps_opened
keeps_opened_at_most_m φ words w q opens =
    ⊎_elim
    (λ (h : φ.half ≡ true). rw h (filter_opened_at_most_m words w q opens))
    (λ (h : φ.half ≡ false). rw h (omega arith))
    (decide φ.half)

-- ---- the ring walk for the pair a, b over w

module _ (φ : Profile) (law : Lawful φ) (set : ℕ) (w : List ℤ) (opens : Opens w (points w) (nodes w)) (a b : Spot) where
  -- "nodes opened never exceed m in one walk of one sheet"
  pub walk_ring_opened_at_most_m : (ring_walk φ set w a b).opened ≤ nodes w
  walk_ring_opened_at_most_m = ring_opened φ set w opens a b

  -- The walk is clear exactly if no record of the sheet blocks.
  pub walk_clear_iff : clear (ring_walk φ set w a b).hit ≡ unblocked φ (points_of w) a b
  walk_clear_iff = walk_unblocked φ law set w opens a b

  -- A point answer names a position of the sheet that blocks.
  pub walk_point_blocks : (x : Blocker) → (ring_walk φ set w a b).hit ≡ Point x → (x.set ≡ set) × Blocks φ w (points w) a b x.position
  walk_point_blocks x e = subst (Truth φ set w (points w) (nodes w) a b) e (ring_truth φ law set w opens a b)

  -- A side answer names a node of the sheet and the first side of its box that lies strictly inside; on it stands a position that blocks.
  pub walk_side_blocks : (x : Edge) → (ring_walk φ set w a b).hit ≡ Side x → (x.set ≡ set) × (x.node < nodes w) × BlocksBySide φ w (points w) a b x.node x.side
  walk_side_blocks x e = subst (Truth φ set w (points w) (nodes w) a b) e (ring_truth φ law set w opens a b)

-- ---- the ring walk for q and p: over Q, then over P. Set 0 is P, 1 is Q.

-- "Q is walked first, then P if Q is clear; the counts add up"
pub pair_is : (φ : Profile) (P Q : List ℤ) (j i : ℕ) → pair_walk_by φ P Q j i ≡ cond (clear (over_q φ P Q j i).hit) (plus (over_q φ P Q j i).opened (over_p φ P Q j i)) (over_q φ P Q j i)
pair_is = pair_walks

module _ (φ : Profile) (law : Lawful φ) (P Q : List ℤ) (p_opens : Opens P (points P) (nodes P)) (q_opens : Opens Q (points Q) (nodes Q)) (j i : ℕ) where
  -- At most the nodes of both sheets are opened.
  pub pair_opened : (pair_walk_by φ P Q j i).opened ≤ nodes P + nodes Q
  pair_opened = subst (λ (s : Answer). s.opened ≤ nodes P + nodes Q) (sym (pair_is φ P Q j i)) (go (clear (over_q φ P Q j i).hit))
    where
      go : (t : Bool) → (cond t (plus (over_q φ P Q j i).opened (over_p φ P Q j i)) (over_q φ P Q j i)).opened ≤ nodes P + nodes Q
      go true = omega (arith, ring_opened φ 1 Q q_opens (spot_of Q j) (spot_of P i), ring_opened φ 0 P p_opens (spot_of Q j) (spot_of P i))
      go false = omega (arith, ring_opened φ 1 Q q_opens (spot_of Q j) (spot_of P i))

  -- A point answer names a record of Q or one of P that blocks;
  pub pair_point : (x : Blocker) → (pair_walk_by φ P Q j i).hit ≡ Point x → BlocksPair φ P Q j i x.set x.position
  pair_point x = pair_hit φ P Q j i (λ h. h ≡ Point x → BlocksPair φ P Q j i x.set x.position) (λ e. inl (walk_point_blocks φ law 1 Q q_opens (spot_of Q j) (spot_of P i) x e)) (λ e. inr (walk_point_blocks φ law 0 P p_opens (spot_of Q j) (spot_of P i) x e))

  -- and a side answer a node of that sheet and the first side of its box that lies strictly inside, on which one stands.
  pub pair_side : (x : Edge) → (pair_walk_by φ P Q j i).hit ≡ Side x → BlocksPairBySide φ P Q j i x.set x.node x.side
  pair_side x = pair_hit φ P Q j i (λ h. h ≡ Side x → BlocksPairBySide φ P Q j i x.set x.node x.side) (λ e. inl (walk_side_blocks φ law 1 Q q_opens (spot_of Q j) (spot_of P i) x e)) (λ e. inr (walk_side_blocks φ law 0 P p_opens (spot_of Q j) (spot_of P i) x e))

  module _ (j_in : j < points Q) (i_in : i < points P) where
    -- The pair walk is clear exactly for a ring pair.
    pub pair_clear : clear (pair_walk_by φ P Q j i).hit ≡ ring_pair_by φ (points_of P) (points_of Q) j i
    pair_clear =
        pair_both φ P Q j i
        ∙ ap (λ (t : Bool). t && clear (over_p φ P Q j i).hit) (walk_clear_iff φ law 1 Q q_opens (spot_of Q j) (spot_of P i))
        ∙ ap (λ (t : Bool). unblocked φ (points_of Q) (spot_of Q j) (spot_of P i) && t) (walk_clear_iff φ law 0 P p_opens (spot_of Q j) (spot_of P i))
        ∙ sym (pair_rule φ P Q j i j_in i_in)

    -- A ring partner of q is exactly a kept position whose ring walk is clear: what a page maker may rely on.
    pub walk_pair_exact : (words : ℕ) → points P ≤ 64 * words → ring_pair_by φ (points_of P) (points_of Q) j i ≡ (keeps_by φ words P (spot_of Q j) i && clear (pair_walk_by φ P Q j i).hit)
    walk_pair_exact words enough =
        let kept = keeps_by φ words P (spot_of Q j) i in
        test_iff _ _
        (λ e. and_both kept (clear (pair_walk_by φ P Q j i).hit) (keeps_partner φ law words P Q p_opens enough j i j_in i_in e) (pair_clear ∙ e))
        (λ e. sym pair_clear ∙ and_right kept (clear (pair_walk_by φ P Q j i).hit) e)
