-- What the walk that goes nearest first means, for every sheet that opens, in any form: `Opens w (points w) (nodes w)`, which the sheet's `open_facts` makes of `open_no lim w ≡ 0`.
--
--     the points one after another
--         near_ascends      by squared distance to q, on a tie by position
--         near_once         each point of the sheet once, and near_only: nothing else; near_all: so there are n
--     the filter for q over w, kept set on so many words as hold the points
--         near_partner      "For every position, a ring partner of q is kept"
--         near_exact        "Pairs made with its kept set equal the list": a ring partner of q is a kept position whose ring walk is clear, and no other
--         near_dropped_by   a position that is not kept is dropped by another that is
--         near_unused       unused bits are 0; near_words: the words are as many as were lent
--         near_opened_at_most_m
--
-- That the walk ends with nothing waiting after n + m steps, and that never more wait than that, is in NearLaws (`steps_keep`, `length_weight`) and WalkCode (`going_fits`).
-- Assumes nothing.
use mathlib.Core.Path.{◌≡◌, sym, ◌∙◌}
use mathlib.Core.Bool.{true, false, ◌&&◌}
use mathlib.Core.Logic.{⊎_elim}
use mathlib.Core.List.{List}
use Prim.Native.Nat.{ℕ, ◌*◌, ◌<◌, ◌≤◌}
use native.Mathlib.Omega.{arith}
use lib.IntN.{ℤ}
use lib.ListN.{length, get_or}
use Rattle.plane.specs.Profile.{circle}
use Rattle.plane.proofs.ProfileLaws.{circle_lawful}
use Rattle.integers.proofs.Bools.{and_right, and_both, decide, clash, test_iff}
use Rattle.plane.specs.declared.Spot.{Spot}
use Rattle.plane.specs.Rule.{drops}
use Rattle.list.specs.RingList.{unblocked, ring_pair}
use Rattle.sheet.specs.Layout.{points, nodes}
use Rattle.sheet.specs.Places.{spot_of, points_of}
use Rattle.sheet.specs.Open.{Opens}
use Rattle.bits.specs.Set.{at}
use Rattle.bits.proofs.SetLaws.{not_kept_at}
use Rattle.walk.specs.RingWalk.{clear, pair_walk}
use Rattle.walk.specs.Claims.{Dropper}
use Rattle.walk.proofs.PairLaws.{unblocked_free, pair_rule}
use Rattle.walk.proofs.Meaning.{pair_clear}
use Rattle.outward.specs.NearWalk.{near_order, near_kept, near_keeps}
use Rattle.outward.specs.Claims.{NotAfter, times}
use Rattle.outward.proofs.OrderLaws.{order_ascends, order_once, order_only, order_length}
use Rattle.outward.proofs.FilterLaws.{near_long, near_below, near_settled, near_walk_opened}

-- ---- the points one after another

module _ (w : List ℤ) (q : Spot) (opens : Opens w (points w) (nodes w)) where
  -- A point is not given after one that is farther, nor on a tie after one at a higher position.
  pub near_ascends : (a b : ℕ) → a ≤ b → b < length (near_order w q) → NotAfter w q (get_or (near_order w q) a 0) (get_or (near_order w q) b 0)
  near_ascends = order_ascends w q opens

  -- Each point is given once, and nothing else is given.
  pub near_once : (i : ℕ) → i < points w → times i (near_order w q) ≡ 1
  near_once = order_once w q opens

  pub near_only : (i : ℕ) → points w ≤ i → times i (near_order w q) ≡ 0
  near_only = order_only w q opens

  pub near_all : length (near_order w q) ≡ points w
  near_all = order_length w q opens

-- ---- the filter for q over w, on so many words: 64 positions a word, enough for the points

module _ (words : ℕ) (w : List ℤ) (q : Spot) (opens : Opens w (points w) (nodes w)) (enough : points w ≤ 64 * words) where
  -- "nodes opened never exceed m in one walk of one sheet"
  pub near_opened_at_most_m : (near_kept words w q).opened ≤ nodes w
  near_opened_at_most_m = near_walk_opened words w q opens enough

  -- the words are as many as were lent
  pub near_words : length (near_kept words w q).bits ≡ words
  near_words = near_long words w q opens enough

  -- "unused bits are 0": no position is kept that is not a point's
  pub near_unused : (i : ℕ) → points w ≤ i → at (near_kept words w q).bits i ≡ 0
  near_unused i h =
      not_kept_at _ i
      (⊎_elim
      (λ (e : near_keeps words w q i ≡ true). absurd (omega (arith, near_below words w q opens enough i e)))
      (λ (e : near_keeps words w q i ≡ false). e)
      (decide (near_keeps words w q i)))

  -- A position that is not kept is dropped by another that is kept: `Dropper` names it.
  pub near_dropped_by : (i : ℕ) → i < points w → near_keeps words w q i ≡ false → Dropper w (points w) q (near_kept words w q).bits i
  near_dropped_by i h e =
      ⊎_elim
      (λ (t : near_keeps words w q i ≡ true). clash t e)
      (λ (x : Dropper w (points w) q (near_kept words w q).bits i). x)
      (near_settled words w q opens enough i h)

-- A ring partner of q is dropped by none.
partner_undropped : (P Q : List ℤ) (j i : ℕ) → j < points Q → i < points P → ring_pair (points_of P) (points_of Q) j i ≡ true → (b : List ℕ) → Dropper P (points P) (spot_of Q j) b i → ⊥
unfolding drops
partner_undropped P Q j i hj hi e b x =
    let q = spot_of Q j in
    let p = spot_of P i in
    let free = unblocked_free circle P q p (and_right (unblocked circle (points_of Q) q p) (unblocked circle (points_of P) q p) (sym (pair_rule circle P Q j i hj hi) ∙ e)) in
    clash x.dropping (free x.by x.below)

module _ (words : ℕ) (P Q : List ℤ) (p_opens : Opens P (points P) (nodes P)) (enough : points P ≤ 64 * words) (j i : ℕ) (j_in : j < points Q) (i_in : i < points P) where
  -- "For every position, a ring partner of q is kept": q is position j of Q, its partner position i of P.
  pub near_partner : ring_pair (points_of P) (points_of Q) j i ≡ true → near_keeps words P (spot_of Q j) i ≡ true
  near_partner e =
      ⊎_elim
      (λ (t : near_keeps words P (spot_of Q j) i ≡ true). t)
      (λ (x : Dropper P (points P) (spot_of Q j) (near_kept words P (spot_of Q j)).bits i). absurd (partner_undropped P Q j i j_in i_in e _ x))
      (near_settled words P (spot_of Q j) p_opens enough i i_in)

  -- "Pairs made with its kept set equal the list"
  pub near_exact : Opens Q (points Q) (nodes Q) → ring_pair (points_of P) (points_of Q) j i ≡ (near_keeps words P (spot_of Q j) i && clear (pair_walk P Q j i).hit)
  near_exact q_opens =
      let kept = near_keeps words P (spot_of Q j) i in
      let is-clear = pair_clear circle circle_lawful P Q p_opens q_opens j i j_in i_in in
      test_iff _ _
      (λ e. and_both kept (clear (pair_walk P Q j i).hit) (near_partner e) (is-clear ∙ e))
      (λ e. sym is-clear ∙ and_right kept (clear (pair_walk P Q j i).hit) e)
