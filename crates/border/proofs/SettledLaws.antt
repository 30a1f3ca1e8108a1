-- Chambers that are settled in a part: their ring pairs in the part are those in the whole, whatever their length. P and Q are the whole, m the map on which all its records stand.
--
--     settled_here      a ring partner of the chamber, anywhere in the whole, stands in the box
--     settled_pair      a pair of the chamber with a pump house of the part is a ring pair of the whole exactly if it is one of the part
--     visit_at          a pair of two records of the whole that stands in a list of the part is that of two positions of the part, with the same records
-- Assumes nothing.
use mathlib.Core.Path.{◌≡◌, sym, ap, ap₂, subst, ◌∙◌}
use mathlib.Core.Bool.{true, false}
use mathlib.Core.List.{List, Memᴰ}
use Prim.Native.Nat.{ℕ, ◌<◌}
use lib.ListN.{length}
use Rattle.integers.proofs.Bools.{test_iff}
use Rattle.plane.specs.declared.Spot.{Spot}
use Rattle.plane.specs.declared.Boxed.{Boxed}
use Rattle.plane.specs.Rule.{in_box}
use Rattle.plane.specs.Profile.{circle}
use Rattle.plane.specs.Point.{Point, point_at, id_at, spot_at}
use Rattle.list.specs.declared.Pair.{Pair}
use Rattle.list.specs.declared.Terms.{Terms}
use Rattle.list.specs.Rows.{Rising}
use Rattle.list.specs.RingList.{ring_pair, pair_by}
use Rattle.list.specs.Terms.{profile_for, list_for}
use Rattle.list.proofs.RowLaws.{by_id}
use Rattle.list.proofs.TermsLaws.{for_only}
use Rattle.border.specs.Border.{part_of, circle_in, Closed, Settled}
use Rattle.border.proofs.BorderLaws.{part_within, part_rises, border_pair, border_keeps, border_closed}

module _ (m r : Boxed) (P Q : List Point) (j j' : ℕ) (same_q : point_at Q j ≡ point_at (part_of r Q) j') (s : Settled m r (part_of r P) (part_of r Q) j') where
  q_is : spot_at (part_of r Q) j' ≡ spot_at Q j
  q_is = ap (λ (p : Point). p.spot) (sym same_q)

  pub settled_here : (i : ℕ) → in_box m (spot_at P i) ≡ true → ring_pair P Q j i ≡ true → in_box r (spot_at P i) ≡ true
  settled_here i on e = border_closed m r P Q j i (subst (Closed m r (part_of r P) (part_of r Q)) q_is s.shut) on e

  pub settled_pair : (i i' : ℕ) → i' < length (part_of r P) → point_at P i ≡ point_at (part_of r P) i' → ring_pair P Q j i ≡ ring_pair (part_of r P) (part_of r Q) j' i'
  settled_pair i i' i'-in same_p =
      test_iff _ _
      (λ e. border_keeps false r P Q j i j' i' same_q same_p e)
      (λ e.
      let c : circle_in circle r (spot_at Q j) (spot_at P i) ≡ true = ap₂ (λ (a b : Spot). circle_in circle r a b) (sym q_is) (ap (λ (p : Point). p.spot) same_p) ∙ s.sure i' i'-in e in
      border_pair false r P Q j i j' i' same_q same_p c ∙ e)

-- two positions of the part that stand for two of the whole, and make a pair of a list
pub record VisitAt (a : Terms) (r : Boxed) (P Q : List Point) (j i : ℕ) : Type 0 where
  pub at_q : ℕ
  pub at_p : ℕ
  pub q_in : at_q < length (part_of r Q)
  pub p_in : at_p < length (part_of r P)
  pub same_q : point_at Q j ≡ point_at (part_of r Q) at_q
  pub same_p : point_at P i ≡ point_at (part_of r P) at_p
  pub is : pair_by (profile_for a) P Q j i ≡ pair_by (profile_for a) (part_of r P) (part_of r Q) at_q at_p

-- a record of the whole and one of the part with one id are the same
one_record : (r : Boxed) (s : List Point) → Rising (id_at s) (length s) → (k k' : ℕ) → k < length s → k' < length (part_of r s) → id_at s k ≡ id_at (part_of r s) k' → point_at s k ≡ point_at (part_of r s) k'
one_record r s x k k' h h' e =
    let y = (part_within r s k' h').0 in
    ap (point_at s) (by_id (id_at s) (length s) x k y.at h y.here (e ∙ ap (λ (p : Point). p.id) (sym y.is))) ∙ y.is

pub visit_at : (a : Terms) (o : List ℕ) (r : Boxed) (P Q : List Point) → Rising (id_at P) (length P) → Rising (id_at Q) (length Q) → (j i : ℕ) → j < length Q → i < length P
    → Memᴰ (pair_by (profile_for a) P Q j i) (list_for a o (part_of r P) (part_of r Q)) → VisitAt a r P Q j i
visit_at a o r P Q rp rq j i j_in i_in n =
    let z = for_only a o (part_of r P) (part_of r Q) (part_rises r P rp) (part_rises r Q rq) (pair_by (profile_for a) P Q j i) n in
    record {
      at_q = z.at_q;
      at_p = z.at_p;
      q_in = z.q_in;
      p_in = z.p_in;
      same_q = one_record r Q rq j z.at_q j_in z.q_in (ap (λ (v : Pair). v.q) z.is);
      same_p = one_record r P rp i z.at_p i_in z.p_in (ap (λ (v : Pair). v.p) z.is);
      is = z.is;
    }
