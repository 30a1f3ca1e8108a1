-- The list to a size, of two sets of points: it runs by q id, then p id, and what it holds is said of the list of the terms.
--
--     to_ascends, to_only, to_keys, to_size     as of the list of the terms
--     sized_iff      a pair stands in it exactly if it stands among those of the list, however many a chamber has, that are no larger, and its chamber has at least t of these
--     at_most_more   of larger sizes a chamber has no fewer
--     sized_blind    two runs that differ in the ids of the other's chambers alone give a contractor one list
-- Assumes nothing.
use mathlib.Core.Path.{◌≡◌, refl, sym, ap, subst, ◌∙◌}
use mathlib.Core.Bool.{Bool, true, false, cond, ◌&&◌}
use mathlib.Core.Logic.{◌↔◌, ⊎_elim}
use mathlib.Core.List.Memᴰ
use mathlib.Core.List.{List, [], ◌∷◌, ◌++◌, Memᴰ}
use Prim.Native.Nat.{ℕ, zero, suc, ◌+◌, ◌≤◌, ◌<◌}
use native.Mathlib.Omega.{arith}
use lib.Dec.{eqb, leb}
use lib.ListN.{length}
use borrow.Author.Tests.{le-leb, leb-true}
use Rattle.integers.proofs.Bools.{decide, clash}
use Rattle.words.specs.Range.{last_id}
use Rattle.plane.specs.Point.{Point, id_at, spot_at}
use Rattle.list.specs.declared.Pair.{Pair}
use Rattle.list.specs.declared.Terms.{Terms}
use Rattle.list.specs.Pairs.{start, ascends, chamber_pairs}
use Rattle.list.specs.Rows.{row, rows, at_least, list_by, Rising}
use Rattle.list.specs.RingList.{pair_by}
use Rattle.list.specs.Contractor.{mine, Renamed}
use Rattle.list.specs.Terms.{profile_for, pair_for, listed_for, list_for}
use Rattle.list.proofs.RowLaws.{Placed, made_ascends, made_only, made_keys, made_size, row_same, list_same}
use Rattle.list.proofs.ThresholdLaws.{least_iff}
use Rattle.list.proofs.BlindLaws.{one_list, blind_list}
use Rattle.chamber.specs.Sized.{small_for, listed_to, list_to}
use Rattle.demands.specs.Many.{at_most, any_number}

-- ---- the pairs of a list that are no larger

pub at_most_iff : (big : ℕ) (l : List Pair) (v : Pair) → Memᴰ v (at_most big l) ↔ (Memᴰ v l × (v.size ≤ big))
unfolding at_most
at_most_iff big [] v = (λ m. absurd (Memᴰ.not-nil m), λ x. absurd (Memᴰ.not-nil x.0))
at_most_iff big (w ∷ l) v =
    let z = at_most_iff big l v in
    ⊎_elim
    (λ (e : leb w.size big ≡ true).
    rw e (
      λ m. ⊎_elim (λ (x : v ≡ w). (Memᴰ.head x, subst (λ (u : Pair). u.size ≤ big) (sym x) (leb-true w.size big e))) (λ (x : Memᴰ v (at_most big l)). (Memᴰ.tail (z.0 x).0, (z.0 x).1)) (Memᴰ.cases_cons m),
      λ x. ⊎_elim (λ (y : v ≡ w). Memᴰ.head y) (λ (y : Memᴰ v l). Memᴰ.tail (z.1 (y, x.1))) (Memᴰ.cases_cons x.0),
    ))
    (λ (e : leb w.size big ≡ false).
    rw e (
      λ m. (Memᴰ.tail (z.0 m).0, (z.0 m).1),
      λ x. ⊎_elim (λ (y : v ≡ w). clash (le-leb w.size big (subst (λ (u : Pair). u.size ≤ big) y x.1)) e) (λ (y : Memᴰ v l). z.1 (y, x.1)) (Memᴰ.cases_cons x.0),
    ))
    (decide (leb w.size big))

-- the larger the size, the more a chamber has
pub at_most_more : (id b c : ℕ) → b ≤ c → (l : List Pair) → length (chamber_pairs id (at_most b l)) ≤ length (chamber_pairs id (at_most c l))
unfolding at_most chamber_pairs
at_most_more id b c h [] = omega arith
at_most_more id b c h (v ∷ l) = go (leb v.size b) (leb v.size c) refl refl (at_most_more id b c h l)
  where
    both : (t : Bool) (m n : List Pair) → length m ≤ length n → length (cond t (v ∷ m) m) ≤ length (cond t (v ∷ n) n)
    both true m n e = omega arith
    both false m n e = e

    one : (t : Bool) (m n : List Pair) → length m ≤ length n → length m ≤ length (cond t (v ∷ n) n)
    one true m n e = omega arith
    one false m n e = e

    go : (x y : Bool) → leb v.size b ≡ x → leb v.size c ≡ y → length (chamber_pairs id (at_most b l)) ≤ length (chamber_pairs id (at_most c l))
        → length (chamber_pairs id (cond x (v ∷ at_most b l) (at_most b l))) ≤ length (chamber_pairs id (cond y (v ∷ at_most c l) (at_most c l)))
    go true true e f z = both (eqb v.q id) (chamber_pairs id (at_most b l)) (chamber_pairs id (at_most c l)) z
    go true false e f z = clash (le-leb v.size c (omega (arith, leb-true v.size b e, h))) f
    go false true e f z = one (eqb v.q id) (chamber_pairs id (at_most b l)) (chamber_pairs id (at_most c l)) z
    go false false e f z = z

most_append : (big : ℕ) (l m : List Pair) → at_most big (l ++ m) ≡ at_most big l ++ at_most big m
unfolding at_most
most_append big [] m = refl
most_append big (v ∷ l) m = go (leb v.size big) (most_append big l m)
  where
    go : (t : Bool) → at_most big (l ++ m) ≡ at_most big l ++ at_most big m → cond t (v ∷ at_most big (l ++ m)) (at_most big (l ++ m)) ≡ cond t (v ∷ at_most big l) (at_most big l) ++ at_most big m
    go true e = ap (λ (x : List Pair). v ∷ x) e
    go false e = e

-- of a rule's list: those of which the rule holds and that are no larger
module _ (big : ℕ) (rule : ℕ → ℕ → Bool) (pair : ℕ → ℕ → Pair) where
  abbrev small : ℕ → ℕ → Bool
  small j i = rule j i && leb (pair j i).size big

  most_row : (j k i : ℕ) → at_most big (row rule pair j k i) ≡ row small pair j k i
  unfolding row at_most
  most_row j zero i = refl
  most_row j (suc k) i = go (rule j i) (most_row j k (i + 1))
    where
      go : (t : Bool) → at_most big (row rule pair j k (i + 1)) ≡ row small pair j k (i + 1)
          → at_most big (cond t (pair j i ∷ row rule pair j k (i + 1)) (row rule pair j k (i + 1))) ≡ cond (t && leb (pair j i).size big) (pair j i ∷ row small pair j k (i + 1)) (row small pair j k (i + 1))
      go true e = ap (λ (x : List Pair). cond (leb (pair j i).size big) (pair j i ∷ x) x) e
      go false e = e

  most_rows : (n k j : ℕ) → at_most big (rows rule pair n k j) ≡ rows small pair n k j
  unfolding rows at_most
  most_rows n zero j = refl
  most_rows n (suc k) j = most_append big (row rule pair j n 0) (rows rule pair n k (j + 1)) ∙ (λ s. most_row j n 0 s ++ most_rows n k (j + 1) s)

  most_list : (np nq : ℕ) → at_most big (list_by rule pair np nq) ≡ list_by small pair np nq
  unfolding list_by
  most_list np nq = most_rows np nq 0

module _ (big : ℕ) (a : Terms) (o : List ℕ) (P Q : List Point) (rp : Rising (id_at P) (length P)) (rq : Rising (id_at Q) (length Q)) where
  pub to_ascends : ascends start (list_to big a o P Q) ≡ true
  unfolding list_to
  to_ascends = made_ascends (profile_for a) (listed_to big a o P Q) P Q rp rq

  pub to_only : (v : Pair) → Memᴰ v (list_to big a o P Q) → Placed (listed_to big a o P Q) (pair_by (profile_for a) P Q) (length P) (length Q) v
  unfolding list_to
  to_only = made_only (profile_for a) (listed_to big a o P Q) P Q rp rq

  pub to_keys : (v : Pair) → Memᴰ v (list_to big a o P Q) → (v.q ≤ last_id) × (v.p ≤ last_id)
  unfolding list_to
  to_keys = made_keys (profile_for a) (listed_to big a o P Q) P Q rp rq

  pub to_size : (v : Pair) → Memᴰ v (list_to big a o P Q) → (j i : ℕ) → j < length Q → i < length P → id_at Q j ≡ v.q → id_at P i ≡ v.p → v.size ≡ (profile_for a).size (spot_at Q j) (spot_at P i)
  unfolding list_to
  to_size = made_size (profile_for a) (listed_to big a o P Q) P Q rp rq

  abbrev pair : ℕ → ℕ → Pair
  pair = pair_by (profile_for a) P Q

  -- those of the contractor's chambers that are no larger
  abbrev own : ℕ → ℕ → Bool
  own j i = mine a.contractor o j && small_for big a P Q j i

  -- the number of a chamber's pairs is the same, whichever way they are named
  to_least : (j i : ℕ) → listed_to big a o P Q j i ≡ at_least own pair a.threshold (length P) j i
  unfolding listed_to at_least
  to_least j i = go (mine a.contractor o j) refl
    where
      go : (m : Bool) → mine a.contractor o j ≡ m
          → (mine a.contractor o j && (small_for big a P Q j i && leb a.threshold (length (row (small_for big a P Q) pair j (length P) 0)))) ≡ ((mine a.contractor o j && small_for big a P Q j i) && leb a.threshold (length (row own pair j (length P) 0)))
      go true e =
          ap (λ (x : Bool). x && (small_for big a P Q j i && leb a.threshold (length (row (small_for big a P Q) pair j (length P) 0)))) e
          ∙ ap (λ (l : List Pair). small_for big a P Q j i && leb a.threshold (length l)) (row_same (small_for big a P Q) own pair j (length P) 0 (λ x h g. sym (ap (λ (m : Bool). m && small_for big a P Q j x) e)))
          ∙ sym (ap (λ (x : Bool). (x && small_for big a P Q j i) && leb a.threshold (length (row own pair j (length P) 0))) e)
      go false e =
          ap (λ (x : Bool). x && (small_for big a P Q j i && leb a.threshold (length (row (small_for big a P Q) pair j (length P) 0)))) e
          ∙ sym (ap (λ (x : Bool). (x && small_for big a P Q j i) && leb a.threshold (length (row own pair j (length P) 0))) e)

  -- the list of those is what is no larger of the list of the terms
  own_list : list_by own pair (length P) (length Q) ≡ at_most big (list_for (any_number a) o P Q)
  unfolding list_for listed_for pair_for small_for at_least
  own_list =
      list_same own (small big (listed_for (any_number a) o P Q) pair) pair (length P) (length Q) (λ j i h g. same (mine a.contractor o j) (pair_for a P Q j i) (leb (pair j i).size big) _ (le-leb 0 (length (row (pair_for (any_number a) P Q) pair j (length P) 0)) (omega arith)))
      ∙ sym (most_list big (listed_for (any_number a) o P Q) pair (length P) (length Q))
    where
      same : (m p s t : Bool) → t ≡ true → (m && (p && s)) ≡ ((m && (p && t)) && s)
      same true true s t e = sym (ap (λ (x : Bool). x && s) e)
      same true false s t e = refl
      same false p s t e = refl

  -- [MP2]
  pub sized_iff : (v : Pair) → Memᴰ v (list_to big a o P Q)
      ↔ (Memᴰ v (at_most big (list_for (any_number a) o P Q)) × (a.threshold ≤ length (chamber_pairs v.q (at_most big (list_for (any_number a) o P Q)))))
  unfolding list_to
  sized_iff v =
      let e : list_to big a o P Q ≡ list_by (at_least own pair a.threshold (length P)) pair (length P) (length Q) = list_same (listed_to big a o P Q) (at_least own pair a.threshold (length P)) pair (length P) (length Q) (λ j i h g. to_least j i) in
      let z = least_iff (profile_for a) own P Q rp rq a.threshold v in
      subst (λ (l : List Pair). Memᴰ v (list_to big a o P Q) ↔ (Memᴰ v l × (a.threshold ≤ length (chamber_pairs v.q l)))) own_list
      (λ m. z.0 (subst (Memᴰ v) e m), λ x. subst (Memᴰ v) (sym e) (z.1 x))

-- "What one contractor is handed may not depend on the ids of the other's chambers" [MP11]
pub sized_blind : (c : ℕ) (Q : List Point) (o : List ℕ) (Q' : List Point) (o' : List ℕ) → Renamed c Q o Q' o' → c < 2 → (big : ℕ) (a : Terms) → a.contractor ≡ c → (P : List Point)
    → Rising (id_at P) (length P) → Rising (id_at Q) (length Q) → Rising (id_at Q') (length Q') → list_to big a o P Q ≡ list_to big a o' P Q'
sized_blind c Q o Q' o' r one big a is P rp rq rq' =
    let same : at_most big (list_for (any_number a) o P Q) ≡ at_most big (list_for (any_number a) o' P Q') = ap (at_most big) (blind_list c Q o Q' o' r one (any_number a) is P rp rq rq') in
    one_list start _ _ (to_ascends big a o P Q rp rq) (to_ascends big a o' P Q' rp rq')
    (λ v m. (sized_iff big a o' P Q' rp rq' v).1 (subst (λ (l : List Pair). Memᴰ v l × (a.threshold ≤ length (chamber_pairs v.q l))) same ((sized_iff big a o P Q rp rq v).0 m)))
    (λ v m. (sized_iff big a o P Q rp rq v).1 (subst (λ (l : List Pair). Memᴰ v l × (a.threshold ≤ length (chamber_pairs v.q l))) (sym same) ((sized_iff big a o' P Q' rp rq' v).0 m)))
