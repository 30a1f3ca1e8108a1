-- The pairs of those chambers that have at least t of them, in the list of any rule.
--
--     least_none      at least 0: all of them
--     least_pairs     a chamber has all its pairs there where it has at least t of them, and none otherwise
--     least_iff       a pair stands there exactly if it stands in the rule's list, and its chamber has at least t pairs in that
--     row_listed      the length of a chamber's row is the number of its pairs in the rule's list
-- Assumes nothing.
use mathlib.Core.Path.{◌≡◌, refl, sym, ap, ◌∙◌}
use mathlib.Core.Bool.{Bool, true, false, cond, ◌&&◌}
use mathlib.Core.Logic.{◌↔◌, ⊎_elim}
use mathlib.Core.List.{List, [], ◌∷◌, ◌++◌, append-nil, Memᴰ}
use Prim.Native.Nat.{ℕ, zero, suc, ◌+◌, ◌≤◌, ◌<◌}
use native.Mathlib.Omega.{arith}
use native.Mathlib.Nat.{eq-or-lt_of_le}
use lib.Dec.{eqb, leb}
use lib.ListN.{length}
use borrow.Author.Tests.{eq-eqb, ne_eqb, leb-true, le-leb}
use Rattle.integers.proofs.Bools.{decide, and_left, and_right, and_both}
use Rattle.plane.specs.Profile.{Profile}
use Rattle.plane.specs.Point.{Point, id_at}
use Rattle.list.specs.declared.Pair.{Pair}
use Rattle.list.specs.Pairs.{chamber_pairs}
use Rattle.list.specs.Rows.{row, rows, at_least, list_by, Rising, Named}
use Rattle.list.specs.RingList.{pair_by}
use Rattle.list.proofs.RowLaws.{rises_far, named, made_iff, made_only}

-- ---- the pairs of one chamber, in the list of any rule

of_append : (id : ℕ) (l m : List Pair) → chamber_pairs id (l ++ m) ≡ chamber_pairs id l ++ chamber_pairs id m
unfolding chamber_pairs
of_append id [] m = refl
of_append id (v ∷ l) m = go (eqb v.q id) (of_append id l m)
  where
    go : (t : Bool) → chamber_pairs id (l ++ m) ≡ chamber_pairs id l ++ chamber_pairs id m
        → cond t (v ∷ chamber_pairs id (l ++ m)) (chamber_pairs id (l ++ m)) ≡ cond t (v ∷ chamber_pairs id l) (chamber_pairs id l) ++ chamber_pairs id m
    go true e = ap (λ (x : List Pair). v ∷ x) e
    go false e = e

module _ (rule : ℕ → ℕ → Bool) (pair : ℕ → ℕ → Pair) (qid pid : ℕ → ℕ) (nm : Named pair qid pid) where
  own_row : (j k i : ℕ) → chamber_pairs (qid j) (row rule pair j k i) ≡ row rule pair j k i
  unfolding row chamber_pairs
  own_row j zero i = refl
  own_row j (suc k) i =
      ⊎_elim
      (λ (e : rule j i ≡ true). rw (e, eq-eqb (pair j i).q (qid j) (nm.q_is j i)) (ap (λ (x : List Pair). pair j i ∷ x) (own_row j k (i + 1))))
      (λ (e : rule j i ≡ false). rw e (own_row j k (i + 1)))
      (decide (rule j i))

  other_row : (id j k i : ℕ) → (qid j ≡ id → ⊥) → chamber_pairs id (row rule pair j k i) ≡ []
  unfolding row chamber_pairs
  other_row id j zero i ne = refl
  other_row id j (suc k) i ne =
      ⊎_elim
      (λ (e : rule j i ≡ true). rw (e, ne_eqb (pair j i).q id (λ x. ne (sym (nm.q_is j i) ∙ x))) (other_row id j k (i + 1) ne))
      (λ (e : rule j i ≡ false). rw e (other_row id j k (i + 1) ne))
      (decide (rule j i))

  module _ (np nq : ℕ) (rq : Rising qid nq) where
    rows_past : (k u j : ℕ) → j < u → u + k ≤ nq → chamber_pairs (qid j) (rows rule pair np k u) ≡ []
    unfolding rows chamber_pairs
    rows_past zero u j l h = refl
    rows_past (suc k) u j l h =
        of_append (qid j) (row rule pair u np 0) (rows rule pair np k (u + 1))
        ∙ ap (λ (x : List Pair). x ++ chamber_pairs (qid j) (rows rule pair np k (u + 1))) (other_row (qid j) u np 0 (λ e. let z = rises_far qid nq rq j u l (omega arith) in omega arith))
        ∙ rows_past k (u + 1) j (omega arith) (omega arith)

    rows_of : (k u j : ℕ) → u ≤ j → j < u + k → u + k ≤ nq → chamber_pairs (qid j) (rows rule pair np k u) ≡ row rule pair j np 0
    unfolding rows
    rows_of zero u j l g h = absurd (omega arith)
    rows_of (suc k) u j l g h =
        of_append (qid j) (row rule pair u np 0) (rows rule pair np k (u + 1))
        ∙ ⊎_elim
        (λ (e : u ≡ j).
        ap (λ (x : List Pair). x ++ chamber_pairs (qid j) (rows rule pair np k (u + 1))) (ap (λ (y : ℕ). chamber_pairs (qid j) (row rule pair y np 0)) e ∙ own_row j np 0)
        ∙ ap (λ (x : List Pair). row rule pair j np 0 ++ x) (rows_past k (u + 1) j (omega arith) (omega arith))
        ∙ append-nil (row rule pair j np 0))
        (λ (e : u < j).
        ap (λ (x : List Pair). x ++ chamber_pairs (qid j) (rows rule pair np k (u + 1))) (other_row (qid j) u np 0 (λ x. let z = rises_far qid nq rq u j e (omega arith) in omega arith))
        ∙ rows_of k (u + 1) j (omega arith) (omega arith) (omega arith))
        (eq-or-lt_of_le {n = u} {m = j} l)

    -- a chamber's pairs in the list are its row
    pub list_of : (j : ℕ) → j < nq → chamber_pairs (qid j) (list_by rule pair np nq) ≡ row rule pair j np 0
    unfolding list_by
    list_of j h = rows_of nq 0 j (omega arith) (omega arith) (omega arith)

-- ---- at least 0

pub least_none : (rule : ℕ → ℕ → Bool) (pair : ℕ → ℕ → Pair) (n : ℕ) → at_least rule pair 0 n ≡ rule
unfolding at_least
least_none rule pair n = λ s j i. same j i s
  where
    and_yes : (a : Bool) → (a && true) ≡ a
    and_yes true = refl
    and_yes false = refl

    same : (j i : ℕ) → (rule j i && leb 0 (length (row rule pair j n 0))) ≡ rule j i
    same j i = rw (le-leb 0 (length (row rule pair j n 0)) (omega arith)) (and_yes (rule j i))

-- a chamber's row is whole, or empty
least_row : (rule : ℕ → ℕ → Bool) (pair : ℕ → ℕ → Pair) (t n j k i : ℕ) → row (at_least rule pair t n) pair j k i ≡ cond (leb t (length (row rule pair j n 0))) (row rule pair j k i) []
unfolding row at_least
least_row rule pair t n j zero i = same (leb t (length (row rule pair j n 0)))
  where
    same : (b : Bool) → ◌≡◌ {A = List Pair} [] (cond b [] [])
    same true = refl
    same false = refl
least_row rule pair t n j (suc k) i = go (rule j i) (leb t (length (row rule pair j n 0))) _ _ (least_row rule pair t n j k (i + 1))
  where
    go : (a b : Bool) (l m : List Pair) → l ≡ cond b m [] → cond (a && b) (pair j i ∷ l) l ≡ cond b (cond a (pair j i ∷ m) m) []
    go true true l m e = ap (λ (x : List Pair). pair j i ∷ x) e
    go true false l m e = e
    go false true l m e = e
    go false false l m e = e

module _ (f : Profile) (rule : ℕ → ℕ → Bool) (P Q : List Point) (rp : Rising (id_at P) (length P)) (rq : Rising (id_at Q) (length Q)) where
  -- the rule's list, and of it the chambers with at least t pairs
  abbrev All : List Pair
  All = list_by rule (pair_by f P Q) (length P) (length Q)

  abbrev Least : ℕ → List Pair
  Least t = list_by (at_least rule (pair_by f P Q) t (length P)) (pair_by f P Q) (length P) (length Q)

  abbrev row_of : ℕ → List Pair
  row_of j = row rule (pair_by f P Q) j (length P) 0

  row_is : (j : ℕ) → j < length Q → chamber_pairs (id_at Q j) All ≡ row_of j
  row_is j h = list_of rule (pair_by f P Q) (id_at Q) (id_at P) (named f P Q) (length P) (length Q) rq j h

  -- the number of a chamber's pairs in the list
  pub row_listed : (j : ℕ) → j < length Q → length (row_of j) ≡ length (chamber_pairs (id_at Q j) All)
  row_listed j h = sym (ap length (row_is j h))

  module _ (t : ℕ) where
    -- "all such chambers .. with all their pairs"
    pub least_pairs : (j : ℕ) → j < length Q → chamber_pairs (id_at Q j) (Least t) ≡ cond (leb t (length (chamber_pairs (id_at Q j) All))) (chamber_pairs (id_at Q j) All) []
    least_pairs j h =
        list_of (at_least rule (pair_by f P Q) t (length P)) (pair_by f P Q) (id_at Q) (id_at P) (named f P Q) (length P) (length Q) rq j h
        ∙ least_row rule (pair_by f P Q) t (length P) j (length P) 0
        ∙ ap (λ (n : ℕ). cond (leb t n) (row_of j) []) (row_listed j h)
        ∙ ap (λ (l : List Pair). cond (leb t (length (chamber_pairs (id_at Q j) All))) l []) (sym (row_is j h))

    pub least_iff : (v : Pair) → Memᴰ v (Least t) ↔ (Memᴰ v All × (t ≤ length (chamber_pairs v.q All)))
    unfolding at_least
    least_iff v = (
      λ m.
          let z = made_only f (at_least rule (pair_by f P Q) t (length P)) P Q rp rq v m in
          let j = z.at_q in
          let i = z.at_p in
          let here : Memᴰ (pair_by f P Q j i) All = (made_iff f rule P Q rp rq j i z.q_in z.p_in).1 (and_left (rule j i) (leb t (length (row_of j))) z.holds) in
          let many : t ≤ length (row_of j) = leb-true t (length (row_of j)) (and_right (rule j i) (leb t (length (row_of j))) z.holds) in
          rw z.is (here, omega (arith, row_listed j z.q_in)),
      λ x.
          let z = made_only f rule P Q rp rq v x.0 in
          let j = z.at_q in
          let i = z.at_p in
          let same : length (chamber_pairs v.q All) ≡ length (row_of j) = ap (λ (u : Pair). length (chamber_pairs u.q All)) z.is ∙ sym (row_listed j z.q_in) in
          let many : leb t (length (row_of j)) ≡ true = le-leb t (length (row_of j)) (omega (arith, x.1)) in
          rw z.is ((made_iff f (at_least rule (pair_by f P Q) t (length P)) P Q rp rq j i z.q_in z.p_in).1 (and_both (rule j i) (leb t (length (row_of j))) z.holds many)),
    )
