-- Chambers of a list one after the other: what a chamber adds to it, and what is left of it.
-- Assumes nothing.
use mathlib.Core.Path.{◌≡◌, refl, sym, ap, subst, ◌∙◌}
use mathlib.Core.Bool.{Bool, true, false, not, ◌&&◌}
use mathlib.Core.List.{List, [], ◌++◌}
use Prim.Native.Nat.{ℕ, zero, suc, ◌+◌, ◌-◌, ◌*◌, ◌≤◌, ◌<◌}
use native.Mathlib.Omega.{arith}
use native.Mathlib.Nat.{mul-le-mul}
use lib.IntN.{ℤ}
use lib.ListN.{length, length-append}
use borrow.Author.Tests.{le-leb, lt-leb}
use Rattle.integers.proofs.Bools.{failed, passed}
use Rattle.plane.specs.Point.{Point}
use Rattle.sheet.specs.Places.{points_of}
use Rattle.sheet.specs.Open.{Opens}
use Rattle.sheet.proofs.PointsLaws.{length_points}
use Rattle.list.specs.declared.Pair.{Pair}
use Rattle.list.specs.declared.Terms.{Terms}
use Rattle.list.specs.Contractor.{mine}
use Rattle.list.specs.Rows.{row, rows, at_least, list_by}
use Rattle.list.specs.RingList.{pair_by}
use Rattle.list.specs.Terms.{profile_for}
use Rattle.list.proofs.RowLaws.{row_same}
use Rattle.chamber.specs.Sized.{small_for, listed_to, list_to}
use Rattle.chamber.specs.Chamber.{PairsOn, ListedOn}
use Rattle.chamber.proofs.KeepLaws.{row_nil, row_no, row_short}

pub points_many : (w : List ℤ) (n m : ℕ) → Opens w n m → length (points_of w) ≡ n
points_many w n m o = length_points w ∙ o.n_is

-- ---- a rule that holds of no pair of a chamber, or where another does

pub row_empty : (rule : ℕ → ℕ → Bool) (pair : ℕ → ℕ → Pair) (j k i : ℕ) → ((x : ℕ) → rule j x ≡ false) → row rule pair j k i ≡ []
row_empty rule pair j zero i f = row_nil rule pair j i
row_empty rule pair j (suc k) i f = row_no rule pair j k i (f i) ∙ row_empty rule pair j k (i + 1) f

module _ (big : ℕ) (a : Terms) (o : List ℕ) (P Q : List Point) where
  abbrev pairing : ℕ → ℕ → Pair
  pairing = pair_by (profile_for a) P Q

  abbrev small : ℕ → ℕ → Bool
  small = small_for big a P Q

  not_mine : (j i : ℕ) → mine a.contractor o j ≡ false → listed_to big a o P Q j i ≡ false
  unfolding listed_to
  not_mine j i e = rw e

  too_few : (j i : ℕ) → length (row small pairing j (length P) 0) < a.threshold → listed_to big a o P Q j i ≡ false
  unfolding listed_to at_least
  too_few j i h = rw (lt-leb a.threshold (length (row small pairing j (length P) 0)) h) (go (mine a.contractor o j) (small j i))
    where
      go : (x y : Bool) → (x && (y && false)) ≡ false
      go true true = refl
      go true false = refl
      go false y = refl

  all_listed : (j i : ℕ) → mine a.contractor o j ≡ true → a.threshold ≤ length (row small pairing j (length P) 0) → listed_to big a o P Q j i ≡ small j i
  unfolding listed_to at_least
  all_listed j i e h = rw (e, le-leb a.threshold (length (row small pairing j (length P) 0)) h) (go (small j i))
    where
      go : (y : Bool) → (y && true) ≡ y
      go true = refl
      go false = refl

  -- what a chamber gives
  module _ (n : ℕ) (is : length P ≡ n) (j : ℕ) (b : List ℕ) where
    none_on : ((i : ℕ) → listed_to big a o P Q j i ≡ false) → ListedOn (listed_to big a o P Q) pairing j n b 0
    none_on f = record { counted = sym (ap length (row_empty (listed_to big a o P Q) pairing j n 0 f)); held = λ z. absurd (z refl) }

    pub listed_other : (m : Bool) → m ≡ mine a.contractor o j → not m ≡ true → ListedOn (listed_to big a o P Q) pairing j n b 0
    listed_other m e h = none_on (λ i. not_mine j i (failed e h))

    module _ (count : ℕ) (on : PairsOn small pairing j n b count) where
      same : length (row small pairing j (length P) 0) ≡ count
      same = ap (λ (k : ℕ). length (row small pairing j k 0)) is ∙ sym on.counted

      pub listed_few : count < a.threshold → ListedOn (listed_to big a o P Q) pairing j n b 0
      listed_few h = none_on (λ i. too_few j i (omega (arith, same)))

      pub listed_all : (m : Bool) → m ≡ mine a.contractor o j → not m ≡ false → a.threshold ≤ count → ListedOn (listed_to big a o P Q) pairing j n b count
      listed_all m e h l =
          let f : (i : ℕ) → listed_to big a o P Q j i ≡ small j i = λ i. all_listed j i (passed e h) (omega (arith, same)) in
          record {
            counted = on.counted ∙ sym (ap length (row_same (listed_to big a o P Q) small pairing j n 0 (λ x u v. f x)));
            held = λ z i u. on.held i u ∙ sym (f i);
          }

-- ---- one after the other

module _ (rule : ℕ → ℕ → Bool) (pair : ℕ → ℕ → Pair) (np nq : ℕ) where
  pub rows_next : (j : ℕ) → j < nq → rows rule pair np (nq - j) j ≡ row rule pair j np 0 ++ rows rule pair np (nq - (j + 1)) (j + 1)
  unfolding rows
  rows_next j h = let s : nq - j ≡ suc (nq - (j + 1)) = omega arith in ap (λ (k : ℕ). rows rule pair np k j) s

  pub rows_end : (j : ℕ) → nq ≤ j → rows rule pair np (nq - j) j ≡ []
  unfolding rows
  rows_end j h = let s : nq - j ≡ 0 = omega arith in ap (λ (k : ℕ). rows rule pair np k j) s

  rows_short : (k j : ℕ) → length (rows rule pair np k j) ≤ k * np
  unfolding rows
  rows_short zero j = omega arith
  rows_short (suc k) j = let e : k * np + np ≡ suc k * np = omega arith in omega (arith, length-append (row rule pair j np 0) (rows rule pair np k (j + 1)), row_short rule pair j np 0, rows_short k (j + 1))

  -- so many pairs were counted up to chamber j
  pub record Counting (total j : ℕ) : Type 0 where
    pub most : j ≤ nq
    pub left : total + length (rows rule pair np (nq - j) j) ≡ length (rows rule pair np nq 0)

  pub chamber_count_start : Counting 0 0
  chamber_count_start = let z : nq - 0 ≡ nq = omega arith in record { most = omega arith; left = omega (arith, ap (λ (k : ℕ). length (rows rule pair np k 0)) z) }

  module _ (total j : ℕ) (s : Counting total j) (h : j < nq) (b : List ℕ) (found : ℕ) (on : ListedOn rule pair j np b found) where
    split : length (rows rule pair np (nq - j) j) ≡ found + length (rows rule pair np (nq - (j + 1)) (j + 1))
    split = ap length (rows_next j h) ∙ length-append (row rule pair j np 0) (rows rule pair np (nq - (j + 1)) (j + 1)) ∙ ap (λ (x : ℕ). x + length (rows rule pair np (nq - (j + 1)) (j + 1))) (sym on.counted)

    pub count_room : total + found ≤ nq * np
    count_room = omega (arith, s.left, split, rows_short nq 0)

    pub count_more : Counting (total + found) (j + 1)
    count_more = record { most = omega arith; left = omega (arith, s.left, split) }

  pub count_by : (total found wide j : ℕ) → wide ≡ found → Counting (total + found) j → Counting (total + wide) j
  count_by total found wide j e s = subst (λ (x : ℕ). Counting (total + x) j) (sym e) s

  pub chamber_count_end : (total j : ℕ) → Counting total j → nq ≤ j → total ≡ length (list_by rule pair np nq)
  unfolding list_by
  chamber_count_end total j s h = omega (arith, s.left, ap length (rows_end j h))

-- there is room to count
pub count_fits : (found total wide np : ℕ) {nq : ℕ} → wide ≡ found → total + found ≤ nq * np → np ≤ 60000 → nq ≤ 60000 → total + wide < 18446744073709551616
count_fits found total wide np {nq} e h p q = let m : nq * np ≤ 60000 * 60000 = mul-le-mul {n₁ = nq} {m₁ = np} {n₂ = 60000} {m₂ = 60000} q p in omega arith

-- of the points of sheets
pub list_of_sheets : (big : ℕ) (a : Terms) (o : List ℕ) (P Q : List ℤ) (np mp nq mq : ℕ) → Opens P np mp → Opens Q nq mq
    → list_by (listed_to big a o (points_of P) (points_of Q)) (pair_by (profile_for a) (points_of P) (points_of Q)) np nq ≡ list_to big a o (points_of P) (points_of Q)
unfolding list_to
list_of_sheets big a o P Q np mp nq mq op oq =
    let x : np ≡ length (points_of P) = sym (length_points P ∙ op.n_is) in
    let y : nq ≡ length (points_of Q) = sym (length_points Q ∙ oq.n_is) in
    ap (λ (k : ℕ). list_by (listed_to big a o (points_of P) (points_of Q)) (pair_by (profile_for a) (points_of P) (points_of Q)) k nq) x
    ∙ ap (λ (k : ℕ). list_by (listed_to big a o (points_of P) (points_of Q)) (pair_by (profile_for a) (points_of P) (points_of Q)) (length (points_of P)) k) y
