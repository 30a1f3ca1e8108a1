-- A list by rows, where the names of the rows may stand in any order, as the q ids of a leaf's places do: of two of its pairs the first is of an earlier row, or of the same row
-- and has the lower p id. (Where the rows' names rise too, this is `ring_list_ascends` of `list`, which is used here: on the list that has the rows' numbers for names.)
-- Assumes nothing.
use mathlib.Core.Path.{◌≡◌, refl, sym, ap, ap₂, ◌∙◌}
use mathlib.Core.Bool.{Bool, true, false, cond}
use mathlib.Core.Logic.{◌⊎◌, inl, inr, ⊎_elim}
use mathlib.Core.List.{List, [], ◌∷◌, ◌++◌, map}
use Prim.Native.Nat.{ℕ, zero, suc, ◌+◌, ◌-◌, ◌≤◌, ◌<◌}
use native.Mathlib.Omega.{arith}
use lib.ListN.{length, get_or, length-map}
use Rattle.list.specs.declared.Pair.{Pair}
use Rattle.list.specs.Pairs.{none, start, key_of}
use Rattle.list.specs.Rows.{row, rows, list_by, Rising}
use Rattle.list.proofs.Order.{later, at_member, asc_places}
use Rattle.list.proofs.RowLaws.{Placed, ring_list_ascends, listed_holds}

-- x is of a row of so many, y of another or of the same, and they stand in turn
pub record InTurn (name : ℕ → ℕ) (rows : ℕ) (x y : Pair) : Type 0 where
  pub row_x : ℕ
  pub row_y : ℕ
  pub x_in : row_x < rows
  pub y_in : row_y < rows
  pub x_is : x.q ≡ name row_x
  pub y_is : y.q ≡ name row_y
  pub turn : (row_x < row_y) ⊎ ((row_x ≡ row_y) × (x.p < y.p))

map_append : (f : Pair → Pair) (a b : List Pair) → map f (a ++ b) ≡ map f a ++ map f b
map_append f [] b = refl
map_append f (x ∷ a) b = ap (λ (l : List Pair). f x ∷ l) (map_append f a b)

map_at : (f : Pair → Pair) (l : List Pair) (k : ℕ) → k < length l → get_or (map f l) k none ≡ f (get_or l k none)
map_at f [] k h = absurd (omega arith)
map_at f (x ∷ l) zero h = refl
map_at f (x ∷ l) (suc k) h = map_at f l k (omega arith)

module _ (rule : ℕ → ℕ → Bool) (name pid : ℕ → ℕ) (wide : ℕ → ℕ → ℕ) where
  -- the pair of row j and position i: by the row's name, and by its number from 1 on
  abbrev named : ℕ → ℕ → Pair
  named j i = record { q = name j; p = pid i; size = wide j i }

  abbrev numbered : ℕ → ℕ → Pair
  numbered j i = record { q = j + 1; p = pid i; size = wide j i }

  abbrev naming : Pair → Pair
  naming x = record { q = name (x.q - 1); p = x.p; size = x.size }

  row_named : (j k i : ℕ) → row rule named j k i ≡ map naming (row rule numbered j k i)
  unfolding row
  row_named j zero i = refl
  row_named j (suc k) i = go (rule j i) (row_named j k (i + 1))
    where
      go : (t : Bool) → row rule named j k (i + 1) ≡ map naming (row rule numbered j k (i + 1))
          → cond t (named j i ∷ row rule named j k (i + 1)) (row rule named j k (i + 1)) ≡ map naming (cond t (numbered j i ∷ row rule numbered j k (i + 1)) (row rule numbered j k (i + 1)))
      go true e = let z : j ≡ j + 1 - 1 = omega arith in ap₂ (λ (u : ℕ) (l : List Pair). record { q = name u; p = pid i; size = wide j i } ∷ l) z e
      go false e = e

  rows_named : (n k j : ℕ) → rows rule named n k j ≡ map naming (rows rule numbered n k j)
  unfolding rows
  rows_named n zero j = refl
  rows_named n (suc k) j = ap₂ ◌++◌ (row_named j n 0) (rows_named n k (j + 1)) ∙ sym (map_append naming (row rule numbered j n 0) (rows rule numbered n k (j + 1)))

  list_named : (np nq : ℕ) → list_by rule named np nq ≡ map naming (list_by rule numbered np nq)
  unfolding list_by
  list_named np nq = rows_named np nq 0

  module _ (np nq : ℕ) (few : nq ≤ 2000000000) (rises : Rising pid np) where
    numbers : Rising (λ j. j + 1) nq
    numbers = record { rises = λ i h. omega arith; low = λ i h. omega arith; high = λ i h. omega arith }

    l : List Pair
    l = list_by rule numbered np nq

    placed : (k : ℕ) → k < length l → Placed rule numbered np nq (get_or l k none)
    unfolding l
    placed k h = listed_holds rule numbered (λ j. j + 1) pid (record { q_is = λ j i. refl; p_is = λ j i. refl }) nq np numbers rises (get_or l k none) (at_member l k h)

    pub in_turn : (a b : ℕ) → a < b → b < length (list_by rule named np nq) → InTurn name nq (get_or (list_by rule named np nq) a none) (get_or (list_by rule named np nq) b none)
    unfolding l
    in_turn a b h g =
        record {
          row_x = x.at_q;
          row_y = y.at_q;
          x_in = x.q_in;
          y_in = y.q_in;
          x_is = at a x_below x.at_q (ap (λ (v : Pair). v.q) x.is);
          y_is = at b below y.at_q (ap (λ (v : Pair). v.q) y.is);
          turn =
              ⊎_elim
              (λ (e : (get_or l a none).q < (get_or l b none).q). inl (omega (arith, e, ap (λ (v : Pair). v.q) x.is, ap (λ (v : Pair). v.q) y.is)))
              (λ (e : ((get_or l a none).q ≡ (get_or l b none).q) × ((get_or l a none).p < (get_or l b none).p)).
              inr (omega (arith, e.0, ap (λ (v : Pair). v.q) x.is, ap (λ (v : Pair). v.q) y.is), omega (arith, e.1, p_of a x_below, p_of b below)))
              (later (key_of (get_or l a none)) (key_of (get_or l b none))
              (asc_places start l (ring_list_ascends rule numbered (λ j. j + 1) pid (record { q_is = λ j i. refl; p_is = λ j i. refl }) nq np numbers rises) a b h below));
        }
      where
        below : b < length l
        below = omega (arith, g, ap length (list_named np nq), length-map l naming)

        x_below : a < length l
        x_below = omega (arith, below)

        x : Placed rule numbered np nq (get_or l a none)
        x = placed a x_below

        y : Placed rule numbered np nq (get_or l b none)
        y = placed b below

        is : (k : ℕ) → k < length l → get_or (list_by rule named np nq) k none ≡ naming (get_or l k none)
        is k u = ap (λ (z : List Pair). get_or z k none) (list_named np nq) ∙ map_at naming l k u

        p_of : (k : ℕ) → k < length l → (get_or (list_by rule named np nq) k none).p ≡ (get_or l k none).p
        p_of k u = ap (λ (v : Pair). v.p) (is k u)

        at : (k : ℕ) → k < length l → (j : ℕ) → (get_or l k none).q ≡ j + 1 → (get_or (list_by rule named np nq) k none).q ≡ name j
        at k u j e = let z : (get_or l k none).q - 1 ≡ j = omega (arith, e) in ap (λ (v : Pair). v.q) (is k u) ∙ ap name z
