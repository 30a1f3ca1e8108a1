-- Runs of positions: what a loop has passed. Assumes nothing.
use mathlib.Core.Path.{◌≡◌, sym, subst}
use mathlib.Core.Logic.{⊎_elim}
use Prim.Native.Nat.{ℕ, ◌+◌, ◌≤◌, ◌<◌, zero-le}
use native.Mathlib.Nat.{eq-or-lt_of_le}
use native.Mathlib.Omega.{arith}
use mathlib.Core.Bool.{Bool, false}
use mathlib.Core.List.{List}
use lib.IntN.{ℤ}
use Rattle.brute.specs.Brute.{size, pairs, FirstOf, UpTo}

-- from i up to k, and k itself
pub one_more : (P : ℕ → Type 0) (i k : ℕ) → ((m : ℕ) → i ≤ m → m < k → P m) → P k → (m : ℕ) → i ≤ m → m < k + 1 → P m
one_more P i k f g m h l = ⊎_elim (λ e. subst P (sym e) g) (λ b. f m h b) (eq-or-lt_of_le {n = m} {m = k} (omega arith))

-- before position `from` of row `row` there is no pair from (j, i) on
abbrev pub Passed : Bool → List ℤ → List ℤ → ℕ → ℕ → ℕ → ℕ → Type 0
Passed g p q j i row from =
    ((k l : ℕ) → UpTo j i k l → k < size q → l < size p → k < row → pairs g p q k l ≡ false) × ((l : ℕ) → UpTo j i row l → from ≤ l)

-- a row without a pair is passed
pub row_passed : (g : Bool) (p q : List ℤ) (j i row from r : ℕ) → Passed g p q j i row from → FirstOf g p q row from r → size p ≤ r → Passed g p q j i (row + 1) 0
row_passed g p q j i row from r h f n = (
  (λ k l u kq lp b. ⊎_elim (λ (e : k ≡ row). here k l e u lp) (λ (a : k < row). h.0 k l u kq lp a) (eq-or-lt_of_le {n = k} {m = row} (omega arith))),
  (λ l u. zero-le),
)
  where
    in_row : (l : ℕ) → UpTo j i row l → l < size p → pairs g p q row l ≡ false
    in_row l u lp = f.skipped l (h.1 l u) (omega arith)

    here : (k l : ℕ) → k ≡ row → UpTo j i k l → l < size p → pairs g p q k l ≡ false
    here k l e u lp = subst (λ (m : ℕ). pairs g p q m l ≡ false) (sym e) (in_row l (subst (λ (m : ℕ). UpTo j i m l) e u) lp)
