-- The loop that finds the record with an id: none of the first j has it.
-- Assumes nothing.
use mathlib.Core.Path.{◌≡◌, sym, ap, ◌∙◌}
use mathlib.Core.Bool.{Bool}
use mathlib.Core.List.{List}
use Prim.Native.Nat.{ℕ, ◌+◌, ◌≤◌, ◌<◌}
use native.Mathlib.Omega.{arith}
use native.Mathlib.Nat.{le_antisymm}
use lib.Dec.{eqb}
use lib.IntN.{ℤ}
use lib.ListN.{length}
use borrow.Author.Tests.{eq-eqb, ne_eqb}
use Rattle.words.specs.All.{first_b}
use Rattle.words.proofs.AllLaws.{first_none as none_yet, first_more, first_stop}
use Rattle.plane.specs.Point.{id_at}
use Rattle.sheet.specs.Places.{points_of}
use Rattle.sheet.specs.Open.{Opens}
use Rattle.sheet.proofs.PointsLaws.{length_points}
use Rattle.sheet.specs.Find.{position_of}

abbrev pub has : List ℤ → ℕ → ℕ → Bool
has s id j = eqb (id_at (points_of s) j) id

module _ {s : List ℤ} {n m : ℕ} (o : Opens s n m) (id : ℕ) where
  pub sheet_seek_start : first_b 0 (has s id) ≡ 0
  sheet_seek_start = none_yet (has s id)

  pub seek_on : (j a : ℕ) → first_b j (has s id) ≡ j → a ≡ id_at (points_of s) j → (a ≡ id → ⊥) → first_b (j + 1) (has s id) ≡ j + 1
  seek_on j a e i ne = first_more (has s id) j e (ne_eqb (id_at (points_of s) j) id (λ x. ne (i ∙ x)))

  records : length (points_of s) ≡ n
  records = length_points s ∙ o.n_is

  pub seek_stop : (j a : ℕ) → first_b j (has s id) ≡ j → a ≡ id_at (points_of s) j → a ≡ id → j < n → j ≡ position_of (points_of s) id
  unfolding position_of
  seek_stop j a e i y l = first_stop (has s id) j (length (points_of s)) e (eq-eqb (id_at (points_of s) j) id (sym i ∙ y)) (omega (arith, records))

  pub sheet_seek_end : (j : ℕ) → first_b j (has s id) ≡ j → j ≤ n → n ≤ j → n ≡ position_of (points_of s) id
  unfolding position_of
  sheet_seek_end j e l g = le_antisymm g l ∙ sym e ∙ ap (λ (k : ℕ). first_b k (has s id)) (le_antisymm l g ∙ sym records)
