-- What the cases are made of: the document's two sets, as points and as sheets.
use mathlib.Core.List.{List, [], ◌∷◌}
use Prim.Native.Nat.{ℕ}
use lib.IntN.{ℤ, pos}
use Rattle.plane.specs.Rule.{spot}
use Rattle.plane.specs.Point.{Point}
use Rattle.list.specs.declared.Key.{Key}
use Rattle.list.specs.declared.Pair.{Pair}

abbrev pub at : ℕ → ℕ → ℕ → Point
at i x y = record { id = i; spot = spot (pos x) (pos y) }

abbrev pub to : ℕ → ℕ → ℕ → Pair
to q p size = record { q = q; p = p; size = size }

abbrev pub key : ℕ → ℕ → Key
key q p = record { q = q; p = p }

abbrev pub pumps : List Point
pumps = at 1 0 0 ∷ at 2 10 0 ∷ []

abbrev pub chambers : List Point
chambers = at 5 4 0 ∷ at 6 16 1 ∷ []

abbrev pub words : List ℕ → List ℤ
words [] = []
words (k ∷ l) = pos k ∷ words l

-- "P, edition 7"
abbrev pub pump_sheet : List ℤ
pump_sheet = words (1 ∷ 0 ∷ 0 ∷ 2 ∷ 10 ∷ 0 ∷ 0 ∷ 1 ∷ 0 ∷ 1 ∷ 0 ∷ 0 ∷ 2 ∷ 0 ∷ 0 ∷ 10 ∷ 0 ∷ 17 ∷ 7 ∷ 2 ∷ 1 ∷ 7 ∷ 1 ∷ [])

-- the document's pump houses in form 2
abbrev pub wide_pumps : List ℤ
wide_pumps = words (1 ∷ 0 ∷ 0 ∷ 2 ∷ 10 ∷ 0 ∷ 0 ∷ 1 ∷ 0 ∷ 1 ∷ 0 ∷ 0 ∷ 2 ∷ 0 ∷ 0 ∷ 10 ∷ 0 ∷ 17 ∷ 7 ∷ 2 ∷ 1 ∷ 7 ∷ 2 ∷ [])

-- "Q, edition 9"
abbrev pub chamber_sheet : List ℤ
chamber_sheet = words (5 ∷ 4 ∷ 0 ∷ 6 ∷ 16 ∷ 1 ∷ 0 ∷ 1 ∷ 0 ∷ 1 ∷ 0 ∷ 0 ∷ 2 ∷ 4 ∷ 0 ∷ 16 ∷ 1 ∷ 17 ∷ 7 ∷ 2 ∷ 1 ∷ 9 ∷ 1 ∷ [])

-- two points, ids a and b, at (x, 0) and (z, 0), in one leaf whose box goes from lo to hi
abbrev pub line : ℕ → ℕ → ℕ → ℕ → ℕ → ℕ → List ℤ
line a x b z lo hi = words (a ∷ x ∷ 0 ∷ b ∷ z ∷ 0 ∷ 0 ∷ 1 ∷ 0 ∷ 1 ∷ 0 ∷ 0 ∷ 2 ∷ lo ∷ 0 ∷ hi ∷ 0 ∷ 17 ∷ 7 ∷ 2 ∷ 1 ∷ 7 ∷ 1 ∷ [])

-- a sheet of nothing, and words that are no sheet
abbrev pub nothing : List ℤ
nothing = words (0 ∷ 0 ∷ 0 ∷ 0 ∷ 3 ∷ 1 ∷ [])

abbrev pub no_form : List ℤ
no_form = words (0 ∷ 0 ∷ 0 ∷ 0 ∷ 3 ∷ 3 ∷ [])
