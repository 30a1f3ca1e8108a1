-- The first of those passed, as the code holds them. No promise of an open call cites this.
use Rattle.std.specs.Prelude.{Bool, cond, ◌||◌, ℕ, suc, ◌-◌, ltb, length, take, drop, get_or, Option, None, slice_get}
use mathlib.Core.List.{List, ◌++◌}
use Rattle.sorting.specs.Ranking.{put_by, sixteen, Held}
use Rattle.sorting.specs.declared.Firsts.{Firsts}

module _ {A : Type 0} where
  -- those held
  abbrev pub held_firsts : Firsts A → List A
  held_firsts g = take g.count g.rows

  -- what holds these: z stands in the unused places
  abbrev pub firsts_of : A → List A → Firsts A
  firsts_of z s = record { rows = sixteen z s; count = length s }

  -- the last of k, where k are held
  unfoldable pub last_of : ℕ → Firsts A → Option A
  last_of k g = cond (ltb g.count k) None (slice_get g.rows (k - 1))

  module _ (before : A → A → Bool) where
    -- v put in its place among the first n
    unfoldable pub put_among : ℕ → A → Firsts A → Firsts A
    put_among n v g = record { rows = put_by before v (take n g.rows) ++ drop (suc n) g.rows; count = suc n }

    module _ (z : A) where
      -- at most k are held, in order, and nothing stands in the unused places
      abbrev pub HeldFirsts : ℕ → Firsts A → Type 0
      HeldFirsts k g = Held before z k g.rows g.count

      -- v would be among the k: fewer are held, or it stands before the last
      unfoldable pub enters : ℕ → A → Firsts A → Bool
      enters k v g = ltb g.count k || before v (get_or g.rows (k - 1) z)
