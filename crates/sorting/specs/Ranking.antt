-- The first k of a list in an order. The order is a test of two: `before v w` says that v stands before w.
use Rattle.std.specs.Prelude.{◌≡◌, Bool, true, false, cond, ◌⊎◌, ℕ, ◌-◌, ◌≤◌, length, take, replicate}
use mathlib.Core.List.{List, [], ◌∷◌, ◌++◌, Memᴰ}

module _ {A : Type 0} (before : A → A → Bool) where
  -- v put before the first that it stands before
  unfoldable pub put_by : A → List A → List A
  put_by v [] = v ∷ []
  put_by v (w ∷ l) = cond (before v w) (v ∷ (w ∷ l)) (w ∷ put_by v l)

  -- a list "in order" [H1, BU1]
  unfoldable pub sorted_by : List A → List A
  sorted_by [] = []
  sorted_by (v ∷ l) = put_by v (sorted_by l)

  -- its first k, "fewer if there are fewer" [H1, BU1]
  unfoldable pub first_by : ℕ → List A → List A
  first_by k l = take k (sorted_by l)

-- sixteen of them, the unused ones zeros [BU1]
unfoldable pub sixteen : {A : Type 0} → A → List A → List A
sixteen z l = l ++ replicate (16 - length l) z

-- ---- what the code goes by. No promise of an open call cites this.

module _ {A : Type 0} (before : A → A → Bool) where
  -- none stands before one that is listed ahead of it
  unfoldable pub Sorted : List A → Type 0
  Sorted [] = Unit
  Sorted (v ∷ l) = ((w : A) → Memᴰ w l → before w v ≡ false) × Sorted l

  -- those of l put one after the other among those held, of which the first k stay
  unfoldable pub gathered : ℕ → List A → List A → List A
  gathered k [] s = s
  gathered k (v ∷ l) s = gathered k l (take k (put_by before v s))

  -- the order tells apart any two that stand at two places of a list
  unfoldable pub Apart : List A → Type 0
  Apart [] = Unit
  Apart (v ∷ l) = ((w : A) → Memᴰ w l → (before v w ≡ true) ⊎ (before w v ≡ true)) × Apart l

  -- at most k are held, in order, and the unused places are zeros
  pub record Held (z : A) (k : ℕ) (rows : List A) (count : ℕ) : Type 0 where
    pub few : count ≤ k
    pub whole : rows ≡ sixteen z (take count rows)
    pub long : length (take count rows) ≡ count
    pub sorted : Sorted (take count rows)

  -- an order: it is of two different ones, and of what it does not tell apart it says the same
  pub record Order : Type 0 where
    pub never : (v : A) → before v v ≡ false
    pub joins : (v w x : A) → before v w ≡ true → before w x ≡ true → before v x ≡ true
    pub parts : (v w x : A) → before v x ≡ true → (before v w ≡ true) ⊎ (before w x ≡ true)
