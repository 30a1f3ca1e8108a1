-- The droppers in hand, as they change: what holds of the place of each.
-- Assumes nothing.
use mathlib.Core.Path.{◌≡◌, refl, sym, subst}
use mathlib.Core.Bool.{true}
use mathlib.Core.Logic.{inl, inr, ⊎_elim}
use Prim.Native.Nat.{ℕ, ◌<◌}
use native.Mathlib.Omega.{arith}
use Rattle.plane.specs.declared.Spot.{Spot}
use Rattle.plane.specs.Rule.{drops}
use Rattle.seeds.specs.declared.line.Line.{Line}
use Rattle.seeds.specs.Places.{place_at}
use Rattle.seeds.specs.Line.{Lined, Among, Known, Drops, DroppedBy}

module _ (K : Spot → Type 0) (l : Line) (m : Lined K l) where
  -- what holds of all places of K holds of all droppers
  pub lined_all : (T : Spot → Type 0) → ((z : Spot) → K z → T z) → Lined T l
  lined_all T f = record { each = λ k h. f (place_at l.at k) (m.each k h) }

  pub among_in : (z : Spot) → Among l z → K z
  among_in z a = subst K (sym a.at) (m.each a.by a.below)

  -- one that is known is of K, where the new ones are
  pub known_in : (New : Spot → Type 0) → ((z : Spot) → New z → K z) → (z : Spot) → Known New l z → K z
  known_in New f z x = ⊎_elim (among_in z) (λ (n : New z). f z n) x

-- each is one of them
pub lined_self : (l : Line) → Lined (Among l) l
lined_self l = record { each = λ k h. record { by = k; below = h; at = refl } }

-- ---- a function that has droppers as it found them, and then others: each is one of those, or new

pub line_same : (New : Spot → Type 0) (l : Line) → Lined (Known New l) l
line_same New l = lined_all (Among l) l (lined_self l) (Known New l) (λ z a. inl a)

-- what holds of the new ones too holds of all
pub line_holds : (New T : Spot → Type 0) (l l' : Line) → Lined T l → ((z : Spot) → New z → T z) → Lined (Known New l) l' → Lined T l'
line_holds New T l l' m f n = lined_all (Known New l) l' n T (known_in T l m New f)

-- new ones said in a wider way
pub line_wider : (New Newer : Spot → Type 0) (l l' : Line) → ((z : Spot) → Newer z → New z) → Lined (Known Newer l) l' → Lined (Known New l) l'
line_wider New Newer l l' f m =
    lined_all (Known Newer l) l' m (Known New l) (λ z x. ⊎_elim (λ (a : Among l z). inl a) (λ (n : Newer z). inr (f z n)) x)

-- one such function after another
pub line_after : (New Newer : Spot → Type 0) (l l' l'' : Line) → ((z : Spot) → Newer z → New z) → Lined (Known New l) l' → Lined (Known Newer l') l'' → Lined (Known New l) l''
line_after New Newer l l' l'' f a b = line_holds Newer (Known New l) l' l'' a (λ z n. inr (f z n)) b

-- no dropper yet
pub line_empty : (T : Spot → Type 0) (l : Line) → l.count ≡ 0 → Lined T l
line_empty T l e = record { each = λ k h. absurd (omega (arith, e)) }

-- ---- a dropper that was found

-- dropper r drops z
pub line_dropped_by : (l : Line) (r : ℕ) (q z : Spot) → r < l.count → Drops (λ y. drops q y z ≡ true) l r → DroppedBy (Among l) q z
line_dropped_by l r q z h d = (place_at l.at r, record { by = r; below = h; at = refl }, d.holds h)
