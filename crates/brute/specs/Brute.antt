-- The second join. A set is its points' words: id, x, y, and again. Nothing here is shared with the first join: the ring rule is read as distances, and the street grid's on a
-- map turned by an eighth.
use Rattle.std.specs.Prelude.{◌≡◌, Bool, true, false, cond, not, ◌&&◌, ◌||◌, List, ℕ, ◌+◌, ◌*◌, ◌/◌, ◌≤◌, ◌<◌, eqb, leb, ltb, ℤ, pos, neg_ℤ, nat_abs, ◌+ℤ◌, ◌-ℤ◌, ◌*ℤ◌, length, get_or}
use Rattle.std.specs.Int.Signed.{le_z}
use Rattle.words.specs.All.{all_b}
use Rattle.brute.specs.declared.Place.{Place}
use Rattle.brute.specs.declared.Found.{Found}

-- how many points there are
abbrev pub size : List ℤ → ℕ
size s = length s / 3

-- a coordinate, and 0 for a word beyond a billion, which no sheet has
unfoldable pub clip : ℤ → ℤ
clip z = cond (le_z (neg_ℤ (pos 1000000000)) z) (cond (le_z z (pos 1000000000)) z (pos 0)) (pos 0)

-- where the point at position k stands
unfoldable pub place_at : List ℤ → ℕ → Place
place_at s k = record { x = clip (get_or s (3 * k + 1) (pos 0)); y = clip (get_or s (3 * k + 2) (pos 0)) }

-- the squared distance of a and b on one axis; the distance of a + b and twice z, and its square
abbrev pub across : ℤ → ℤ → ℕ
across a b = nat_abs (a -ℤ b) * nat_abs (a -ℤ b)

abbrev pub off : ℤ → ℤ → ℤ → ℕ
off a b z = nat_abs (pos 2 *ℤ z -ℤ (a +ℤ b))

abbrev pub apart : ℤ → ℤ → ℤ → ℕ
apart a b z = off a b z * off a b z

-- the closed circle on a, b as diameter, doubled: twice z is no farther from its centre a + b than a is from b
unfoldable pub covers : Place → Place → Place → Bool
covers a b z = leb (apart a.x b.x z.x + apart a.y b.y z.y) (across a.x b.x + across a.y b.y)

-- A place on the map turned by an eighth: x + y and x - y. There the sum of the distances on the two axes, by which the streets go, is the greater of the two distances
-- (`turned_sum` of proofs/Turned).
abbrev pub turn : Place → Place
turn a = record { x = a.x +ℤ a.y; y = a.x -ℤ a.y }

unfoldable pub larger : ℕ → ℕ → ℕ
larger u v = cond (ltb u v) v u

-- how far two places of the turned map are apart, on the axis that has more of it
unfoldable pub most : Place → Place → ℕ
most a b = larger (nat_abs (a.x -ℤ b.x)) (nat_abs (a.y -ℤ b.y))

-- the closed square around a, b on the turned map, doubled: on both axes twice z is no farther from its centre a + b than a is from b
unfoldable pub fences : Place → Place → Place → Bool
fences a b z = leb (off a.x b.x z.x) (most a b) && leb (off a.y b.y z.y) (most a b)

-- of either profile, of the street grid where g is true
unfoldable pub holds : Bool → Place → Place → Place → Bool
holds false a b z = covers a b z
holds true a b z = fences (turn a) (turn b) (turn z)

-- two places are no distance apart
unfoldable pub together : Place → Place → Bool
together a b = eqb (across a.x b.x + across a.y b.y) 0

-- the place z is not in the circle or square of a, b, or it is that of an end
unfoldable pub clear : Bool → Place → Place → Place → Bool
clear g a b z = not (holds g a b z) || together z a || together z b

-- no point of s is in it but at the place of an end [X17]
unfoldable pub empty : Bool → List ℤ → Place → Place → Bool
empty g s a b = all_b (size s) (λ k. clear g a b (place_at s k))

-- q at position j and p at position i are a pair [X17]
unfoldable pub pairs : Bool → List ℤ → List ℤ → ℕ → ℕ → Bool
pairs g p q j i = empty g q (place_at q j) (place_at p i) && empty g p (place_at q j) (place_at p i)

-- the squared distance of two places, by the air or by the streets
unfoldable pub span : Bool → Place → Place → ℕ
span false a b = across a.x b.x + across a.y b.y
span true a b = most (turn a) (turn b) * most (turn a) (turn b)

-- that of the two ends of a pair, and 0 where an end is past its set
unfoldable pub size_of : Bool → List ℤ → List ℤ → Found → ℕ
size_of g p q v = cond (ltb v.q (size q) && ltb v.p (size p)) (span g (place_at q v.q) (place_at p v.p)) 0

-- `r` is the first position of P from `i` on that is a pair with position j of Q, or past them all where there is none
pub record FirstOf (g : Bool) (p q : List ℤ) (j i r : ℕ) : Type 0 where
  pub skipped : (k : ℕ) → i ≤ k → k < r → pairs g p q j k ≡ false
  pub is : r < size p → pairs g p q j r ≡ true

-- (j, i) stands before (k, l) in the order of the list, or is it
abbrev pub UpTo : ℕ → ℕ → ℕ → ℕ → Type 0
UpTo j i k l = (j ≡ k → i ≤ l) × (j ≤ k)

-- what `next` answers, from position j of Q and position i of P: a pair, or past all of Q; and no pair before it [X17]
pub record Next (g : Bool) (p q : List ℤ) (j i : ℕ) (r : Found) : Type 0 where
  pub here : r.q < size q → (r.p < size p) × (pairs g p q r.q r.p ≡ true)
  pub rows : (k l : ℕ) → UpTo j i k l → k < size q → l < size p → k < r.q → pairs g p q k l ≡ false
  pub row : (l : ℕ) → UpTo j i r.q l → r.q < size q → l < r.p → pairs g p q r.q l ≡ false
