-- A country's records are more than a sheet may hold. They are cut into parts: the sheets of a part hold all records of both sets that stand in a box of the map, and no others.
-- A chamber and a pump house whose circle lies in the box are a ring pair of the whole exactly if they are one of the part: `border_pair` of proofs/BorderLaws. A pair whose circle
-- leaves the box must be asked of the sheets of a larger box.
use Rattle.std.specs.Prelude.{◌≡◌, Bool, true, false, cond, ◌&&◌, ◌⊎◌, List, [], ◌∷◌, ℕ, ◌<◌, ℤ, pos, ◌+ℤ◌, ◌-ℤ◌, ◌*ℤ◌, length}
use Rattle.std.specs.Int.Signed.{le_z}
use Rattle.plane.specs.declared.Spot.{Spot}
use Rattle.plane.specs.declared.Boxed.{Boxed}
use Rattle.plane.specs.Rule.{sq, in_box, drops}
use Rattle.plane.specs.Profile.{Profile, circle}
use Rattle.plane.specs.Point.{Point, spot_at}
use Rattle.list.specs.RingList.{ring_pair}

-- the records of a set that stand in a box, on its sides too, in the order of the set; ids and places are theirs [Q1, Q2]
unfoldable pub part_of : Boxed → List Point → List Point
part_of r [] = []
part_of r (p ∷ s) = cond (in_box r p.spot) (p ∷ part_of r s) (part_of r s)

module _ (f : Profile) where
  -- The middle of a and b is half of t away from a side, on the inner side of it. The circle on a and b does not reach over it: its size, which is the square of the diameter, is at
  -- most the square of t. Of the street grid the same, with the size that its pairs carry: the square of the way from a to b along the streets.
  abbrev pub clears : Spot → Spot → ℤ → Bool
  clears a b t = le_z (pos 0) t && le_z (pos (f.size a b)) (sq t)

  -- the circle on a and b, along the streets the diamond, lies in the box: it may touch the sides. Whole numbers alone: twice the middle is a + b. [Q1, Q3]
  unfoldable pub circle_in : Boxed → Spot → Spot → Bool
  circle_in r a b =
      clears a b (a.x +ℤ b.x -ℤ pos 2 *ℤ r.xmin) && clears a b (pos 2 *ℤ r.xmax -ℤ (a.x +ℤ b.x))
      && (clears a b (a.y +ℤ b.y -ℤ pos 2 *ℤ r.ymin) && clears a b (pos 2 *ℤ r.ymax -ℤ (a.y +ℤ b.y)))

-- a province's box: its core, and a margin on each side [Q3, Q4]
abbrev pub widened : ℕ → Boxed → Boxed
widened m c = record { xmin = c.xmin -ℤ pos m; ymin = c.ymin -ℤ pos m; xmax = c.xmax +ℤ pos m; ymax = c.ymax +ℤ pos m }

-- z is behind a record of the set, as seen from a chamber at q: the record blocks the pair of the two. The half-plane rule, of the circle; of all places of a box at once it is `drops_box`.
-- [Q5]
pub record Behind (s : List Point) (q z : Spot) : Type 0 where
  pub at : ℕ
  pub here : at < length s
  pub drops_it : drops q (spot_at s at) z ≡ true

-- All of the map m that lies outside the box is behind some record of the part, as seen from a chamber at q. [Q5]
pub record Closed (m r : Boxed) (P' Q' : List Point) (q : Spot) : Type 0 where
  pub shut : (z : Spot) → in_box m z ≡ true → in_box r z ≡ false → Behind P' q z ⊎ Behind Q' q z

-- A chamber of a part, at position j of its chambers, is settled there: all of the map outside the box is behind records of the part, as seen from it, and the circle of each ring pair that it has in the
-- part lies in the box. It takes the part alone to see that. Its pairs are then those of the whole: `settled_pair` of proofs/SettledLaws. Of the circle. [Q5, Q6]
pub record Settled (m r : Boxed) (P' Q' : List Point) (j : ℕ) : Type 0 where
  pub shut : Closed m r P' Q' (spot_at Q' j)
  pub sure : (i : ℕ) → i < length P' → ring_pair P' Q' j i ≡ true → circle_in circle r (spot_at Q' j) (spot_at P' i) ≡ true
