-- What waits in the walk that goes nearest first, and in which order: "the box or point with the least squared distance to q first; on a tie, boxes before
-- points, then lower position or node".
-- What waits is a number. Of a sheet with m nodes, node j is the number j + 1, and the point at position i is m + 1 + i; 0 is nothing. So of two numbers the lower is
-- the box, and of two boxes that of the lower node, of two points that at the lower position.
use Rattle.std.specs.Prelude.{Bool, cond, ◌&&◌, ◌||◌, List, [], ◌∷◌, ℕ, ◌+◌, ◌-◌, eqb, ltb, ℤ, ◌+ℤ◌}
use Rattle.words.specs.Word.{num}
use Rattle.plane.specs.declared.Spot.{Spot}
use Rattle.plane.specs.declared.Boxed.{Boxed}
use Rattle.plane.specs.Rule.{sq, out, size}
use Rattle.sheet.specs.Order.{order_of}
use Rattle.sheet.specs.Nodes.{level_of, first_of, count_of}
use Rattle.sheet.specs.Places.{spot_of, box_of}
use Rattle.walk.specs.Walk.{in_turn}

abbrev pub box_entry : ℕ → ℕ
box_entry j = j + 1

abbrev pub point_entry : ℕ → ℕ → ℕ
point_entry m i = m + 1 + i

-- the number is that of a box: of which node; and else of a point: at which position
abbrev pub is_box : ℕ → ℕ → Bool
is_box m e = ltb e (m + 1)

abbrev pub node_of : ℕ → ℕ
node_of e = e - 1

abbrev pub entry_position : ℕ → ℕ → ℕ
entry_position m e = e - (m + 1)

-- the squared distance of q to a box, which is 0 where q stands in it
abbrev pub away : Spot → Boxed → ℤ
away q o = sq (out o.xmin o.xmax q.x) +ℤ sq (out o.ymin o.ymax q.y)

-- what node j covers at k, in a sheet w of n points and m nodes: a leaf the point that stands at place k, a higher node the box of node k
unfoldable pub covered : List ℤ → ℕ → ℕ → ℕ → ℕ → ℕ
covered w n m j k = cond (eqb (level_of w n j) 0) (point_entry m (order_of w n k)) (box_entry k)

module _ (w : List ℤ) (n m : ℕ) (q : Spot) where
  -- the squared distance to q, of a box or a point [G1]
  unfoldable pub distance : ℕ → ℕ
  distance e = num (cond (is_box m e) (away q (box_of w n (node_of e))) (size q (spot_of w (entry_position m e))))

  -- e comes before f: the least distance first, on a tie the lower number [G2]
  unfoldable pub before : ℕ → ℕ → Bool
  before e f = ltb (distance e) (distance f) || (eqb (distance e) (distance f) && ltb e f)

  -- e put in where it belongs [G1]
  unfoldable pub insert : ℕ → List ℕ → List ℕ
  insert e [] = e ∷ []
  insert e (f ∷ l) = cond (before e f) (e ∷ f ∷ l) (f ∷ insert e l)

  -- all that node j covers, put in
  unfoldable pub with_covered : ℕ → List ℕ → List ℕ
  with_covered j l = in_turn (λ k. insert (covered w n m j k)) (count_of w n j) (first_of w n j) l
