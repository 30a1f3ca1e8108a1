-- The packer's tree. "It makes nodes of 16, the last of a level taking the rest, until one node is left."
-- A level is given as a `Due`: `level` its number, `head` its first node, and what its nodes cover, from `next` to `top`: for level 0 the places from 0
-- to n, for a higher one the nodes of the level below. A node is given so too, with `next` the first that it covers itself.
use Rattle.std.specs.Prelude.{Bool, cond, ℕ, zero, suc, ◌+◌, ◌*◌, ◌-◌, ◌/◌, ltb, leb}
use Rattle.sheet.specs.declared.Due.{Due}

-- how many nodes of 16 cover k places or nodes
unfoldable pub up16 : ℕ → ℕ
up16 k = (k + 15) / 16

-- how many nodes a level has
unfoldable pub width : Due → ℕ
width d = up16 (d.top - d.next)

-- level 0, over n places
unfoldable pub ground_level : ℕ → Due
ground_level n = record { level = 0; head = 0; next = 0; top = n }

-- the level above, which covers all nodes of this one
unfoldable pub above : Due → Due
above d = record { level = d.level + 1; head = d.head + width d; next = d.head; top = d.head + width d }

-- "until one node is left" (or none, where there is nothing to cover)
unfoldable pub one_left : Due → Bool
one_left d = leb (width d) 1

-- How many nodes a level has with all that are above it. The first number bounds the levels: n are enough over n places,
-- since each level has fewer nodes than it covers, or one.
unfoldable pub nodes_from : ℕ → Due → ℕ
nodes_from zero d = 0
nodes_from (suc f) d = width d + cond (one_left d) 0 (nodes_from f (above d))

-- the number of nodes of a tree over n points [S23, S24]
unfoldable pub nodes_for : ℕ → ℕ
nodes_for n = nodes_from n (ground_level n)

-- node i of a level: 16 for each node before it
unfoldable pub node_on : Due → ℕ → Due
node_on d i = record { level = d.level; head = d.head; next = d.next + 16 * i; top = d.top }

-- node j, which stands on the level d or above it
unfoldable pub node_from : ℕ → Due → ℕ → Due
node_from zero d j = d
node_from (suc f) d j = cond (ltb j (d.head + width d)) (node_on d (j - d.head)) (node_from f (above d) j)

-- node j of a tree over n points [S23]
unfoldable pub plan_of : ℕ → ℕ → Due
plan_of n j = node_from n (ground_level n) j

-- how many a node covers: 16, or the rest
unfoldable pub plan_count : Due → ℕ
plan_count d = cond (ltb (d.next + 16) d.top) 16 (d.top - d.next)
