-- The sheet that the packer writes, word by word: points, order, rank, nodes, trailer. Everywhere p are the point words and o is the order list, of n points.
use Rattle.std.specs.Prelude.{cond, List, ℕ, zero, suc, ◌+◌, ◌*◌, ◌-◌, ◌/◌, ◌%◌, eqb, ltb, ℤ, pos}
use Rattle.words.specs.Word.{at, num}
use Rattle.words.specs.All.{tab}
use Rattle.sheet.specs.Layout.{root_word}
use Rattle.sheet.specs.Boxes.{best}
use Rattle.pack.specs.Tree.{nodes_for, plan_of, plan_count}
use Rattle.pack.specs.Order.{place_in}

-- "points, 3n words: id, x, y"; "order, n words: the position standing at each place; rank, n words: the place of each position"
unfoldable pub flat_word : List ℤ → List ℤ → ℕ → ℕ → ℤ
flat_word p o n i = cond (ltb i (3 * n)) (at p i) (cond (ltb i (4 * n)) (at o (i - 3 * n)) (pos (place_in o (i - 4 * n) n)))

-- the coordinate that side q bounds of the point at place k: x for sides 0 and 2, y for 1 and 3
unfoldable pub coord_in : List ℤ → List ℤ → ℕ → ℕ → ℤ
coord_in p o q k = at p (3 * num (at o k) + 1 + q % 2)

-- "A box is the tightest one: least and greatest x and y of the points below it": side q of node j, which stands on level l
unfoldable pub box_side : List ℤ → List ℤ → ℕ → ℕ → ℕ → ℕ → ℤ
box_side p o n q zero j = best q (coord_in p o q) (plan_of n j).next (plan_count (plan_of n j) - 1)
box_side p o n q (suc l) j = best q (box_side p o n q l) (plan_of n j).next (plan_count (plan_of n j) - 1)

-- "nodes, 7m words: level, first, count, xmin, ymin, xmax, ymax": word f of node j
unfoldable pub node_word : List ℤ → List ℤ → ℕ → ℕ → ℕ → ℤ
node_word p o n j f =
    cond (eqb f 0) (pos (plan_of n j).level)
    (cond (eqb f 1) (pos (plan_of n j).next)
    (cond (eqb f 2) (pos (plan_count (plan_of n j))) (box_side p o n (f - 3) (plan_of n j).level j)))

-- word i, before the trailer
unfoldable pub body_word : List ℤ → List ℤ → ℕ → ℕ → ℤ
body_word p o n i = cond (ltb i (5 * n)) (flat_word p o n i) (node_word p o n ((i - 5 * n) / 7) ((i - 5 * n) % 7))

-- "trailer, 6 words, pointing back: span 5n+7m (words back to the start), root (7 words back, or 0 when m is 0), n, m, edition, form number 1", or the form
unfoldable pub trailer_word : ℕ → ℕ → ℕ → ℕ → ℕ → ℤ
trailer_word form n m ed t =
    cond (eqb t 0) (pos (5 * n + 7 * m)) (cond (eqb t 1) (pos (root_word m)) (cond (eqb t 2) (pos n) (cond (eqb t 3) (pos m) (cond (eqb t 4) (pos ed) (pos form)))))

-- word i of the sheet
unfoldable pub pack_word : ℕ → List ℤ → List ℤ → ℕ → ℕ → ℕ → ℤ
pack_word form p o n ed i =
    cond (ltb i (5 * n + 7 * nodes_for n)) (body_word p o n i) (trailer_word form n (nodes_for n) ed (i - (5 * n + 7 * nodes_for n)))

-- "A sheet is exactly span+6 words" [S29, N17]
unfoldable pub sheet_size : ℕ → ℕ
sheet_size n = 5 * n + 7 * nodes_for n + 6

-- [S23]
unfoldable pub packed : ℕ → List ℤ → List ℤ → ℕ → ℕ → List ℤ
packed form p o n ed = tab (sheet_size n) (pack_word form p o n ed)
