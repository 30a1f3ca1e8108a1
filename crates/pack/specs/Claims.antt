-- What the theorems on the packer speak of.
use Rattle.std.specs.Prelude.{◌≡◌, List, ℕ, ◌+◌, ◌*◌, ◌≤◌, ℤ, pos}
use Rattle.sheet.specs.declared.Limits.{Limits}
use Rattle.sheet.specs.Layout.{form, edition, points, nodes}
use Rattle.sheet.specs.Places.{points_of}
use Rattle.sheet.specs.Open.{sheet_no}
use Rattle.pack.specs.Tree.{nodes_for}
use Rattle.pack.specs.Pack.{points_in}

-- limits with room for the tree: at most 16 to the eighth points, so that no level is above 7, and a node for every five of them
pub record Roomy (lim : Limits) : Type 0 where
  pub low : lim.points ≤ 4294967296
  pub nodes_enough : lim.points + 15 ≤ 5 * lim.nodes

-- what the words say that `pack` leaves where it answers 0 [S25]
pub record Returned (f n : ℕ) (p : List ℤ) (ed : ℕ) (w : List ℤ) : Type 0 where
  pub opens : sheet_no w ≡ 0
  pub same_form : form w ≡ pos f
  pub same_points : points_of w ≡ points_in n p
  pub same_number : points w ≡ n
  pub same_edition : edition w ≡ pos ed
  pub made_nodes : nodes w ≡ nodes_for n
