-- The limits of a form of sheet. What holds of any form is said over these, and a form's numbers stand here and nowhere else.
use Rattle.std.specs.Prelude.{cond, ◌≤◌, ℤ, pos, ◌≤ℤ◌}
use Rattle.words.specs.Word.{eq_z}
use Rattle.sheet.specs.declared.Limits.{Limits}

-- form 1: "n is 0 to 1,000, m 0 to 400", "x and y from -1,000,000 to 1,000,000" [S4, S13, Y2]
unfoldable pub form1 : Limits
form1 = record { form = 1; points = 1000; nodes = 400; coordinate = pos 1000000 }

-- form 2: "up to 60,000 points, 24,000 nodes and coordinates from -1,000,000,000 to 1,000,000,000" [Y1]
unfoldable pub form2 : Limits
form2 = record { form = 2; points = 60000; nodes = 24000; coordinate = pos 1000000000 }

-- the limits that go with a form number: those of form 2 for 2, else those of form 1, by which any number but 1 is refused [Y1, Y2]
unfoldable pub limits_of : ℤ → Limits
limits_of z = cond (eq_z z (pos 2)) form2 form1

-- limits that the arithmetic of the functions has room for [Y14]
pub record Fair (lim : Limits) : Type 0 where
  pub points_le : lim.points ≤ 60000
  pub nodes_le : lim.nodes ≤ 24000
  pub coordinate_from : pos 0 ≤ℤ lim.coordinate
  pub coordinate_to : lim.coordinate ≤ℤ pos 1_000_000_000
