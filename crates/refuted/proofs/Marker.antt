-- Wrong readings of the map marker.
use mathlib.Core.Path.{◌≡◌, refl}
use mathlib.Core.Bool.{Bool, true, false, ◌&&◌}
use lib.IntN.{ℤ, pos}
use Rattle.words.specs.Word.{within}
use Rattle.words.specs.Range.{coord_word}
use Rattle.sheet.specs.Limits.{form1, form2}
use Rattle.marker.specs.Mark.{coordinate, on_map}

-- Three coordinates of the four are tested. "5 [..] an id or coordinate breaks its rule". [N34]
abbrev three_tested : ℤ → ℤ → ℤ → ℤ → Bool
three_tested ax ay bx by = coordinate ax && coordinate ay && coordinate bx

pub three_tested_wrong : (three_tested (pos 0) (pos 0) (pos 0) (pos 1000000001) ≡ true) × (on_map (pos 0) (pos 0) (pos 0) (pos 1000000001) ≡ false)
unfolding on_map coord_word within form2
three_tested_wrong = (refl, refl)

-- The range of form 1's coordinates. "the marker takes the wider coordinates". [Y6]
abbrev narrowed : ℤ → Bool
narrowed x = coord_word form1.coordinate x

pub narrow_marker_wrong : (narrowed (pos 1000001) ≡ false) × (coordinate (pos 1000001) ≡ true)
unfolding coord_word within form1 form2
narrow_marker_wrong = (refl, refl)
