-- The record with an id.
use Rattle.std.specs.Prelude.{List, ℕ, eqb, length}
use Rattle.words.specs.All.{first_b}
use Rattle.plane.specs.Point.{Point, id_at}

-- the position of the record with this id in a set, or the number of its records where none has it [S30]
unfoldable pub position_of : List Point → ℕ → ℕ
position_of s id = first_b (length s) (λ i. eqb (id_at s i) id)
