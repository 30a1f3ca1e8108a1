-- "the forms in the order in which each key was first taken".
use Rattle.std.specs.Prelude.{cond, List, [], ◌∷◌}
use Rattle.depot.specs.declared.Form.{Form}
use Rattle.depot.specs.Depot.{same_form}

-- a list of forms without those that have the key of f
unfoldable pub without : Form → List Form → List Form
without f [] = []
without f (g ∷ l) = cond (same_form f g) (without f l) (g ∷ without f l)

-- of a list of forms each key once, by the first form that has it, in their order [I10]
unfoldable pub firsts : List Form → List Form
firsts [] = []
firsts (f ∷ l) = f ∷ without f (firsts l)
