-- `depot::forms` meets its contract: after k turns the forms of the first k pairs stand in the first places.
-- Assumes nothing.
use mathlib.Core.Path.{◌≡◌}
use Rattle.depot.proofs.FormLaws.{filled}
use Rattle.depot.proofs.forms.Given as goal

abbrev pub invariant-loop-k : goal.invariant-loop-k
invariant-loop-k l = l.out ≡ filled l.fn.out l.b.source l.slots l.k
