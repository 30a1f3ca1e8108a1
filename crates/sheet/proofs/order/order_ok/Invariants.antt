use mathlib.Core.Path.{◌≡◌}
use mathlib.Core.Bool.{true}
use Rattle.words.specs.All.{all_b}
use Rattle.sheet.specs.Order.{place_ok}
use Rattle.sheet.proofs.order.order_ok.Given as goal

abbrev pub invariant-loop-i : goal.invariant-loop-i
invariant-loop-i l = all_b l.i (place_ok l.s l.n) ≡ true
