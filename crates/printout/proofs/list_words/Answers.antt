-- `printout::list_words` meets its contract. Assumes nothing.
use mathlib.Core.Path.{ap, ◌∙◌}
use Prim.Native.Nat.{ℕ, ◌-◌}
use native.Mathlib.Omega.{arith}
use lib.ListN.{length, take, drop, length-drop}
use lib.Seq.{take_all}
use Rattle.printout.specs.Outcome.{sheets_outcome, words_outcome}
use Rattle.printout.proofs.list_words.Goals as goal

pub returns : goal.returns
unfolding words_outcome
returns g c =
    let a = c in
    let s = a.args.s.now in
    let k = a.split_at-at.result in
    c.list_sheets.ensures
    ∙ ap (sheets_outcome (take k s)) (take_all (length s - k) (drop k s) (omega (arith, length-drop k s)))
    ∙ ap (λ (j : ℕ). sheets_outcome (take j s) (drop j s)) a.split_at-at.ensures.value
