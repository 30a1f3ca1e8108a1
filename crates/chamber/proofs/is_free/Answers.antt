-- `chamber::is_free` meets its contract. Assumes nothing.
use mathlib.Core.Path.{ap}
use mathlib.Core.Bool.{not}
use Rattle.chamber.proofs.KeepLaws.{free_no, free_own, free_both}
use Rattle.chamber.proofs.is_free.Goals as goal

pub returns-then-not-clear_on : goal.returns-then-not-clear_on
returns-then-not-clear_on c = let s = c in free_no s.args.terms _ _ _ _ _ c.clear_on.ensures (ap not c.if-not-clear_on.true)

pub returns-then-own : goal.returns-then-own
returns-then-own c =
    let s = c in
    free_own s.args.terms _ _ _ _ _ c.clear_on.ensures (ap not c.if-not-clear_on.false) s.requires.0 c.if-own.true

pub returns : goal.returns
returns c =
    let s = c in
    free_both s.args.terms _ _ _ _ _ c.clear_on.ensures (ap not c.if-not-clear_on.false) _ c.clear_on-2.ensures
