use mathlib.Core.Path.{refl}
use Prim.Native.Nat.{◌<◌}
use borrow.Author.Rules.{rules}
use lib.ListN.{length}
use Rattle.depot.proofs.TakeLaws.{kept, put, is_issued, not_issued}
use Rattle.depot.proofs.Depot.take.Goals as goal

pub offset_bounds-slots-self : goal.offset_bounds-slots-self
offset_bounds-slots-self c =
    let within : c.args.self.held < length c.args.slots.now = (put _ _ _ _ c.judge-outcome.ensures (is_issued _ _ refl c.if-eq.ensures)).0 in
    search rules

pub bounds-slots-self : goal.bounds-slots-self
bounds-slots-self c = (put _ _ _ _ c.judge-outcome.ensures (is_issued _ _ refl c.if-eq.ensures)).0

pub overflow_add-depot : goal.overflow_add-depot
overflow_add-depot c =
    let within : c.args.self.held < length c.args.slots.now = (put _ _ _ _ c.judge-outcome.ensures (is_issued _ _ refl c.if-eq.ensures)).0 in
    search rules

pub returns-then-eq : goal.returns-then-eq
returns-then-eq c = let p = put _ _ _ _ c.judge-outcome.ensures (is_issued _ _ refl c.if-eq.ensures) in (p.1, p.2)

pub returns : goal.returns
returns c = kept _ _ _ _ c.judge-outcome.ensures (not_issued _ _ refl c.if-eq.ensures)
