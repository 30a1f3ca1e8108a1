-- `ranked::visits::is_late` meets its contract. Assumes nothing.
use mathlib.Core.Path.{◌≡◌}
use mathlib.Core.Bool.{false}
use lib.Dec.{leb}
use Rattle.std.proofs.Common.{MatchOption, rules}
use Rattle.ranked.specs.declared.Visit.{Visit}
use Rattle.ranked.proofs.VisitsLaws.{late_by}
use Rattle.ranked.proofs.visits.is_late.Goals as goal

pub returns : goal.returns
returns c =
    let m : MatchOption c.last.result (c.is_some_and.result ≡ false) (λ (w : Visit). c.is_some_and.result ≡ leb c.args.most w.score) = search rules in
    late_by _ _ _ _ c.last.ensures _ m
