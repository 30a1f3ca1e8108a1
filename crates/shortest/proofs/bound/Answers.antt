-- `shortest::bound` meets its contract. Assumes nothing.
use mathlib.Core.Path.{◌≡◌}
use native.Mathlib.Omega.{arith}
use Rattle.std.proofs.Common.{MatchOption, rules}
use Rattle.list.specs.declared.Pair.{Pair}
use Rattle.shortest.proofs.SearchLaws.{bound_by}
use Rattle.shortest.proofs.bound.Goals as goal

pub returns : goal.returns
returns c =
    let m : MatchOption c.last.result (c.map_or.result ≡ 8_000_000_000_000_000_000) (λ (w : Pair). c.map_or.result ≡ w.size) = search rules in
    bound_by c.args.k c.args.g (omega arith) _ c.last.ensures _ m
