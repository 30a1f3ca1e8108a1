-- `sorting::Firsts::enters` meets its contract. Assumes nothing.
use native.Mathlib.Omega.{arith}
use Rattle.std.proofs.Common.{MatchOption, IsTrue, ◌≡◌, rules}
use Rattle.sorting.proofs.FirstsLaws.{enters_by}
use Rattle.sorting.proofs.Firsts.enters.Goals as goal

pub returns : goal.returns
returns g c =
    let m : MatchOption c.last.result (IsTrue c.is_none_or.result) (λ (w : _). c.is_none_or.result ≡ g.O.Comparison.before c.args.v w) = search rules in
    enters_by g.O.Comparison.before g.O.Comparison.unused c.args.k c.args.self.now (omega arith) c.args.v c.last.result c.last.ensures c.is_none_or.result m
