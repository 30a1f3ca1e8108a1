-- `sorting::Firsts::last` meets its contract. Assumes nothing.
use mathlib.Core.Path.{sym}
use Prim.Native.Nat.{◌-◌}
use native.Mathlib.Omega.{arith}
use borrow.Author.Tests.{lt-ltb, le-ltb}
use Rattle.std.proofs.lemmas.Option.{slice_get-get_or}
use Rattle.sorting.specs.Firsts.{last_of}
use Rattle.sorting.proofs.Firsts.last.Goals as goal

pub returns-then-self-k : goal.returns-then-self-k
unfolding last_of
returns-then-self-k g c = rw (lt-ltb c.args.self.now.count c.args.k c.if-self-k.true)

pub returns : goal.returns
unfolding last_of
returns g c = rw (le-ltb c.args.self.now.count c.args.k c.if-self-k.false) (sym (slice_get-get_or c.args.self.now.rows (c.args.k - 1) c.index-self-k.result (omega arith)))
