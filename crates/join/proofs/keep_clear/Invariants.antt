-- `join::keep_clear` meets its contract. The loop's invariant is `Keeping`: the positions before i are settled, and i is the next kept one. Assumes nothing.
use Prim.Native.Nat.{◌-◌}
use Rattle.list.specs.Terms.{profile_for}
use Rattle.join.proofs.CountLaws.{Keeping}
use Rattle.join.proofs.keep_clear.Given as goal

abbrev pub invariant-loop-i : goal.invariant-loop-i
invariant-loop-i l = Keeping (profile_for l.terms) l.initial.bits l.p.words.now l.q.words.now l.j l.bits l.count l.opened l.i

abbrev pub decreases-loop-i : goal.decreases-loop-i
decreases-loop-i l = l.p.n - l.i
