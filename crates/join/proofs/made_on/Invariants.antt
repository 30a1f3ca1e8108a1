-- `join::made_on` meets its contract. The loop's invariant is `Rounds`: what is left of the chambers, and room for the count. Assumes nothing.
use mathlib.Core.Path.{◌≡◌}
use Prim.Native.Nat.{◌+◌, ◌*◌}
use lib.ListN.{length}
use Rattle.join.specs.Only.{page_walks}
use Rattle.join.proofs.TurnLaws.{Rounds}
use Rattle.join.proofs.made_on.Given as goal

abbrev pub invariant-loop-j : goal.invariant-loop-j
invariant-loop-j l = (length l.bits ≡ length l.initial.bits) × Rounds (page_walks l.ask.terms l.owners (length l.initial.bits) l.p.words.now l.q.words.now l.p.n) l.ask.key l.ask.size (l.p.m + l.p.n * (l.p.m + l.q.m)) l.p.n l.q.n l.r l.j × (length l.latest ≡ length l.initial.latest)
