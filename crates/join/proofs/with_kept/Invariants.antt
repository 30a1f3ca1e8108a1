-- `join::with_kept` meets its contract. The loop's invariant is `Tries`, of walks that open no node. Assumes nothing.
use Prim.Native.Nat.{◌-◌}
use Rattle.list.specs.Terms.{profile_for}
use Rattle.join.specs.Threshold.{on_words}
use Rattle.join.proofs.TurnLaws.{Tries}
use Rattle.join.proofs.with_kept.Given as goal

abbrev pub invariant-loop-i : goal.invariant-loop-i
invariant-loop-i l = Tries (on_words (profile_for l.ask.terms) l.bits l.p.words.now l.q.words.now) l.ask.key l.ask.size 0 0 l.j l.p.n l.initial.r l.r l.i

abbrev pub decreases-loop-i : goal.decreases-loop-i
decreases-loop-i l = l.p.n - l.i
