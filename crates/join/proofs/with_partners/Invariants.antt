-- `join::with_partners` meets its contract. The loop's invariant is `Tries`: what is left of the partners, at a kept position, and room for the count. Assumes nothing.
use Prim.Native.Nat.{◌+◌, ◌-◌}
use lib.ListN.{length}
use Rattle.join.specs.Sheets.{walks_by}
use Rattle.join.proofs.TurnLaws.{Tries}
use Rattle.join.proofs.with_partners.Given as goal

abbrev pub invariant-loop-i : goal.invariant-loop-i
invariant-loop-i l = Tries (walks_by l.ask.terms (length l.bits) l.p.words.now l.q.words.now) l.ask.key l.ask.size l.from (l.p.m + l.q.m) l.j l.p.n l.initial.r l.r l.i

abbrev pub decreases-loop-i : goal.decreases-loop-i
decreases-loop-i l = l.p.n - l.i
