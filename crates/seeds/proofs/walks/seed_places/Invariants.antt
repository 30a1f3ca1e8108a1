-- `seeds::walks::seed_places` meets its contract: all through, each dropper is one of those at the start, or a record of the sheet stands there. Assumes nothing.
use Rattle.seeds.specs.Line.{Lined, Known}
use Rattle.seeds.specs.Covers.{On}
use Rattle.seeds.proofs.walks.seed_places.Given as goal

abbrev pub invariant-loop-i : goal.invariant-loop-i
invariant-loop-i l = Lined (Known (On l.w.words.now l.w.n) l.initial.line) l.line
