-- `seeds::walks::walk_places` meets its contract: after i turns the first i places are dealt with. Assumes nothing.
use mathlib.Core.Path.{◌≡◌}
use Prim.Native.Nat.{◌+◌, ◌≤◌, ◌<◌}
use lib.ListN.{length}
use Rattle.seeds.specs.Line.{Lined, Known}
use Rattle.seeds.specs.Covers.{On, Deals}
use Rattle.seeds.proofs.walks.walk_places.Given as goal

abbrev pub invariant-loop-i : goal.invariant-loop-i
invariant-loop-i l =
    Lined (Known (On l.w.words.now l.w.n) l.initial.so.line) l.so.line
    × Deals (Known (On l.w.words.now l.w.n) l.initial.so.line) l.w.words.now l.w.n l.q (λ k. (l.first ≤ k) × (k < l.first + l.i)) l.initial.bits l.bits
    × (length l.bits ≡ length l.initial.bits)
