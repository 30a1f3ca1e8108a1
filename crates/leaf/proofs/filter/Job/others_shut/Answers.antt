use mathlib.Core.Path.{sym, ◌∙◌}
use mathlib.Core.Bool.{Bool}
use Prim.Native.Nat.{ℕ}
use Rattle.words.proofs.AllLaws.{all_none}
use Rattle.plane.specs.Rule.{drops_box}
use Rattle.leaf.proofs.FilterCode.{other, some_found, some_more}
use Rattle.leaf.proofs.filter.Job.others_shut.Goals as goal

pub loop-h-init : goal.loop-h-init
loop-h-init c = all_none _

pub returns-then-other_shuts : goal.returns-then-other_shuts
returns-then-other_shuts c =
    let test : ℕ → Bool = other c.args.self.q.words.now c.args.self.v c.args.k (λ p. drops_box c.args.a p c.args.o) in
    some_found test c.loop-h.h _ c.loop-h-test.true (sym c.other_shuts.ensures ∙ c.if-other_shuts.true)

pub loop-h-preserved : goal.loop-h-preserved
loop-h-preserved c =
    let test : ℕ → Bool = other c.args.self.q.words.now c.args.self.v c.args.k (λ p. drops_box c.args.a p c.args.o) in
    some_more test c.loop-h.h c.loop-h.invariant (sym c.other_shuts.ensures ∙ c.if-other_shuts.false)
