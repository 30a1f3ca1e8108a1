use Rattle.std.proofs.Common.{rules, sym, subst}
use Rattle.std.specs.Io.KnownBytes.{Consumes}
use Rattle.input.proofs.ReadLaws.{joined, then_reads}
use Rattle.input.proofs.read_all.Goals as goal

pub loop-done-preserved : goal.loop-done-preserved
loop-done-preserved g c = (
  search rules,
  subst (Consumes _ _)
      (sym (joined c.loop-done.done c.in_ok-n.n c.loop-done.buf c.read_some.new.buf c.loop-done.invariant.0 c.in_ok-n.ensures.within.0))
      (then_reads _ _ _ _ _ c.loop-done.invariant.1 c.in_ok-n.ensures.bytes.0),
)
