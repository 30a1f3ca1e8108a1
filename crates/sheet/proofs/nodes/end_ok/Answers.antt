use native.Mathlib.Omega.{arith}
use Rattle.sheet.proofs.ReadLaws.{run_nat}
use Rattle.sheet.specs.Nodes.{end_ok}
use Rattle.sheet.proofs.nodes.end_ok.Goals as goal

pub returns-then-not-is_last : goal.returns-then-not-is_last
unfolding end_ok
returns-then-not-is_last c = rw (← c.is_last.ensures, c.if-not-is_last.true)

pub run_end-requires : goal.run_end-requires
run_end-requires c = let f = run_nat _ _ _ _ c.requires.3 in (omega arith, omega arith, omega arith, f.1, f.2)

pub returns : goal.returns
unfolding end_ok
returns c =
    let e = c in
    let b = e in
    rw (← b.is_last.ensures, b.if-not-is_last.false, ← e.run_end.ensures)
