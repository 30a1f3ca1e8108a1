-- `printout::list_sheets` meets its contract. Assumes nothing.
use Rattle.printout.proofs.OutcomeLaws.{q_refused, p_refused, printout_listed}
use Rattle.printout.proofs.list_sheets.Goals as goal

pub returns-in-Err : goal.returns-in-Err
returns-in-Err g c = let k = c.in-Err.ensures in q_refused c.args.p.now _ _ k.0 k.1

pub returns-in-Err-open_first : goal.returns-in-Err-open_first
returns-in-Err-open_first g c = let k = c.in-Err-open_first.ensures in p_refused _ _ _ c.in-Ok.ensures.0 k.0 k.1

pub returns : goal.returns
returns g c =
    let q = c.in-Ok.ensures in
    let p = c.in-Ok-open_first.ensures in
    printout_listed _ _ _ q.0 p.0 (rw (p.1, q.1) at c.list_pairs.ensures)
