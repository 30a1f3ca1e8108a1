use native.Mathlib.Omega.{arith}
use Rattle.pack.proofs.PackedLaws.{sheet_size_lem}
use Rattle.pack.proofs.write.put_sheet.Goals as goal

pub put_points-requires : goal.put_points-requires
put_points-requires c = (omega arith, omega arith, omega (arith, sheet_size_lem c.args.n))

pub put_order-requires : goal.put_order-requires
put_order-requires c = (omega arith, omega arith, omega (arith, sheet_size_lem c.args.n))

pub put_ranks-requires : goal.put_ranks-requires
put_ranks-requires c = let s = c in (omega arith, omega (arith, sheet_size_lem s.args.n), s.requires.3, s.requires.4)

pub put_nodes-requires : goal.put_nodes-requires
put_nodes-requires c =
    let r = c.put_ranks in
    let o = c.put_order in
    let p = c.put_points in
    let s = c in
    (omega arith, c.nodes_for-m.ensures, omega (arith, sheet_size_lem s.args.n), record { points = s.args.p.now; order = s.args.o.now; ordered = s.requires.4; holds = r.ensures _ (o.ensures _ (p.ensures _)) })
