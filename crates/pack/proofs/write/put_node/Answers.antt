-- `pack::write::put_node` meets its contract. Assumes nothing.
use mathlib.Core.Path.{sym, ap, subst}
use mathlib.Core.List.{List}
use Prim.Native.Nat.{ℕ, ◌+◌, ◌*◌, ◌-◌}
use native.Mathlib.Omega.{arith}
use lib.IntN.{ℤ}
use Rattle.pack.specs.Packed.{body_word}
use Rattle.pack.specs.Work.{Holds}
use Rattle.pack.proofs.TableLaws.{plan_fits, plan_few, count_range}
use Rattle.pack.proofs.PackedLaws.{order_right, parts_reach, holds_fewer, box_more}
use Rattle.pack.proofs.write.put_node.Goals as goal

pub plan_count-c-requires : goal.plan_count-c-requires
plan_count-c-requires c =
    let s = c in
    let q = plan_fits s.args.n s.args.j s.args.d s.requires.0 s.requires.1 s.requires.2 in
    (q.1, omega arith)

pub overflow_sub-c : goal.overflow_sub-c
overflow_sub-c c =
    let s = c in
    let q = plan_fits s.args.n s.args.j s.args.d s.requires.0 s.requires.1 s.requires.2 in
    let g = count_range s.args.d q.1 in
    omega (arith, c.plan_count-c.ensures)

pub tightest-o-requires : goal.tightest-o-requires
tightest-o-requires c =
    let s = c in
    let v = s.requires.4 in
    let h = c.put_head.ensures _ _ v.ordered v.holds in
    let o = order_right _ _ _ _ (holds_fewer _ _ _ _ (omega arith) h) v.ordered in
    (s.requires.0, parts_reach _ _ s.args.j s.args.d _ s.requires.0 s.requires.1 s.requires.2 c.plan_count-c.ensures o (omega arith))

pub put_sides-requires : goal.put_sides-requires
put_sides-requires c = let m = plan_few c.args.n in (omega arith, omega arith)

pub returns : goal.returns
returns c p o ok h =
    let s = c in
    let g = c.put_head.ensures p o ok h in
    subst (λ (x : List ℤ). Holds x (body_word p o s.args.n) (5 * s.args.n + 7 * (s.args.j + 1))) (sym c.put_sides.ensures)
    (box_more p o _ s.args.n s.args.j ok s.args.d s.requires.2 s.requires.0 s.requires.1 (omega arith) g _ _ (ap (λ (x : ℕ). x - 1) c.plan_count-c.ensures) c.tightest-o.ensures)
