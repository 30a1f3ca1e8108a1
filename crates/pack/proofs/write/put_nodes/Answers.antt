use mathlib.Core.Path.{refl, sym, ap, ◌∙◌}
use native.Mathlib.Omega.{arith}
use Rattle.pack.specs.Tree.{ground_level}
use Rattle.pack.specs.Work.{follow}
use Rattle.pack.proofs.TableLaws.{plan_zero, plan_fits, plan_few, node_stood}
use Rattle.pack.proofs.PackedLaws.{holds_fewer}
use Rattle.pack.proofs.write.put_nodes.Goals as goal

pub loop-j-init : goal.loop-j-init
unfolding ground_level
loop-j-init c = (refl, λ h. sym (plan_zero c.args.n (omega arith)), λ p o ok h. holds_fewer _ _ _ _ (omega arith) h)

pub follow-d-requires : goal.follow-d-requires
follow-d-requires c =
    let q = plan_fits c.args.n c.loop-j.j c.loop-j.d c.requires.0 (omega arith) (c.loop-j.invariant.1 c.loop-j-test.true) in
    (omega (arith, q.1, q.2), q.0, omega (arith, plan_few c.args.n))

pub loop-j-preserved : goal.loop-j-preserved
loop-j-preserved c =
    let n = c.args.n in
    let j = c.loop-j.j in (
      c.put_node.auto.out ∙ c.loop-j.invariant.0,
      λ h. c.follow-d.ensures ∙ ap (follow j) (c.loop-j.invariant.1 c.loop-j-test.true) ∙ sym ((node_stood n j (omega arith)).onward (omega arith)),
      λ p o ok h. c.put_node.ensures p o ok (c.loop-j.invariant.2 p o ok h),
    )
