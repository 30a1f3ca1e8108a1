use Rattle.std.proofs.Common.{subst, ◌++◌, to_z-of_z}
use Rattle.text.specs.Text.{Grown, number, signed, line_text}
use Rattle.text.proofs.Grow.{then}
use Rattle.text.proofs.put_line.Goals as goal

pub returns-clause-grown : goal.returns-clause-grown
unfolding line_text
returns-clause-grown c =
    let x = to_z-of_z c.ranges.x in
    let y = to_z-of_z c.ranges.y in
    subst (Grown c.args.out.now c.args.at c.put_number.new.out c.put_number.result)
    (λ i. number (c.from.ensures i) 32 ++ (number (c.from-2.ensures i) 32 ++ (signed (x i) 32 ++ (signed (y i) 32 ++ number c.args.d 10))))
    (then c.put_number-a.ensures.grown
    (then c.put_number-b.ensures.grown (then c.put_whole-c.ensures.grown (then c.put_whole-e.ensures.grown c.put_number.ensures.grown))))
