use Rattle.std.proofs.Common.{subst, [], ◌∷◌, ◌++◌}
use Rattle.text.specs.Text.{Grown, number, refused, refused_text}
use Rattle.text.proofs.Grow.{then, byte}
use Rattle.text.proofs.put_refused.Goals as goal

pub returns-clause-grown : goal.returns-clause-grown
unfolding refused_text
returns-clause-grown c =
    subst (Grown c.args.out.now c.args.at c.put_number.new.out c.put_number.result)
    (λ i. refused ++ ((c.args.set ∷ 32 ∷ []) ++ number (c.from.ensures i) 10))
    (then c.put-a.ensures
    (then (then (byte c.put_byte-b.ensures.0 c.put_byte-b.ensures.1) (byte c.put_byte-c.ensures.0 c.put_byte-c.ensures.1)) c.put_number.ensures.grown))
