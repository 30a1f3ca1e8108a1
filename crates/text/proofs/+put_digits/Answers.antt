use Rattle.std.proofs.Common.{sym, subst, arith}
use Rattle.text.specs.Text.{Grown}
use Rattle.text.proofs.Grow.{then, byte}
use Rattle.text.proofs.Decimal.{last_and_more}
use Rattle.text.proofs.+put_digits.Goals as goal

pub returns-clause-grown : goal.returns-clause-grown
returns-clause-grown m c =
    subst (Grown c.args.out.now c.args.at c.put_byte-2.new.out c.put_byte-2.result)
    (sym (last_and_more c.args.places c.args.n (omega arith) c.if-n-lt10.false))
    (then c.put_digits-next.ensures.grown (byte c.put_byte-2.ensures.0 c.put_byte-2.ensures.1))
