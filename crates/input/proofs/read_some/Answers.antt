use Rattle.std.proofs.Common.{sym, subst}
use Rattle.input.specs.Got.{ReadsSome}
use Rattle.input.proofs.ReadLaws.{told_reads}
use Rattle.input.proofs.read_some.Goals as goal

pub returns-clause-bytes : goal.returns-clause-bytes
returns-clause-bytes g c =
    subst (λ r. ReadsSome (g.R.Read.remaining c.args.from.now) (g.R.Read.remaining c.read-got.new.self) r c.read-got.new.buf)
    (sym c.told.ensures.value)
    (told_reads _ _ c.read-got.result c.read-got.new.buf c.read-got.ensures.bound c.read-got.ensures.bytes)
