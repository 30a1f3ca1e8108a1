use mathlib.Core.Path.{ap, ◌∙◌}
use lib.IntN.{ℤ, nat_abs}
use mir.Syntax.{w32}
use mir.Val.{SFits}
use mir.Facts.{to_z-of_z}
use Rattle.words.specs.Word.{at}
use Rattle.sheet.proofs.ReadLaws.{count_is}
use Rattle.sheet.proofs.reads.count.Goals as goal

-- src/reads.rt:25:1
pub returns-clause-value : goal.returns-clause-value
returns-clause-value c =
    let z : ℤ = at c.args.s.now c.args.k in
    let f : SFits w32 z = record { sfits = c.result-1.given } in
    let e = ap nat_abs (to_z-of_z {w = w32} {z = z} f) ∙ count_is z c.requires.1 in
    e
