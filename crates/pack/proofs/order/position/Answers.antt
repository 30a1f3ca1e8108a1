use mathlib.Core.Path.{ap, subst, sym, ◌∙◌}
use Prim.Native.Nat.{ℕ, ◌<◌}
use lib.IntN.{ℤ, nat_abs}
use mir.Syntax.{w32}
use mir.Val.{SFits}
use mir.Facts.{to_z-of_z}
use Rattle.integers.proofs.Cast.{cast_nat}
use Rattle.words.specs.Word.{at}
use Rattle.sheet.proofs.ReadLaws.{count_is}
use Rattle.pack.proofs.OrderLaws.{list_nat, list_below}
use Rattle.pack.proofs.order.position.Goals as goal

pub overflow_cast-result : goal.overflow_cast-result
overflow_cast-result c =
    let s = c in
    cast_nat {z = at s.args.o.now s.args.k} (record { sfits = c.result-1.given }) (list_nat _ _ s.requires.1 _ s.requires.2)

pub returns-clause-upper_bound : goal.returns-clause-upper_bound
returns-clause-upper_bound c =
    let s = c in
    let z : ℤ = at s.args.o.now s.args.k in
    let f : SFits w32 z = record { sfits = c.result-1.given } in
    let e = ap nat_abs (to_z-of_z {w = w32} {z = z} f) ∙ count_is z (list_nat _ _ s.requires.1 _ s.requires.2) in
    subst (λ (i : ℕ). i < s.args.n) (sym e) (list_below _ _ s.requires.1 _ s.requires.2)

pub returns-clause-value : goal.returns-clause-value
returns-clause-value c =
    let s = c in
    let z : ℤ = at s.args.o.now s.args.k in
    let f : SFits w32 z = record { sfits = c.result-1.given } in
    let e = ap nat_abs (to_z-of_z {w = w32} {z = z} f) ∙ count_is z (list_nat _ _ s.requires.1 _ s.requires.2) in
    e
