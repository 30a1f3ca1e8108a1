-- `marker::half` meets its contract. Assumes nothing.
use mathlib.Core.Path.{sym, subst}
use lib.IntN.{ℤ}
use lib.Ieee.{binary64, mul, of_int, of_bits}
use mir.Syntax.{w64}
use mir.ValLaws.{to_z-of_z}
use Rattle.marker.specs.Half.{HalfOf}
use Rattle.marker.proofs.Exactly.{is_half}
use Rattle.marker.proofs.half.Goals as goal

pub returns : goal.returns
returns c =
    let s = c.args.s in
    subst (λ (z : ℤ). HalfOf s (mul binary64 (of_int binary64 z) (of_bits binary64 0x3fe0_0000_0000_0000))) (sym (to_z-of_z w64 s c.ranges.s)) (is_half s c.requires)
