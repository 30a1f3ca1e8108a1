use mathlib.Core.Path.{◌≡◌, refl, ap, ◌∙◌}
use mathlib.Core.List.{List, ◌++◌}
use Prim.Native.Nat.{ℕ, ◌%◌, ◌<◌}
use native.Mathlib.Omega.{arith}
use lib.IntN.{ℤ}
use lib.ListN.{length, drop, set, length-set}
use mir.Syntax.{w32}
use mir.Facts.{to_z-of_z}
use Rattle.words.specs.All.{tab}
use Rattle.words.proofs.TabLaws.{tab_more, tab_done}
use Rattle.files.specs.Files.{byte_of, byte_at, bytes_of}
use Rattle.files.proofs.encode.Goals as goal

pub loop-i-init : goal.loop-i-init
unfolding tab
loop-i-init c = (refl, refl)

pub loop-i-preserved : goal.loop-i-preserved
unfolding byte_at
loop-i-preserved c =
    let l = c in
    let ws = l.args.s.now in
    let old = l.args.out.now in
    let i = l.loop-i.i in
    let inside : i < length old = omega (arith, l) in
    let is : c.byte_le.result ≡ byte_at ws i =
    c.byte_le.ensures ∙ ap (λ (z : ℤ). byte_of z (i % 4)) (to_z-of_z {w = w32} record { sfits = c.at.type_inv } ∙ c.at.ensures)
    in (
      simp length-set l.loop-i.invariant.0,
      ap (λ (t : List ℕ). set t i c.byte_le.result) l.loop-i.invariant.1
          ∙ ap (set (tab i (byte_at ws) ++ drop i old) i) is
          ∙ tab_more (byte_at ws) old 0 i inside,
    )

pub returns : goal.returns
unfolding bytes_of
returns c =
    let l = c in
    l.loop-i.invariant.1
    ∙ tab_done (byte_at l.args.s.now) l.args.out.now l.loop-i.i _ (omega arith) l.requires
