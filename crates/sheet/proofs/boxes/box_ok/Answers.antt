-- `sheet::boxes::box_ok` meets its contract. Assumes nothing.
use mathlib.Core.Path.{◌≡◌, ap, ◌∙◌}
use native.Mathlib.Omega.{arith}
use lib.IntN.{ℤ, pos}
use Rattle.words.specs.Word.{eq_z}
use Rattle.words.proofs.Signs.{handed}
use Rattle.sheet.specs.Nodes.{level_word, first_of, count_of}
use Rattle.sheet.proofs.TreeLaws.{run_at}
use Rattle.sheet.proofs.ReadLaws.{first_nat, count_nat}
use Rattle.sheet.proofs.BoxLaws.{box_is, parts_run}
use Rattle.sheet.proofs.boxes.box_ok.Goals as goal

pub count-a-requires : goal.count-a-requires
count-a-requires c = let p = c.requires in (omega arith, first_nat _ _ _ p.4 _ p.5)

pub count-c-requires : goal.count-c-requires
count-c-requires c = let p = c.requires in (omega arith, count_nat _ _ _ p.4 _ p.5)

pub overflow_sub-c : goal.overflow_sub-c
unfolding count_of
overflow_sub-c c = let p = c.requires in let r = run_at _ _ _ p.4 _ p.5 in omega (arith, c.count-c.ensures.value, r.some)

pub tightest-o-requires : goal.tightest-o-requires
unfolding first_of count_of
tightest-o-requires c =
    let leaf-is : let s = c in c.is-leaf.result ≡ eq_z (level_word s.args.s.now s.args.n s.args.j) (pos 0) = c.is-leaf.ensures ∙ ap (λ (z : ℤ). eq_z z (pos 0)) (handed c.word.type_inv c.word.ensures) in
    let p = c.requires in
    (p.0, parts_run _ _ _ p.4 p.0 p.1 p.2 p.3 _ _ _ _ p.5 leaf-is c.count-a.ensures.value (omega (arith, c.count-c.ensures.value)))

pub returns : goal.returns
unfolding first_of count_of
returns c =
    let leaf-is : let s = c in c.is-leaf.result ≡ eq_z (level_word s.args.s.now s.args.n s.args.j) (pos 0) = c.is-leaf.ensures ∙ ap (λ (z : ℤ). eq_z z (pos 0)) (handed c.word.type_inv c.word.ensures) in
    let g = c in
    box_is _ _ _ _ _ _ c.sides_are.ensures c.tightest-o.ensures leaf-is g.count-a.ensures.value (omega (arith, g.count-c.ensures.value))
