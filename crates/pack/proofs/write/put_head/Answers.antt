use mathlib.Core.Path.{ap, ◌∙◌}
use mathlib.Core.List.{◌∷◌, []}
use native.Mathlib.Omega.{arith}
use lib.IntN.{pos}
use Rattle.words.proofs.Signs.{handed}
use Rattle.pack.proofs.TableLaws.{plan_fits, count_range}
use Rattle.pack.proofs.PackedLaws.{head_put}
use Rattle.pack.proofs.write.put_head.Goals as goal

pub word-requires : goal.word-requires
word-requires c = let q = plan_fits c.args.n c.args.j c.args.d c.requires.0 c.requires.1 c.requires.2 in omega (arith, q.0)

pub word-requires-2 : goal.word-requires-2
word-requires-2 c = let q = plan_fits c.args.n c.args.j c.args.d c.requires.0 c.requires.1 c.requires.2 in omega (arith, q.1, q.2)

pub plan_count-requires : goal.plan_count-requires
plan_count-requires c = let q = plan_fits c.args.n c.args.j c.args.d c.requires.0 c.requires.1 c.requires.2 in (q.1, omega (arith, q.1, q.2))

pub word-requires-3 : goal.word-requires-3
word-requires-3 c =
    let q = plan_fits c.args.n c.args.j c.args.d c.requires.0 c.requires.1 c.requires.2 in
    omega (arith, c.plan_count.ensures, (count_range c.args.d q.1).1)

pub returns : goal.returns
returns c = λ p o ok h.
    let l = handed c.word.type_inv c.word.ensures in
    let f = handed c.word-2.type_inv c.word-2.ensures in
    let n = handed c.word-3.type_inv c.word-3.ensures ∙ ap pos c.plan_count.ensures in
    head_put p o _ _ _ c.args.n c.args.j ok c.args.d c.requires.2 c.requires.0 c.requires.1 (omega arith)
    (c.copy.ensures.after ∙ (λ i. l i ∷ f i ∷ n i ∷ [])) h
