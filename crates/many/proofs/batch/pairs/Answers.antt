use mathlib.Core.Path.{◌≡◌, refl, sym, ap, ◌∙◌}
use mathlib.Core.List.{List}
use native.Mathlib.Numerals.{add-one}
use lib.ListN.{set, get_or}
use Rattle.list.specs.declared.Pair.{Pair}
use Rattle.list.specs.Pairs.{none}
use Rattle.many.specs.Many.{pairs_list}
use Rattle.many.proofs.PairsLaws.{put, begun_course, is_next, course_next, course_refused, course_end, pairs_told}
use Rattle.many.proofs.batch.pairs.Goals as goal

pub returns-in-Err : goal.returns-in-Err
returns-in-Err c =
    let a = c.args in
    let k = c.in-Err.ensures in
    pairs_told a.p.now a.q.now a.owners.now a.wanted a.slots.now _ a.bits.now _ _ (course_refused _ _ _ _ a.bits.now a.slots.now _ k.0 k.1 _ c.refused.ensures _ k.2)

pub loop-s-init : goal.loop-s-init
loop-s-init c =
    let f = c.in-Ok.ensures in
    let a = c.args in
    (sym (ap (put a.slots.now (pairs_list a.p.now a.q.now a.owners.now a.wanted)) f.started.none_yet), begun_course _ _ _ _ _ _ _ _ f, c.first_step.auto.bits)

pub loop-s-preserved : goal.loop-s-preserved
loop-s-preserved c =
    let a = c.args in
    let v = c.loop-s.invariant in
    let f = c.another-s.ensures in
    let all : List Pair = pairs_list a.p.now a.q.now a.owners.now a.wanted in
    let next : c.loop-s.s.pair ≡ get_or all c.loop-s.s.count none = is_next _ _ _ _ _ _ _ _ _ _ v.1 c.loop-s-test.true in (
      rw (f.3, add-one) (ap (λ (l : List Pair). set l c.loop-s.s.count c.loop-s.s.pair) v.0 ∙ ap (λ (x : Pair). set (put a.slots.now all c.loop-s.s.count) c.loop-s.s.count x) next),
      course_next _ _ _ _ _ _ _ _ _ _ v.1 c.loop-s-test.true _ _ f.0 f.1 f.2 f.3 f.4 f.5,
      c.another-s.auto.bits ∙ v.2,
    )

pub returns : goal.returns
returns c =
    let a = c.args in
    let v = c.loop-s.invariant in
    let f = c.finish.ensures in
    let t = pairs_told a.p.now a.q.now a.owners.now a.wanted a.slots.now _ a.bits.now _ _ (course_end _ _ _ _ _ _ _ _ a.slots.now refl _ _ v.1 c.loop-s-test.false _ f.0 _ f.1) in
    (t.0, v.0 ∙ t.1, t.2)
