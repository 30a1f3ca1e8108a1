use mathlib.Core.Path.{◌≡◌, refl, sym, ap, ◌∙◌}
use mathlib.Core.List.{List}
use native.Mathlib.Numerals.{add-one}
use lib.ListN.{set, get_or}
use Rattle.list.specs.declared.Pair.{Pair}
use Rattle.list.specs.Pairs.{none}
use Rattle.many.specs.Many.{own_list}
use Rattle.many.proofs.PairsLaws.{put, own_course, is_next, course_next, course_refused, course_end, own_told}
use Rattle.many.proofs.batch.own_pairs.Goals as goal

pub returns-in-Err : goal.returns-in-Err
returns-in-Err c =
    let a = c.args in
    let k = c.in-Err.ensures in
    own_told a.s.now a.key a.largest a.grid a.slots.now _ a.bits.now _ _ (course_refused _ _ _ _ a.bits.now a.slots.now _ k.0 k.1 _ c.refused.ensures _ k.2)

pub loop-st-init : goal.loop-st-init
loop-st-init c =
    let f = c.in-Ok.ensures in
    let a = c.args in
    (sym (ap (put a.slots.now (own_list a.s.now a.key a.largest a.grid)) f.started.none_yet), own_course _ _ _ _ _ _ _ _ f, c.own_first.auto.bits)

pub loop-st-preserved : goal.loop-st-preserved
loop-st-preserved c =
    let a = c.args in
    let v = c.loop-st.invariant in
    let f = c.own_another-st.ensures in
    let all : List Pair = own_list a.s.now a.key a.largest a.grid in
    let next : c.loop-st.st.pair ≡ get_or all c.loop-st.st.count none = is_next _ _ _ _ _ _ _ _ _ _ v.1 c.loop-st-test.true in (
      rw (f.3, add-one) (ap (λ (l : List Pair). set l c.loop-st.st.count c.loop-st.st.pair) v.0 ∙ ap (λ (x : Pair). set (put a.slots.now all c.loop-st.st.count) c.loop-st.st.count x) next),
      course_next _ _ _ _ _ _ _ _ _ _ v.1 c.loop-st-test.true _ _ f.0 f.1 f.2 f.3 f.4 f.5,
      c.own_another-st.auto.bits ∙ v.2,
    )

pub returns : goal.returns
returns c =
    let a = c.args in
    let v = c.loop-st.invariant in
    let f = c.finish.ensures in
    let t = own_told a.s.now a.key a.largest a.grid a.slots.now _ a.bits.now _ _ (course_end _ _ _ _ _ _ _ _ a.slots.now refl _ _ v.1 c.loop-st-test.false _ f.0 _ f.1) in
    (t.0, v.0 ∙ t.1, t.2)
