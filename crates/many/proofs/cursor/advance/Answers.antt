use mathlib.Core.Path.{refl, ◌∙◌}
use Rattle.sheet.specs.Places.{points_of}
use Rattle.list.specs.RingList.{pair_by}
use Rattle.list.specs.Terms.{profile_for}
use Rattle.chamber.specs.Sized.{listed_to}
use Rattle.many.proofs.CursorLaws.{Going, go_start, go_here, go_enter, go_end, go_all}
use Rattle.many.proofs.cursor.advance.Goals as goal

pub loop-i-init : goal.loop-i-init
loop-i-init c =
    let begun : Going (listed_to c.args.largest c.args.terms c.args.owners.now (points_of c.args.p.words.now) (points_of c.args.q.words.now)) (pair_by (profile_for c.args.terms) (points_of c.args.p.words.now) (points_of c.args.q.words.now)) c.args.key c.args.p.n c.args.q.n c.args.c.at c.args.c.i c.args.c.next c.args.bits.now c.args.c.at c.late_from-i.result c.args.c.next = go_start _ (profile_for c.args.terms) _ _ _ _ _ _ _ _ _ _ c.requires.2 c.late_from-i.ensures in
    (go_here _ _ _ _ _ _ _ _ _ _ _ _ begun, refl)

pub loop-i-preserved : goal.loop-i-preserved
loop-i-preserved c =
    let l = c in
    (go_enter _ _ _ _ _ _ _ _ _ _ _ _ _ _ c.loop-i-test.true l.loop-i.invariant.0 c.entered-i.ensures, c.entered-i.auto.bits ∙ l.loop-i.invariant.1)

pub returns : goal.returns
returns c =
    let begun : Going (listed_to c.args.largest c.args.terms c.args.owners.now (points_of c.args.p.words.now) (points_of c.args.q.words.now)) (pair_by (profile_for c.args.terms) (points_of c.args.p.words.now) (points_of c.args.q.words.now)) c.args.key c.args.p.n c.args.q.n c.args.c.at c.args.c.i c.args.c.next c.args.bits.now c.args.c.at c.late_from-i.result c.args.c.next = go_start _ (profile_for c.args.terms) _ _ _ _ _ _ _ _ _ _ c.requires.2 c.late_from-i.ensures in
    let l = c in
    go_all _ _ _ _ _ _ _ _ _ _ _ _ _ _ _ _ begun (go_end _ _ _ _ _ _ _ _ _ _ _ _ c.loop-i-test.false l.loop-i.invariant.0)
