use mathlib.Core.Path.{◌≡◌, ap, ◌∙◌}
use mathlib.Core.Bool.{◌&&◌}
use Rattle.plane.specs.Profile.{profile_of, side_in}
use Rattle.plane.proofs.ProfileLaws.{first, side_is}
use Rattle.plane.proofs.profile.side_inside.Goals as goal

pub returns-then-ll-lh : goal.returns-then-ll-lh
returns-then-ll-lh c =
    let tests : first (c.is_inside-ll.result && c.is_inside-lh.result) (c.is_inside-ll.result && c.is_inside-hl.result) (c.is_inside-hl.result && c.is_inside-hh.result) (c.is_inside-lh.result && c.is_inside-hh.result) ≡ side_in (profile_of c.args.grid) c.args.a c.args.b c.args.o = side_is _ _ _ _ _ _ _ _ (c.is_inside-ll.ensures ∙ ap ((profile_of c.args.grid).inside _ _) c.low_left.ensures.0) (c.is_inside-lh.ensures ∙ ap ((profile_of c.args.grid).inside _ _) c.high_left.ensures.0) (c.is_inside-hl.ensures ∙ ap ((profile_of c.args.grid).inside _ _) c.low_right.ensures.0) (c.is_inside-hh.ensures ∙ ap ((profile_of c.args.grid).inside _ _) c.high_right.ensures.0) in
    (rw c.if-ll-lh.true) ∙ tests

pub returns-then-ll-hl : goal.returns-then-ll-hl
returns-then-ll-hl c =
    let tests : first (c.is_inside-ll.result && c.is_inside-lh.result) (c.is_inside-ll.result && c.is_inside-hl.result) (c.is_inside-hl.result && c.is_inside-hh.result) (c.is_inside-lh.result && c.is_inside-hh.result) ≡ side_in (profile_of c.args.grid) c.args.a c.args.b c.args.o = side_is _ _ _ _ _ _ _ _ (c.is_inside-ll.ensures ∙ ap ((profile_of c.args.grid).inside _ _) c.low_left.ensures.0) (c.is_inside-lh.ensures ∙ ap ((profile_of c.args.grid).inside _ _) c.high_left.ensures.0) (c.is_inside-hl.ensures ∙ ap ((profile_of c.args.grid).inside _ _) c.low_right.ensures.0) (c.is_inside-hh.ensures ∙ ap ((profile_of c.args.grid).inside _ _) c.high_right.ensures.0) in
    (rw (c.if-ll-lh.false, c.if-ll-hl.true)) ∙ tests

pub returns-then-hl-hh : goal.returns-then-hl-hh
returns-then-hl-hh c =
    let tests : first (c.is_inside-ll.result && c.is_inside-lh.result) (c.is_inside-ll.result && c.is_inside-hl.result) (c.is_inside-hl.result && c.is_inside-hh.result) (c.is_inside-lh.result && c.is_inside-hh.result) ≡ side_in (profile_of c.args.grid) c.args.a c.args.b c.args.o = side_is _ _ _ _ _ _ _ _ (c.is_inside-ll.ensures ∙ ap ((profile_of c.args.grid).inside _ _) c.low_left.ensures.0) (c.is_inside-lh.ensures ∙ ap ((profile_of c.args.grid).inside _ _) c.high_left.ensures.0) (c.is_inside-hl.ensures ∙ ap ((profile_of c.args.grid).inside _ _) c.low_right.ensures.0) (c.is_inside-hh.ensures ∙ ap ((profile_of c.args.grid).inside _ _) c.high_right.ensures.0) in
    (rw (c.if-ll-lh.false, c.if-ll-hl.false, c.if-hl-hh.true)) ∙ tests

pub returns-then-lh-hh : goal.returns-then-lh-hh
returns-then-lh-hh c =
    let tests : first (c.is_inside-ll.result && c.is_inside-lh.result) (c.is_inside-ll.result && c.is_inside-hl.result) (c.is_inside-hl.result && c.is_inside-hh.result) (c.is_inside-lh.result && c.is_inside-hh.result) ≡ side_in (profile_of c.args.grid) c.args.a c.args.b c.args.o = side_is _ _ _ _ _ _ _ _ (c.is_inside-ll.ensures ∙ ap ((profile_of c.args.grid).inside _ _) c.low_left.ensures.0) (c.is_inside-lh.ensures ∙ ap ((profile_of c.args.grid).inside _ _) c.high_left.ensures.0) (c.is_inside-hl.ensures ∙ ap ((profile_of c.args.grid).inside _ _) c.low_right.ensures.0) (c.is_inside-hh.ensures ∙ ap ((profile_of c.args.grid).inside _ _) c.high_right.ensures.0) in
    (rw (c.if-ll-lh.false, c.if-ll-hl.false, c.if-hl-hh.false, c.if-lh-hh.true)) ∙ tests

pub returns : goal.returns
returns c =
    let tests : first (c.is_inside-ll.result && c.is_inside-lh.result) (c.is_inside-ll.result && c.is_inside-hl.result) (c.is_inside-hl.result && c.is_inside-hh.result) (c.is_inside-lh.result && c.is_inside-hh.result) ≡ side_in (profile_of c.args.grid) c.args.a c.args.b c.args.o = side_is _ _ _ _ _ _ _ _ (c.is_inside-ll.ensures ∙ ap ((profile_of c.args.grid).inside _ _) c.low_left.ensures.0) (c.is_inside-lh.ensures ∙ ap ((profile_of c.args.grid).inside _ _) c.high_left.ensures.0) (c.is_inside-hl.ensures ∙ ap ((profile_of c.args.grid).inside _ _) c.low_right.ensures.0) (c.is_inside-hh.ensures ∙ ap ((profile_of c.args.grid).inside _ _) c.high_right.ensures.0) in
    (rw (c.if-ll-lh.false, c.if-ll-hl.false, c.if-hl-hh.false, c.if-lh-hh.false)) ∙ tests
