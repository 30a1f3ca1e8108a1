use mathlib.Core.Path.{◌∙◌, sym}
use native.Mathlib.Omega.{arith}
use Rattle.words.proofs.FirstLaws.{first_passes, first_stops, first_last}
use Rattle.sheet.specs.Open.{open_no}
use Rattle.sheet.proofs.OpenLaws.{trailer_facts}
use Rattle.sheet.proofs.open_by.Goals as goal

-- src/lib.rt:46:9
pub returns-then-t-ne0 : goal.returns-then-t-ne0
unfolding open_no
returns-then-t-ne0 c = let e = c.trailer_no-t.ensures in e ∙ sym (first_stops _ _ (λ z. c.if-t-ne0.true (e ∙ z)))

-- src/lib.rt:49:30
pub overflow_sub-len : goal.overflow_sub-len
overflow_sub-len c = let f = trailer_facts _ _ (sym c.trailer_no-t.ensures ∙ c.if-t-ne0.false) in omega arith

-- src/lib.rt:50:30
pub overflow_sub-len-2 : goal.overflow_sub-len-2
overflow_sub-len-2 c = let f = trailer_facts _ _ (sym c.trailer_no-t.ensures ∙ c.if-t-ne0.false) in omega arith

-- src/lib.rt:51:5
pub body_no-requires : goal.body_no-requires
body_no-requires c =
    let a = c in
    let f = trailer_facts _ _ (sym a.trailer_no-t.ensures ∙ a.if-t-ne0.false) in
    let p = a.requires in (
      omega (arith, c.num_at-n.ensures.value, p.points_le),
      omega (arith, c.num_at-m.ensures.value, p.nodes_le),
      omega (arith, c.num_at-n.ensures.value, c.num_at-m.ensures.value, f.size),
    )

-- src/lib.rt:41:1
pub returns : goal.returns
unfolding open_no
returns c =
    let a = c in
    rw (first_passes _ _ (sym a.trailer_no-t.ensures ∙ a.if-t-ne0.false), first_last, ← c.num_at-n.ensures.value, ← c.num_at-m.ensures.value) c.body_no.ensures
