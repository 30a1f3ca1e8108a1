-- `pack::pack` meets its contract: the shape, then the form, then what is under its limits. Assumes nothing.
use mathlib.Core.Bool.{not}
use mathlib.Core.Path.{◌≡◌, sym, ap, subst, ◌∙◌}
use native.Mathlib.Omega.{arith}
use Rattle.integers.proofs.Bools.{passed, failed}
use Rattle.sheet.specs.declared.Limits.{Limits}
use Rattle.sheet.specs.Limits.{form1, form2, Fair}
use Rattle.sheet.proofs.SheetLaws.{form1_fair, form2_fair}
use Rattle.pack.proofs.PackLaws.{pack_shapeless, pack_formless, pack_by_first, pack_by_second, pack_under, out_refused, out_by}
use Rattle.pack.proofs.pack.Goals as goal

pub returns-then-not-shape_ok : goal.returns-then-not-shape_ok
returns-then-not-shape_ok c =
    let e = pack_shapeless _ _ _ _ _ _ (failed c.shape_ok.ensures (ap not c.if-not-shape_ok.true)) in
    record { value = e; out_after = out_refused _ _ _ _ _ _ (λ z. absurd (omega (arith, e, z))) }

pub pack_by-requires : goal.pack_by-requires
unfolding form1
pack_by-requires c =
    let e = c.form1.ensures in
    let h = ap (λ (l : Limits). l.points) e in
    let g = ap (λ (l : Limits). l.form) e in
    (subst Fair (sym e) form1_fair, omega arith, omega arith, omega arith, passed c.shape_ok.ensures (ap not c.if-not-shape_ok.false))

pub pack_by-requires-in-2 : goal.pack_by-requires-in-2
unfolding form2
pack_by-requires-in-2 c =
    let e = c.form2.ensures in
    let h = ap (λ (l : Limits). l.points) e in
    let g = ap (λ (l : Limits). l.form) e in
    (subst Fair (sym e) form2_fair, omega arith, omega arith, omega arith, passed c.shape_ok.ensures (ap not c.if-not-shape_ok.false))

pub returns-in-1 : goal.returns-in-1
unfolding form1
returns-in-1 c =
    let e = pack_by_first _ _ _ _ _ _ (passed c.shape_ok.ensures (ap not c.if-not-shape_ok.false)) c.in-1.is in
    let r = pack_under _ form1 _ _ _ _ _ _ _ c.form1.ensures c.pack_by.ensures.value c.pack_by.ensures.out_after in
    record { value = r.0 ∙ e; out_after = r.1 ∙ out_by _ _ _ _ _ _ _ 1 e c.in-1.is }

pub returns-in-2 : goal.returns-in-2
unfolding form2
returns-in-2 c =
    let e = pack_by_second _ _ _ _ _ _ (passed c.shape_ok.ensures (ap not c.if-not-shape_ok.false)) c.in-2.is in
    let b = c.pack_by-in-2.ensures in
    let r = pack_under _ form2 _ _ _ _ _ _ _ c.form2.ensures b.value b.out_after in
    record { value = r.0 ∙ e; out_after = r.1 ∙ out_by _ _ _ _ _ _ _ 2 e c.in-2.is }

pub returns-in_default : goal.returns-in_default
returns-in_default c =
    let e = pack_formless _ _ _ _ _ _ (passed c.shape_ok.ensures (ap not c.if-not-shape_ok.false)) (λ (z : c.args.form ≡ 1). omega arith) (λ (z : c.args.form ≡ 2). omega arith) in
    record { value = e; out_after = out_refused _ _ _ _ _ _ (λ z. absurd (omega (arith, e, z))) }
