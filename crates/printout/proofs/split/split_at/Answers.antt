-- `printout::split::split_at` meets its contract. Assumes nothing.
use mathlib.Core.Path.{◌≡◌, sym, ap, ◌∙◌}
use native.Mathlib.Omega.{arith}
use lib.IntN.{ℤ, pos}
use lib.Signed.{lt_z}
use Rattle.words.specs.Word.{before, num}
use Rattle.words.proofs.Signs.{handed}
use Rattle.sheet.specs.Layout.{span}
use Rattle.printout.proofs.SplitLaws.{split_below, span_num, split_over, split_within}
use Rattle.printout.proofs.split.split_at.Goals as goal

pub returns-then-before : goal.returns-then-before
unfolding before
returns-then-before c =
    let signed : c.before-2.result ≡ lt_z (span c.args.s.now) (pos 0) = c.before-2.ensures ∙ ap (λ (z : ℤ). lt_z z (pos 0)) (handed c.at-span.type_inv c.at-span.ensures) in
    record { value = split_below c.args.s.now (sym signed ∙ c.if-before.true); upper_bound = omega arith }

pub returns-then-len-length : goal.returns-then-len-length
unfolding before
returns-then-len-length c =
    let signed : c.before-2.result ≡ lt_z (span c.args.s.now) (pos 0) = c.before-2.ensures ∙ ap (λ (z : ℤ). lt_z z (pos 0)) (handed c.at-span.type_inv c.at-span.ensures) in
    let counted : span c.args.s.now ≡ pos c.num-length.result = let e = c in
    let a = e in
    span_num _ (sym signed ∙ e.if-before.false) ∙ ap pos (sym (c.num-length.ensures.value ∙ ap num (handed a.at-span.type_inv a.at-span.ensures))) in
    record { value = split_over c.args.s.now c.num-length.result counted c.if-len-length.true; upper_bound = omega arith }

pub returns : goal.returns
unfolding before
returns c =
    let signed : c.before-2.result ≡ lt_z (span c.args.s.now) (pos 0) = c.before-2.ensures ∙ ap (λ (z : ℤ). lt_z z (pos 0)) (handed c.at-span.type_inv c.at-span.ensures) in
    let counted : span c.args.s.now ≡ pos c.num-length.result = let e = c in
    let a = e in
    span_num _ (sym signed ∙ e.if-before.false) ∙ ap pos (sym (c.num-length.ensures.value ∙ ap num (handed a.at-span.type_inv a.at-span.ensures))) in
    record { value = split_within c.args.s.now c.num-length.result counted c.if-len-length.false; upper_bound = omega arith }
