use mathlib.Core.Path.{◌≡◌, ap, ◌∙◌}
use mathlib.Core.List.{◌∷◌, []}
use native.Mathlib.Omega.{arith}
use Prim.Native.Nat.{◌+◌, ◌*◌, ◌-◌}
use lib.IntN.{pos}
use lib.ListN.{length, drop, length-drop}
use lib.Seq.{length-take-le}
use borrow.Rule.Slice.PartMut.{same_len_mid}
use Rattle.words.proofs.Signs.{handed}
use Rattle.pack.proofs.TableLaws.{plan_few}
use Rattle.pack.proofs.PackedLaws.{root_low, sheet_size_lem, trail_put}
use Rattle.pack.proofs.write.put_trailer.Goals as goal

pub overflow_mul-span-2 : goal.overflow_mul-span-2
overflow_mul-span-2 c = omega (arith, plan_few c.args.n, sheet_size_lem c.args.n)

pub overflow_add-span : goal.overflow_add-span
overflow_add-span c = omega (arith, plan_few c.args.n, sheet_size_lem c.args.n)

pub offset_bounds-out-span : goal.offset_bounds-out-span
offset_bounds-out-span c = omega (arith, plan_few c.args.n, sheet_size_lem c.args.n)

pub slice_bounds-copy-count : goal.slice_bounds-copy-count
slice_bounds-copy-count c = omega (arith, plan_few c.args.n, sheet_size_lem c.args.n)

pub slice_bounds-copy-start : goal.slice_bounds-copy-start
slice_bounds-copy-start c = omega (arith, plan_few c.args.n, sheet_size_lem c.args.n)

pub word-requires : goal.word-requires
word-requires c = omega (arith, plan_few c.args.n, sheet_size_lem c.args.n)

pub word-requires-2 : goal.word-requires-2
word-requires-2 c = omega (arith, c.root_word.ensures, root_low c.args.m)

pub copy-requires : goal.copy-requires
copy-requires c =
    let a = 5 * c.args.n + 7 * c.args.m in
    let w = c.args.out.now in
    let l : length w ≡ a + 6 = omega (arith, sheet_size_lem c.args.n) in
    let z : length w - a ≡ 6 = omega arith in
    length-take-le (length w - a) (drop a w) (omega (arith, length-drop a w)) ∙ z

pub returns : goal.returns
returns c = λ p o h.
    let a = handed c.word.type_inv c.word.ensures in
    let r = handed c.word-2.type_inv c.word-2.ensures ∙ ap pos c.root_word.ensures in
    let n = handed c.word-3.type_inv c.word-3.ensures in
    let m = handed c.word-4.type_inv c.word-4.ensures in
    let e = handed c.word-5.type_inv c.word-5.ensures in
    let f = handed c.word-6.type_inv c.word-6.ensures in
    let q = c.copy.ensures in
    trail_put p o c.args.n c.args.form c.args.m c.args.edition c.args.out.now _ _ c.requires.2 c.requires.4 (same_len_mid _ _ _ _ c.copy.auto.to)
    (q.after ∙ (λ i. a i ∷ r i ∷ n i ∷ m i ∷ e i ∷ f i ∷ [])) h
