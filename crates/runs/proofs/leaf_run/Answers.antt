use mathlib.Core.Path.{◌≡◌, sym, ap, ap₂, ◌∙◌}
use mathlib.Core.List.{List}
use Prim.Native.Nat.{ℕ, ◌+◌, ◌<◌}
use native.Mathlib.Omega.{arith}
use native.Mathlib.Numerals.{add-one}
use borrow.Author.Rules.{rules}
use lib.ListN.{length, set, get_or, drop}
use Rattle.list.specs.declared.Pair.{Pair}
use Rattle.list.specs.Pairs.{none}
use Rattle.leaf.specs.LeafRun.{leaf_list}
use Rattle.runs.proofs.WriteLaws.{written, next_some, next_is, run_stored, run_slots_lem, run_words}
use Rattle.runs.proofs.leaf_run.Goals as goal

-- one more pair is stored
written_more : (s l : List Pair) (k : ℕ) (z : List Pair) (v : Pair) → z ≡ written s l k → v ≡ get_or l k none → set z k v ≡ written s l (k + 1)
written_more s l k z v e f = ap₂ (λ (x : List Pair) (w : Pair). set x k w) e f ∙ ap (written s l) (sym (add-one k))

pub next_pair-s-requires : goal.next_pair-s-requires
next_pair-s-requires c =
    let f = run_stored _ _ _ c.args.slots.now c.args.bits.now _ c.decide-r.ensures.0 c.loop-k.k c.loop-k-test.true in
    (c.decide-r.ensures.1.ready f.0, next_some _ _ c.loop-k.k (c.loop-k.invariant.2 f.0) f.1)

pub offset_bounds-slots-k : goal.offset_bounds-slots-k
offset_bounds-slots-k c =
    let f = run_stored _ _ _ c.args.slots.now c.args.bits.now _ c.decide-r.ensures.0 c.loop-k.k c.loop-k-test.true in
    let within : c.loop-k.k < length c.loop-k.slots = omega (arith, f.2) in
    search rules

pub bounds-slots-k : goal.bounds-slots-k
bounds-slots-k c =
    let f = run_stored _ _ _ c.args.slots.now c.args.bits.now _ c.decide-r.ensures.0 c.loop-k.k c.loop-k-test.true in
    omega (arith, f.2)

pub loop-k-preserved : goal.loop-k-preserved
loop-k-preserved c =
    let l : List Pair = leaf_list c.args.p.now c.args.q.now c.args.leaf in
    let f = run_stored _ _ _ c.args.slots.now c.args.bits.now _ c.decide-r.ensures.0 c.loop-k.k c.loop-k-test.true in
    let n = next_is l _ _ _ c.loop-k.k (c.loop-k.invariant.2 f.0) c.next_pair-s.ensures f.1 in (
      omega arith,
      written_more c.args.slots.now l c.loop-k.k c.loop-k.slots c.next_pair-s.result.pair c.loop-k.invariant.1 n.0,
      λ z. n.1 ∙ ap (λ (i : ℕ). drop i l) (sym (add-one c.loop-k.k)),
    )

pub returns : goal.returns
returns c =
    let all : c.loop-k.k ≡ c.decide-r.result.count = omega arith in
    let e = c.decide-r.ensures in (
      c.finish.ensures.0 ∙ e.0,
      c.loop-k.invariant.1 ∙ ap (written c.args.slots.now (leaf_list c.args.p.now c.args.q.now c.args.leaf)) all ∙ run_slots_lem _ _ _ c.args.slots.now c.args.bits.now _ e.0,
      c.finish.ensures.1 ∙ run_words _ _ _ c.args.slots.now c.args.bits.now _ e.0 _ e.1,
    )
