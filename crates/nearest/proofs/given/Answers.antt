use mathlib.Core.Path.{ap, ◌∙◌}
use Prim.Native.Nat.{◌≤◌, ◌<◌}
use native.Mathlib.Omega.{arith}
use lib.ListN.{length, take, length-set}
use Rattle.outward.specs.NearWalk.{near_order}
use Rattle.nearest.specs.Nearest.{near_at}
use Rattle.nearest.proofs.AnswerLaws.{listing_step, listing_end, padded_at, first_small, first_few, nearest_found_is}
use Rattle.nearest.proofs.given.Goals as goal

pub near_at-requires : goal.near_at-requires
near_at-requires c =
    let within : c.loop-k.k < c.first_points-f.result.count → c.loop-k.k < length (take c.args.size (near_order c.args.p.words.now c.args.q)) = λ h. omega (arith, c.first_points-f.ensures.1) in
    let l = c in
    let s = l in
    let p = s.requires in
    let h = within c.loop-k-test.true in
    let z = padded_at (take s.args.size (near_order s.args.p.words.now s.args.q)) l.first_points-f.result.at l.loop-k.k l.first_points-f.ensures.0 h in
    (p.0, omega (arith, z, first_small s.args.p.words.now s.args.p.n s.args.p.m s.args.q s.args.p.opens s.args.size l.loop-k.k h))

pub loop-k-preserved : goal.loop-k-preserved
loop-k-preserved c =
    let few : length (take c.args.size (near_order c.args.p.words.now c.args.q)) ≤ 16 = first_few _ _ _ c.requires.1 in
    let within : c.loop-k.k < c.first_points-f.result.count → c.loop-k.k < length (take c.args.size (near_order c.args.p.words.now c.args.q)) = λ h. omega (arith, c.first_points-f.ensures.1) in
    let l = c in
    let s = l in
    let h = within c.loop-k-test.true in (
      listing_step _ _ few _ _ _ h (c.near_at.ensures ∙ ap (near_at s.args.p.words.now s.args.q) (padded_at _ _ _ l.first_points-f.ensures.0 h)) l.loop-k.invariant.0,
      length-set l.loop-k.points l.loop-k.k c.near_at.result ∙ l.loop-k.invariant.1,
    )

pub returns : goal.returns
returns c =
    let few : length (take c.args.size (near_order c.args.p.words.now c.args.q)) ≤ 16 = first_few _ _ _ c.requires.1 in
    let l = c in
    let f = l in (
      nearest_found_is _ _ _ _ _ f.first_points-f.ensures.1 (listing_end _ _ few _ _ (omega (arith, c.loop-k-test.false, f.first_points-f.ensures.1)) l.loop-k.invariant.0),
      f.first_points-f.ensures.2,
    )
