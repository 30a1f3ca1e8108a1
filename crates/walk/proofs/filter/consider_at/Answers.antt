-- `walk::filter::consider_at` meets its contract. Assumes nothing.
use mathlib.Core.Path.{◌≡◌, refl}
use Prim.Native.Nat.{◌*◌, ◌<◌}
use native.Mathlib.Omega.{arith}
use lib.ListN.{length}
use Rattle.bits.proofs.SomeLaws.{finds_some}
use Rattle.walk.specs.FilterWalk.{consider}
use Rattle.walk.proofs.NodeLaws.{spot_fits}
use Rattle.walk.proofs.FilterCode.{consider_yes, consider_no, dropped_is}
use Rattle.walk.proofs.LatestLaws.{tries_found, tries_more, tries_full}
use Rattle.walk.proofs.filter.consider_at.Goals as goal

pub drops_spot-by-requires : goal.drops_spot-by-requires
drops_spot-by-requires c =
    let p = c.requires in
    (p.0, spot_fits _ _ _ c.args.w.opens _ _ p.1 c.spot_at-z.ensures, p.2, p.3)

pub returns-then-by-w : goal.returns-then-by-w
returns-then-by-w c =
    let f = c.drops_spot-by.ensures in
    let z = c in
    (consider_yes _ _ _ _ _ (dropped_is _ _ _ _ _ _ _ _ z.spot_at-z.ensures refl (finds_some _ _ _ _ f c.if-by-w.true)), tries_found _ _ _ _ _ _ f.known z.requires.3)

pub returns-then-end-room : goal.returns-then-end-room
returns-then-end-room c =
    let considered : c.insert.new.bits ≡ consider c.args.w.words.now c.args.w.n c.args.q c.args.i c.args.bits.now = let e = c in
    consider_no _ _ _ _ _ _ (dropped_is _ _ _ _ _ _ _ _ e.spot_at-z.ensures refl (e.drops_spot-by.ensures.none_left e.if-by-w.false)) c.insert.ensures in
    let room : c.args.i < 64 * length c.args.bits.now = omega (arith, c.requires.1, c.requires.2.enough) in
    let k = c in
    let p = k.requires in
    (considered, tries_more _ _ _ _ _ _ p.1 room p.3 c.if-end-room.true _ k.insert.ensures)

pub returns : goal.returns
returns c =
    let considered : c.insert.new.bits ≡ consider c.args.w.words.now c.args.w.n c.args.q c.args.i c.args.bits.now = let e = c in
    consider_no _ _ _ _ _ _ (dropped_is _ _ _ _ _ _ _ _ e.spot_at-z.ensures refl (e.drops_spot-by.ensures.none_left e.if-by-w.false)) c.insert.ensures in
    let room : c.args.i < 64 * length c.args.bits.now = omega (arith, c.requires.1, c.requires.2.enough) in
    let k = c in
    let p = k.requires in
    (considered, tries_full _ _ _ _ _ _ p.1 room p.3 _ _ k.insert.ensures (omega arith))
