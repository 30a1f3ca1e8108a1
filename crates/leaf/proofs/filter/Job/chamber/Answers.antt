-- `leaf::filter::chamber` meets its contract. Assumes nothing.
use native.Mathlib.Omega.{arith}
use Rattle.walk.proofs.NodeLaws.{spot_fits}
use Rattle.leaf.proofs.FilterCode.{chamber_place, chamber_fits, chamber_is}
use Rattle.leaf.proofs.filter.Job.chamber.Goals as goal

pub overflow_add-self : goal.overflow_add-self
overflow_add-self c =
    omega (arith, chamber_place _ _ _ _ _ _ c.args.self.leaf c.args.k c.requires, c.args.self.leaf.opens.n_le)

pub order_at-at-requires : goal.order_at-at-requires
order_at-at-requires c =
    (chamber_place _ _ _ _ _ _ c.args.self.leaf c.args.k c.requires)

pub spot_at-requires : goal.spot_at-requires
spot_at-requires c =
    (chamber_fits _ _ _ _ _ _ c.args.self.leaf c.args.k _ c.requires c.order_at-at.ensures)

pub returns : goal.returns
returns c = (
  chamber_is _ _ _ _ _ _ c.args.self.leaf c.args.k _ _ c.order_at-at.ensures c.spot_at.ensures,
  spot_fits _ _ _ c.args.self.leaf.opens _ _ (chamber_fits _ _ _ _ _ _ c.args.self.leaf c.args.k _ c.requires c.order_at-at.ensures) c.spot_at.ensures,
)
