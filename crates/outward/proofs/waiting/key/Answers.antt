-- `outward::waiting::key` meets its contract. Assumes nothing.
use Rattle.outward.proofs.WaitingLaws.{key_packed}
use Rattle.outward.proofs.waiting.key.Goals as goal

pub returns : goal.returns
returns c = let p = c.requires in key_packed _ _ _ _ _ _ c.args.w.opens.n_le c.args.w.opens.m_le p.1 c.distance_at.ensures
