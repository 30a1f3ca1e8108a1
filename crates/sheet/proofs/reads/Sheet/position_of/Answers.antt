use Rattle.sheet.proofs.FindLaws.{sheet_seek_start, seek_on, seek_stop, sheet_seek_end}
use Rattle.sheet.proofs.reads.Sheet.position_of.Goals as goal

pub loop-j-init : goal.loop-j-init
loop-j-init c = sheet_seek_start c.args.self.opens _

pub returns-then-id_at-id : goal.returns-then-id_at-id
returns-then-id_at-id c = seek_stop c.args.self.opens _ _ _ c.loop-j.invariant c.id_at.ensures c.if-id_at-id.true c.loop-j-test.true

pub loop-j-preserved : goal.loop-j-preserved
loop-j-preserved c = seek_on c.args.self.opens _ _ _ c.loop-j.invariant c.id_at.ensures c.if-id_at-id.false

pub returns : goal.returns
returns c = sheet_seek_end c.args.self.opens _ _ c.loop-j.invariant c.loop-j.auto.j-end c.loop-j-test.false
