-- `ring::pages::request_no` meets its contract, number by number. Assumes nothing.
use Rattle.ring.proofs.PageLaws.{request_27, request_26, request_asked}
use Rattle.ring.proofs.pages.request_no.Goals as goal

pub returns-then-whose-ne0 : goal.returns-then-whose-ne0
returns-then-whose-ne0 c = request_27 _ _ _ _ c.args.request _ c.contractor_no-whose.ensures c.if-whose-ne0.true

pub returns-then-bytes-ne0 : goal.returns-then-bytes-ne0
returns-then-bytes-ne0 c = request_26 _ _ _ _ c.args.request _ c.contractor_no-whose.ensures c.if-whose-ne0.false _ c.owners_no-bytes.ensures c.if-bytes-ne0.true

pub returns : goal.returns
returns c =
    let o = c in
    request_asked _ _ _ _ o.args.request _ o.contractor_no-whose.ensures o.if-whose-ne0.false _ o.owners_no-bytes.ensures c.if-bytes-ne0.false _ c.asked_no.ensures
