-- `printout::lines::put_pair` meets its contract. Assumes nothing.
use borrow.Author.Rules.{rules}
use mathlib.Core.Path.{subst}
use Rattle.text.specs.Text.{Grown}
use Rattle.printout.specs.Listing.{line_at}
use Rattle.printout.proofs.LineLaws.{printout_stands, stands_in}
use Rattle.printout.proofs.lines.put_pair.Goals as goal

pub put_line-requires : goal.put_line-requires
put_line-requires c =
    let s = c in
    (stands_in s.args.q.opens _ s.requires.0 _ c.spot_at-a.ensures, stands_in s.args.p.opens _ s.requires.1 _ c.spot_at-b.ensures, search rules)

pub returns : goal.returns
returns c =
    let t = c in
    let b = t in
    let a = b in
    let v = a in
    let s = v in
    let q-here = printout_stands s.args.q.opens _ s.requires.0 _ a.spot_at-a.ensures in
    let p-here = printout_stands s.args.p.opens _ s.requires.1 _ b.spot_at-b.ensures in record { grown = subst (Grown s.args.out.now s.args.at t.put_line.new.out t.put_line.result) (λ i. line_at (v.pair_at-v.ensures i) (q-here i) (p-here i)) t.put_line.ensures.grown; upper_bound = t.put_line.ensures.upper_bound }
