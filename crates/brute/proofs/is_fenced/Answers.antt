-- `brute::is_fenced` meets its contract. Assumes nothing.
use mathlib.Core.Path.{◌≡◌, ◌∙◌}
use mathlib.Core.Bool.{◌&&◌}
use lib.Dec.{leb}
use Rattle.brute.specs.Brute.{off, fences}
use Rattle.brute.proofs.Distances.{turned_back}
use Rattle.brute.proofs.is_fenced.Goals as goal

pub returns : goal.returns
unfolding fences
returns c =
    let ex : c.off-u.result ≡ off c.args.a.x c.args.b.x c.args.z.x =
    c.off-u.ensures ∙ (λ i. off (turned_back c.requires.within.0 i) (turned_back c.requires.within_2.0 i) (turned_back c.requires.within_3.0 i)) in
    let ey : c.off-v.result ≡ off c.args.a.y c.args.b.y c.args.z.y =
    c.off-v.ensures ∙ (λ i. off (turned_back c.requires.within.1 i) (turned_back c.requires.within_2.1 i) (turned_back c.requires.within_3.1 i)) in
    λ i. leb (ex i) (c.most-d.ensures.0 i) && leb (ey i) (c.most-d.ensures.0 i)
