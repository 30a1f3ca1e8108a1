-- `brute::is_covered` meets its contract. Assumes nothing.
use mathlib.Core.Path.{◌≡◌, ◌∙◌}
use Rattle.std.proofs.lemmas.Bool.{lt-leb}
use Rattle.brute.specs.Brute.{across, apart}
use Rattle.brute.proofs.Distances.{brute_back, covers_not, covers_by}
use Rattle.brute.proofs.is_covered.Goals as goal

pub returns-else-x-d : goal.returns-else-x-d
returns-else-x-d c =
    let ex : c.across.result ≡ across c.args.a.x c.args.b.x = c.across.ensures.0 ∙ (λ i. across (brute_back c.requires.within.0 i) (brute_back c.requires.within_2.0 i)) in
    let ey : c.across-2.result ≡ across c.args.a.y c.args.b.y = c.across-2.ensures.0 ∙ (λ i. across (brute_back c.requires.within.1 i) (brute_back c.requires.within_2.1 i)) in
    let zx : c.apart-x.result ≡ apart c.args.a.x c.args.b.x c.args.z.x =
    c.apart-x.ensures ∙ (λ i. apart (brute_back c.requires.within.0 i) (brute_back c.requires.within_2.0 i) (brute_back c.requires.within_3.0 i)) in
    let zy : c.apart-y.result ≡ apart c.args.a.y c.args.b.y c.args.z.y =
    c.apart-y.ensures ∙ (λ i. apart (brute_back c.requires.within.1 i) (brute_back c.requires.within_2.1 i) (brute_back c.requires.within_3.1 i)) in
    lt-leb _ _ c.if-x-d.false ∙ covers_not c.args.a c.args.b c.args.z ex ey zx zy c.if-x-d.false

pub returns-then-x-d : goal.returns-then-x-d
returns-then-x-d c =
    let ex : c.across.result ≡ across c.args.a.x c.args.b.x = c.across.ensures.0 ∙ (λ i. across (brute_back c.requires.within.0 i) (brute_back c.requires.within_2.0 i)) in
    let ey : c.across-2.result ≡ across c.args.a.y c.args.b.y = c.across-2.ensures.0 ∙ (λ i. across (brute_back c.requires.within.1 i) (brute_back c.requires.within_2.1 i)) in
    let zx : c.apart-x.result ≡ apart c.args.a.x c.args.b.x c.args.z.x =
    c.apart-x.ensures ∙ (λ i. apart (brute_back c.requires.within.0 i) (brute_back c.requires.within_2.0 i) (brute_back c.requires.within_3.0 i)) in
    let zy : c.apart-y.result ≡ apart c.args.a.y c.args.b.y c.args.z.y =
    c.apart-y.ensures ∙ (λ i. apart (brute_back c.requires.within.1 i) (brute_back c.requires.within_2.1 i) (brute_back c.requires.within_3.1 i)) in
    covers_by c.args.a c.args.b c.args.z ex ey zx zy c.if-x-d.true
