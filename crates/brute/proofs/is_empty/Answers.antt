use mathlib.Core.Path.{◌≡◌, sym, ap, ◌∙◌}
use Rattle.words.proofs.AllLaws.{all_none, all_more, all_stop, all_done}
use Rattle.brute.specs.Brute.{place_at, clear, empty}
use Rattle.brute.proofs.is_empty.Goals as goal

pub loop-k-init : goal.loop-k-init
loop-k-init c = all_none _

pub returns-then-not-is_clear : goal.returns-then-not-is_clear
unfolding empty
returns-then-not-is_clear c =
    let said : c.is_clear.result ≡ clear c.args.grid c.args.a c.args.b (place_at c.args.s.now c.loop-k.k) = c.is_clear.ensures ∙ ap (clear c.args.grid c.args.a c.args.b) c.place_at.ensures.value in
    all_stop _ _ _ c.loop-k-test.true (sym said ∙ c.if-not-is_clear.true)

pub loop-k-preserved : goal.loop-k-preserved
loop-k-preserved c =
    let said : c.is_clear.result ≡ clear c.args.grid c.args.a c.args.b (place_at c.args.s.now c.loop-k.k) = c.is_clear.ensures ∙ ap (clear c.args.grid c.args.a c.args.b) c.place_at.ensures.value in
    all_more _ _ c.loop-k.invariant (sym said ∙ c.if-not-is_clear.false)

pub returns : goal.returns
unfolding empty
returns c = all_done _ _ _ c.loop-k.auto.k-end c.loop-k-test.false c.loop-k.invariant
