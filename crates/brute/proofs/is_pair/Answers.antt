-- `brute::is_pair` meets its contract. Assumes nothing.
use mathlib.Core.Path.{◌≡◌, sym, ◌∙◌}
use Rattle.brute.specs.Brute.{empty, pairs, place_at}
use Rattle.brute.proofs.is_pair.Goals as goal

pub returns-else-is_empty : goal.returns-else-is_empty
unfolding pairs
returns-else-is_empty c =
    let first : c.is_empty.result ≡ empty c.args.grid c.args.q.now (place_at c.args.q.now c.args.j) (place_at c.args.p.now c.args.i) =
    c.is_empty.ensures ∙ (λ k. empty c.args.grid c.args.q.now (c.place_at-a.ensures.value k) (c.place_at-b.ensures.value k)) in
    rw (sym first ∙ c.if-is_empty.false) c.if-is_empty.false

pub returns-then-is_empty : goal.returns-then-is_empty
unfolding pairs
returns-then-is_empty c =
    let first : c.is_empty.result ≡ empty c.args.grid c.args.q.now (place_at c.args.q.now c.args.j) (place_at c.args.p.now c.args.i) =
    c.is_empty.ensures ∙ (λ k. empty c.args.grid c.args.q.now (c.place_at-a.ensures.value k) (c.place_at-b.ensures.value k)) in
    rw (sym first ∙ c.if-is_empty.true) (c.is_empty-then-is_empty.ensures ∙ (λ k. empty c.args.grid c.args.p.now (c.place_at-a.ensures.value k) (c.place_at-b.ensures.value k)))
