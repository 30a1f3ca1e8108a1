-- `list::lent_of` meets its contract. Assumes nothing.
use Rattle.std.proofs.Common.{◌≡◌, refl, ◌∙◌, ℕ, Bool, true, false, cond, min, ltb, arith}
use Rattle.std.proofs.lemmas.Bool.{ltb-true, ltb-false}
use Rattle.list.specs.Lent.{lent_of}
use Rattle.list.proofs.lent_of.Goals as goal

least : (slots len : ℕ) → min len slots ≡ cond (ltb slots len) slots len
least slots len = go (ltb slots len) refl
  where
    go : (t : Bool) → ltb slots len ≡ t → min len slots ≡ cond t slots len
    go true e = omega (arith, ltb-true slots len e)
    go false e = omega (arith, ltb-false slots len e)

pub returns : goal.returns
unfolding lent_of
returns c = c.min.ensures ∙ least c.args.slots c.args.len
