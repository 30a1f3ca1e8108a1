-- `seeds::first_line` meets its contract: the droppers are places of records of the one sheet and of the other. Assumes nothing.
use mathlib.Core.Logic.{inl, inr}
use Rattle.seeds.specs.Covers.{OnEither}
use Rattle.seeds.proofs.LineLaws.{line_empty, line_holds}
use Rattle.seeds.proofs.first_line.Goals as goal

pub returns : goal.returns
returns c = line_holds _ _ _ _ (line_holds _ _ _ _ (line_empty (OnEither _ _ _ _) _ c.requires.3) (λ z x. inr x) c.seed_about.ensures) (λ z x. inl x) c.seed_about-2.ensures
