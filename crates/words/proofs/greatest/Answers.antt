-- `words::greatest` meets its contract. Assumes nothing.
use Rattle.std.proofs.Common.{◌≡◌, refl, ◌∙◌, ℤ, Bool, true, false, cond}
use Rattle.std.specs.Int.Signed.{lt_z}
use mir.Syntax.{w32}
use mir.ValLaws.{to_z-of_z}
use Rattle.integers.proofs.Order.{zl}
use Rattle.words.specs.Word.{max_z}
use Rattle.words.proofs.Signs.{handed}
use Rattle.words.proofs.greatest.Goals as goal

-- of two words that are the same it does not matter which is taken
either : (a b : ℤ) → cond (lt_z b a) a b ≡ cond (lt_z a b) b a
either a b = go (lt_z a b) (lt_z b a) refl refl
  where
    go : (s t : Bool) → lt_z a b ≡ s → lt_z b a ≡ t → cond t a b ≡ cond s b a
    go true true e f = absurd (omega zl)
    go true false e f = refl
    go false true e f = refl
    go false false e f = omega zl

pub returns : goal.returns
unfolding max_z
returns c =
    handed c.max.type_inv (rw (to_z-of_z w32 _ c.ranges.a, to_z-of_z w32 _ c.ranges.b) at c.max.ensures.value ∙ either c.args.a c.args.b)
