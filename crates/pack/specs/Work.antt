-- What the functions that write a sheet say of their work: how far they have come, and how the next node and its words are made from what is there.
-- No promise of `pack` cites these.
use Rattle.std.specs.Prelude.{◌≡◌, true, cond, List, [], ◌∷◌, ◌++◌, take, drop, ℕ, ◌+◌, ◌-◌, ◌<◌, eqb, ltb, ℤ, pos}
use Rattle.words.specs.Word.{at}
use Rattle.sheet.specs.declared.Due.{Due}
use Rattle.sheet.specs.declared.Sides.{Sides}
use Rattle.sheet.specs.Boxes.{best, part_of}
use Rattle.pack.specs.Tree.{plan_count}
use Rattle.pack.specs.Order.{order_list_ok}
use Rattle.pack.specs.Packed.{body_word}

-- the first i words of w are f 0, f 1, ..
pub record Holds (w : List ℤ) (f : ℕ → ℤ) (i : ℕ) : Type 0 where
  pub word : (k : ℕ) → k < i → at w k ≡ f k

-- the first i words of w are those of a sheet of n points, whatever its points and its order are
pub record Written (w : List ℤ) (n i : ℕ) : Type 0 where
  pub points : List ℤ
  pub order : List ℤ
  pub ordered : order_list_ok order n ≡ true
  pub holds : Holds w (body_word points order n) i

-- what is planned of node j + 1, from what is planned of node j; `Stood` of proofs/PlanLaws shows that it is `plan_of`
unfoldable pub follow : ℕ → Due → Due
follow j d =
    cond (ltb (d.next + 16) d.top)
    (record { level = d.level; head = d.head; next = d.next + 16; top = d.top })
    (record { level = d.level + 1; head = j + 1; next = d.head; top = j + 1 })

-- word f of a node of which d is planned, as it is made from a sheet w that is written up to it: a leaf's box from the points, any other from the boxes of
-- the nodes that it covers; `read_is` of proofs/PackedLaws shows that it is `node_word`
unfoldable pub node_read : List ℤ → ℕ → Due → ℕ → ℤ
node_read w n d f =
    cond (eqb f 0) (pos d.level)
    (cond (eqb f 1) (pos d.next)
    (cond (eqb f 2) (pos (plan_count d)) (best (f - 3) (part_of w n (eqb d.level 0) (f - 3)) d.next (plan_count d - 1))))

-- its first three words, which no word written before it tells
abbrev pub head_words : Due → List ℤ
head_words d = pos d.level ∷ pos d.next ∷ pos (plan_count d) ∷ []

-- w with four sides written from k on
unfoldable pub sides_put : List ℤ → ℕ → Sides → List ℤ
sides_put w k o = take k w ++ ((o.xmin ∷ o.ymin ∷ o.xmax ∷ o.ymax ∷ []) ++ drop (k + 4) w)
