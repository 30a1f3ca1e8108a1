-- The page maker's count is that of the walks, done one after the other up to the first pair beyond the size.
-- Assumes nothing.
use mathlib.Core.Path.{◌≡◌, refl, sym, ap, ◌∙◌}
use mathlib.Core.Bool.{Bool, true, false, cond}
use mathlib.Core.Logic.{⊎_elim}
use mathlib.Core.List.{List, [], ◌∷◌, ◌++◌}
use Prim.Native.Nat.{ℕ, zero, suc, ◌+◌, ◌-◌}
use native.Mathlib.Omega.{arith}
use lib.Dec.{ltb}
use borrow.Author.Tests.{ltb-true, ltb-false}
use Rattle.integers.proofs.Bools.{decide}
use Rattle.list.specs.declared.Key.{Key}
use Rattle.list.specs.declared.Pair.{Pair}
use Rattle.list.specs.Pairs.{key_of, follows}
use Rattle.join.specs.declared.Draft.{Draft}
use Rattle.join.specs.Walks.{Walks}
use Rattle.join.specs.Work.{DoneWalk, first_from, ring_steps, steps, spent_on, page_opened}
use Rattle.join.specs.Maker.{spent, found, with_tried, tried, partner, partners, chamber, chambers, blank, page_made}

-- the count in the end, if the walks of `l` are still to be done
due : ℕ → List DoneWalk → Draft → ℕ
due size l d = cond d.more d.opened (d.opened + spent_on (size - d.count) l)

due_more : (size : ℕ) (l : List DoneWalk) (d : Draft) → d.more ≡ true → due size l d ≡ d.opened
unfolding due
due_more size l d e = rw e

due_on : (size : ℕ) (l : List DoneWalk) (d : Draft) → d.more ≡ false → due size l d ≡ d.opened + spent_on (size - d.count) l
unfolding due
due_on size l d e = rw e

due_none : (size : ℕ) (d : Draft) → due size [] d ≡ d.opened
unfolding due spent_on
due_none size d = ⊎_elim (λ (e : d.more ≡ true). rw e) (λ (e : d.more ≡ false). rw e (omega arith)) (decide d.more)

-- a walk that finds nothing
quiet : (size o : ℕ) (l : List DoneWalk) → spent_on size (record { opened = o; finds = false } ∷ l) ≡ o + spent_on size l
unfolding spent_on
quiet zero o l = refl
quiet (suc size) o l = refl

due_quiet : (size o : ℕ) (l : List DoneWalk) (d : Draft) → d.more ≡ false → due size l (spent o d) ≡ due size (record { opened = o; finds = false } ∷ l) d
due_quiet size o l d e =
    due_on size l (spent o d) e ∙ omega (arith, quiet (size - d.count) o l, due_on size (record { opened = o; finds = false } ∷ l) d e)

-- one that finds a pair
due_finds : (size o : ℕ) (v : Pair) (l : List DoneWalk) (d : Draft) → d.more ≡ false → due size l (found size v (spent o d)) ≡ due size (record { opened = o; finds = true } ∷ l) d
unfolding due found spent_on
due_finds size o v l d e =
    ⊎_elim
    (λ (f : ltb d.count size ≡ true).
    let z : size - d.count ≡ suc (size - (d.count + 1)) = omega (arith, ltb-true d.count size f) in
    rw (f, e, z) (omega arith))
    (λ (f : ltb d.count size ≡ false).
    let z : size - d.count ≡ 0 = omega (arith, ltb-false d.count size f) in
    rw (f, e, z) (omega arith))
    (decide (ltb d.count size))

module _ (w : Walks) (key : Key) (size : ℕ) where
  partner_due : (j k i : ℕ) (l : List DoneWalk) (d : Draft) → d.more ≡ false
      → due size (ring_steps w key j k (i + 1) ++ l) (partner w key size j i d) ≡ due size (ring_steps w key j (suc k) i ++ l) d
  unfolding partner with_tried tried ring_steps
  partner_due j k i l d m =
      let s = ring_steps w key j k (i + 1) ++ l in
      let o = w.clear_opened j i in
      ⊎_elim
      (λ (e : w.kept j i ≡ true).
      ⊎_elim
      (λ (f : follows key (key_of (w.pair j i)) ≡ true).
      ⊎_elim
      (λ (c : w.clear j i ≡ true). rw (e, f, c) (due_finds size o (w.pair j i) s d m))
      (λ (c : w.clear j i ≡ false). rw (e, f, c) (due_quiet size o s d m))
      (decide (w.clear j i)))
      (λ (f : follows key (key_of (w.pair j i)) ≡ false). rw (e, f) (due_on size s (spent 0 d) m ∙ omega (arith, due_on size s d m)))
      (decide (follows key (key_of (w.pair j i)))))
      (λ (e : w.kept j i ≡ false). rw e)
      (decide (w.kept j i))

  partners_due : (j k i : ℕ) (l : List DoneWalk) (d : Draft) → due size l (partners w key size j k i d) ≡ due size (ring_steps w key j k i ++ l) d
  unfolding partners
  partners_due j zero i l d = nothing
    where
      nothing : due size l d ≡ due size (ring_steps w key j zero i ++ l) d
      nothing = unfold ring_steps in refl
  partners_due j (suc k) i l d =
      ⊎_elim
      (λ (e : d.more ≡ true).
      ap (λ (t : Bool). due size l (cond t d (partners w key size j k (i + 1) (partner w key size j i d)))) e
      ∙ due_more size l d e
      ∙ sym (due_more size (ring_steps w key j (suc k) i ++ l) d e))
      (λ (e : d.more ≡ false).
      ap (λ (t : Bool). due size l (cond t d (partners w key size j k (i + 1) (partner w key size j i d)))) e
      ∙ partners_due j k (i + 1) l (partner w key size j i d)
      ∙ partner_due j k i l d e)
      (decide d.more)

  chamber_due : (n j : ℕ) (l : List DoneWalk) (d : Draft) → d.more ≡ false
      → due size l (chamber w key size n j d) ≡ due size (record { opened = w.kept_opened j; finds = false } ∷ (ring_steps w key j n 0 ++ l)) d
  unfolding chamber
  chamber_due n j l d e =
      partners_due j n 0 l (spent (w.kept_opened j) d) ∙ due_quiet size (w.kept_opened j) (ring_steps w key j n 0 ++ l) d e

  chambers_due : (n k j : ℕ) (d : Draft) → due size [] (chambers w key size n k j d) ≡ due size (steps w key n k j) d
  unfolding chambers steps
  chambers_due n zero j d = refl
  chambers_due n (suc k) j d =
      ⊎_elim
      (λ (e : d.more ≡ true).
      ap (λ (t : Bool). due size [] (cond t d (chambers w key size n k (j + 1) (chamber w key size n j d)))) e
      ∙ due_more size [] d e
      ∙ sym (due_more size (record { opened = w.kept_opened j; finds = false } ∷ (ring_steps w key j n 0 ++ steps w key n k (j + 1))) d e))
      (λ (e : d.more ≡ false).
      ap (λ (t : Bool). due size [] (cond t d (chambers w key size n k (j + 1) (chamber w key size n j d)))) e
      ∙ chambers_due n k (j + 1) (chamber w key size n j d)
      ∙ chamber_due n j (steps w key n k (j + 1)) d e)
      (decide d.more)

  -- the maker's count of nodes opened is the defined one
  pub maker_opened : (np nq : ℕ) → (page_made w key size np nq).opened ≡ page_opened w key size np nq
  unfolding page_made page_opened due
  maker_opened np nq =
      let from = first_from w.qid key nq in
      let z : size - 0 ≡ size = omega arith in
      sym (due_none size (chambers w key size np (nq - from) from blank))
      ∙ chambers_due np (nq - from) from blank
      ∙ ap (λ (n : ℕ). 0 + spent_on n (steps w key np (nq - from) from)) z
      ∙ omega arith
