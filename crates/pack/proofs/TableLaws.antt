-- The packer's table is right: whatever list has the planned level, first and count words passes refusal 7's test.
-- Assumes nothing.
use mathlib.Core.Path.{◌≡◌, refl, sym, ap, subst, ◌∙◌}
use mathlib.Core.Bool.{Bool, true, false, not, ◌||◌, beq}
use mathlib.Core.Logic.{⊎_elim}
use mathlib.Core.List.{List}
use Prim.Native.Nat.{ℕ, zero, suc, ◌+◌, ◌*◌, ◌-◌, ◌<◌, ◌≤◌, min}
use native.Mathlib.Nat.{eq-or-lt_of_le}
use native.Mathlib.Numerals.{add-one}
use native.Mathlib.Omega.{arith}
use lib.Dec.{ltb, eqb}
use lib.IntN.{ℤ, pos}
use borrow.Author.Tests.{lt-ltb, le-ltb, ltb-true, ltb-false, le-leb, eq-eqb, ne_eqb}
use Rattle.words.specs.Word.{eq_z, num, within}
use Rattle.integers.proofs.Bools.{decide, clash, and_both}
use Rattle.words.proofs.Signs.{eq_eq_z}
use Rattle.words.proofs.AllLaws.{all_make}
use Rattle.sheet.specs.declared.Due.{Due}
use Rattle.sheet.specs.Nodes.{level_word, first_word, count_word, level_of, first_of, count_of, same_level, due_of, run_ok, is_last, end_ok, node_rule, node_ok, table_ok}
use Rattle.sheet.proofs.TreeLaws.{due_same, due_up, child, leaf}
use Rattle.pack.specs.Tree.{width, ground_level, nodes_from, nodes_for, node_on, node_from, plan_of, plan_count}
use Rattle.pack.proofs.PlanLaws.{due_ext, wide, Stood, stood, follow_same, follow_up, reach, level_low, node_top, nodes_few, nodes_some}

pub num_of : (z : ℤ) (a : ℕ) → z ≡ pos a → num z ≡ a
unfolding num
num_of z a e = rw e

-- ---- the plan over n points

pub node_stood : (n j : ℕ) → j < nodes_for n → Stood (plan_of n (j + 1)) j (nodes_for n) (plan_of n j)
unfolding plan_of nodes_for ground_level nodes_from
node_stood zero j h = absurd (none h)
  where
    none : j < nodes_for zero → ⊥
    none x = omega arith
node_stood (suc n) j h = stood (suc n) (ground_level (suc n)) j (nodes_for (suc n)) (omega arith) (omega arith) (omega arith) (omega arith) h

-- the first node of all
pub plan_zero : (n : ℕ) → 0 < nodes_for n → plan_of n 0 ≡ ground_level n
unfolding plan_of nodes_for nodes_from node_from ground_level node_on
plan_zero zero h = absurd (omega arith)
plan_zero (suc n) h = rw (lt-ltb 0 (0 + width (ground_level (suc n))) (omega (arith, (wide (ground_level (suc n))).over)))

-- a node covers 16 where more is left, and the rest else
pub count_whole : (d : Due) → d.next + 16 < d.top → plan_count d ≡ 16
unfolding plan_count
count_whole d h = rw (lt-ltb (d.next + 16) d.top h)

pub count_rest : (d : Due) → d.top ≤ d.next + 16 → plan_count d ≡ d.top - d.next
unfolding plan_count
count_rest d h = rw (le-ltb (d.next + 16) d.top h)

pub count_range : (d : Due) → d.next < d.top → (1 ≤ plan_count d) × (plan_count d ≤ 16)
count_range d h =
    ⊎_elim
    (λ (e : ltb (d.next + 16) d.top ≡ true). let q = count_whole d (ltb-true (d.next + 16) d.top e) in (omega arith, omega arith))
    (λ (e : ltb (d.next + 16) d.top ≡ false).
    let g = ltb-false (d.next + 16) d.top e in
    let q = count_rest d g in (omega arith, omega arith))
    (decide (ltb (d.next + 16) d.top))

pub count_min : (d : Due) → min (d.top - d.next) 16 ≡ plan_count d
count_min d =
    ⊎_elim
    (λ (e : ltb (d.next + 16) d.top ≡ true). let g = ltb-true (d.next + 16) d.top e in omega (arith, count_whole d g))
    (λ (e : ltb (d.next + 16) d.top ≡ false). let g = ltb-false (d.next + 16) d.top e in omega (arith, count_rest d g))
    (decide (ltb (d.next + 16) d.top))

-- at most 7 levels above the first, up to 16 to the eighth points
pub plan_level : (n j : ℕ) → n ≤ 4294967296 → j < nodes_for n → (plan_of n j).level < 8
unfolding plan_of nodes_for ground_level reach nodes_from
plan_level zero j g h = absurd (none h)
  where
    none : j < nodes_for zero → ⊥
    none x = omega arith
plan_level (suc n) j g h = let l = level_low 7 (suc n) (ground_level (suc n)) j (omega arith) (omega arith) (omega arith) (omega arith) in omega arith

pub plan_few : (n : ℕ) → 5 * nodes_for n ≤ n + 15
unfolding nodes_for ground_level
plan_few n = omega (arith, nodes_few n (ground_level n))

pub plan_top : (n j b : ℕ) → n ≤ b → j ≤ b → (plan_of n j).top ≤ b
unfolding plan_of ground_level
plan_top n j b g h = node_top n (ground_level n) j b g h

-- a planned node's numbers are small
pub plan_fits : (n j : ℕ) (d : Due) → n ≤ 60000 → j < nodes_for n → d ≡ plan_of n j → (d.level < 8) × (d.next < d.top) × (d.top ≤ 60000)
plan_fits n j d g h e =
    subst (λ (x : Due). (x.level < 8) × (x.next < x.top) × (x.top ≤ 60000)) (sym e)
    (plan_level n j (omega arith) h, (node_stood n j h).some, plan_top n j 60000 g (omega (arith, plan_few n)))

pub plan_some : (n : ℕ) → 0 < n → 0 < nodes_for n
unfolding nodes_for ground_level
plan_some n h = omega (arith, nodes_some n (ground_level n) (omega arith) (omega arith))

-- ---- a list whose nodes have the planned words

pub record Planned (w : List ℤ) (n : ℕ) : Type 0 where
  pub levels : (j : ℕ) → j < nodes_for n → level_word w n j ≡ pos (plan_of n j).level
  pub firsts : (j : ℕ) → j < nodes_for n → first_word w n j ≡ pos (plan_of n j).next
  pub counts : (j : ℕ) → j < nodes_for n → count_word w n j ≡ pos (plan_count (plan_of n j))

same_is : (w : List ℤ) (n j a b : ℕ) → level_word w n (j + 1) ≡ pos a → level_word w n j ≡ pos b → same_level w n j ≡ eqb a b
unfolding same_level eq_z
same_is w n j a b e f = rw (e, f)

-- a node with the words that are due passes
run_right : (w : List ℤ) (n : ℕ) (d : Due) (j c : ℕ) → d.level < 8 → level_word w n j ≡ pos d.level → first_word w n j ≡ pos d.next → count_word w n j ≡ pos c → 1 ≤ c → c ≤ 16 → run_ok w n d j ≡ true
unfolding run_ok within
run_right w n d j c g a b e x y =
    rw (lt-ltb d.level 8 g, eq_eq_z _ _ a, eq_eq_z _ _ b, e, le-leb 1 c x, le-leb c 16 y)

end_right : (w : List ℤ) (n m : ℕ) (d : Due) (j : ℕ) → (is_last w n m j ≡ true → (first_of w n j + count_of w n j ≡ d.top) × (eqb d.head j ≡ eqb (j + 1) m)) → end_ok w n m d j ≡ true
unfolding end_ok
end_right w n m d j f =
    ⊎_elim
    (λ (l : is_last w n m j ≡ true). rw (l, eq-eqb _ _ (f l).0, (f l).1) (beq_self (eqb (j + 1) m)))
    (λ (l : is_last w n m j ≡ false). rw l)
    (decide (is_last w n m j))
  where
    beq_self : (b : Bool) → beq b b ≡ true
    beq_self true = refl
    beq_self false = refl

-- the last of a level that is not the last of all
last_inner : (w : List ℤ) (n m j : ℕ) → j + 1 < m → is_last w n m j ≡ true → same_level w n j ≡ false
unfolding is_last
last_inner w n m j h e = go (same_level w n j) (rw (ne_eqb (j + 1) m (λ (x : j + 1 ≡ m). omega arith)) at e)
  where
    go : (b : Bool) → (false || not b) ≡ true → b ≡ false
    go true e = sym e
    go false e = refl

module _ (w : List ℤ) (n : ℕ) (p : Planned w n) where
  pub first_is : (j : ℕ) → j < nodes_for n → first_of w n j ≡ (plan_of n j).next
  unfolding first_of
  first_is j h = num_of _ _ (p.firsts j h)

  pub pack_count_is : (j : ℕ) → j < nodes_for n → count_of w n j ≡ plan_count (plan_of n j)
  unfolding count_of
  pack_count_is j h = num_of _ _ (p.counts j h)

  -- the next node stands on the same level where this one leaves something to cover
  same_more : (j : ℕ) → j + 1 < nodes_for n → (plan_of n j).next + 16 < (plan_of n j).top → same_level w n j ≡ true
  same_more j h g =
      let x = plan_of n j in
      let e = (node_stood n j (omega arith)).onward h ∙ follow_same j x g in
      same_is w n j _ _ (p.levels (j + 1) h) (p.levels j (omega arith)) ∙ eq-eqb _ _ (ap (λ (d : Due). d.level) e)

  same_none : (j : ℕ) → j + 1 < nodes_for n → (plan_of n j).top ≤ (plan_of n j).next + 16 → same_level w n j ≡ false
  same_none j h g =
      let x = plan_of n j in
      let e = ap (λ (d : Due). d.level) ((node_stood n j (omega arith)).onward h ∙ follow_up j x g) in
      same_is w n j _ _ (p.levels (j + 1) h) (p.levels j (omega arith)) ∙ ne_eqb (plan_of n (j + 1)).level x.level (λ (z : (plan_of n (j + 1)).level ≡ x.level). omega arith)

  -- what is due of a node is what is planned
  due_plan : (j : ℕ) → j < nodes_for n → due_of w n j ≡ plan_of n j
  unfolding due_of ground_level
  due_plan zero h = sym (plan_zero n h)
  due_plan (suc j) h =
      let x = plan_of n j in
      let i = due_plan j (omega arith) in
      let s = node_stood n j (omega arith) in
      let z : plan_of n (j + 1) ≡ plan_of n (suc j) = ap (plan_of n) (add-one j) in
      ⊎_elim
      (λ (e : ltb (x.next + 16) x.top ≡ true).
      let g = ltb-true (x.next + 16) x.top e in
      due_same w n j (same_more j (omega arith) g)
      ∙ due_ext _ _ (ap (λ (d : Due). d.level) i) (ap (λ (d : Due). d.head) i) (omega (arith, first_is j (omega arith), pack_count_is j (omega arith), count_whole x g)) (ap (λ (d : Due). d.top) i)
      ∙ sym (follow_same j x g) ∙ sym (s.onward (omega arith)) ∙ z)
      (λ (e : ltb (x.next + 16) x.top ≡ false).
      let g = ltb-false (x.next + 16) x.top e in
      due_up w n j (same_none j (omega arith) g)
      ∙ due_ext _ _ (ap (λ (d : Due). d.level + 1) i) refl (ap (λ (d : Due). d.head) i) refl
      ∙ sym (follow_up j x g) ∙ sym (s.onward (omega arith)) ∙ z)
      (decide (ltb (x.next + 16) x.top))

  -- the end of a level
  end_plan : (j : ℕ) → j < nodes_for n → is_last w n (nodes_for n) j ≡ true → ((plan_of n j).next + plan_count (plan_of n j) ≡ (plan_of n j).top) × (eqb (plan_of n j).head j ≡ eqb (j + 1) (nodes_for n))
  end_plan j h l =
      let x = plan_of n j in
      let s = node_stood n j h in
      ⊎_elim
      (λ (e : j + 1 ≡ nodes_for n).
      let f = s.last e in
      (omega (arith, count_rest x f.0, s.some), eq-eqb x.head j f.1 ∙ sym (eq-eqb (j + 1) (nodes_for n) e)))
      (λ (e : j + 1 < nodes_for n).
      ⊎_elim
      (λ (g : ltb (x.next + 16) x.top ≡ true). clash (same_more j e (ltb-true (x.next + 16) x.top g)) (last_inner w n (nodes_for n) j e l))
      (λ (g : ltb (x.next + 16) x.top ≡ false).
      let u = ltb-false (x.next + 16) x.top g in
      let v = s.inner e u in
      (omega (arith, count_rest x u, s.some), ne_eqb x.head j (λ (z : x.head ≡ j). omega arith) ∙ sym (ne_eqb (j + 1) (nodes_for n) (λ (z : j + 1 ≡ nodes_for n). omega arith))))
      (decide (ltb (x.next + 16) x.top)))
      (eq-or-lt_of_le {n = j + 1} {m = nodes_for n} (omega arith))

  -- the planned table passes the test of refusal 7
  pub table_right : n ≤ 4294967296 → table_ok w n (nodes_for n) ≡ true
  unfolding table_ok node_ok node_rule
  table_right g =
      all_make (node_ok w n (nodes_for n)) (nodes_for n)
      (λ j h.
      let x = plan_of n j in
      let c = count_range x (node_stood n j h).some in
      rw (due_plan j h)
      (and_both _ _
      (run_right w n x j (plan_count x) (plan_level n j g h) (p.levels j h) (p.firsts j h) (p.counts j h) c.0 c.1)
      (end_right w n (nodes_for n) x j (λ l. let e = end_plan j h l in (omega (arith, first_is j h, pack_count_is j h, e.0), e.1)))))

  pub level_is : (j : ℕ) → j < nodes_for n → level_of w n j ≡ (plan_of n j).level
  unfolding level_of
  level_is j h = num_of _ _ (p.levels j h)

  -- so what a planned node above level 0 covers stands one level down and before it, and a leaf covers places
  pub plan_child : n ≤ 4294967296 → (j l : ℕ) → j < nodes_for n → (plan_of n j).level ≡ suc l → (k : ℕ) → (plan_of n j).next ≤ k → k < (plan_of n j).next + plan_count (plan_of n j) → ((plan_of n k).level ≡ l) × (k < j)
  plan_child g j l h e k a b =
      let c = child w n (nodes_for n) (table_right g) j l h (level_is j h ∙ e) k (omega (arith, first_is j h)) (omega (arith, first_is j h, pack_count_is j h)) in
      (sym (level_is k (omega (arith, c.1))) ∙ c.0, c.1)

  pub plan_leaf : n ≤ 4294967296 → (j : ℕ) → j < nodes_for n → (plan_of n j).level ≡ 0 → (k : ℕ) → k < (plan_of n j).next + plan_count (plan_of n j) → k < n
  plan_leaf g j h e k b = leaf w n (nodes_for n) (table_right g) j h (level_is j h ∙ e) k (omega (arith, first_is j h, pack_count_is j h))
