-- What a right table of nodes says of the tree: what a node covers stands one level down and before it in the table, and a leaf covers places below n.
-- Assumes nothing.
use mathlib.Core.Path.{◌≡◌, refl, sym, ap, subst, subst⁻¹, ◌∙◌}
use mathlib.Core.Bool.{Bool, true, false, not, cond, ◌&&◌, ◌||◌, beq}
use mathlib.Core.Logic.{⊎_elim}
use mathlib.Core.List.{List}
use Prim.Native.Nat.{ℕ, zero, suc, ◌+◌, ◌-◌, ◌<◌, ◌≤◌}
use native.Mathlib.Omega.{arith}
use native.Mathlib.Nat.{eq-or-lt_of_le}
use lib.Dec.{ltb, eqb}
use lib.IntN.{ℤ, pos}
use borrow.Author.Tests.{ltb-true, eqb-true, eq-eqb}
use Rattle.words.specs.Word.{within, eq_z}
use Rattle.integers.proofs.Bools.{and_left, and_right, decide}
use Rattle.words.proofs.Signs.{is_num, is_word, within_num}
use Rattle.words.proofs.AllLaws.{all_at}
use Rattle.sheet.specs.declared.Due.{Due}
use Rattle.sheet.specs.Nodes.{level_word, first_word, count_word, level_of, first_of, count_of, same_level, due_next, due_of, run_ok, is_last, end_ok, node_rule, node_ok, table_ok}

-- the level and the run of node j are those that are due
pub record Run (w : List ℤ) (n : ℕ) (d : Due) (j : ℕ) : Type 0 where
  pub low : d.level < 8
  pub word : level_word w n j ≡ pos d.level
  pub level : level_of w n j ≡ d.level
  pub first : first_of w n j ≡ d.next
  pub some : 1 ≤ count_of w n j
  pub few : count_of w n j ≤ 16

pub run_facts : (w : List ℤ) (n : ℕ) (d : Due) (j : ℕ) → run_ok w n d j ≡ true → Run w n d j
unfolding run_ok level_of first_of count_of
run_facts w n d j e =
    let t = ltb d.level 8 in
    let a = eq_z (level_word w n j) (pos d.level) in
    let b = eq_z (first_word w n j) (pos d.next) in
    let k = within (pos 1) (pos 16) (count_word w n j) in
    let e₁ = and_left (t && a && b) k e in
    let e₂ = and_left (t && a) b e₁ in
    let r = within_num 1 16 (count_word w n j) (and_right (t && a && b) k e) in
    record {
      low = ltb-true d.level 8 (and_left t a e₂);
      word = is_word (level_word w n j) d.level (and_right t a e₂);
      level = is_num (level_word w n j) d.level (and_right t a e₂);
      first = is_num (first_word w n j) d.next (and_right (t && a) b e₁);
      some = r.0;
      few = r.1;
    }

pub end_facts : (w : List ℤ) (n m : ℕ) (d : Due) (j : ℕ) → end_ok w n m d j ≡ true → is_last w n m j ≡ true → first_of w n j + count_of w n j ≡ d.top
unfolding end_ok
end_facts w n m d j e l =
    let x = eqb (first_of w n j + count_of w n j) d.top in
    let y = beq (eqb d.head j) (eqb (j + 1) m) in
    eqb-true _ _ (and_left x y (subst (λ (b : Bool). cond b (x && y) true ≡ true) l e))

-- node j + 1 stands on the level of node j, or begins the next
pub due_same : (w : List ℤ) (n j : ℕ) → same_level w n j ≡ true → due_of w n (suc j) ≡ record { level = (due_of w n j).level; head = (due_of w n j).head; next = first_of w n j + count_of w n j; top = (due_of w n j).top }
unfolding due_of due_next
due_same w n j e = rw e

pub due_up : (w : List ℤ) (n j : ℕ) → same_level w n j ≡ false → due_of w n (suc j) ≡ record { level = (due_of w n j).level + 1; head = j + 1; next = (due_of w n j).head; top = j + 1 }
unfolding due_of due_next
due_up w n j e = rw e

pub last_end : (w : List ℤ) (n m j : ℕ) → j + 1 ≡ m → is_last w n m j ≡ true
unfolding is_last
last_end w n m j e = rw (eq-eqb (j + 1) m e)

pub not_last : (w : List ℤ) (n m j : ℕ) → is_last w n m j ≡ false → same_level w n j ≡ true
unfolding is_last
not_last w n m j e = go (eqb (j + 1) m) (same_level w n j) e
  where
    go : (a b : Bool) → (a || not b) ≡ false → b ≡ true
    go a true e = refl
    go true false e = sym e
    go false false e = sym e

-- what stands on the level of node j, and below it
pub record Stands (w : List ℤ) (n j : ℕ) (d : Due) : Type 0 where
  pub head_le : d.head ≤ j
  pub mates : (i : ℕ) → d.head ≤ i → i ≤ j → level_of w n i ≡ d.level
  pub below : (i : ℕ) → 0 < d.level → d.next ≤ i → i < d.top → (suc (level_of w n i) ≡ d.level) × (i < j)
  pub ground : d.level ≡ 0 → d.top ≡ n

stands_same : (w : List ℤ) (n j : ℕ) (d : Due) → Run w n d j → level_of w n (suc j) ≡ d.level → Stands w n j d → Stands w n (suc j) (record { level = d.level; head = d.head; next = first_of w n j + count_of w n j; top = d.top })
stands_same w n j d r e s =
    record {
      head_le = omega (arith, s.head_le);
      mates = λ i a b. ⊎_elim (λ (q : i ≡ suc j). ap (level_of w n) q ∙ e) (λ (q : i < suc j). s.mates i a (omega arith)) (eq-or-lt_of_le b);
      below = λ i p a b. let x = s.below i p (omega (arith, r.first)) b in (x.0, omega (arith, x.1));
      ground = s.ground;
    }

stands_up : (w : List ℤ) (n j : ℕ) (d : Due) → level_of w n (suc j) ≡ d.level + 1 → Stands w n j d → Stands w n (suc j) (record { level = d.level + 1; head = j + 1; next = d.head; top = j + 1 })
stands_up w n j d e s =
    record {
      head_le = omega arith;
      mates = λ i a b. let q : i ≡ suc j = omega arith in ap (level_of w n) q ∙ e;
      below = λ i p a b. let x = s.mates i a (omega arith) in (omega arith, omega arith);
      ground = λ z. absurd (omega arith);
    }

module _ (w : List ℤ) (n m : ℕ) (ok : table_ok w n m ≡ true) where
  pub run_at : (j : ℕ) → j < m → Run w n (due_of w n j) j
  unfolding table_ok node_ok node_rule
  run_at j h = run_facts w n (due_of w n j) j (and_left (run_ok w n (due_of w n j) j) (end_ok w n m (due_of w n j) j) (all_at (node_ok w n m) m ok j h))

  pub end_at : (j : ℕ) → j < m → is_last w n m j ≡ true → first_of w n j + count_of w n j ≡ (due_of w n j).top
  unfolding table_ok node_ok node_rule
  end_at j h l = end_facts w n m (due_of w n j) j (and_right (run_ok w n (due_of w n j) j) (end_ok w n m (due_of w n j) j) (all_at (node_ok w n m) m ok j h)) l

  -- a run does not pass its level's top
  run_top' : (t j : ℕ) → j + suc t ≡ m → first_of w n j + count_of w n j ≤ (due_of w n j).top
  run_top' zero j e = let q = end_at j (omega arith) (last_end w n m j (omega arith)) in omega arith
  run_top' (suc t) j e =
      ⊎_elim
      (λ (l : is_last w n m j ≡ true). let q = end_at j (omega arith) l in omega arith)
      (λ (l : is_last w n m j ≡ false).
      let d = due_same w n j (not_last w n m j l) in
      let ih = run_top' t (suc j) (omega arith) in
      let r = run_at (suc j) (omega arith) in
      omega (arith, ap (λ (x : Due). x.next) d, ap (λ (x : Due). x.top) d))
      (decide (is_last w n m j))

  pub stands : (j : ℕ) → j < m → Stands w n j (due_of w n j)
  unfolding due_of
  stands zero h =
      record {
        head_le = omega arith;
        mates = λ i a b. let r = run_at 0 h in let z : i ≡ 0 = omega arith in ap (level_of w n) z ∙ r.level;
        below = λ i p a b. absurd (omega arith);
        ground = λ e. refl;
      }
  stands (suc j) h =
      let s = stands j (omega arith) in
      let r' = run_at (suc j) h in
      ⊎_elim
      (λ (e : same_level w n j ≡ true).
      let q = due_same w n j e in
      subst⁻¹ (Stands w n (suc j)) q (stands_same w n j (due_of w n j) (run_at j (omega arith)) (r'.level ∙ ap (λ (x : Due). x.level) q) s))
      (λ (e : same_level w n j ≡ false).
      let q = due_up w n j e in
      subst⁻¹ (Stands w n (suc j)) q (stands_up w n j (due_of w n j) (r'.level ∙ ap (λ (x : Due). x.level) q) s))
      (decide (same_level w n j))

  pub run_top : (j : ℕ) → j < m → first_of w n j + count_of w n j ≤ (due_of w n j).top
  run_top j h = run_top' (m - suc j) j (omega arith)

  -- what a node above level 0 covers stands one level down, and before it in the table
  pub child : (j l : ℕ) → j < m → level_of w n j ≡ suc l → (k : ℕ) → first_of w n j ≤ k → k < first_of w n j + count_of w n j → (level_of w n k ≡ l) × (k < j)
  child j l h e k a b =
      let r = run_at j h in
      let t = run_top j h in
      let x = (stands j h).below k (omega (arith, r.level)) (omega (arith, r.first)) (omega arith) in
      (omega (arith, x.0, r.level), x.1)

  -- a leaf covers places below n
  pub leaf : (j : ℕ) → j < m → level_of w n j ≡ 0 → (k : ℕ) → k < first_of w n j + count_of w n j → k < n
  leaf j h e k b =
      let r = run_at j h in
      let t = run_top j h in
      let g = (stands j h).ground (sym r.level ∙ e) in
      omega arith
