-- The packer's tree, level by level: what each node of the plan covers, how the next follows from it, and which is the last. For any number of levels.
-- Assumes nothing.
use mathlib.Core.Path.{◌≡◌, refl, sym, ap, ◌∙◌}
use mathlib.Core.Bool.{true, false}
use mathlib.Core.Logic.{⊎_elim}
use Prim.Native.Nat.{ℕ, zero, suc, ◌+◌, ◌*◌, ◌-◌, ◌<◌, ◌≤◌}
use native.Mathlib.Omega.{arith}
use lib.Dec.{ltb, leb}
use borrow.Author.Tests.{lt-ltb, le-ltb, ltb-true, ltb-false, leb-true, leb-false, le-leb, lt-leb}
use Rattle.integers.proofs.Bools.{decide}
use Rattle.sheet.specs.declared.Due.{Due}
use Rattle.pack.specs.Tree.{up16, width, ground_level, above, one_left, nodes_from, nodes_for, node_on, node_from}
use Rattle.pack.specs.Work.{follow}

-- two nodes with the same numbers are one
pub due_ext : (a b : Due) → a.level ≡ b.level → a.head ≡ b.head → a.next ≡ b.next → a.top ≡ b.top → a ≡ b
due_ext a b p q r s = go a.level b.level a.head b.head a.next b.next a.top b.top p q r s
  where
    go : (l l' h h' x x' t t' : ℕ) → l ≡ l' → h ≡ h' → x ≡ x' → t ≡ t' → ◌≡◌ {A = Due} (record { level = l; head = h; next = x; top = t }) (record { level = l'; head = h'; next = x'; top = t' })
    go l l' h h' x x' t t' p q r s = cc

-- the nodes of a level are as many as are needed, and no more
pub record Wide (s v : ℕ) : Type 0 where
  pub over : s ≤ 16 * v
  pub least : 16 * v < s + 16

pub wide : (d : Due) → Wide (d.top - d.next) (width d)
unfolding width up16
wide d = record { over = omega arith; least = omega arith }

-- a level's number of nodes: its own, where that is one or none, and else those above it too
one_yes : (d : Due) → width d ≤ 1 → one_left d ≡ true
unfolding one_left
one_yes d h = le-leb (width d) _ (omega arith)

one_no : (d : Due) → 1 < width d → one_left d ≡ false
unfolding one_left
one_no d h = lt-leb (width d) _ (omega arith)

nodes_one : (f : ℕ) (d : Due) → width d ≤ 1 → nodes_from (suc f) d ≡ width d
unfolding nodes_from
nodes_one f d h = rw (one_yes d h) (omega arith)

nodes_more : (f : ℕ) (d : Due) → 1 < width d → nodes_from (suc f) d ≡ width d + nodes_from f (above d)
unfolding nodes_from
nodes_more f d h = rw (one_no d h)

above_width : (d : Due) → Wide (width d) (width (above d))
unfolding above
above_width d = let w = wide (above d) in record { over = omega (arith, w.over); least = omega (arith, w.least) }

pub nodes_some : (f : ℕ) (d : Due) → d.next < d.top → d.top - d.next ≤ f → 1 ≤ nodes_from f d
unfolding nodes_from
nodes_some zero d g h = absurd (omega arith)
nodes_some (suc f) d g h = omega (arith, (wide d).over)

-- a node that stands on the level, and one that stands above it
node_here : (f : ℕ) (d : Due) (j : ℕ) → j < d.head + width d → node_from (suc f) d j ≡ node_on d (j - d.head)
unfolding node_from
node_here f d j h = rw (lt-ltb j (d.head + width d) h)

node_up : (f : ℕ) (d : Due) (j : ℕ) → d.head + width d ≤ j → node_from (suc f) d j ≡ node_from f (above d) j
unfolding node_from
node_up f d j h = rw (le-ltb j (d.head + width d) h)

-- the node after node j, of which x is planned: the next run of its level, or the first of the level above
pub follow_same : (j : ℕ) (x : Due) → x.next + 16 < x.top → follow j x ≡ record { level = x.level; head = x.head; next = x.next + 16; top = x.top }
unfolding follow
follow_same j x h = rw (lt-ltb (x.next + 16) x.top h)

pub follow_up : (j : ℕ) (x : Due) → x.top ≤ x.next + 16 → follow j x ≡ record { level = x.level + 1; head = j + 1; next = x.head; top = j + 1 }
unfolding follow
follow_up j x h = rw (le-ltb (x.next + 16) x.top h)

-- what holds of node j, of which x is planned, in a tree of m nodes
pub record Stood (y : Due) (j m : ℕ) (x : Due) : Type 0 where
  pub some : x.next < x.top
  pub head_le : x.head ≤ j
  pub onward : j + 1 < m → y ≡ follow j x
  pub last : j + 1 ≡ m → (x.top ≤ x.next + 16) × (x.head ≡ j)
  pub inner : j + 1 < m → x.top ≤ x.next + 16 → x.head < j

-- it goes from the level above down
stood_up : (f : ℕ) (d : Due) (j m : ℕ) → d.head + width d ≤ j → Stood (node_from f (above d) (j + 1)) j m (node_from f (above d) j) → Stood (node_from (suc f) d (j + 1)) j m (node_from (suc f) d j)
stood_up f d j m h s = rw (node_up f d j h, node_up f d (j + 1) (omega arith)) s

-- the first node of the level above
first_above : (f : ℕ) (d : Due) (j : ℕ) → 1 ≤ f → 0 < width d → j ≡ d.head + width d → node_from f (above d) j ≡ record { level = d.level + 1; head = j; next = d.head; top = j }
unfolding node_on above
first_above zero d j g h e = absurd (omega arith)
first_above (suc f) d j g h e =
    node_here f (above d) j (omega (arith, a, b.over)) ∙ due_ext _ _ z1 z2 z3 z4
  where
    b : Wide (width d) (width (above d))
    b = above_width d

    a : (above d).head ≡ d.head + width d
    a = refl

    z1 : (node_on (above d) (j - (above d).head)).level ≡ d.level + 1
    z1 = refl

    z2 : (node_on (above d) (j - (above d).head)).head ≡ j
    z2 = sym e

    z3 : (node_on (above d) (j - (above d).head)).next ≡ d.head
    z3 = omega arith

    z4 : (node_on (above d) (j - (above d).head)).top ≡ j
    z4 = sym e

-- a node of the level itself
module _ (f : ℕ) (d : Due) (j m : ℕ) (some : d.next < d.top) (fuel : d.top - d.next ≤ suc f) (low : d.head ≤ j) (high : j < d.head + width d) where
  here : Stood (node_from (suc f) d (j + 1)) j m (node_on d (j - d.head)) → Stood (node_from (suc f) d (j + 1)) j m (node_from (suc f) d j)
  here s = rw (node_here f d j high) s

  here_one : width d ≤ 1 → m ≡ d.head + nodes_from (suc f) d → Stood (node_from (suc f) d (j + 1)) j m (node_on d (j - d.head))
  unfolding node_on
  here_one h e =
      let w = wide d in
      let q = nodes_one f d h in
      record {
        some = omega (arith, w.least);
        head_le = low;
        onward = λ x. absurd (omega arith);
        last = λ x. (omega (arith, w.over), omega arith);
        inner = λ x y. absurd (omega arith);
      }

  here_more : 1 < width d → m ≡ d.head + nodes_from (suc f) d → Stood (node_from (suc f) d (j + 1)) j m (node_on d (j - d.head))
  unfolding node_on above
  here_more h e =
      let w = wide d in
      let q = nodes_more f d h in
      record {
        some = omega (arith, w.least);
        head_le = low;
        onward = λ x. next;
        last = λ x. absurd (omega (arith, ups));
        inner = λ x y. omega (arith, w.least);
      }
    where
      ups : 1 ≤ nodes_from f (above d)
      ups = nodes_some f (above d) (omega arith) (omega (arith, (wide d).least))

      next : node_from (suc f) d (j + 1) ≡ follow j (node_on d (j - d.head))
      next =
          ⊎_elim
          (λ (x : ltb (j + 1) (d.head + width d) ≡ true).
          let g = ltb-true (j + 1) (d.head + width d) x in
          node_here f d (j + 1) g ∙ due_ext _ _ refl refl (omega arith) refl ∙ sym (follow_same j (node_on d (j - d.head)) (omega (arith, (wide d).least))))
          (λ (x : ltb (j + 1) (d.head + width d) ≡ false).
          let g = ltb-false (j + 1) (d.head + width d) x in
          node_up f d (j + 1) g
          ∙ first_above f d (j + 1) (omega (arith, (wide d).least)) (omega arith) (omega arith)
          ∙ sym (follow_up j (node_on d (j - d.head)) (omega (arith, (wide d).over))))
          (decide (ltb (j + 1) (d.head + width d)))

-- every node of a level and of those above it
pub stood : (f : ℕ) (d : Due) (j m : ℕ) → d.next < d.top → d.top - d.next ≤ f → d.head ≤ j → m ≡ d.head + nodes_from f d → j < m → Stood (node_from f d (j + 1)) j m (node_from f d j)
unfolding above
stood zero d j m g h l e b = absurd (omega arith)
stood (suc f) d j m g h l e b =
    ⊎_elim
    (λ (x : ltb j (d.head + width d) ≡ true).
    let u = ltb-true j (d.head + width d) x in
    here f d j m g h l u
    (⊎_elim
    (λ (y : leb (width d) 1 ≡ true). here_one f d j m g h l u (leb-true (width d) 1 y) e)
    (λ (y : leb (width d) 1 ≡ false). here_more f d j m g h l u (leb-false (width d) 1 y) e)
    (decide (leb (width d) 1))))
    (λ (x : ltb j (d.head + width d) ≡ false).
    let u = ltb-false j (d.head + width d) x in
    ⊎_elim
    (λ (y : leb (width d) 1 ≡ true). absurd (omega (arith, nodes_one f d (leb-true (width d) 1 y))))
    (λ (y : leb (width d) 1 ≡ false).
    let v = leb-false (width d) 1 y in
    stood_up f d j m u (stood f (above d) j m (omega arith) (omega (arith, (wide d).least)) u (omega (arith, nodes_more f d v)) b))
    (decide (leb (width d) 1)))
    (decide (ltb j (d.head + width d)))

-- ---- how high, and how many

-- the places that t levels above the first reach: 16, 256, ..
unfoldable pub reach : ℕ → ℕ
reach zero = 16
reach (suc t) = 16 * reach t

-- a node of the level, and one above it
level_on : (t f : ℕ) (d : Due) (j : ℕ) → j < d.head + nodes_from (suc f) d → (1 < width d → (node_from f (above d) j).level ≤ d.level + t) → (node_from (suc f) d j).level ≤ d.level + t
unfolding node_on
level_on t f d j b up =
    ⊎_elim
    (λ (x : ltb j (d.head + width d) ≡ true). rw (node_here f d j (ltb-true j (d.head + width d) x)) (omega arith))
    (λ (x : ltb j (d.head + width d) ≡ false).
    let u = ltb-false j (d.head + width d) x in
    ⊎_elim
    (λ (y : leb (width d) 1 ≡ true). absurd (omega (arith, nodes_one f d (leb-true (width d) 1 y))))
    (λ (y : leb (width d) 1 ≡ false). rw (node_up f d j u) (up (leb-false (width d) 1 y)))
    (decide (leb (width d) 1)))
    (decide (ltb j (d.head + width d)))

pub level_low : (t f : ℕ) (d : Due) (j : ℕ) → d.next < d.top → d.top - d.next ≤ f → d.top - d.next ≤ reach t → j < d.head + nodes_from f d → (node_from f d j).level ≤ d.level + t
unfolding above reach
level_low t zero d j g h r b = absurd (omega arith)
level_low zero (suc f) d j g h r b = level_on zero f d j b (λ y. absurd (omega (arith, (wide d).least)))
level_low (suc t) (suc f) d j g h r b =
    level_on (suc t) f d j b
    (λ y.
    let i = level_low t f (above d) j (omega arith) (omega (arith, (wide d).least)) (omega (arith, (wide d).least)) (omega (arith, nodes_more f d y)) in omega arith)

-- where the runs of a node's level end: what the level covers ends there, or it is some node before it
pub node_top : (f : ℕ) (d : Due) (j b : ℕ) → d.top ≤ b → j ≤ b → (node_from f d j).top ≤ b
unfolding node_on above node_from
node_top zero d j b g h = nil
  where
    nil : (node_from zero d j).top ≤ b
    nil = g
node_top (suc f) d j b g h =
    ⊎_elim
    (λ (x : ltb j (d.head + width d) ≡ true). rw (node_here f d j (ltb-true j (d.head + width d) x)) g)
    (λ (x : ltb j (d.head + width d) ≡ false).
    let u = ltb-false j (d.head + width d) x in
    rw (node_up f d j u) (node_top f (above d) j b (omega arith) h))
    (decide (ltb j (d.head + width d)))

-- five times the nodes are at most fifteen more than the places
pub nodes_few : (f : ℕ) (d : Due) → 5 * nodes_from f d ≤ d.top - d.next + 15
unfolding nodes_from above
nodes_few zero d = omega arith
nodes_few (suc f) d =
    ⊎_elim
    (λ (y : leb (width d) 1 ≡ true). let h = leb-true (width d) 1 y in omega (arith, nodes_one f d h))
    (λ (y : leb (width d) 1 ≡ false). let h = leb-false (width d) 1 y in omega (arith, nodes_more f d h, nodes_few f (above d), (wide d).least))
    (decide (leb (width d) 1))

-- ---- counting them level by level

-- after some levels over n points: k nodes on the last, m on all of them
pub record Counted (n k m : ℕ) : Type 0 where
  pub fuel : ℕ
  pub lev : Due
  pub width_is : width lev ≡ k
  pub sum : lev.head + width lev ≡ m
  pub enough : lev.top - lev.next ≤ suc fuel
  pub total : nodes_for n ≡ lev.head + nodes_from (suc fuel) lev

pub counted_start : (n : ℕ) → Counted n (up16 n) (up16 n)
unfolding nodes_for one_left nodes_from ground_level width up16
counted_start zero = record { fuel = 0; lev = ground_level 0; width_is = refl; sum = refl; enough = omega arith; total = refl }
counted_start (suc n) =
    record { fuel = n; lev = ground_level (suc n); width_is = ap up16 z; sum = omega arith; enough = omega arith; total = omega arith }
  where
    z : suc n - 0 ≡ suc n
    z = omega arith

counted_up : (n k m f : ℕ) (d : Due) → 1 < k → width d ≡ k → d.head + width d ≡ m → d.top - d.next ≤ suc (suc f) → nodes_for n ≡ d.head + nodes_from (suc (suc f)) d → Counted n (up16 k) (m + up16 k)
unfolding above width
counted_up n k m f d h w s e t =
    record {
      fuel = f;
      lev = above d;
      width_is = z;
      sum = omega (arith, z);
      enough = omega (arith, (wide d).least);
      total = omega (arith, nodes_more (suc f) d (omega arith));
    }
  where
    z : width (above d) ≡ up16 k
    z = ap up16 y
      where
        y : (above d).top - (above d).next ≡ k
        y = omega arith

pub counted_more : (n k m : ℕ) → 1 < k → Counted n k m → Counted n (up16 k) (m + up16 k)
counted_more n k m h c = go c.fuel c.lev c.width_is c.sum c.enough c.total
  where
    go : (f : ℕ) (d : Due) → width d ≡ k → d.head + width d ≡ m → d.top - d.next ≤ suc f → nodes_for n ≡ d.head + nodes_from (suc f) d → Counted n (up16 k) (m + up16 k)
    go zero d w s e t = absurd (omega (arith, (wide d).least))
    go (suc f) d w s e t = counted_up n k m f d h w s e t

pub counted_done : (n k m : ℕ) → k ≤ 1 → Counted n k m → m ≡ nodes_for n
counted_done n k m h c = omega (arith, c.width_is, c.sum, c.total, nodes_one c.fuel c.lev (omega (arith, c.width_is)))

-- so far at most as many as there are
pub counted_le : (n k m : ℕ) → Counted n k m → m ≤ nodes_for n
counted_le n k m c =
    ⊎_elim
    (λ (y : leb (width c.lev) 1 ≡ true). omega (arith, c.sum, c.total, nodes_one c.fuel c.lev (leb-true (width c.lev) 1 y)))
    (λ (y : leb (width c.lev) 1 ≡ false). omega (arith, c.sum, c.total, nodes_more c.fuel c.lev (leb-false (width c.lev) 1 y)))
    (decide (leb (width c.lev) 1))
