-- Walks that deal with places, whatever the droppers; and that the candidates have every ring partner.
-- Assumes nothing.
use mathlib.Core.Path.{◌≡◌, refl, sym, ap, subst, ◌∙◌}
use mathlib.Core.Bool.{Bool, true, false, ◌&&◌}
use mathlib.Core.Logic.{◌⊎◌, inl, inr, ⊎_elim}
use mathlib.Core.List.{List}
use Prim.Native.Nat.{ℕ, suc, ◌+◌, ◌-◌, ◌*◌, ◌≤◌, ◌<◌}
use native.Mathlib.Omega.{arith}
use native.Mathlib.Nat.{pos_of_ne-zero}
use native.Mathlib.Decide.{ℕ_discrete}
use lib.Dec.{ltb}
use lib.IntN.{ℤ}
use lib.ListN.{length}
use borrow.Author.Tests.{lt-ltb}
use Rattle.integers.proofs.Bools.{and_left, and_right, clash}
use Rattle.plane.specs.declared.Spot.{Spot}
use Rattle.plane.specs.declared.Boxed.{Boxed}
use Rattle.plane.specs.Rule.{SpotIn, drops, drops_box, blocks}
use Rattle.plane.specs.Profile.{circle}
use Rattle.plane.proofs.RuleLaws.{box_drops}
use Rattle.sheet.specs.Layout.{points}
use Rattle.sheet.specs.Order.{order_of, rank_of}
use Rattle.sheet.specs.Nodes.{level_of, first_of, count_of}
use Rattle.sheet.specs.Boxes.{Below}
use Rattle.sheet.specs.Places.{spot_of, box_of, points_of}
use Rattle.sheet.specs.Open.{Opens}
use Rattle.sheet.proofs.OrderLaws.{order_rank, rank_below}
use Rattle.sheet.proofs.PlaceLaws.{in_box_lem}
use Rattle.sheet.proofs.CoverLaws.{root_below}
use Rattle.sheet.proofs.RangeLaws.{spot_in}
use Rattle.bits.specs.Set.{kept, with, without}
use Rattle.bits.proofs.SetLaws.{kept_same, kept_more, gone_other}
use Rattle.list.specs.RingList.{unblocked, ring_pair_by}
use Rattle.sheet.proofs.TreeLaws.{run_at}
use Rattle.walk.specs.Claims.{Free}
use Rattle.walk.proofs.NodeLaws.{Node, kid}
use Rattle.walk.proofs.PairLaws.{unblocked_free, pair_rule}
use Rattle.seeds.specs.declared.line.Line.{Line}
use Rattle.seeds.specs.Line.{Lined, Among, Known, DroppedBy}
use Rattle.seeds.specs.Covers.{Covers, On, OnEither, Settled, Deals, Retries}
use Rattle.seeds.proofs.LineLaws.{known_in, among_in}

-- a record of a sheet that opens stands in range
pub on_in : (w : List ℤ) (n m : ℕ) → Opens w n m → (z : Spot) → On w n z → SpotIn z
on_in w n m o z x = subst SpotIn (sym x.2) (spot_in o x.0 x.1)

-- a node whose three words are read
pub node_read : {w : List ℤ} {n m j level first count : ℕ} → Opens w n m → j < m → level ≡ level_of w n j → first ≡ first_of w n j → count ≡ count_of w n j → Node w n m j level first count
node_read o h l f c = record { table = o.table; here = h; is_level = l; is_first = f; is_count = c }

-- a node above the leaves, as the code has read it, covers nodes, one level down
module _ (w : List ℤ) (n m j level first count : ℕ) (d : Node w n m j level first count) (up : level ≡ 0 → ⊥) where
  pub node_runs : (0 < count) × (first + count ≤ m)
  node_runs =
      let r = run_at w n m d.table j d.here in
      let some : 0 < count = omega (arith, r.some, d.is_count) in
      (some, omega (arith, (kid w n m j level first count d up (count - 1) (omega arith)).0))

  pub node_down : (v : ℕ) → first ≤ v → v < first + count → level_of w n v ≡ level - 1
  node_down v a b = let e : first + (v - first) ≡ v = omega arith in subst (λ (x : ℕ). level_of w n x ≡ level - 1) e (kid w n m j level first count d up (v - first) (omega arith)).1

  pub node_below : (v : ℕ) → first ≤ v → v < first + count → (v < m) × (level_of w n v ≡ level - 1)
  node_below v a b = (omega (arith, node_runs.1), node_down v a b)

-- what is below a node, as the code has read it
module _ (w : List ℤ) (n m j level first count : ℕ) (d : Node w n m j level first count) where
  pub below_leaf : level ≡ 0 → (r : ℕ) → Below w n (level_of w n j) j r → (first ≤ r) × (r < first + count)
  unfolding Below
  below_leaf z r x =
      let y : Below w n 0 j r = subst (λ (l : ℕ). Below w n l j r) (sym d.is_level ∙ z) x in
      (omega (arith, y.0, d.is_first), omega (arith, y.1, d.is_first, d.is_count))

  pub below_node : (level ≡ 0 → ⊥) → (r : ℕ) → Below w n (level_of w n j) j r → (v : ℕ) × (first ≤ v) × (v < first + count) × Below w n (level - 1) v r
  unfolding Below
  below_node z r x =
      let e : level_of w n j ≡ suc (level - 1) = omega (arith, pos_of_ne-zero z, d.is_level) in
      let y : Below w n (suc (level - 1)) j r = subst (λ (l : ℕ). Below w n l j r) e x in
      (y.0, omega (arith, y.1, d.is_first), omega (arith, y.2, d.is_first, d.is_count), y.3)

-- ---- what is settled

settled_all : (K T : Spot → Type 0) → ((z : Spot) → K z → T z) → (w : List ℤ) (q : Spot) (b : List ℕ) (i : ℕ) → Settled K w q b i → Settled T w q b i
settled_all K T f w q b i s =
    ⊎_elim (λ (e : kept b i ≡ true). inl e) (λ (d : DroppedBy K q (spot_of w i)). inr (d.0, f d.0 d.1, d.2)) s

settled_more : (K : Spot → Type 0) (w : List ℤ) (q : Spot) (b b' : List ℕ) → ((i : ℕ) → kept b i ≡ true → kept b' i ≡ true) → (i : ℕ) → Settled K w q b i → Settled K w q b' i
settled_more K w q b b' f i s = ⊎_elim (λ (e : kept b i ≡ true). inl (f i e)) (λ (d : DroppedBy K q (spot_of w i)). inr d) s

module _ (K : Spot → Type 0) (w : List ℤ) (n : ℕ) (q : Spot) where
  -- nothing is done
  pub deals_none : (C : ℕ → Type 0) (b : List ℕ) → ((r : ℕ) → C r → ⊥) → Deals K w n q C b b
  deals_none C b never = record { stays = λ i e. e; done = λ r x. absurd (never r x) }

  -- one after another: the places that either deals with
  pub deals_after : (J : Spot → Type 0) (C D E : ℕ → Type 0) (b₀ b b' : List ℕ) → ((z : Spot) → J z → K z) → ((r : ℕ) → E r → C r ⊎ D r) → Deals K w n q C b₀ b → Deals J w n q D b b' → Deals K w n q E b₀ b'
  deals_after J C D E b₀ b b' f g x y =
      record {
        stays = λ i e. y.stays i (x.stays i e);
        done = λ r e.
            ⊎_elim
            (λ (c : C r). settled_more K w q b b' y.stays (order_of w n r) (x.done r c))
            (λ (d : D r). settled_all J K f w q b' (order_of w n r) (y.done r d))
            (g r e);
      }

  -- one place after those before it
  pub deals_next : (J : Spot → Type 0) (first i : ℕ) (b₀ b b' : List ℕ) → ((z : Spot) → J z → K z) → Deals K w n q (λ k. (first ≤ k) × (k < first + i)) b₀ b → Deals J w n q (λ k. k ≡ first + i) b b' → Deals K w n q (λ k. (first ≤ k) × (k < first + (i + 1))) b₀ b'
  deals_next J first i b₀ b b' f x y = deals_after J _ _ _ b₀ b b' f (λ r e. go r e.0 e.1 (ℕ_discrete r (first + i))) x y
    where
      go : (r : ℕ) → first ≤ r → r < first + (i + 1) → Dec (r ≡ first + i) → ((first ≤ r) × (r < first + i)) ⊎ (r ≡ first + i)
      go r l u (yes e) = inr e
      go r l u (no e) = inl (l, omega arith)

  -- one node, of the level below, after those before it
  deals_node : (J : Spot → Type 0) (l first i : ℕ) (b₀ b b' : List ℕ) → ((z : Spot) → J z → K z) → Deals K w n q (λ k. (v : ℕ) × (first ≤ v) × (v < first + i) × Below w n l v k) b₀ b → Deals J w n q (Below w n l (first + i)) b b'
      → Deals K w n q (λ k. (v : ℕ) × (first ≤ v) × (v < first + (i + 1)) × Below w n l v k) b₀ b'
  deals_node J l first i b₀ b b' f x y = deals_after J _ _ _ b₀ b b' f (λ r e. go r e.0 e.1 e.2 e.3 (ℕ_discrete e.0 (first + i))) x y
    where
      go : (r v : ℕ) → first ≤ v → v < first + (i + 1) → Below w n l v r → Dec (v ≡ first + i) → ((v : ℕ) × (first ≤ v) × (v < first + i) × Below w n l v r) ⊎ Below w n l (first + i) r
      go r v a u d (yes e) = inr (subst (λ (t : ℕ). Below w n l t r) e d)
      go r v a u d (no e) = inl (v, a, omega arith, d)

  -- the same, of a node whose level was read
  pub deals_kid : (J : Spot → Type 0) (l first i : ℕ) (b₀ b b' : List ℕ) → level_of w n (first + i) ≡ l → ((z : Spot) → J z → K z) → Deals K w n q (λ k. (v : ℕ) × (first ≤ v) × (v < first + i) × Below w n l v k) b₀ b
      → Deals J w n q (Below w n (level_of w n (first + i)) (first + i)) b b' → Deals K w n q (λ k. (v : ℕ) × (first ≤ v) × (v < first + (i + 1)) × Below w n l v k) b₀ b'
  deals_kid J l first i b₀ b b' e f x y = deals_node J l first i b₀ b b' f x (subst (λ (t : ℕ). Deals J w n q (Below w n t (first + i)) b b') e y)

  -- the same places, said in another way
  pub deals_as : (C D : ℕ → Type 0) (b b' : List ℕ) → ((r : ℕ) → D r → C r) → Deals K w n q C b b' → Deals K w n q D b b'
  deals_as C D b b' f x = record { stays = x.stays; done = λ r d. x.done r (f r d) }

  -- a place that is dropped, and one that is kept
  pub deals_dropped : (r at : ℕ) (z : Spot) (b : List ℕ) → at ≡ order_of w n r → z ≡ spot_of w at → DroppedBy K q z → Deals K w n q (λ k. k ≡ r) b b
  deals_dropped r at z b e s d =
      record {
        stays = λ i x. x;
        done = λ k h. inr (d.0, d.1, ap (drops q d.0) (sym (s ∙ ap (spot_of w) (e ∙ ap (order_of w n) (sym h)))) ∙ d.2);
      }

  pub deals_kept : (r at : ℕ) (b b' : List ℕ) → at ≡ order_of w n r → at < 64 * length b → b' ≡ with b at → Deals K w n q (λ k. k ≡ r) b b'
  deals_kept r at b b' e h f =
      record {
        stays = λ i x. ap (λ (v : List ℕ). kept v i) f ∙ kept_more b at i h x;
        done = λ k m. inl (ap₂' (e ∙ ap (order_of w n) (sym m)));
      }
    where
      ap₂' : {x : ℕ} → at ≡ x → kept b' x ≡ true
      ap₂' s = sym (ap (kept b') s) ∙ ap (λ (v : List ℕ). kept v at) f ∙ kept_same b at h

  -- a box that a place of K drops
  pub deals_box : (m : ℕ) → Opens w n m → (j : ℕ) → j < m → (o : Boxed) → o ≡ box_of w n j → (z : Spot) → K z → drops_box q z o ≡ true → (b : List ℕ) → Deals K w n q (Below w n (level_of w n j) j) b b
  deals_box m op j h o e z k d b =
      record {
        stays = λ i x. x;
        done = λ r x. inr (z, k, box_drops q z (box_of w n j) (spot_of w (order_of w n r)) (ap (drops_box q z) (sym e) ∙ d) (in_box_lem w n m op.table op.tight (level_of w n j) j h refl r x));
      }

-- ---- the candidates tried again

module _ (K : Spot → Type 0) (w : List ℤ) (q : Spot) where
  pub retries_none : (b : List ℕ) → Retries K w q b b
  retries_none b = record { settled = λ i e. inl e }

  -- once, and then once more
  pub retries_after : (b₀ b b' : List ℕ) → Retries K w q b₀ b → Retries K w q b b' → Retries K w q b₀ b'
  retries_after b₀ b b' x y =
      record { settled = λ i e. ⊎_elim (λ (t : kept b i ≡ true). y.settled i t) (λ (d : DroppedBy K q (spot_of w i)). inr d) (x.settled i e) }

  -- position i is taken out, since a place of K drops it
  pub retries_gone : (b₀ b b' : List ℕ) (i : ℕ) (z : Spot) → i < 64 * length b → b' ≡ without b i → z ≡ spot_of w i → DroppedBy K q z → Retries K w q b₀ b → Retries K w q b₀ b'
  retries_gone b₀ b b' i z h f s d x = record { settled = λ k e. go k (ℕ_discrete k i) (x.settled k e) }
    where
      go : (k : ℕ) → Dec (k ≡ i) → Settled K w q b k → Settled K w q b' k
      go k (yes e) y = inr (d.0, d.1, ap (drops q d.0) (sym (s ∙ ap (spot_of w) (sym e))) ∙ d.2)
      go k (no n) y =
          ⊎_elim
          (λ (t : kept b k ≡ true). inl (ap (λ (v : List ℕ). kept v k) f ∙ gone_other b i k h n ∙ t))
          (λ (t : DroppedBy K q (spot_of w k)). inr t)
          y

-- ---- the candidates have every ring partner

-- all of them are kept
pub covers_all : (P Q : List ℤ) (n j : ℕ) (b : List ℕ) (g : Bool) → points P ≡ n → ((i : ℕ) → kept b i ≡ ltb i n) → Covers g P Q j b
covers_all P Q n j b g e f = record { partner = λ i h r. f i ∙ lt-ltb i n (omega arith) }

-- there are none
pub covers_none : (P Q : List ℤ) (n m j : ℕ) (b : List ℕ) (g : Bool) → Opens P n m → m ≡ 0 → Covers g P Q j b
covers_none P Q n m j b g o z = record { partner = λ i h r. absurd (omega (arith, o.empty z, o.n_is)) }

module _ (P : List ℤ) (n m : ℕ) (op : Opens P n m) (Q : List ℤ) (nq mq : ℕ) (oq : Opens Q nq mq) (j : ℕ) (hj : j < nq) (z : Spot) (is : z ≡ spot_of Q j) where
  -- a record of either sheet blocks no ring pair, so that what it drops is none
  partner_kept : (b : List ℕ) (i : ℕ) → i < points P → ring_pair_by circle (points_of P) (points_of Q) j i ≡ true → Settled (OnEither P n Q nq) P z b i → kept b i ≡ true
  unfolding drops
  partner_kept b i h r s = ⊎_elim (λ (e : kept b i ≡ true). e) (λ (d : DroppedBy (OnEither P n Q nq) z (spot_of P i)). clash d.2 (no d.0 d.1)) s
    where
      both : (unblocked circle (points_of Q) (spot_of Q j) (spot_of P i) && unblocked circle (points_of P) (spot_of Q j) (spot_of P i)) ≡ true
      both = sym (pair_rule circle P Q j i (omega (arith, oq.n_is)) h) ∙ r

      by_q : Free circle Q (points Q) (spot_of Q j) (spot_of P i)
      by_q = unblocked_free circle Q (spot_of Q j) (spot_of P i) (and_left _ (unblocked circle (points_of P) (spot_of Q j) (spot_of P i)) both)

      by_p : Free circle P (points P) (spot_of Q j) (spot_of P i)
      by_p = unblocked_free circle P (spot_of Q j) (spot_of P i) (and_right (unblocked circle (points_of Q) (spot_of Q j) (spot_of P i)) _ both)

      no : (y : Spot) → OnEither P n Q nq y → blocks z (spot_of P i) y ≡ false
      no y x =
          ap (λ (a : Spot). blocks a (spot_of P i) y) is
          ∙ ⊎_elim
          (λ (t : On P n y). ap (blocks (spot_of Q j) (spot_of P i)) t.2 ∙ by_p t.0 (omega (arith, t.1, op.n_is)))
          (λ (t : On Q nq y). ap (blocks (spot_of Q j) (spot_of P i)) t.2 ∙ by_q t.0 (omega (arith, t.1, oq.n_is)))
          x

  -- droppers to begin with; the walk from the root, with the droppers after it; the candidates tried again
  pub covers_walk : (l : Line) → Lined (OnEither P n Q nq) l → (b b' b'' : List ℕ) → (m ≡ 0 → ⊥)
      → Deals (Known (On P n) l) P n z (Below P n (level_of P n (m - 1)) (m - 1)) b b'
      → (l' : Line) → Lined (Known (On P n) l) l'
      → Retries (Among l') P z b' b'' → Covers false P Q j b''
  covers_walk l a b b' b'' some d l' a' t = record { partner = λ i h r. partner_kept b'' i h r (settled i (omega (arith, op.n_is))) }
    where
      known : (y : Spot) → Known (On P n) l y → OnEither P n Q nq y
      known = known_in (OnEither P n Q nq) l a (On P n) (λ y x. inl x)

      met : (i : ℕ) → i < n → Settled (Known (On P n) l) P z b' i
      met i low =
          subst (Settled (Known (On P n) l) P z b') (order_rank P n op.ordered i low)
          (d.done (rank_of P n i) (root_below P n m op.table (pos_of_ne-zero some) (rank_of P n i) (rank_below P n op.ordered i low)))

      settled : (i : ℕ) → i < n → Settled (OnEither P n Q nq) P z b'' i
      settled i low =
          ⊎_elim
          (λ (e : kept b' i ≡ true). settled_all (Among l') (OnEither P n Q nq) (λ y x. known y (among_in (Known (On P n) l) l' a' y x)) P z b'' i (t.settled i e))
          (λ (x : DroppedBy (Known (On P n) l) z (spot_of P i)). inr (x.0, known x.0 x.1, x.2))
          (met i low)

-- of a profile that is the circle
pub covers_profile : (P Q : List ℤ) (j : ℕ) (b : List ℕ) (g : Bool) → g ≡ false → Covers false P Q j b → Covers g P Q j b
covers_profile P Q j b g e c = subst (λ (x : Bool). Covers x P Q j b) (sym e) c
