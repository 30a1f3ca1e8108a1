-- What the filter walk of a leaf run brings about: of every chamber of the leaf, each position is kept for it, or a kept one drops it, or another chamber does.
-- Assumes nothing.
use mathlib.Core.Path.{◌≡◌, refl, sym, ap, ap₂, subst, ◌∙◌}
use mathlib.Core.Bool.{Bool, true, false, cond, not, ◌&&◌, ◌||◌}
use mathlib.Core.Logic.{◌⊎◌, inl, inr, ⊎_elim}
use mathlib.Core.List.{List}
use Prim.Native.Nat.{ℕ, zero, suc, ◌+◌, ◌*◌, ◌<◌, ◌≤◌}
use native.Mathlib.Omega.{arith}
use lib.Dec.{eqb, ltb}
use borrow.Author.Tests.{ltb-true, ltb-false, ne_eqb, not-true, not-false}
use lib.IntN.{ℤ}
use lib.ListN.{length}
use Rattle.plane.specs.Profile.{circle}
use Rattle.plane.proofs.ProfileLaws.{circle_lawful}
use Rattle.integers.proofs.Bools.{and_left, and_right, and_both, or_false_right, decide, clash, test_iff}
use Rattle.words.specs.All.{all_b}
use Rattle.words.proofs.AllLaws.{all_at, all_make}
use Rattle.plane.specs.declared.Spot.{Spot}
use Rattle.plane.specs.Rule.{drops, drops_box}
use Rattle.plane.proofs.RuleLaws.{box_drops}
use Rattle.sheet.specs.Layout.{points, nodes}
use Rattle.sheet.specs.Order.{order_of, rank_of, order_ok}
use Rattle.sheet.specs.Nodes.{level_of, table_ok}
use Rattle.sheet.specs.Boxes.{Below, tight_ok, tree_size}
use Rattle.sheet.specs.Places.{spot_of, box_of}
use Rattle.sheet.specs.Open.{Opens}
use Rattle.sheet.proofs.OrderLaws.{order_below, rank_below, order_rank, one_place}
use Rattle.sheet.proofs.TreeLaws.{leaf, run_at}
use Rattle.sheet.specs.Nodes.{first_of, count_of}
use Rattle.sheet.specs.Places.{points_of}
use Rattle.list.specs.RingList.{unblocked, ring_pair}
use Rattle.walk.specs.Claims.{Free}
use Rattle.walk.specs.RingWalk.{clear, pair_walk}
use Rattle.walk.proofs.Meaning.{pair_clear}
use Rattle.walk.proofs.PairLaws.{unblocked_free, pair_rule}
use Rattle.sheet.proofs.PlaceLaws.{in_box_lem}
use Rattle.bits.specs.Set.{kept, with, none}
use Rattle.bits.proofs.SetLaws.{with_length, kept_same, kept_more, kept_only, none_kept, none_length}
use Rattle.walk.specs.Walk.{in_turn, walk_all}
use Rattle.walk.specs.FilterWalk.{Kept, so_far}
use Rattle.leaf.specs.LeafWalk.{slot, some_b, chamber_at, chamber_spot, ruled_out, weigh, leaf_take, skips, leaf_visit, leaf_node, leaf_kept, leaf_keeps}
use Rattle.walk.proofs.WalkLaws.{Steps, Does, all_does, turn_does, walk_opened, all_opened}
use native.Mathlib.Nat.{mul-le-mul, le_refl, eq-or-lt_of_le}

-- ---- tests

-- where a test holds at some number, there is such a number
pub some_of : (n : ℕ) (p : ℕ → Bool) → some_b n p ≡ true → (i : ℕ) × (i < n) × (p i ≡ true)
unfolding all_b
some_of zero p e = clash e refl
some_of (suc n) p e =
    ⊎_elim
    (λ (t : p n ≡ true). (n, omega arith, t))
    (λ (f : p n ≡ false). let x = some_of n p (below f) in (x.0, omega (arith, x.1), x.2))
    (decide (p n))
  where
    below : p n ≡ false → some_b n p ≡ true
    below f =
        ⊎_elim
        (λ (t : all_b n (λ i. not (p i)) ≡ true). clash e (ap not (and_both _ _ t (ap not f))))
        (λ (t : all_b n (λ i. not (p i)) ≡ false). ap not t)
        (decide (all_b n (λ i. not (p i))))

-- where it holds at none, it fails at each
none_of : (n : ℕ) (p : ℕ → Bool) → some_b n p ≡ false → (i : ℕ) → i < n → p i ≡ false
none_of n p e i h = not-true (p i) (all_at (λ i. not (p i)) n (not-false (all_b n (λ i. not (p i))) e) i h)

or_cases : (a b : Bool) → (a || b) ≡ true → (a ≡ true) ⊎ (b ≡ true)
or_cases true b e = inl refl
or_cases false b e = inr e

-- ---- the kept sets, one behind the other

-- a set before another ends where it begins, at the latest
next_set : (words h k : ℕ) → h < k → words * h + words ≤ words * k
next_set words h k l =
    let a : suc h ≤ k = omega arith in
    let b : words * suc h ≤ words * k = mul-le-mul (le_refl words) a in
    omega (arith, b)

pub slot_fits : (words k i : ℕ) → k < 16 → i < 64 * words → slot words k i < 64 * (16 * words)
slot_fits words k i h l = omega (arith, next_set words k 16 h)

-- two bits are one only in one set at one position
slot_apart : (words h k i j : ℕ) → i < 64 * words → j < 64 * words → h < k → slot words h i ≡ slot words k j → ⊥
slot_apart words h k i j a b l e = omega (arith, next_set words h k l)

slot_set : (words h k i j : ℕ) → i < 64 * words → j < 64 * words → slot words h i ≡ slot words k j → h ≡ k
slot_set words h k i j a b e =
    ⊎_elim
    (λ (x : ltb h k ≡ true). absurd (slot_apart words h k i j a b (ltb-true h k x) e))
    (λ (x : ltb h k ≡ false).
    ⊎_elim
    (λ (z : k ≡ h). sym z)
    (λ (z : k < h). absurd (slot_apart words k h j i b a z (sym e)))
    (eq-or-lt_of_le {n = k} {m = h} (ltb-false h k x)))
    (decide (ltb h k))

-- ---- one walk for all chambers of a leaf

module _ (q : ℕ → Spot) (c words : ℕ) (w : List ℤ) (n : ℕ) where
  -- a position is kept for chamber h, and drops position i
  pub record Beaten (h : ℕ) (b : List ℕ) (i : ℕ) : Type 0 where
    pub by : ℕ
    pub below : by < n
    pub is_kept : kept b (slot words h by) ≡ true
    pub dropping : drops (q h) (spot_of w by) (spot_of w i) ≡ true

  -- a chamber of the leaf drops position i for chamber h
  pub record Ruled (h i : ℕ) : Type 0 where
    pub by : ℕ
    pub below : by < c
    pub dropping : drops (q h) (q by) (spot_of w i) ≡ true

  -- position i is settled for chamber h
  abbrev pub Settled : ℕ → List ℕ → ℕ → Type 0
  Settled h b i = (kept b (slot words h i) ≡ true) ⊎ (Beaten h b i ⊎ Ruled h i)

  -- sixteen sets, in those of the chambers no position past the points, and none that another chamber of the leaf rules out
  pub record Right (b : List ℕ) : Type 0 where
    pub long : length b ≡ 16 * words
    pub low : (h i : ℕ) → i < 64 * words → kept b (slot words h i) ≡ true → i < n
    pub free : (h i : ℕ) → h < c → i < 64 * words → kept b (slot words h i) ≡ true → (g : ℕ) → g < c → (g ≡ h → ⊥) → drops (q h) (q g) (spot_of w i) ≡ false

  pub record Grows (b b' : List ℕ) : Type 0 where
    pub stays : (i : ℕ) → kept b i ≡ true → kept b' i ≡ true

  still_settled : (b b' : List ℕ) (h i : ℕ) → Grows b b' → Settled h b i → Settled h b' i
  still_settled b b' h i g =
      ⊎_elim
      (λ (e : kept b (slot words h i) ≡ true). inl (g.stays _ e))
      (λ (x : Beaten h b i ⊎ Ruled h i). inr (⊎_elim
      (λ (y : Beaten h b i). inl (record { by = y.by; below = y.below; is_kept = g.stays _ y.is_kept; dropping = y.dropping }))
      (λ (y : Ruled h i). inr y)
      x))

  -- what rules out position i for chamber h settles it
  settle : (by : Spot → Bool) (h i : ℕ) (b : List ℕ) → ((p : Spot) → by p ≡ true → drops (q h) p (spot_of w i) ≡ true) → ruled_out q c words w n by h b ≡ true → Settled h b i
  unfolding ruled_out
  settle by h i b f e =
      ⊎_elim
      (λ (x : some_b n (λ p. kept b (slot words h p) && by (spot_of w p)) ≡ true).
      let y = some_of n (λ p. kept b (slot words h p) && by (spot_of w p)) x in
      let k = and_left (kept b (slot words h y.0)) (by (spot_of w y.0)) y.2 in
      let d = f _ (and_right (kept b (slot words h y.0)) (by (spot_of w y.0)) y.2) in
      inr (inl (record { by = y.0; below = y.1; is_kept = k; dropping = d })))
      (λ (x : some_b c (λ g. not (eqb g h) && by (q g)) ≡ true).
      let y = some_of c (λ g. not (eqb g h) && by (q g)) x in
      inr (inr (record { by = y.0; below = y.1; dropping = f _ (and_right (not (eqb y.0 h)) (by (q y.0)) y.2) })))
      (or_cases (some_b n (λ p. kept b (slot words h p) && by (spot_of w p))) (some_b c (λ g. not (eqb g h) && by (q g))) e)

  module _ (few : c ≤ 16) (enough : n ≤ 64 * words) where
    -- ---- one position

    chamber_steps : (i : ℕ) → Steps Right Grows (λ b h. Settled h b i)
    chamber_steps i = record { same = λ s. record { stays = λ j e. e }; after = λ s t u x y. record { stays = λ j e. y.stays j (x.stays j e) }; still = λ s t h g d. still_settled s t h i g d }

    -- for chamber h it is settled
    weigh_does : (i : ℕ) → i < n → (h : ℕ) → h < c → (b : List ℕ) → Right b → Does Right Grows (λ s g. Settled g s i) b (weigh q c words w n i h b) (λ g. g ≡ h)
    unfolding weigh
    weigh_does i l h k b r = go (ruled_out q c words w n (λ p. drops (q h) p (spot_of w i)) h b) refl
      where
        fits : slot words h i < 64 * length b
        fits = omega (arith, slot_fits words h i (omega arith) (omega arith), r.long)

        -- no other chamber rules it out
        passed : ruled_out q c words w n (λ p. drops (q h) p (spot_of w i)) h b ≡ false → (f : ℕ) → f < c → (f ≡ h → ⊥) → drops (q h) (q f) (spot_of w i) ≡ false
        passed e f fc ne =
            let z = none_of c (λ g. not (eqb g h) && drops (q h) (q g) (spot_of w i)) (or_false_right (some_b n (λ p. kept b (slot words h p) && drops (q h) (spot_of w p) (spot_of w i))) _ (unfold ruled_out in e)) f fc in
            sym (ap (λ (a : Bool). not a && drops (q h) (q f) (spot_of w i)) (ne_eqb f h ne)) ∙ z

        go : (t : Bool) → ruled_out q c words w n (λ p. drops (q h) p (spot_of w i)) h b ≡ t → Does Right Grows (λ s g. Settled g s i) b (cond t b (with b (slot words h i))) (λ g. g ≡ h)
        go true e = record { good = r; more = record { stays = λ j x. x }; done = λ g z. subst (λ (x : ℕ). Settled x b i) (sym z) (settle _ h i b (λ p x. x) e) }
        go false e =
            record {
              good =
                  record {
                    long = with_length b (slot words h i) ∙ r.long;
                    low = λ g j x y.
                        ⊎_elim
                        (λ (z : slot words g j ≡ slot words h i).
                        let s : g ≡ h = slot_set words g h j i x (omega arith) z in
                        let t : slot words h j ≡ slot words h i = ap (λ (a : ℕ). slot words a j) (sym s) ∙ z in
                        omega (arith, t))
                        (λ (z : kept b (slot words g j) ≡ true). r.low g j x z)
                        (kept_only b (slot words h i) (slot words g j) fits y);
                    free = λ g j a x y f fc ne.
                        ⊎_elim
                        (λ (z : slot words g j ≡ slot words h i).
                        let s : g ≡ h = slot_set words g h j i x (omega arith) z in
                        let t : slot words h j ≡ slot words h i = ap (λ (a : ℕ). slot words a j) (sym s) ∙ z in
                        let same : j ≡ i = omega (arith, t) in
                        ap₂ (λ (a b : ℕ). drops (q a) (q f) (spot_of w b)) s same ∙ passed e f fc (λ z. ne (z ∙ sym s)))
                        (λ (z : kept b (slot words g j) ≡ true). r.free g j a x z f fc ne)
                        (kept_only b (slot words h i) (slot words g j) fits y);
                  };
              more = record { stays = λ j x. kept_more b (slot words h i) j fits x };
              done = λ g z. subst (λ (x : ℕ). Settled x (with b (slot words h i)) i) (sym z) (inl (kept_same b (slot words h i) fits));
            }

    -- ---- places and nodes

    abbrev Good : Kept → Type 0
    Good k = Right k.bits

    abbrev More : Kept → Kept → Type 0
    More k k' = Grows k.bits k'.bits

    -- for every chamber the position that stands at place r is settled
    abbrev Met : Kept → ℕ → Type 0
    Met k r = (h : ℕ) → h < c → Settled h k.bits (order_of w n r)

    leaf_steps : Steps Good More Met
    leaf_steps = record { same = λ s. record { stays = λ j e. e }; after = λ s t u x y. record { stays = λ j e. y.stays j (x.stays j e) }; still = λ s t r g d h l. still_settled s.bits t.bits h _ g (d h l) }

    module _ (m : ℕ) (ordered : order_ok w n ≡ true) (ok : table_ok w n m ≡ true) (tight : tight_ok w n m ≡ true) where
      take_does : (r : ℕ) → r < n → (k : Kept) → Good k → Does Good More Met k (leaf_take q c words w n r k) (λ i. i ≡ r)
      unfolding leaf_take
      take_does r l k g =
          let i = order_of w n r in
          let t = turn_does Right Grows (λ b h. Settled h b i) (chamber_steps i) (weigh q c words w n i) (λ h x. x ≡ h) c 0 (λ h _ u. weigh_does i (order_below w n ordered r l) h (omega arith)) k.bits g in
          record {
            good = t.good;
            more = t.more;
            done = λ a z h u. subst (λ (x : ℕ). Settled h (in_turn (weigh q c words w n i) c 0 k.bits) (order_of w n x)) (sym z) (t.done h (h, omega arith, omega arith, refl));
          }

      visit_does : (l j : ℕ) → j < m → level_of w n j ≡ l → (go : Kept → Kept) → ((k : Kept) → Good k → Does Good More Met k (go k) (Below w n l j)) → (k : Kept) → Good k → Does Good More Met k (leaf_visit q c words w n j go k) (Below w n l j)
      unfolding leaf_visit skips
      visit_does l j u e go does k g = by (all_b c (skips q c words w n j k.bits)) refl
        where
          found : all_b c (skips q c words w n j k.bits) ≡ true → (r : ℕ) → Below w n l j r → Met k r
          found t r x h y =
              settle (λ p. drops_box (q h) p (box_of w n j)) h (order_of w n r) k.bits
              (λ p d. box_drops (q h) p (box_of w n j) (spot_of w (order_of w n r)) d (in_box_lem w n m ok tight l j u e r x))
              (all_at (skips q c words w n j k.bits) c t h y)

          by : (t : Bool) → all_b c (skips q c words w n j k.bits) ≡ t → Does Good More Met k (cond t k (go (so_far k.bits (k.opened + 1)))) (Below w n l j)
          by true t = record { good = g; more = record { stays = λ i x. x }; done = found t }
          by false t = let d = does (so_far k.bits (k.opened + 1)) g in record { good = d.good; more = d.more; done = d.done }

      pub leaf_does : (m ≡ 0 → n ≡ 0) → (k : Kept) → Good k → Does Good More Met k (walk_all w n m (leaf_visit q c words w n) (leaf_take q c words w n) k) (λ r. r < n)
      leaf_does z = all_does Good More Met leaf_steps w n m ok (leaf_visit q c words w n) (leaf_take q c words w n) take_does visit_does z

-- ---- a box

module _ (q : ℕ → Spot) (c words : ℕ) (w : List ℤ) (n : ℕ) where
  -- "A box is skipped exactly when each chamber of the leaf skips it": then nothing changes ..
  pub box_skipped : (j : ℕ) (go : Kept → Kept) (k : Kept) → ((h : ℕ) → h < c → skips q c words w n j k.bits h ≡ true) → leaf_visit q c words w n j go k ≡ k
  unfolding leaf_visit
  box_skipped j go k each = ap (λ (t : Bool). cond t k (go (so_far k.bits (k.opened + 1)))) (all_make (skips q c words w n j k.bits) c each)

  -- .. and as soon as one chamber does not, the node is opened, and counted
  pub box_opened : (j : ℕ) (go : Kept → Kept) (k : Kept) (h : ℕ) → h < c → skips q c words w n j k.bits h ≡ false → leaf_visit q c words w n j go k ≡ go (so_far k.bits (k.opened + 1))
  unfolding leaf_visit
  box_opened j go k h l e =
      ⊎_elim
      (λ (t : all_b c (skips q c words w n j k.bits) ≡ true). clash (all_at (skips q c words w n j k.bits) c t h l) e)
      (λ (t : all_b c (skips q c words w n j k.bits) ≡ false). ap (λ (x : Bool). cond x k (go (so_far k.bits (k.opened + 1)))) t)
      (decide (all_b c (skips q c words w n j k.bits)))

-- ---- nodes opened

module _ (q : ℕ → Spot) (c words : ℕ) (w : List ℤ) (n : ℕ) where
  take_opened : (r : ℕ) (k : Kept) → (leaf_take q c words w n r k).opened ≡ k.opened
  unfolding leaf_take
  take_opened r k = refl

  visit_opened : (j s : ℕ) (go : Kept → Kept) → ((k : Kept) → (go k).opened ≤ k.opened + s) → (k : Kept) → (leaf_visit q c words w n j go k).opened ≤ k.opened + suc s
  unfolding leaf_visit
  visit_opened j s go h k = by (all_b c (skips q c words w n j k.bits))
    where
      by : (t : Bool) → (cond t k (go (so_far k.bits (k.opened + 1)))).opened ≤ k.opened + suc s
      by true = omega arith
      by false = omega (arith, h (so_far k.bits (k.opened + 1)))

  -- from node j down at most the nodes from there down are opened: what keeps a count in its range
  pub leaf_node_opened : (l j : ℕ) (k : Kept) → (leaf_node q c words w n l j k).opened ≤ k.opened + tree_size w n l j
  unfolding leaf_node
  leaf_node_opened = walk_opened (λ (k : Kept). k.opened) w n (leaf_visit q c words w n) (leaf_take q c words w n) take_opened visit_opened

-- ---- the sheet

module _ (q : ℕ → Spot) (c words : ℕ) (w : List ℤ) (o : Opens w (points w) (nodes w)) where
  -- at most m nodes are opened
  pub leaf_opened_lem : (leaf_kept q c words w).opened ≤ nodes w
  unfolding leaf_kept
  leaf_opened_lem =
      let x = all_opened (λ (k : Kept). k.opened) w (points w) (leaf_visit q c words w (points w)) (leaf_take q c words w (points w)) (take_opened q c words w (points w)) (visit_opened q c words w (points w)) (nodes w) o.table (so_far (none (16 * words)) 0) in
      omega arith

  module _ (few : c ≤ 16) (enough : points w ≤ 64 * words) where
    whole : Does (λ (k : Kept). Right q c words w (points w) k.bits) (λ (k k' : Kept). Grows q c words w (points w) k.bits k'.bits) (λ (k : Kept) (r : ℕ). (h : ℕ) → h < c → Settled q c words w (points w) h k.bits (order_of w (points w) r)) (so_far (none (16 * words)) 0) (leaf_kept q c words w) (λ r. r < points w)
    unfolding leaf_kept
    whole = leaf_does q c words w (points w) few enough (nodes w) o.ordered o.table o.tight o.empty (so_far (none (16 * words)) 0) (record { long = none_length (16 * words); low = λ h i l e. clash e (none_kept (16 * words) (slot words h i)); free = λ h i a l e. clash e (none_kept (16 * words) (slot words h i)) })

    pub leaf_long : length (leaf_kept q c words w).bits ≡ 16 * words
    leaf_long = whole.good.long

    -- every kept position is below n
    pub leaf_below : (h i : ℕ) → i < 64 * words → leaf_keeps q c words w h i ≡ true → i < points w
    leaf_below = whole.good.low

    -- "another chamber of the leaf rules out a partner just as a kept pump house does": what is kept for a chamber no other chamber of the leaf rules out
    pub leaf_free : (h i : ℕ) → h < c → i < 64 * words → leaf_keeps q c words w h i ≡ true → (g : ℕ) → g < c → (g ≡ h → ⊥) → drops (q h) (q g) (spot_of w i) ≡ false
    leaf_free = whole.good.free

    -- for each chamber every position below n is settled
    pub leaf_settled : (h : ℕ) → h < c → (i : ℕ) → i < points w → Settled q c words w (points w) h (leaf_kept q c words w).bits i
    leaf_settled h k i l =
        subst (Settled q c words w (points w) h (leaf_kept q c words w).bits) (order_rank w (points w) o.ordered i l)
        (whole.done (rank_of w (points w) i) (rank_below w (points w) o.ordered i l) h k)

-- ---- the leaf v of Q

module _ (Q : List ℤ) (q_opens : Opens Q (points Q) (nodes Q)) (v : ℕ) (v-in : v < nodes Q) (v-leaf : level_of Q (points Q) v ≡ 0) where
  -- a place of the leaf is one of the sheet's
  pub leaf_place : (h : ℕ) → h < count_of Q (points Q) v → first_of Q (points Q) v + h < points Q
  leaf_place h k = leaf Q (points Q) (nodes Q) q_opens.table v v-in v-leaf (first_of Q (points Q) v + h) (omega arith)

  pub leaf_few : count_of Q (points Q) v ≤ 16
  leaf_few = (run_at Q (points Q) (nodes Q) q_opens.table v v-in).few

  pub chamber_in : (h : ℕ) → h < count_of Q (points Q) v → chamber_at Q v h < points Q
  unfolding chamber_at
  chamber_in h k = order_below Q (points Q) q_opens.ordered (first_of Q (points Q) v + h) (leaf_place h k)

  -- chambers at two places are two
  pub chamber_once : (g h : ℕ) → g < count_of Q (points Q) v → h < count_of Q (points Q) v → chamber_at Q v g ≡ chamber_at Q v h → g ≡ h
  unfolding chamber_at
  chamber_once g h a b e =
      let x : first_of Q (points Q) v + g ≡ first_of Q (points Q) v + h = one_place Q (points Q) q_opens.ordered (first_of Q (points Q) v + g) (first_of Q (points Q) v + h) (leaf_place g a) (leaf_place h b) e in
      omega (arith, x)

module _ (words : ℕ) (P Q : List ℤ) (p_opens : Opens P (points P) (nodes P)) (q_opens : Opens Q (points Q) (nodes Q)) (enough : points P ≤ 64 * words) (v : ℕ) (v-in : v < nodes Q) (v-leaf : level_of Q (points Q) v ≡ 0) where
  -- a ring partner of a chamber is kept for it
  pub leaf_partner : (h i : ℕ) → h < count_of Q (points Q) v → i < points P
      → ring_pair (points_of P) (points_of Q) (chamber_at Q v h) i ≡ true
      → leaf_keeps (chamber_spot Q v) (count_of Q (points Q) v) words P h i ≡ true
  unfolding drops chamber_spot chamber_at
  leaf_partner h i k l e =
      ⊎_elim
      (λ (t : leaf_keeps q c words P h i ≡ true). t)
      (λ (x : Beaten q c words P (points P) h b i ⊎ Ruled q c words P (points P) h i).
      ⊎_elim
      (λ (y : Beaten q c words P (points P) h b i). clash y.dropping (free_p y.by y.below))
      (λ (y : Ruled q c words P (points P) h i). clash y.dropping (free_q (position y.by) (chamber_in Q q_opens v v-in v-leaf y.by y.below)))
      x)
      (leaf_settled q c words P p_opens (leaf_few Q q_opens v v-in v-leaf) enough h k i l)
    where
      q : ℕ → Spot
      q = chamber_spot Q v

      c : ℕ
      c = count_of Q (points Q) v

      b : List ℕ
      b = (leaf_kept q c words P).bits

      position : ℕ → ℕ
      position = chamber_at Q v

      j_in : position h < points Q
      j_in = chamber_in Q q_opens v v-in v-leaf h k

      clear_q : Bool
      clear_q = unblocked circle (points_of Q) (spot_of Q (position h)) (spot_of P i)

      clear_p : Bool
      clear_p = unblocked circle (points_of P) (spot_of Q (position h)) (spot_of P i)

      both : (clear_q && clear_p) ≡ true
      both = sym (pair_rule circle P Q (position h) i j_in l) ∙ e

      free_p : Free circle P (points P) (spot_of Q (position h)) (spot_of P i)
      free_p = unblocked_free circle P (spot_of Q (position h)) (spot_of P i) (and_right clear_q clear_p both)

      free_q : Free circle Q (points Q) (spot_of Q (position h)) (spot_of P i)
      free_q = unblocked_free circle Q (spot_of Q (position h)) (spot_of P i) (and_left clear_q clear_p both)

  -- a ring partner of a chamber is exactly a position kept for it whose ring walk is clear
  pub leaf_exact : (h i : ℕ) → h < count_of Q (points Q) v → i < points P
      → ring_pair (points_of P) (points_of Q) (chamber_at Q v h) i ≡ (leaf_keeps (chamber_spot Q v) (count_of Q (points Q) v) words P h i && clear (pair_walk P Q (chamber_at Q v h) i).hit)
  leaf_exact h i k l =
      let kept = leaf_keeps (chamber_spot Q v) (count_of Q (points Q) v) words P h i in
      let walk = clear (pair_walk P Q (chamber_at Q v h) i).hit in
      let same = pair_clear circle circle_lawful P Q p_opens q_opens (chamber_at Q v h) i (chamber_in Q q_opens v v-in v-leaf h k) l in
      test_iff _ _
      (λ e. and_both kept walk (leaf_partner h i k l e) (same ∙ e))
      (λ e. sym same ∙ and_right kept walk e)
